use Rattle.std.proofs.Common.{◌≡◌, ℕ, ◌∙◌, ap, sym, length, take, drop, arith}
use Rattle.std.specs.Prelude.{min}
use Rattle.std.proofs.lemmas.Bool.Decides.{nat_tests}
use Rattle.kdb_disk.specs.Reader.{held_of, left_of}
use Rattle.kdb_cells.specs.Scanning.{heading_of}
use Rattle.kdb_cells.proofs.Windows.{window_front}
use Rattle.kdb_cells.proofs.files.read_realm.Goals as goal

pub returns-clause-found : goal.returns-clause-found
returns-clause-found g c tells =
    let size = c.unit_size-size.result in
    let held = held_of c.fill.new.self in
    let left = left_of c.args.reader.now (g.D.Disk.view c.args.disk.now).seen in
    let count = c.min-count.result in
    let is : count ≡ min size (length held) = grind (arith, nat_tests) in
    let front =
    window_front size count held (drop c.fill.new.self.at ((g.D.Disk.view c.fill.new.disk).seen c.fill.new.self.file))
    left _ (sym (c.fill.ensures.left tells)) is (c.in-Ok.ensures.enough tells) (ap (take count) c.held-2.ensures) in
    ap (λ (n : ℕ). heading_of c.args.format (take n left)) (sym c.unit_size-size.ensures.value)
    ∙ ap (heading_of c.args.format) front ∙ c.in-Ok-read_first.ensures
