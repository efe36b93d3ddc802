use Rattle.std.proofs.Common.{◌≡◌, ℕ, ◌∙◌, ap, sym, length, take, drop, arith}
use Rattle.std.specs.Prelude.{min}
use Rattle.std.proofs.lemmas.Bool.Decides.{nat_tests}
use Rattle.kdb_control.specs.Choice.{Choice}
use Rattle.kdb_disk.specs.Reader.{held_of, left_of}
use Rattle.update_log.specs.Runs.{slot_in}
use Rattle.update_log.proofs.ReadSlots.{window_front}
use Rattle.update_log.proofs.scanning.next_slot.Goals as goal

pub returns-clause-found : goal.returns-clause-found
returns-clause-found g c tells =
    let choice = c.args.control.now in
    let block = c.control.inside.block in
    let held = held_of c.fill.new.self in
    let left = left_of c.args.reader.now (g.D.Disk.view c.args.disk.now).seen in
    let count = c.min-count.result in
    let same : block ≡ choice.block = ap (λ (ch : Choice). ch.block) c.control.view_is in
    let is : count ≡ min block (length held) = grind (arith, nat_tests) in
    let front =
    window_front block count held (drop c.fill.new.self.at ((g.D.Disk.view c.fill.new.disk).seen c.fill.new.self.file))
    left _ (sym (c.fill.ensures.left tells)) is (c.in-Ok.ensures.enough tells) (ap (take count) c.held-2.ensures) in
    ap (λ (n : ℕ). slot_in choice.format choice.base choice.size choice.block c.args.slot (take n left)) (sym same)
    ∙ ap (slot_in choice.format choice.base choice.size choice.block c.args.slot) front
    ∙ c.in-Ok-read_slot.ensures.found
