use Rattle.std.proofs.Common.{◌≡◌, ◌-◌, ◌∙◌, min, length, take, ap, sym, arith}
use Rattle.std.proofs.lemmas.Bool.Decides.{nat_tests}
use Rattle.std.proofs.lemmas.List.{take_rest}
use Rattle.kdb_disk.specs.Files.{put}
use Rattle.kdb_disk.proofs.Puts.{put_lent}
use Rattle.kdb_disk.proofs.contents.write_in.Goals as goal

pub returns-clause-written : goal.returns-clause-written
returns-clause-written c =
    let old = c.args.file.now.items in
    let bytes = c.args.bytes.now in
    let from : c.min-from.result ≡ min c.args.at (length old) = grind (arith, nat_tests) in
    let over : c.min-over.result ≡ min (length bytes) (length old - c.min-from.result) = grind (arith, nat_tests) in
    put_lent c.args.at c.min-from.result c.min-over.result c.extend_from_slice.new.self.len bytes _ old
    c.extend_from_slice.new.self.items c.overwrite.new.file
    from over (take_rest bytes c.min-over.result) c.in_ok-extend_from_slice.ensures.items
    (c.overwrite.ensures.written ∙ ap (put c.min-from.result (take c.min-over.result bytes)) c.deref_mut.ensures.value)
    (sym c.deref_mut.ensures.len ∙ ap length c.deref_mut.ensures.value)
