use Rattle.std.proofs.Common.{◌≡◌, sym, length, ◌≤◌, ◌∙◌}
use Rattle.std.proofs.lemmas.Result.{on_ok_weaker}
use Rattle.kdb_disk.proofs.Runs.{looks_torn, torn_behind, stands_byte}
use Rattle.kdb_disk.proofs.gate.shut_gate.Goals as goal

pub returns-in-Ok-true-clause-moments : goal.returns-in-Ok-true-clause-moments
returns-in-Ok-true-clause-moments g c tells =
    torn_behind (c.is_open.ensures.looks tells) (c.close_gate.ensures.moments tells)

pub returns-in-Ok-true-clause-ok : goal.returns-in-Ok-true-clause-ok
returns-in-Ok-true-clause-ok g c tells =
    let look = c.is_open.ensures.looks tells in
    let within : c.args.at ≤ length ((g.D.Disk.view c.is_open.new.disk).seen c.args.file) =
    rw look.seen (c.requires.at tells) in
    on_ok_weaker c.close_gate.result (λ stands is. let zero : 0 ≡ 165 = sym (stands_byte stands within) ∙ is in cc)
    (c.close_gate.ensures.ok tells)

pub returns-in-Ok-false-clause-moments : goal.returns-in-Ok-false-clause-moments
returns-in-Ok-false-clause-moments g c tells = looks_torn c.args.file c.args.at 1 (c.is_open.ensures.looks tells)

pub returns-in-Err-clause-moments : goal.returns-in-Err-clause-moments
returns-in-Err-clause-moments g c tells = looks_torn c.args.file c.args.at 1 (c.is_open.ensures.looks tells)
