use Rattle.std.proofs.Common.{refl}
use Rattle.kadm_loading.proofs.Ends.{bad_stops, has_bad, idle_leaves, idle_some}
use Rattle.kadm_loading.proofs.answering.answer.Goals as goal
use Rattle.primary_loading.specs.Opened.{place_of}

pub returns-in-Err-clause-comes : goal.returns-in-Err-clause-comes
returns-in-Err-clause-comes g c =
    has_bad c.args.primary.now c.args.now c.args.read c.in-Err.line c.refuse.result c.in-Err.is

pub returns-in-Err-clause-stopped : goal.returns-in-Err-clause-stopped
returns-in-Err-clause-stopped g c = λ tells end to.
    bad_stops c.args.primary.now c.args.now c.args.read c.in-Err.line _ _
    (g.D.Disk.view c.args.disk.now) c.refuse.result c.in-Err.is c.refuse.ensures.err
    (c.what_is_kept_is_recovered.ensures _ (c.requires.on tells)) end to

pub returns-in-Err-clause-moments : goal.returns-in-Err-clause-moments
returns-in-Err-clause-moments g c = λ tells end to.
    idle_leaves (place_of c.args.primary.now) _ (g.D.Disk.view c.args.disk.now)
    (c.what_is_kept_is_recovered.ensures _ (c.requires.on tells))

pub returns-in-Err-clause-crash : goal.returns-in-Err-clause-crash
returns-in-Err-clause-crash g c = λ tells.
    idle_some (place_of c.args.primary.now) (g.D.Disk.view c.args.disk.now) _ refl
    (c.what_is_kept_is_recovered.ensures _ (c.requires.on tells))
