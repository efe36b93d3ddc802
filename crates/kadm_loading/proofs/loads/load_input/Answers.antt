use Rattle.std.proofs.Common.{refl, subst}
use Rattle.std.specs.Prelude.{IfOk, OnErr}
use Rattle.kadm_loading.proofs.Ends.{gave_clock, has_come, idle_leaves, idle_some, read_comes, stops_unsaid}
use Rattle.kadm_loading.proofs.loads.load_input.Goals as goal
use Rattle.kadm_loading.specs.Loads.{LoadsAs, load_stage, places_loaded}
use Rattle.session_base.specs.Stages.{IsStopped}
use Rattle.kdb_base.specs.Moment.{Moment}
use Rattle.kdb_disk.specs.Moments.{LeavesOnly}
use Rattle.primary_loading.specs.Opened.{place_of}
use Rattle.store_files.specs.Recovery.{LeavesPart}

pub returns-in-Err-clause-stopped : goal.returns-in-Err-clause-stopped
returns-in-Err-clause-stopped g c = λ tells now end to.
    let p = place_of c.args.primary.now in
    stops_unsaid end now p _ (idle_leaves p (places_loaded end now p) (g.D.Disk.view c.args.disk.now)
    (c.what_is_kept_is_recovered.ensures _ (c.requires.on tells)))

pub returns-in-Err-clause-moments : goal.returns-in-Err-clause-moments
returns-in-Err-clause-moments g c = λ tells now end to.
    let p = place_of c.args.primary.now in
    idle_leaves p (places_loaded end now p) (g.D.Disk.view c.args.disk.now)
    (c.what_is_kept_is_recovered.ensures _ (c.requires.on tells))

pub returns-in-Ok-clause-ended : goal.returns-in-Ok-clause-ended
returns-in-Ok-clause-ended g c = λ now end to.
    let same = gave_clock c.args.primary.now _ _ now c.now-moment.result end to c.now-moment.ensures.first in
    subst (λ (m : Moment). IfOk c.answer.result (LoadsAs end m c.args.primary.now c.answer.new.primary
    (g.K.Sink.taken c.args.sink.now) (g.K.Sink.taken c.answer.new.sink))) same
    (c.answer.ensures.ended end
    (read_comes c.args.primary.now _ _ now c.now-moment.result end c.in-Ok.read to c.in-Ok.ensures.judged same))

pub returns-in-Ok-clause-comes : goal.returns-in-Ok-clause-comes
returns-in-Ok-clause-comes g c = λ text told left_is moments_are.
    has_come c.args.primary.now _ _ c.now-moment.result c.in-Ok.read text told left_is moments_are
    (c.in-Ok.ensures.judged text left_is) c.now-moment.ensures.first c.answer.result c.answer.ensures.comes

pub returns-in-Ok-clause-stopped : goal.returns-in-Ok-clause-stopped
returns-in-Ok-clause-stopped g c = λ tells now end to.
    let same = gave_clock c.args.primary.now _ _ now c.now-moment.result end to c.now-moment.ensures.first in
    subst (λ (m : Moment). OnErr c.answer.result
    (IsStopped (load_stage end m (place_of c.args.primary.now) (g.K.Sink.taken c.args.sink.now))
    (g.K.Sink.taken c.answer.new.sink) (g.D.Disk.view c.answer.new.disk))) same
    (c.answer.ensures.stopped tells end
    (read_comes c.args.primary.now _ _ now c.now-moment.result end c.in-Ok.read to c.in-Ok.ensures.judged same))

pub returns-in-Ok-clause-moments : goal.returns-in-Ok-clause-moments
returns-in-Ok-clause-moments g c = λ tells now end to.
    let same = gave_clock c.args.primary.now _ _ now c.now-moment.result end to c.now-moment.ensures.first in
    subst (λ (m : Moment). LeavesOnly (g.D.Disk.view c.args.disk.now) (g.D.Disk.view c.answer.new.disk)
    (LeavesPart (place_of c.args.primary.now) (places_loaded end m (place_of c.args.primary.now)))) same
    (c.answer.ensures.moments tells end
    (read_comes c.args.primary.now _ _ now c.now-moment.result end c.in-Ok.read to c.in-Ok.ensures.judged same))

pub returns-in-Err-clause-crash : goal.returns-in-Err-clause-crash
returns-in-Err-clause-crash g c = λ tells.
    idle_some (place_of c.args.primary.now) (g.D.Disk.view c.args.disk.now) _ refl
    (c.what_is_kept_is_recovered.ensures _ (c.requires.on tells))
