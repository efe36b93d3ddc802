use Rattle.std.proofs.Common.{Option, subst, sym}
use Rattle.std.specs.Prelude.{OnOk}
use Rattle.iprop_links.specs.Asking.{sent_in}
use Rattle.kadm_replies.specs.Refusals.{refusal_text}
use Rattle.kdb_base.specs.declared.outcomes.Refusal.TheVariants.{BadLine}
use Rattle.kdb_disk.proofs.Runs.{kept}
use Rattle.kdb_disk.specs.Moments.{LeavesOnly}
use Rattle.kprop_runs.proofs.Running.{like_here, refusal_is, refusal_run, refused_some}
use Rattle.kprop_runs.proofs.Saying.{on_ok}
use Rattle.kprop_runs.specs.Longs.{RunRoundsEnd, RunStopsLong}
use Rattle.kprop_runs.specs.Openings.{opening_by}
use Rattle.kprop_runs.specs.Runs.{HasRun, RunEndsSome, RunLeavesSome}
use Rattle.kprop_runs.specs.declared.words.Asked.{Asked}
use Rattle.store_files.specs.Found.{recovers}
use Rattle.kprop_runs.proofs.runs.run_asked.Goals as goal

pub returns-in-Some-clause-run : goal.returns-in-Some-clause-run
returns-in-Some-clause-run g c tells w told =
    let found = recovers (g.D.Disk.view c.args.disk.now).seen in
    subst (λ (a : Option Asked). HasRun (opening_by a found) found w (g.K.Sink.taken c.args.sink.now)
    (g.D.Disk.view c.args.disk.now) (g.D.Disk.view c.open_and_run.new.disk)
    (g.L.Link.wire c.open_and_run.new.link) (g.K.Sink.taken c.open_and_run.new.sink) c.open_and_run.result)
    (sym c.in-Some.is) (c.open_and_run.ensures.run tells w told)

pub returns-in-None-clause-run : goal.returns-in-None-clause-run
returns-in-None-clause-run g c tells w told =
    let found = recovers (g.D.Disk.view c.args.disk.now).seen in
    subst (λ (a : Option Asked). HasRun (opening_by a found) found w (g.K.Sink.taken c.args.sink.now)
    (g.D.Disk.view c.args.disk.now) (g.D.Disk.view c.args.disk.now)
    (g.L.Link.wire c.args.link.now) (g.K.Sink.taken c.refuse.new.sink) c.refuse.result) (sym c.in-None.is)
    (refusal_run BadLine found w (g.K.Sink.taken c.args.sink.now) (g.D.Disk.view c.args.disk.now)
    (g.D.Disk.view c.args.disk.now)
    (g.L.Link.wire c.args.link.now) (g.K.Sink.taken c.refuse.new.sink) c.refuse.result told
    (kept (g.D.Disk.view c.args.disk.now))
    c.refuse.ensures.ok c.refuse.ensures.value c.refuse.ensures.err)

pub returns-in-None-clause-some : goal.returns-in-None-clause-some
returns-in-None-clause-some g c tells =
    let now = g.D.Disk.view c.args.disk.now in
    subst (λ (a : Option Asked). LeavesOnly now now
    (RunLeavesSome (opening_by a (recovers now.seen)) (recovers now.seen) now)) (sym c.in-None.is) (like_here now)

pub returns-in-Some-clause-ends_some : goal.returns-in-Some-clause-ends_some
returns-in-Some-clause-ends_some g c tells =
    let old = g.D.Disk.view c.args.disk.now in
    subst (λ (a : Option Asked). OnOk c.open_and_run.result (RunEndsSome (opening_by a (recovers old.seen))
    (g.K.Sink.taken c.args.sink.now) (g.K.Sink.taken c.open_and_run.new.sink)
    old (g.D.Disk.view c.open_and_run.new.disk))) (sym c.in-Some.is) (c.open_and_run.ensures.ends_some tells)

pub returns-in-None-clause-ends_some : goal.returns-in-None-clause-ends_some
returns-in-None-clause-ends_some g c tells =
    let now = g.D.Disk.view c.args.disk.now in
    let taken = g.K.Sink.taken c.args.sink.now in
    let out = g.K.Sink.taken c.refuse.new.sink in
    subst (λ (a : Option Asked).
    OnOk c.refuse.result (RunEndsSome (opening_by a (recovers now.seen)) taken out now now)) (sym c.in-None.is)
    (refused_some BadLine taken out now now c.refuse.result c.refuse.ensures.ok (kept now))

pub returns-in-None-clause-other : goal.returns-in-None-clause-other
returns-in-None-clause-other g c none =
    refusal_is (refusal_text BadLine) (g.K.Sink.taken c.args.sink.now)
    (g.K.Sink.taken c.refuse.new.sink) c.refuse.result c.refuse.ensures.ok c.refuse.ensures.value c.refuse.ensures.err

pub returns-in-Some-clause-long : goal.returns-in-Some-clause-long
returns-in-Some-clause-long g c tells w told long =
    let found = recovers (g.D.Disk.view c.args.disk.now).seen in
    subst (λ (a : Option Asked). RunStopsLong (opening_by a found) w (g.K.Sink.taken c.args.sink.now)
    (sent_in (g.L.Link.wire c.open_and_run.new.link))) (sym c.in-Some.is)
    (c.open_and_run.ensures.long tells w told long)

pub returns-in-Some-clause-in_time : goal.returns-in-Some-clause-in_time
returns-in-Some-clause-in_time g c tells w told =
    let found = recovers (g.D.Disk.view c.args.disk.now).seen in
    subst (λ (a : Option Asked).
    OnOk c.open_and_run.result (RunRoundsEnd (opening_by a found) w (g.K.Sink.taken c.args.sink.now)))
    (sym c.in-Some.is) (c.open_and_run.ensures.in_time tells w told)

pub returns-in-None-clause-in_time : goal.returns-in-None-clause-in_time
returns-in-None-clause-in_time g c tells w told =
    let found = recovers (g.D.Disk.view c.args.disk.now).seen in
    subst (λ (a : Option Asked).
    OnOk c.refuse.result (RunRoundsEnd (opening_by a found) w (g.K.Sink.taken c.args.sink.now))) (sym c.in-None.is)
    (on_ok c.refuse.result tt)
