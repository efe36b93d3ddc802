use Rattle.std.proofs.Common.{Err, Option, map, refl, sym, subst, ◌∙◌}
use Rattle.std.specs.Prelude.{OnOk}
use Rattle.iprop_links.specs.Asking.{sent_in}
use Rattle.kdb_base.specs.declared.outcomes.Refusal.TheVariants.{BadLine}
use Rattle.kdb_base.specs.declared.outcomes.Status.TheVariants as status
use Rattle.kadm_replies.specs.Refusals.{refusal_text}
use Rattle.kdb_disk.specs.Moments.{LeavesOnly}
use Rattle.kprop_runs.proofs.ByStatus.{call_by, ends_by, links_by, never_read, refusal_by, run_by, writes_by}
use Rattle.kprop_runs.proofs.Running.{idle_refusal, idle_run, idle_some}
use Rattle.kprop_runs.proofs.Overlong.{by_status}
use Rattle.kprop_runs.specs.Longs.{RunRoundsEnd, RunStopsLong}
use Rattle.kprop_runs.specs.Openings.{opening, opening_by}
use Rattle.kprop_runs.specs.Runs.{HasRun, RunEndsSome, RunLeavesSome}
use Rattle.kprop_runs.specs.declared.halts.RunHalt.TheVariants as run
use Rattle.kprop_runs.specs.declared.words.Asked.{Asked}
use Rattle.store_files.specs.Found.{recovers}
use Rattle.kprop_runs.proofs.runs.run_replica.Goals as goal

pub returns-in-Ok-clause-run : goal.returns-in-Ok-clause-run
returns-in-Ok-clause-run g c tells w told =
    let old = g.D.Disk.view c.args.disk.now in
    let words = map (λ word. word.items) c.args.words.now in
    run_by c.status_after.result c.run_asked.result c.status_after.ensures (opening words old.seen)
    (recovers old.seen) w (g.K.Sink.taken c.args.sink.now) old (g.D.Disk.view c.run_asked.new.disk)
    (g.L.Link.wire c.run_asked.new.link) (g.K.Sink.taken c.run_asked.new.sink)
    (subst (λ (a : Option Asked). HasRun (opening_by a (recovers old.seen)) (recovers old.seen) w
    (g.K.Sink.taken c.args.sink.now) old (g.D.Disk.view c.run_asked.new.disk)
    (g.L.Link.wire c.run_asked.new.link) (g.K.Sink.taken c.run_asked.new.sink) c.run_asked.result) c.in-Ok.ensures.value
    (c.run_asked.ensures.run tells w told))

pub returns-in-Ok-clause-some : goal.returns-in-Ok-clause-some
returns-in-Ok-clause-some g c tells =
    let old = g.D.Disk.view c.args.disk.now in
    subst (λ (a : Option Asked). LeavesOnly old (g.D.Disk.view c.run_asked.new.disk)
    (RunLeavesSome (opening_by a (recovers old.seen)) (recovers old.seen) old)) c.in-Ok.ensures.value
    (c.run_asked.ensures.some tells)

pub returns-in-Ok-clause-ends_some : goal.returns-in-Ok-clause-ends_some
returns-in-Ok-clause-ends_some g c tells =
    let old = g.D.Disk.view c.args.disk.now in
    let new = g.D.Disk.view c.run_asked.new.disk in
    let taken = g.K.Sink.taken c.args.sink.now in
    let out = g.K.Sink.taken c.run_asked.new.sink in
    ends_by c.status_after.result c.run_asked.result c.status_after.ensures
    (RunEndsSome (opening (map (λ word. word.items) c.args.words.now) old.seen) taken out old new)
    (subst (λ (a : Option Asked).
    OnOk c.run_asked.result (RunEndsSome (opening_by a (recovers old.seen)) taken out old new))
    c.in-Ok.ensures.value (c.run_asked.ensures.ends_some tells))

pub returns-in-Ok-clause-other : goal.returns-in-Ok-clause-other
returns-in-Ok-clause-other g c none =
    refusal_by c.status_after.result c.run_asked.result c.status_after.ensures (refusal_text BadLine)
    (g.K.Sink.taken c.args.sink.now) (g.K.Sink.taken c.run_asked.new.sink)
    (c.run_asked.ensures.other (c.in-Ok.ensures.value ∙ none))

pub returns-in-Ok-clause-no_disk : goal.returns-in-Ok-clause-no_disk
returns-in-Ok-clause-no_disk g c none = c.run_asked.ensures.no_disk (c.in-Ok.ensures.value ∙ none)

pub returns-in-Ok-clause-no_link : goal.returns-in-Ok-clause-no_link
returns-in-Ok-clause-no_link g c none = c.run_asked.ensures.no_link (c.in-Ok.ensures.value ∙ none)

pub returns-in-Ok-clause-call : goal.returns-in-Ok-clause-call
returns-in-Ok-clause-call g c = call_by c.status_after.result c.run_asked.result c.status_after.ensures g.D.Disk
    c.args.disk.now c.run_asked.new.disk c.run_asked.ensures.call

pub returns-in-Ok-clause-links : goal.returns-in-Ok-clause-links
returns-in-Ok-clause-links g c = links_by c.status_after.result c.run_asked.result c.status_after.ensures
    (g.L.Link.faults c.args.link.now) (g.L.Link.faults c.run_asked.new.link) c.run_asked.ensures.links

pub returns-in-Ok-clause-writes : goal.returns-in-Ok-clause-writes
returns-in-Ok-clause-writes g c = writes_by c.status_after.result c.run_asked.result c.status_after.ensures
    (g.K.Sink.faults c.args.sink.now) (g.K.Sink.faults c.run_asked.new.sink) c.run_asked.ensures.writes

pub returns-in-Ok-clause-no_read : goal.returns-in-Ok-clause-no_read
returns-in-Ok-clause-no_read g c = never_read c.status_after.result c.run_asked.result c.status_after.ensures

-- ---- there was no memory for the words

pub returns-in-Err-clause-run : goal.returns-in-Err-clause-run
returns-in-Err-clause-run g c tells w told =
    let old = g.D.Disk.view c.args.disk.now in
    let o = opening (map (λ word. word.items) c.args.words.now) old.seen in
    run_by status.MemoryOut (Err run.MemoryOut) refl o (recovers old.seen) w (g.K.Sink.taken c.args.sink.now) old old
    (g.L.Link.wire c.args.link.now) (g.K.Sink.taken c.args.sink.now)
    (idle_run o (recovers old.seen) w (g.K.Sink.taken c.args.sink.now) old
    (g.L.Link.wire c.args.link.now) run.MemoryOut told)

pub returns-in-Err-clause-some : goal.returns-in-Err-clause-some
returns-in-Err-clause-some g c tells =
    let old = g.D.Disk.view c.args.disk.now in
    idle_some (opening (map (λ word. word.items) c.args.words.now) old.seen) (recovers old.seen) old

pub returns-in-Err-clause-other : goal.returns-in-Err-clause-other
returns-in-Err-clause-other g c none = refusal_by status.MemoryOut (Err run.MemoryOut) refl (refusal_text BadLine)
    (g.K.Sink.taken c.args.sink.now) (g.K.Sink.taken c.args.sink.now)
    (idle_refusal (refusal_text BadLine) (g.K.Sink.taken c.args.sink.now) run.MemoryOut)

pub returns-in-Ok-clause-long : goal.returns-in-Ok-clause-long
returns-in-Ok-clause-long g c tells w told long =
    let found = recovers (g.D.Disk.view c.args.disk.now).seen in
    subst (λ (a : Option Asked). RunStopsLong (opening_by a found) w (g.K.Sink.taken c.args.sink.now)
    (sent_in (g.L.Link.wire c.run_asked.new.link))) c.in-Ok.ensures.value
    (c.run_asked.ensures.long tells w told (by_status c.run_asked.result (sym c.status_after.ensures ∙ long)))

pub returns-in-Ok-clause-in_time : goal.returns-in-Ok-clause-in_time
returns-in-Ok-clause-in_time g c tells w told =
    let found = recovers (g.D.Disk.view c.args.disk.now).seen in
    let taken = g.K.Sink.taken c.args.sink.now in
    ends_by c.status_after.result c.run_asked.result c.status_after.ensures
    (RunRoundsEnd (opening (map (λ word. word.items) c.args.words.now) (g.D.Disk.view c.args.disk.now).seen) w taken)
    (subst (λ (a : Option Asked). OnOk c.run_asked.result (RunRoundsEnd (opening_by a found) w taken))
    c.in-Ok.ensures.value (c.run_asked.ensures.in_time tells w told))
