use Rattle.std.proofs.Common.{Err, ap, subst, ◌∙◌}
use Rattle.iprop_links.specs.Asking.{sent_in}
use Rattle.kdb_base.specs.declared.outcomes.Stop.{Stop}
use Rattle.kprop_runs.proofs.Running.{halted_run, open_some, opened_end, opened_long}
use Rattle.kprop_runs.proofs.Running.{opened_end_some, opened_run, opened_some, refused_end, refused_end_some}
use Rattle.kprop_runs.proofs.Running.{refused_run}
use Rattle.replica_core.specs.Opened.{Opened}
use Rattle.replica_core.specs.Opening.{AnswersOpened}
use Rattle.std.specs.Prelude.{Result}
use Rattle.store_files.specs.Found.{recovers}
use Rattle.kprop_runs.proofs.runs.open_and_run.Goals as goal

-- ---- it was opened

pub returns-in-Ok-clause-run : goal.returns-in-Ok-clause-run
returns-in-Ok-clause-run g c tells w told =
    opened_run c.args.asked.now (recovers (g.D.Disk.view c.args.disk.now).seen) (g.D.Disk.view c.args.disk.now)
    (g.D.Disk.view c.recover.new.disk) (c.recover.ensures.moments tells)
    c.in-Ok.opened (c.in-Ok.ensures.answer tells) (g.D.Disk.view c.run_rounds-refused.new.disk)
    w (g.K.Sink.taken c.args.sink.now) (g.L.Link.wire c.run_rounds-refused.new.link)
    (g.K.Sink.taken c.run_rounds-refused.new.sink) c.run_rounds-refused.result
    (c.run_rounds-refused.ensures.rounds w told) (c.run_rounds-refused.ensures.holds tells w told)
    (c.run_rounds-refused.ensures.stands tells w told)
    ((c.run_rounds-refused.ensures.crash w told).told tells)

pub returns-in-Ok-clause-some : goal.returns-in-Ok-clause-some
returns-in-Ok-clause-some g c tells =
    opened_some c.args.asked.now (recovers (g.D.Disk.view c.args.disk.now).seen) (g.D.Disk.view c.args.disk.now)
    (g.D.Disk.view c.recover.new.disk) (c.recover.ensures.moments tells)
    c.in-Ok.opened (c.in-Ok.ensures.answer tells) (g.D.Disk.view c.run_rounds-refused.new.disk)
    (c.run_rounds-refused.ensures.some.told tells)

pub returns-in-Ok-clause-ends_some : goal.returns-in-Ok-clause-ends_some
returns-in-Ok-clause-ends_some g c tells =
    opened_end_some c.args.asked.now c.in-Ok.opened (recovers (g.D.Disk.view c.args.disk.now).seen)
    (c.in-Ok.ensures.answer tells) (g.K.Sink.taken c.args.sink.now) (g.K.Sink.taken c.run_rounds-refused.new.sink)
    (g.D.Disk.view c.args.disk.now) (g.D.Disk.view c.run_rounds-refused.new.disk) c.run_rounds-refused.result
    (c.run_rounds-refused.ensures.ends_some tells)

-- ---- it was refused

pub returns-in-Err-Refused-clause-run : goal.returns-in-Err-Refused-clause-run
returns-in-Err-Refused-clause-run g c tells w told =
    let is = c.in-Err-Refused.is ∙ ap Err c.in-Err-Refused.field-0-is in
    let found = recovers (g.D.Disk.view c.args.disk.now).seen in
    refused_run c.args.asked.now found (g.D.Disk.view c.args.disk.now) (g.D.Disk.view c.recover.new.disk)
    (c.recover.ensures.moments tells)
    c.in-Err-Refused.refusal (subst (λ (r : Result Opened Stop). AnswersOpened c.args.asked.now.size r found) is
    (c.recover.ensures.answer tells)) (c.recover.ensures.refused_keeps tells c.in-Err-Refused.refusal is)
    w (g.K.Sink.taken c.args.sink.now) (g.L.Link.wire c.args.link.now)
    (g.K.Sink.taken c.refuse.new.sink) c.refuse.result told
    c.refuse.ensures.ok c.refuse.ensures.value c.refuse.ensures.err

pub returns-in-Err-Refused-clause-ends_some : goal.returns-in-Err-Refused-clause-ends_some
returns-in-Err-Refused-clause-ends_some g c tells =
    let is = c.in-Err-Refused.is ∙ ap Err c.in-Err-Refused.field-0-is in
    let found = recovers (g.D.Disk.view c.args.disk.now).seen in
    refused_end_some c.args.asked.now c.in-Err-Refused.refusal found
    (subst (λ (r : Result Opened Stop). AnswersOpened c.args.asked.now.size r found) is
    (c.recover.ensures.answer tells))
    (g.K.Sink.taken c.args.sink.now) (g.K.Sink.taken c.refuse.new.sink)
    (g.D.Disk.view c.args.disk.now) (g.D.Disk.view c.recover.new.disk) c.refuse.result c.refuse.ensures.ok
    (c.recover.ensures.refused_keeps tells c.in-Err-Refused.refusal is)

pub returns-in-Err-Refused-clause-some : goal.returns-in-Err-Refused-clause-some
returns-in-Err-Refused-clause-some g c tells =
    open_some c.args.asked.now (recovers (g.D.Disk.view c.args.disk.now).seen) (g.D.Disk.view c.args.disk.now)
    (g.D.Disk.view c.recover.new.disk) (c.recover.ensures.moments tells)

-- ---- it was stopped

pub returns-in-Err-Halt-clause-run : goal.returns-in-Err-Halt-clause-run
returns-in-Err-Halt-clause-run g c tells w told =
    halted_run c.args.asked.now (recovers (g.D.Disk.view c.args.disk.now).seen) (g.D.Disk.view c.args.disk.now)
    (g.D.Disk.view c.recover.new.disk) (c.recover.ensures.moments tells)
    w (g.K.Sink.taken c.args.sink.now) (g.L.Link.wire c.args.link.now) c.from.result told

pub returns-in-Err-Halt-clause-some : goal.returns-in-Err-Halt-clause-some
returns-in-Err-Halt-clause-some g c tells =
    open_some c.args.asked.now (recovers (g.D.Disk.view c.args.disk.now).seen) (g.D.Disk.view c.args.disk.now)
    (g.D.Disk.view c.recover.new.disk) (c.recover.ensures.moments tells)

pub returns-in-Ok-clause-long : goal.returns-in-Ok-clause-long
returns-in-Ok-clause-long g c tells w told long =
    opened_long c.args.asked.now c.in-Ok.opened (recovers (g.D.Disk.view c.args.disk.now).seen)
    (c.in-Ok.ensures.answer tells) w (g.K.Sink.taken c.args.sink.now)
    (sent_in (g.L.Link.wire c.run_rounds-refused.new.link)) (c.run_rounds-refused.ensures.long w told long)

pub returns-in-Ok-clause-in_time : goal.returns-in-Ok-clause-in_time
returns-in-Ok-clause-in_time g c tells w told =
    opened_end c.args.asked.now c.in-Ok.opened (recovers (g.D.Disk.view c.args.disk.now).seen)
    (c.in-Ok.ensures.answer tells) w (g.K.Sink.taken c.args.sink.now)
    c.run_rounds-refused.result (c.run_rounds-refused.ensures.in_time w told)

pub returns-in-Err-Refused-clause-in_time : goal.returns-in-Err-Refused-clause-in_time
returns-in-Err-Refused-clause-in_time g c tells w told =
    let is = c.in-Err-Refused.is ∙ ap Err c.in-Err-Refused.field-0-is in
    let found = recovers (g.D.Disk.view c.args.disk.now).seen in
    refused_end c.args.asked.now c.in-Err-Refused.refusal found
    (subst (λ (r : Result Opened Stop). AnswersOpened c.args.asked.now.size r found) is
    (c.recover.ensures.answer tells))
    w (g.K.Sink.taken c.args.sink.now) c.refuse.result
