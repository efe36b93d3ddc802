use Rattle.std.proofs.Common.{ℕ, refl, subst, ◌∙◌}
use Rattle.iprop_links.specs.Asking.{sent_in}
use Rattle.kdb_disk.proofs.Runs.{weaken}
use Rattle.kdb_disk.specs.Frames.{IsCrashSafe}
use Rattle.kprop_runs.proofs.Running.{ran, ran_holds, rounds_end, rounds_hold, rounds_leave, rounds_long}
use Rattle.kprop_runs.proofs.Running.{rounds_end_some, rounds_stopped, stands}
use Rattle.kprop_runs.proofs.Saying.{call_said, links_said, on_ok}
use Rattle.kprop_runs.specs.Runs.{first_stage}
use Rattle.kprop_runs.specs.Stages.{LeavesUntold, MayLead}
use Rattle.replica_core.specs.Opened.{place_of}
use Rattle.kprop_runs.proofs.runs.run_rounds.Goals as goal

-- ---- the rounds were done

pub returns-in-Ok-clause-rounds : goal.returns-in-Ok-clause-rounds
returns-in-Ok-clause-rounds g c w told =
    ran c.args.asked.now (first_stage w (g.K.Sink.taken c.args.sink.now) (place_of c.args.replica.now))
    c.as_slice-name.result.now c.args.replica.now.size c.as_slice-name.ensures c.requires.size
    (g.L.Link.wire c.all_rounds.new.link) (g.K.Sink.taken c.all_rounds.new.sink)
    (place_of c.all_rounds.new.replica) c.in-Ok.refused (c.in-Ok.ensures.done w told)
    c.point.result c.point.ensures c.say_done.result (g.K.Sink.taken c.say_done.new.sink) c.say_done.ensures.ok
    c.say_done.ensures.value c.say_done.ensures.err

pub returns-in-Ok-clause-holds : goal.returns-in-Ok-clause-holds
returns-in-Ok-clause-holds g c tells w told =
    ran_holds c.args.asked.now (first_stage w (g.K.Sink.taken c.args.sink.now) (place_of c.args.replica.now))
    c.as_slice-name.result.now c.args.replica.now.size c.as_slice-name.ensures c.requires.size
    (g.L.Link.wire c.all_rounds.new.link) (g.K.Sink.taken c.all_rounds.new.sink)
    (place_of c.all_rounds.new.replica) c.in-Ok.refused (c.in-Ok.ensures.done w told)
    c.point.result c.point.ensures c.all_rounds.new.replica.database refl
    (g.D.Disk.view c.all_rounds.new.disk) (c.in-Ok.ensures.on tells)
    c.say_done.result (g.K.Sink.taken c.say_done.new.sink) c.say_done.ensures.err

pub returns-in-Ok-clause-stands : goal.returns-in-Ok-clause-stands
returns-in-Ok-clause-stands g c tells w told =
    on_ok c.say_done.result
    (stands c.args.asked.now (first_stage w (g.K.Sink.taken c.args.sink.now) (place_of c.args.replica.now))
    c.as_slice-name.result.now c.args.replica.now.size c.as_slice-name.ensures c.requires.size
    (g.L.Link.wire c.all_rounds.new.link) (g.K.Sink.taken c.all_rounds.new.sink)
    (place_of c.all_rounds.new.replica) c.in-Ok.refused (c.in-Ok.ensures.done w told)
    c.all_rounds.new.replica.database refl (g.D.Disk.view c.all_rounds.new.disk) (c.in-Ok.ensures.on tells))

pub returns-in-Ok-clause-crash : goal.returns-in-Ok-clause-crash
returns-in-Ok-clause-crash g c w told = record {
  told = λ tells. weaken ((c.all_rounds.ensures.crash w told).told tells)
      (rounds_leave c.args.asked.now (first_stage w (g.K.Sink.taken c.args.sink.now) (place_of c.args.replica.now))
      c.as_slice-name.result.now c.args.replica.now.size c.as_slice-name.ensures c.requires.size);
}

pub returns-in-Ok-clause-some : goal.returns-in-Ok-clause-some
returns-in-Ok-clause-some g c =
    subst (λ (m : ℕ). IsCrashSafe g.D.Disk c.args.disk.now c.all_rounds.new.disk
    (LeavesUntold m c.args.asked.now.rounds (place_of c.args.replica.now))) c.requires.size c.all_rounds.ensures.some

pub returns-in-Ok-clause-ends_some : goal.returns-in-Ok-clause-ends_some
returns-in-Ok-clause-ends_some g c tells =
    let first = place_of c.args.replica.now in
    let last = place_of c.all_rounds.new.replica in
    rounds_end_some c.args.asked.now.size c.args.asked.now.rounds first c.all_rounds.new.replica.database
    (g.D.Disk.view c.all_rounds.new.disk)
    (subst (λ (m : ℕ). MayLead m c.args.asked.now.rounds first last) c.requires.size (c.in-Ok.ensures.leads tells))
    (c.in-Ok.ensures.on tells)
    c.point.result c.point.ensures (g.K.Sink.taken c.all_rounds.new.sink) (g.K.Sink.taken c.say_done.new.sink)
    c.say_done.result c.say_done.ensures.ok

pub returns-in-Ok-clause-call : goal.returns-in-Ok-clause-call
returns-in-Ok-clause-call g c = call_said g.D.Disk c.args.disk.now c.all_rounds.new.disk c.say_done.result
    c.all_rounds.ensures.call c.say_done.ensures.halt

pub returns-in-Ok-clause-links : goal.returns-in-Ok-clause-links
returns-in-Ok-clause-links g c = links_said (g.L.Link.faults c.args.link.now)
    (g.L.Link.faults c.all_rounds.new.link) c.say_done.result c.all_rounds.ensures.links c.say_done.ensures.halt

-- ---- one was stopped

pub returns-in-Err-clause-rounds : goal.returns-in-Err-clause-rounds
returns-in-Err-clause-rounds g c w told =
    rounds_stopped c.args.asked.now (first_stage w (g.K.Sink.taken c.args.sink.now) (place_of c.args.replica.now))
    c.as_slice-name.result.now c.args.replica.now.size c.as_slice-name.ensures c.requires.size
    (g.L.Link.wire c.all_rounds.new.link) (g.K.Sink.taken c.all_rounds.new.sink) c.in-Err.halt
    (c.in-Err.ensures.stopped w told)

pub returns-in-Err-clause-holds : goal.returns-in-Err-clause-holds
returns-in-Err-clause-holds g c tells w told =
    rounds_hold c.args.asked.now (first_stage w (g.K.Sink.taken c.args.sink.now) (place_of c.args.replica.now))
    c.as_slice-name.result.now c.args.replica.now.size c.as_slice-name.ensures c.requires.size
    (g.K.Sink.taken c.all_rounds.new.sink) (g.D.Disk.view c.all_rounds.new.disk) (c.in-Err.ensures.holds tells w told)

pub returns-in-Err-clause-crash : goal.returns-in-Err-clause-crash
returns-in-Err-clause-crash g c w told = record {
  told = λ tells. weaken ((c.all_rounds.ensures.crash w told).told tells)
      (rounds_leave c.args.asked.now (first_stage w (g.K.Sink.taken c.args.sink.now) (place_of c.args.replica.now))
      c.as_slice-name.result.now c.args.replica.now.size c.as_slice-name.ensures c.requires.size);
}

pub returns-in-Err-clause-some : goal.returns-in-Err-clause-some
returns-in-Err-clause-some g c =
    subst (λ (m : ℕ). IsCrashSafe g.D.Disk c.args.disk.now c.all_rounds.new.disk
    (LeavesUntold m c.args.asked.now.rounds (place_of c.args.replica.now))) c.requires.size c.all_rounds.ensures.some

pub returns-in-Err-clause-long : goal.returns-in-Err-clause-long
returns-in-Err-clause-long g c w told long =
    rounds_long c.args.asked.now (first_stage w (g.K.Sink.taken c.args.sink.now) (place_of c.args.replica.now))
    c.as_slice-name.result.now c.args.replica.now.size c.as_slice-name.ensures c.requires.size
    (sent_in (g.L.Link.wire c.all_rounds.new.link)) (c.all_rounds.ensures.long w told (c.in-Err.is ∙ long))

pub returns-in-Ok-clause-in_time : goal.returns-in-Ok-clause-in_time
returns-in-Ok-clause-in_time g c w told =
    on_ok c.say_done.result
    (rounds_end c.args.asked.now (first_stage w (g.K.Sink.taken c.args.sink.now) (place_of c.args.replica.now))
    c.as_slice-name.result.now c.args.replica.now.size c.as_slice-name.ensures c.requires.size
    (c.in-Ok.ensures.in_time w told))
