use Rattle.std.proofs.Common.{false, refl, ◌∙◌, arith}
use Rattle.iprop_links.specs.Asking.{sent_in}
use Rattle.kdb_ports.specs.Links.{Wire}
use Rattle.kprop_runs.proofs.Going.{all_end, crash_on, goes_on, holds_here, lead_on, long_here, none_ended, none_led}
use Rattle.kprop_runs.proofs.Going.{rounds_start, starts, stops_here, told_wire, untold_on, untold_start}
use Rattle.kprop_runs.proofs.Overlong.{long_behind}
use Rattle.kprop_runs.specs.Stages.{Stage, stage_of}
use Rattle.replica_core.specs.Opened.{place_of}
use Rattle.kprop_runs.proofs.rounds.all_rounds.Goals as goal

pub loop-done-init : goal.loop-done-init
loop-done-init g c =
    let size = c.args.replica.now.size in
    let taken = g.K.Sink.taken c.args.sink.now in
    let view = g.D.Disk.view c.args.disk.now in
    record {
      stands = λ w told.
          starts c.args.name.now size (g.L.Link.wire c.args.link.now) w taken (place_of c.args.replica.now) told;
      crash = λ w told tells.
          rounds_start c.args.name.now size c.args.count w taken c.args.replica.now.database view (c.requires.on tells);
      leads = λ tells. none_led size (place_of c.args.replica.now);
      some = λ tells. untold_start size c.args.count c.args.replica.now.database view (c.requires.on tells);
      in_time = λ w told. none_ended c.args.name.now size (stage_of w taken (place_of c.args.replica.now) false);
      on = c.requires.on;
      whole = c.requires.whole;
      sized = refl;
      same = refl;
      link = omega arith;
      sink = omega arith;
      disk = omega arith;
    }

pub loop-done-preserved : goal.loop-done-preserved
loop-done-preserved g c =
    let name = c.args.name.now in
    let size = c.args.replica.now.size in
    let inv = c.loop-done.invariant in
    let taken = g.K.Sink.taken c.args.sink.now in
    let first : Wire → Stage = λ w. stage_of w taken (place_of c.args.replica.now) false in
    let wire = g.L.Link.wire c.loop-done.link in
    let out = g.K.Sink.taken c.loop-done.sink in
    let place = place_of c.loop-done.replica in
    let few = c.loop-done-test.true in
    record {
      stands = λ w told.
          let at = inv.stands w told in
          let here = told_wire wire _ at.sent_is in
          goes_on name size c.loop-done.done (first w) c.loop-done.replica.size inv.sized wire here.0 here.1 out place
          c.loop-done.refused at
          (g.L.Link.wire c.turn.new.link) (g.K.Sink.taken c.turn.new.sink)
          (place_of c.turn.new.replica) c.in-Ok.bad c.either-refused.result
          (c.in-Ok.ensures.done here.0 c.loop-done.refused here.1) c.either-refused.ensures;
      crash = λ w told tells.
          let at = inv.stands w told in
          let here = told_wire wire _ at.sent_is in
          crash_on name size c.loop-done.done (first w) c.loop-done.replica.size inv.sized wire here.0 here.1 out place
          c.loop-done.refused at c.args.count few
          (g.D.Disk.view c.args.disk.now) (g.D.Disk.view c.loop-done.disk) (g.D.Disk.view c.turn.new.disk)
          (inv.crash w told tells) ((c.turn.ensures.crash here.0 here.1).told tells);
      leads = λ tells. lead_on size c.loop-done.done (place_of c.args.replica.now) c.loop-done.replica.size inv.sized
          place (inv.leads tells) (place_of c.turn.new.replica) (c.in-Ok.ensures.comes tells);
      some = λ tells.
          untold_on size c.loop-done.done (place_of c.args.replica.now) c.loop-done.replica.size inv.sized place
          (inv.leads tells) c.args.count few
          (g.D.Disk.view c.args.disk.now) (g.D.Disk.view c.loop-done.disk) (g.D.Disk.view c.turn.new.disk)
          (inv.some tells) (c.turn.ensures.some.told tells);
      in_time = λ w told.
          let at = inv.stands w told in
          let here = told_wire wire _ at.sent_is in
          all_end name size c.loop-done.done (first w) c.loop-done.replica.size inv.sized wire here.0 here.1 out place
          c.loop-done.refused at (inv.in_time w told) (c.in-Ok.ensures.in_time here.0 here.1);
      on = λ tells. c.in-Ok.ensures.on tells;
      whole = c.in-Ok.ensures.whole;
      sized = c.turn.ensures.size ∙ inv.sized;
      same = c.turn.ensures.call.same ∙ inv.same;
      link = let a = inv.link in let b = c.turn.ensures.links.later in omega (arith, a, b);
      sink = let a = inv.sink in let b = c.turn.ensures.writes.later in omega (arith, a, b);
      disk = let a = inv.disk in let b = c.turn.ensures.call.later in omega (arith, a, b);
    }

pub returns-in-Err-clause-stopped : goal.returns-in-Err-clause-stopped
returns-in-Err-clause-stopped g c w told =
    let inv = c.loop-done.invariant in
    let wire = g.L.Link.wire c.loop-done.link in
    let at = inv.stands w told in
    let here = told_wire wire _ at.sent_is in
    stops_here c.args.name.now c.args.replica.now.size c.loop-done.done
    (stage_of w (g.K.Sink.taken c.args.sink.now) (place_of c.args.replica.now) false)
    c.loop-done.replica.size inv.sized wire here.0 here.1 (g.K.Sink.taken c.loop-done.sink)
    (place_of c.loop-done.replica) c.loop-done.refused at
    c.args.count c.loop-done-test.true (sent_in (g.L.Link.wire c.turn.new.link)) (g.K.Sink.taken c.turn.new.sink)
    (c.in-Err.ensures.stopped here.0 c.loop-done.refused here.1)

pub returns-in-Err-clause-holds : goal.returns-in-Err-clause-holds
returns-in-Err-clause-holds g c tells w told =
    let inv = c.loop-done.invariant in
    let wire = g.L.Link.wire c.loop-done.link in
    let at = inv.stands w told in
    let here = told_wire wire _ at.sent_is in
    holds_here c.args.name.now c.args.replica.now.size c.loop-done.done
    (stage_of w (g.K.Sink.taken c.args.sink.now) (place_of c.args.replica.now) false)
    c.loop-done.replica.size inv.sized wire here.0 here.1 (g.K.Sink.taken c.loop-done.sink)
    (place_of c.loop-done.replica) c.loop-done.refused at
    c.args.count c.loop-done-test.true (g.K.Sink.taken c.turn.new.sink) (g.D.Disk.view c.turn.new.disk)
    (c.in-Err.ensures.holds tells here.0 c.loop-done.refused here.1)

pub returns-in-Err-clause-crash : goal.returns-in-Err-clause-crash
returns-in-Err-clause-crash g c w told =
    let name = c.args.name.now in
    let size = c.args.replica.now.size in
    let first : Stage = stage_of w (g.K.Sink.taken c.args.sink.now) (place_of c.args.replica.now) false in
    let inv = c.loop-done.invariant in
    let wire = g.L.Link.wire c.loop-done.link in
    let at = inv.stands w told in
    let here = told_wire wire _ at.sent_is in
    record {
      told = λ tells.
          crash_on name size c.loop-done.done first c.loop-done.replica.size inv.sized wire here.0 here.1
          (g.K.Sink.taken c.loop-done.sink) (place_of c.loop-done.replica) c.loop-done.refused at c.args.count
          c.loop-done-test.true
          (g.D.Disk.view c.args.disk.now) (g.D.Disk.view c.loop-done.disk) (g.D.Disk.view c.turn.new.disk)
          (inv.crash w told tells) ((c.turn.ensures.crash here.0 here.1).told tells);
    }

pub returns-in-Err-clause-too_long : goal.returns-in-Err-clause-too_long
returns-in-Err-clause-too_long g c w told long =
    let wire = g.L.Link.wire c.loop-done.link in
    let at = c.loop-done.invariant.stands w told in
    let here = told_wire wire _ at.sent_is in
    long_behind c.args.name.now c.args.replica.now.size c.loop-done.done
    (stage_of w (g.K.Sink.taken c.args.sink.now) (place_of c.args.replica.now) false) wire here.0 here.1 at.later_is
    (c.turn.ensures.too_long here.0 here.1 (c.in-Err.is ∙ long))

pub returns-in-Err-clause-long : goal.returns-in-Err-clause-long
returns-in-Err-clause-long g c w told long =
    let inv = c.loop-done.invariant in
    let wire = g.L.Link.wire c.loop-done.link in
    let at = inv.stands w told in
    let here = told_wire wire _ at.sent_is in
    long_here c.args.name.now c.args.replica.now.size c.loop-done.done
    (stage_of w (g.K.Sink.taken c.args.sink.now) (place_of c.args.replica.now) false)
    c.loop-done.replica.size inv.sized wire here.0 here.1 (g.K.Sink.taken c.loop-done.sink)
    (place_of c.loop-done.replica) c.loop-done.refused at
    c.args.count c.loop-done-test.true (sent_in (g.L.Link.wire c.turn.new.link))
    (c.turn.ensures.long here.0 c.loop-done.refused here.1 (c.in-Err.is ∙ long))

pub returns-clause-in_time : goal.returns-clause-in_time
returns-clause-in_time g c w told i few =
    let done = c.loop-done-test.false in
    c.loop-done.invariant.in_time w told i (omega (arith, few, done))
