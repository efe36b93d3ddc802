use Rattle.std.proofs.Common.{Err, refl, sym, ap, ◌∙◌}
use Rattle.kprop_runs.proofs.Overlong.{err_is, for_long}
use Rattle.kprop_runs.proofs.Saying.{call_halted, call_said, links_halted, links_said, on_ok}
use Rattle.kprop_runs.proofs.Turning.{came, round_holds, round_stopped, turn_holds, turn_stopped, turned}
use Rattle.replica_core.specs.Opened.{place_of}
use Rattle.kprop_runs.proofs.rounds.turn.Goals as goal

-- ---- the round was done

pub returns-in-Ok-clause-done : goal.returns-in-Ok-clause-done
returns-in-Ok-clause-done g c w refused told =
    turned c.args.name.now c.args.replica.now.size c.args.number w (g.K.Sink.taken c.args.sink.now)
    (place_of c.args.replica.now) refused
    (place_of c.round.new.replica) (g.L.Link.wire c.round.new.link) c.in-Ok.word
    (c.in-Ok.ensures.round w told) c.point-point.result c.point-point.ensures
    c.say_round.result (g.K.Sink.taken c.say_round.new.sink) c.say_round.ensures.ok c.say_round.ensures.value

pub returns-in-Ok-clause-stopped : goal.returns-in-Ok-clause-stopped
returns-in-Ok-clause-stopped g c w refused told =
    turn_stopped c.args.name.now c.args.replica.now.size c.args.number w (g.K.Sink.taken c.args.sink.now)
    (place_of c.args.replica.now) refused
    (place_of c.round.new.replica) (g.L.Link.wire c.round.new.link) c.in-Ok.word
    (c.in-Ok.ensures.round w told) c.point-point.result c.point-point.ensures
    c.say_round.result (g.K.Sink.taken c.say_round.new.sink) c.say_round.ensures.err

pub returns-in-Ok-clause-holds : goal.returns-in-Ok-clause-holds
returns-in-Ok-clause-holds g c tells w refused told =
    turn_holds c.args.name.now c.args.replica.now.size c.args.number w (g.K.Sink.taken c.args.sink.now)
    (place_of c.args.replica.now) refused
    (place_of c.round.new.replica) (g.L.Link.wire c.round.new.link) c.in-Ok.word
    (c.in-Ok.ensures.round w told) c.point-point.result c.point-point.ensures
    c.round.new.replica.database refl (g.D.Disk.view c.round.new.disk) (c.in-Ok.ensures.on tells)
    c.say_round.result (g.K.Sink.taken c.say_round.new.sink) c.say_round.ensures.err

pub returns-in-Ok-clause-comes : goal.returns-in-Ok-clause-comes
returns-in-Ok-clause-comes g c tells =
    on_ok c.say_round.result
    (came c.args.replica.now.size (place_of c.args.replica.now) c.round.new.replica.database
    (g.D.Disk.view c.args.disk.now) (g.D.Disk.view c.round.new.disk)
    (c.round.ensures.some.told tells) (c.in-Ok.ensures.on tells) (g.met.D.Disk.reads_as_image c.round.new.disk tells))

pub returns-in-Ok-clause-on : goal.returns-in-Ok-clause-on
returns-in-Ok-clause-on g c tells = on_ok c.say_round.result (c.in-Ok.ensures.on tells)

pub returns-in-Ok-clause-whole : goal.returns-in-Ok-clause-whole
returns-in-Ok-clause-whole g c = on_ok c.say_round.result c.in-Ok.ensures.whole

pub returns-in-Ok-clause-call : goal.returns-in-Ok-clause-call
returns-in-Ok-clause-call g c =
    call_said g.D.Disk c.args.disk.now c.round.new.disk c.say_round.result c.round.ensures.call c.say_round.ensures.halt

pub returns-in-Ok-clause-links : goal.returns-in-Ok-clause-links
returns-in-Ok-clause-links g c = links_said (g.L.Link.faults c.args.link.now)
    (g.L.Link.faults c.round.new.link) c.say_round.result c.round.ensures.faults c.say_round.ensures.halt

pub returns-in-Ok-clause-in_time : goal.returns-in-Ok-clause-in_time
returns-in-Ok-clause-in_time g c w told = on_ok c.say_round.result (c.in-Ok.ensures.in_time w told)

-- ---- it was stopped

pub returns-in-Err-clause-stopped : goal.returns-in-Err-clause-stopped
returns-in-Err-clause-stopped g c w refused told =
    round_stopped c.args.name.now c.args.replica.now.size c.args.number w (g.K.Sink.taken c.args.sink.now)
    (place_of c.args.replica.now) refused
    (place_of c.round.new.replica) (g.L.Link.wire c.round.new.link) c.in-Err.halt (c.in-Err.ensures.round w told)

pub returns-in-Err-clause-holds : goal.returns-in-Err-clause-holds
returns-in-Err-clause-holds g c tells w refused told =
    round_holds c.args.name.now c.args.replica.now.size c.args.number w (g.K.Sink.taken c.args.sink.now)
    (place_of c.args.replica.now) refused
    (g.D.Disk.view c.args.disk.now) (g.D.Disk.view c.round.new.disk) ((c.round.ensures.crash w told).told tells)

pub returns-in-Err-clause-call : goal.returns-in-Err-clause-call
returns-in-Err-clause-call g c = call_halted c.round.result c.in-Err.halt c.in-Err.is c.from.result c.from.ensures
    g.D.Disk c.args.disk.now c.round.new.disk c.round.ensures.call

pub returns-in-Err-clause-links : goal.returns-in-Err-clause-links
returns-in-Err-clause-links g c =
    links_halted c.round.result c.in-Err.halt c.in-Err.is c.from.result c.from.ensures (g.L.Link.faults c.args.link.now)
    (g.L.Link.faults c.round.new.link) c.round.ensures.faults

pub returns-in-Err-clause-long : goal.returns-in-Err-clause-long
returns-in-Err-clause-long g c w refused told long = record {
  said = (c.in-Err.ensures.round w told).front;
  gives = c.round.ensures.unended w told
      (c.in-Err.is ∙ ap Err (for_long c.in-Err.halt (sym c.from.ensures ∙ err_is c.from.result _ long)));
}

pub returns-in-Err-clause-too_long : goal.returns-in-Err-clause-too_long
returns-in-Err-clause-too_long g c w told long = c.round.ensures.too_long w told
    (c.in-Err.is ∙ ap Err (for_long c.in-Err.halt (sym c.from.ensures ∙ err_is c.from.result _ long)))
