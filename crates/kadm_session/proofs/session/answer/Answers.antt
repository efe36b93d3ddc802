use Rattle.std.proofs.Common.{◌∙◌, ap, refl, Err}
use Rattle.kdb_histories.specs.Seen.{seen}
use Rattle.primary_core.specs.Opened.{place_of}
use Rattle.session_base.specs.Draws.{told_draws}
use Rattle.session_base.specs.Replies.{reply_in}
use Rattle.kadm_session.proofs.Going.{dump_rests, goes_on, line_leaves, line_stopped, reply_stopped}
use Rattle.kadm_session.proofs.Turning.{err_on, rests_halfway}
use Rattle.session_base.specs.declared.halts.SessionHalt.TheVariants.{MemoryOut, DrawFault}
use Rattle.kadm_session.proofs.session.answer.Goals as goal

pub returns-in-Ok-write_answer-clause-next : goal.returns-in-Ok-write_answer-clause-next
returns-in-Ok-write_answer-clause-next g c = λ s refused more has. rw c.is_refusal.ensures
    (goes_on (g.K.Sink.taken c.args.sink.now) _ refused c.args.asked.now more _ _ _ (reply_in c.in-Ok.printed) _
    (c.in-Ok.ensures.decided s has)
    c.in-Ok-write_answer.ensures.ok)

pub returns-in-Err-clause-serves : goal.returns-in-Err-clause-serves
returns-in-Err-clause-serves g c = λ told s refused more has. record {
  stopped =
      line_stopped g.D.Disk c.args.disk.now c.decide.new.disk (g.K.Sink.taken c.args.sink.now) refused
      c.args.asked.now more (told_draws (g.C.Clock.moments c.args.clock.now) (g.E.Entropy.stream c.args.entropy.now))
      (seen (place_of c.args.primary.now) s) (c.decide.ensures.safe s has) told;
  memory = λ is.
      rests_halfway g.D.Disk c.decide.new.disk _ (g.K.Sink.taken c.args.sink.now) refused c.args.asked.now more
      (told_draws (g.C.Clock.moments c.args.clock.now) (g.E.Entropy.stream c.args.entropy.now))
      (seen (place_of c.args.primary.now) s)
      ((c.decide.ensures.rests s has).memory
      (err_on c.decide.result _ _ c.in-Err.halt MemoryOut c.in-Err.is refl refl is)) told;
  drawn = λ is.
      rests_halfway g.D.Disk c.decide.new.disk _ (g.K.Sink.taken c.args.sink.now) refused c.args.asked.now more
      (told_draws (g.C.Clock.moments c.args.clock.now) (g.E.Entropy.stream c.args.entropy.now))
      (seen (place_of c.args.primary.now) s)
      ((c.decide.ensures.rests s has).drawn
      (err_on c.decide.result _ _ c.in-Err.halt DrawFault c.in-Err.is refl refl is)) told;
  moments =
      line_leaves g.D.Disk c.args.disk.now c.decide.new.disk (g.K.Sink.taken c.args.sink.now) refused
      c.args.asked.now more (told_draws (g.C.Clock.moments c.args.clock.now) (g.E.Entropy.stream c.args.entropy.now))
      (seen (place_of c.args.primary.now) s) (c.decide.ensures.safe s has) told;
}

pub returns-in-Ok-write_answer-clause-serves : goal.returns-in-Ok-write_answer-clause-serves
returns-in-Ok-write_answer-clause-serves g c = λ told s refused more has. record {
  stopped = tt;
  memory = λ is. absurd cc;
  drawn = λ is. absurd cc;
  moments =
      line_leaves g.D.Disk c.args.disk.now c.decide.new.disk (g.K.Sink.taken c.args.sink.now) refused
      c.args.asked.now more (told_draws (g.C.Clock.moments c.args.clock.now) (g.E.Entropy.stream c.args.entropy.now))
      (seen (place_of c.args.primary.now) s) (c.decide.ensures.safe s has) told;
}

pub returns-in-Err-WriteFault-clause-serves : goal.returns-in-Err-WriteFault-clause-serves
returns-in-Err-WriteFault-clause-serves g c = λ told s refused more has. record {
  stopped =
      reply_stopped (g.K.Sink.taken c.args.sink.now) (g.K.Sink.taken c.write_answer.new.sink) _ refused c.args.asked.now
      more _ _ _ (reply_in c.in-Ok.printed) _ (c.in-Ok.ensures.decided s has)
      c.in-Err-WriteFault.ensures.err (c.what_is_kept_is_recovered.ensures _ (c.in-Ok.ensures.stays.on told));
  memory = λ is. absurd cc;
  drawn = λ is. absurd cc;
  moments =
      line_leaves g.D.Disk c.args.disk.now c.decide.new.disk (g.K.Sink.taken c.args.sink.now) refused
      c.args.asked.now more (told_draws (g.C.Clock.moments c.args.clock.now) (g.E.Entropy.stream c.args.entropy.now))
      (seen (place_of c.args.primary.now) s) (c.decide.ensures.safe s has) told;
}

pub returns-clause-serves : goal.returns-clause-serves
returns-clause-serves g c = λ told s refused more has. record {
  stopped =
      reply_stopped (g.K.Sink.taken c.args.sink.now) (g.K.Sink.taken c.write_answer.new.sink) _ refused c.args.asked.now
      more _ _ _ (reply_in c.in-Ok.printed) _ (c.in-Ok.ensures.decided s has)
      c.in-Err-MemoryOut.ensures.err (c.what_is_kept_is_recovered.ensures _ (c.in-Ok.ensures.stays.on told));
  memory = λ is.
      let begun = c.write_answer.ensures.memory (c.in-Err-MemoryOut.is ∙ ap Err c.in-Err-MemoryOut.field-0-is) in
      dump_rests (g.K.Sink.taken c.args.sink.now) (g.K.Sink.taken c.write_answer.new.sink) _ refused c.args.asked.now
      more _ _ _ (reply_in c.in-Ok.printed) _ begun.0 (c.in-Ok.ensures.decided s has)
      begun.1 (c.what_is_kept_is_recovered.ensures _ (c.in-Ok.ensures.stays.on told));
  drawn = λ is. absurd cc;
  moments =
      line_leaves g.D.Disk c.args.disk.now c.decide.new.disk (g.K.Sink.taken c.args.sink.now) refused
      c.args.asked.now more (told_draws (g.C.Clock.moments c.args.clock.now) (g.E.Entropy.stream c.args.entropy.now))
      (seen (place_of c.args.primary.now) s) (c.decide.ensures.safe s has) told;
}
