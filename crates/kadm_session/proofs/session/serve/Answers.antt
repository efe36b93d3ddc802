use Rattle.std.proofs.Common.{◌∙◌, refl, ap, arith, Ok}
use Rattle.kdb_disk.proofs.Runs.{then_on}
use Rattle.session_base.specs.declared.halts.SessionHalt.TheVariants.{MemoryOut, DrawFault, ReadFault, InputTooLong}
use Rattle.kadm_session.proofs.Turning.{between_from, done_from, ended_from, err_on, goes_first}
use Rattle.kadm_session.proofs.Turning.{goes_none, goes_on_then, goes_some, goes_with, is_refused}
use Rattle.kadm_session.proofs.Turning.{leaves_here, rests_on, stopped_from, was_refused}
use Rattle.kadm_session.proofs.session.serve.Goals as goal

pub loop-now_refused-init : goal.loop-now_refused-init
loop-now_refused-init g c = record {
  goes = λ s has. goes_first _ _ _ _ _ s has;
  run = λ told s has. leaves_here _ _ _ _ _ _ (c.what_is_kept_is_recovered.ensures _ (c.requires.on told));
  on = λ told. c.requires.on told;
  whole = c.requires.whole;
  realm = refl;
  same = refl;
  takes = λ first takes. takes;
  source = omega arith;
  sink = omega arith;
  disk = omega arith;
  entropy = omega arith;
}

pub loop-now_refused-preserved-then-refused : goal.loop-now_refused-preserved-then-refused
loop-now_refused-preserved-then-refused g c =
    let turn = c.in-Ok-Some.ensures in
    let was = c.loop-now_refused.invariant in
    record {
      goes = λ s has.
          let before = was.goes s has in
          goes_with _ _ _ _ _ _ _ (was_refused c.loop-now_refused.refused c.in-Ok-Some.now_refused c.if-refused.true)
          (goes_on_then _ _ _ _ _ _ _ _ _ _ _ before
          (goes_some _ _ c.in-Ok-Some.field-0 c.in-Ok-Some.now_refused c.in-Ok-Some.is c.in-Ok-Some.field-0-is
          (c.turn.ensures.next before.state c.loop-now_refused.refused before.has)));
      run = λ told s has.
          let before = was.goes s has in
          then_on (was.run told s has)
          (c.turn.ensures.serves told before.state c.loop-now_refused.refused before.has).moments
          before.follows.leaves;
      on = λ told. turn.stays.on told;
      whole = turn.stays.whole;
      realm = turn.stays.realm ∙ was.realm;
      same = turn.causes.call.same ∙ was.same;
      takes = λ first takes. turn.takes.takes first (was.takes first takes);
      source = omega (arith, was.source, turn.causes.reads.later);
      sink = omega (arith, was.sink, turn.causes.writes.later);
      disk = omega (arith, was.disk, turn.causes.call.later);
      entropy = omega (arith, was.entropy, turn.causes.draws.later);
    }

pub loop-now_refused-preserved : goal.loop-now_refused-preserved
loop-now_refused-preserved g c =
    let turn = c.in-Ok-Some.ensures in
    let was = c.loop-now_refused.invariant in
    record {
      goes = λ s has.
          let before = was.goes s has in
          goes_with _ _ _ _ _ _ _ (is_refused c.loop-now_refused.refused c.in-Ok-Some.now_refused c.if-refused.false)
          (goes_on_then _ _ _ _ _ _ _ _ _ _ _ before
          (goes_some _ _ c.in-Ok-Some.field-0 c.in-Ok-Some.now_refused c.in-Ok-Some.is c.in-Ok-Some.field-0-is
          (c.turn.ensures.next before.state c.loop-now_refused.refused before.has)));
      run = λ told s has.
          let before = was.goes s has in
          then_on (was.run told s has)
          (c.turn.ensures.serves told before.state c.loop-now_refused.refused before.has).moments
          before.follows.leaves;
      on = λ told. turn.stays.on told;
      whole = turn.stays.whole;
      realm = turn.stays.realm ∙ was.realm;
      same = turn.causes.call.same ∙ was.same;
      takes = λ first takes. turn.takes.takes first (was.takes first takes);
      source = omega (arith, was.source, turn.causes.reads.later);
      sink = omega (arith, was.sink, turn.causes.writes.later);
      disk = omega (arith, was.disk, turn.causes.call.later);
      entropy = omega (arith, was.entropy, turn.causes.draws.later);
    }

pub returns-in-Ok-None-clause-ended : goal.returns-in-Ok-None-clause-ended
returns-in-Ok-None-clause-ended g c = λ s end has e.
    let before = c.loop-now_refused.invariant.goes s has in
    let none = goes_none _ _ c.in-Ok-None.field-0 c.in-Ok-None.is c.in-Ok-None.field-0-is
    (c.turn.ensures.next before.state c.loop-now_refused.refused before.has) in
    let stays = c.turn.ensures.end.end (c.in-Ok-None.is ∙ ap Ok c.in-Ok-None.field-0-is) in
    rw (stays.0, stays.1, c.turn.ensures.end.end_draws (c.in-Ok-None.is ∙ ap Ok c.in-Ok-None.field-0-is))
    (ended_from _ _ _ c.loop-now_refused.refused _ _ end before none e)

pub returns-in-Ok-None-clause-done : goal.returns-in-Ok-None-clause-done
returns-in-Ok-None-clause-done g c = λ s has.
    let before = c.loop-now_refused.invariant.goes s has in
    done_from _ _ _ c.loop-now_refused.refused _ _ before
    (goes_none _ _ c.in-Ok-None.field-0 c.in-Ok-None.is c.in-Ok-None.field-0-is
    (c.turn.ensures.next before.state c.loop-now_refused.refused before.has))

pub returns-in-Ok-None-clause-serves : goal.returns-in-Ok-None-clause-serves
returns-in-Ok-None-clause-serves g c = λ told s has.
    let was = c.loop-now_refused.invariant in
    let before = was.goes s has in
    let turn = c.turn.ensures.serves told before.state c.loop-now_refused.refused before.has in
    record {
      stopped = tt;
      memory = λ is. absurd cc;
      drawn = λ is. absurd cc;
      moments = then_on (was.run told s has) turn.moments before.follows.leaves;
    }

pub returns-in-Err-clause-serves : goal.returns-in-Err-clause-serves
returns-in-Err-clause-serves g c = λ told s has.
    let was = c.loop-now_refused.invariant in
    let before = was.goes s has in
    let turn = c.turn.ensures.serves told before.state c.loop-now_refused.refused before.has in
    record {
      stopped =
          stopped_from _ _ _ _ _ _ _ _ before
          (c.in-Err.ensures.serves told before.state c.loop-now_refused.refused before.has).stopped;
      memory = λ is.
          rests_on _ _ _ _ _ _ _ _ _ before
          (turn.memory (err_on c.turn.result _ _ c.in-Err.halt MemoryOut c.in-Err.is refl refl is));
      drawn = λ is.
          rests_on _ _ _ _ _ _ _ _ _ before
          (turn.drawn (err_on c.turn.result _ _ c.in-Err.halt DrawFault c.in-Err.is refl refl is));
      moments = then_on (was.run told s has) turn.moments before.follows.leaves;
    }

pub returns-in-Err-clause-between : goal.returns-in-Err-clause-between
returns-in-Err-clause-between g c = λ told s has.
    let was = c.loop-now_refused.invariant in
    record {
      read = λ is.
          let same = c.turn.ensures.leaves.read
          (err_on c.turn.result _ _ c.in-Err.halt ReadFault c.in-Err.is refl refl is) in
          rw (same.0, same.1) (between_from _ _ _ _ _ _ _ (was.goes s has)
          (c.what_is_kept_is_recovered-in-loop-now_refused.ensures _ (was.on told)));
      at_limit = λ is.
          let same = c.turn.ensures.leaves.at_limit
          (err_on c.turn.result _ _ c.in-Err.halt InputTooLong c.in-Err.is refl refl is) in
          rw (same.0, same.1) (between_from _ _ _ _ _ _ _ (was.goes s has)
          (c.what_is_kept_is_recovered-in-loop-now_refused.ensures _ (was.on told)));
    }
