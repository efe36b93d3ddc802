use Rattle.std.proofs.Common.{ℕ, [], ◌≡◌, ◌∙◌, ◌∷◌, ◌+◌, List, drop, false, refl, sym, ap, arith, Ok, Err}
use Rattle.std.proofs.lemmas.List.{drop_all}
use Rattle.kdb_histories.specs.Seen.{seen}
use Rattle.primary_core.specs.Opened.{Opened, place_of}
use Rattle.princ_name.specs.Printed.{IsPrinted, is_master}
use Rattle.session_base.specs.declared.halts.SessionHalt.TheVariants.{MemoryOut, DrawFault}
use Rattle.kadm_session.proofs.Leaving.{crash_still}
use Rattle.kadm_session.proofs.Moving.{rekeyed_all, rekeyed_part, rekeyed_refused, step_ok, stopped_safe, underway_as}
use Rattle.kadm_session.proofs.Moving.{underway_first, underway_next, underway_safe, word_has, word_next}
use Rattle.kadm_session.proofs.Turning.{err_on}
use Rattle.kadm_session.proofs.rekeying.rekey_all.Goals as goal

pub loop-name-init : goal.loop-name-init
loop-name-init g c = record {
  goes = λ s has.
      underway_first g.D.Disk c.args.disk.now c.args.names.now c.args.now
      (g.E.Entropy.stream c.args.entropy.now) c.args.primary.now s has
      (crash_still g.D.Disk c.args.disk.now c.args.disk.now (place_of c.args.primary.now) [] refl
      (λ told. c.what_is_kept_is_recovered.ensures c.args.primary.now.kept (c.requires.on told)));
  few = omega arith;
  on = λ told. c.requires.on told;
  whole = c.requires.whole;
  realm = refl;
  masters = refl;
  same = refl;
  disk = omega arith;
  entropy = omega arith;
}

pub rekey_one-requires-clause-may : goal.rekey_one-requires-clause-may
rekey_one-requires-clause-may g c = record {
  printed =
      word_has IsPrinted c.args.names.now c.loop-name.name-index c.name-item.result c.as_slice.result.now
      c.requires.printed c.loop-name-test.true c.name-item.is c.as_slice.ensures;
  other =
      word_has (λ (name : List ℕ). is_master name ≡ false) c.args.names.now c.loop-name.name-index c.name-item.result
      c.as_slice.result.now c.requires.others c.loop-name-test.true c.name-item.is c.as_slice.ensures;
  ring = c.requires.ring ∙ sym c.loop-name.invariant.masters;
  few = omega (arith, c.loop-name.invariant.few, c.loop-name-test.true, c.requires.few);
}

pub rekey_one-requires-clause-on : goal.rekey_one-requires-clause-on
rekey_one-requires-clause-on g c = λ told. c.loop-name.invariant.on told

pub rekey_one-requires-clause-whole : goal.rekey_one-requires-clause-whole
rekey_one-requires-clause-whole g c = c.loop-name.invariant.whole

pub loop-name-preserved : goal.loop-name-preserved
loop-name-preserved g c =
    let was = c.loop-name.invariant in
    let one = c.in-Ok-Ok.ensures in
    record {
      goes = λ s has.
          let before =
          (underway_as g.D.Disk c.args.disk.now c.loop-name.disk c.args.names.now (drop c.loop-name.name-index
          c.args.names.now) (c.as_slice.result.now ∷ drop (c.loop-name.name-index + 1) c.args.names.now) c.args.now
          (g.E.Entropy.stream c.args.entropy.now) (seen (place_of c.args.primary.now) s)
          c.loop-name.totals c.loop-name.primary (g.E.Entropy.stream c.loop-name.entropy)
          (word_next c.args.names.now c.loop-name.name-index c.name-item.result c.as_slice.result.now
          c.loop-name-test.true c.name-item.is c.as_slice.ensures) (was.goes s has)) in
          underway_next g.D.Disk c.args.disk.now c.loop-name.disk c.rekey_one.new.disk
          c.args.names.now c.as_slice.result.now (drop (c.loop-name.name-index + 1) c.args.names.now) c.args.now
          (g.E.Entropy.stream c.args.entropy.now) (seen (place_of c.args.primary.now) s) c.loop-name.totals
          c.in-Ok-Ok.more c.loop-name.primary c.rekey_one.new.primary (g.E.Entropy.stream c.loop-name.entropy)
          (g.E.Entropy.stream c.rekey_one.new.entropy)
          before
          (step_ok c.rekey_one.result _ c.in-Ok-Ok.field-0 (Ok c.in-Ok-Ok.more) c.in-Ok-Ok.is c.in-Ok-Ok.field-0-is
          (c.rekey_one.ensures.done before.state before.has));
      few = omega (
        arith,
        was.few,
        step_ok c.rekey_one.result _ c.in-Ok-Ok.field-0 (Ok c.in-Ok-Ok.more) c.in-Ok-Ok.is c.in-Ok-Ok.field-0-is
            c.rekey_one.ensures.counts.few,
      );
      on = λ told. one.stays.on told;
      whole = one.stays.whole;
      realm = one.stays.realm ∙ was.realm;
      masters = one.counts.masters ∙ was.masters;
      same = one.causes.call.same ∙ was.same;
      disk = omega (arith, was.disk, one.causes.call.later);
      entropy = omega (arith, was.entropy, one.causes.draws.later);
    }

pub returns-clause-done : goal.returns-clause-done
returns-clause-done g c = λ s has.
    rekeyed_all _ _ _ _ _ _ _ _ _ _ _ (drop_all c.loop-name.name-index c.args.names.now
    (omega (arith, c.loop-name-test.false))) (c.loop-name.invariant.goes s has)

pub returns-clause-safe : goal.returns-clause-safe
returns-clause-safe g c = λ s has. underway_safe _ _ _ _ _ _ _ _ _ _ _ (c.loop-name.invariant.goes s has)

pub returns-in-Ok-Err-clause-done : goal.returns-in-Ok-Err-clause-done
returns-in-Ok-Err-clause-done g c = λ s has.
    let was = c.loop-name.invariant in
    let before =
    (underway_as g.D.Disk c.args.disk.now c.loop-name.disk c.args.names.now (drop c.loop-name.name-index
    c.args.names.now) (c.as_slice.result.now ∷ drop (c.loop-name.name-index + 1) c.args.names.now) c.args.now
    (g.E.Entropy.stream c.args.entropy.now) (seen (place_of c.args.primary.now) s)
    c.loop-name.totals c.loop-name.primary (g.E.Entropy.stream c.loop-name.entropy)
    (word_next c.args.names.now c.loop-name.name-index c.name-item.result c.as_slice.result.now c.loop-name-test.true
    c.name-item.is c.as_slice.ensures) (was.goes s has)) in
    rekeyed_refused g.D.Disk c.args.disk.now c.loop-name.disk c.rekey_one.new.disk
    c.args.names.now c.as_slice.result.now (drop (c.loop-name.name-index + 1) c.args.names.now) c.args.now
    (g.E.Entropy.stream c.args.entropy.now) (seen (place_of c.args.primary.now) s) c.loop-name.totals
    c.in-Ok-Err.why c.loop-name.primary c.rekey_one.new.primary (g.E.Entropy.stream c.loop-name.entropy)
    (g.E.Entropy.stream c.rekey_one.new.entropy)
    before
    (step_ok c.rekey_one.result _ c.in-Ok-Err.field-0 (Err c.in-Ok-Err.why) c.in-Ok-Err.is c.in-Ok-Err.field-0-is
    (c.rekey_one.ensures.done before.state before.has))

pub returns-in-Ok-Err-clause-safe : goal.returns-in-Ok-Err-clause-safe
returns-in-Ok-Err-clause-safe g c = λ s has.
    let was = c.loop-name.invariant in
    let before =
    (underway_as g.D.Disk c.args.disk.now c.loop-name.disk c.args.names.now (drop c.loop-name.name-index
    c.args.names.now) (c.as_slice.result.now ∷ drop (c.loop-name.name-index + 1) c.args.names.now) c.args.now
    (g.E.Entropy.stream c.args.entropy.now) (seen (place_of c.args.primary.now) s)
    c.loop-name.totals c.loop-name.primary (g.E.Entropy.stream c.loop-name.entropy)
    (word_next c.args.names.now c.loop-name.name-index c.name-item.result c.as_slice.result.now c.loop-name-test.true
    c.name-item.is c.as_slice.ensures) (was.goes s has)) in
    stopped_safe g.D.Disk c.args.disk.now c.loop-name.disk c.rekey_one.new.disk c.args.names.now c.as_slice.result.now
    (drop (c.loop-name.name-index + 1) c.args.names.now) c.args.now (g.E.Entropy.stream c.args.entropy.now)
    (seen (place_of c.args.primary.now) s) c.loop-name.totals c.loop-name.primary
    (g.E.Entropy.stream c.loop-name.entropy)
    before (c.rekey_one.ensures.safe before.state before.has)

pub returns-in-Err-clause-safe : goal.returns-in-Err-clause-safe
returns-in-Err-clause-safe g c = λ s has.
    let was = c.loop-name.invariant in
    let before =
    (underway_as g.D.Disk c.args.disk.now c.loop-name.disk c.args.names.now (drop c.loop-name.name-index
    c.args.names.now) (c.as_slice.result.now ∷ drop (c.loop-name.name-index + 1) c.args.names.now) c.args.now
    (g.E.Entropy.stream c.args.entropy.now) (seen (place_of c.args.primary.now) s)
    c.loop-name.totals c.loop-name.primary (g.E.Entropy.stream c.loop-name.entropy)
    (word_next c.args.names.now c.loop-name.name-index c.name-item.result c.as_slice.result.now c.loop-name-test.true
    c.name-item.is c.as_slice.ensures) (was.goes s has)) in
    stopped_safe g.D.Disk c.args.disk.now c.loop-name.disk c.rekey_one.new.disk c.args.names.now c.as_slice.result.now
    (drop (c.loop-name.name-index + 1) c.args.names.now) c.args.now (g.E.Entropy.stream c.args.entropy.now)
    (seen (place_of c.args.primary.now) s) c.loop-name.totals c.loop-name.primary
    (g.E.Entropy.stream c.loop-name.entropy)
    before (c.rekey_one.ensures.safe before.state before.has)

pub returns-in-Err-clause-memory : goal.returns-in-Err-clause-memory
returns-in-Err-clause-memory g c = λ s has is.
    let halted = err_on c.rekey_one.result _ _ c.in-Err.halt MemoryOut c.in-Err.is refl refl is in
    rekeyed_part g.D.Disk c.args.disk.now c.loop-name.disk c.rekey_one.new.disk c.args.names.now
    (drop c.loop-name.name-index c.args.names.now) c.args.now (g.E.Entropy.stream c.args.entropy.now)
    (seen (place_of c.args.primary.now) s) c.loop-name.totals c.loop-name.primary c.rekey_one.new.primary
    (g.E.Entropy.stream c.loop-name.entropy)
    (c.loop-name.invariant.goes s has) (c.rekey_one.ensures.rests.memory_place halted)
    (λ told. c.what_is_kept_is_recovered-in-Err.ensures c.rekey_one.new.primary.kept
    (c.rekey_one.ensures.rests.memory told halted))

pub returns-in-Err-clause-drawn : goal.returns-in-Err-clause-drawn
returns-in-Err-clause-drawn g c = λ s has is.
    let halted = err_on c.rekey_one.result _ _ c.in-Err.halt DrawFault c.in-Err.is refl refl is in
    let same = c.rekey_one.ensures.rests.drawn halted in
    rekeyed_part g.D.Disk c.args.disk.now c.loop-name.disk c.rekey_one.new.disk c.args.names.now
    (drop c.loop-name.name-index c.args.names.now) c.args.now (g.E.Entropy.stream c.args.entropy.now)
    (seen (place_of c.args.primary.now) s) c.loop-name.totals c.loop-name.primary c.rekey_one.new.primary
    (g.E.Entropy.stream c.loop-name.entropy)
    (c.loop-name.invariant.goes s has) (ap (λ (o : Opened). place_of o) same.1)
    (λ told. c.what_is_kept_is_recovered-in-Err.ensures c.rekey_one.new.primary.kept
    (rw (same.0, same.1) (c.loop-name.invariant.on told)))
