use Rattle.std.proofs.Common.{◌∙◌, List, [], ℕ, Ok, Err, ap, subst, sym}
use Rattle.kdb_base.specs.declared.outcomes.Refusal.{Refusal}
use Rattle.kdb_base.specs.declared.outcomes.Stop.{Stop}
use Rattle.kdb_disk.specs.Frames.{IsCrashSafe}
use Rattle.kdb_histories.specs.Asks.{Moved, NotMoved}
use Rattle.kdb_histories.specs.Calls.{Perform}
use Rattle.kdb_histories.specs.Seen.{seen}
use Rattle.primary_core.specs.Opened.{MayLeave, Opened, place_of}
use Rattle.primary_rekeying.specs.Moving.{answer_of}
use Rattle.princ_name.specs.Readings.{name_said}
use Rattle.kadm_session.specs.RekeyedNames.{IsMoved}
use Rattle.kadm_session.specs.Rekeying.{rekey_ask}
use Rattle.kadm_session.proofs.Moving.{moved_not, moved_on, moved_realm, printed_said}
use Rattle.kadm_session.proofs.rekeying.rekey_with.Goals as goal

pub returns-in-Ok-clause-done : goal.returns-in-Ok-clause-done
returns-in-Ok-clause-done g c = λ s has.
    let who = name_said c.args.name.now [] in
    let named = printed_said c.printed_form_spells_the_name.ensures c.args.name.now c.requires.may.printed in
    let answer = ap answer_of c.in-Ok.is in
    subst (λ (r : List ℕ). IsMoved (rekey_ask c.args.now r c.args.name.now) c.args.totals
    (seen (place_of c.args.primary.now) s) (Ok c.counted.result) c.rekey_now.new.primary) c.block_of.ensures
    (moved_on (rekey_ask c.args.now c.block_of.result.now c.args.name.now) c.args.primary.now c.rekey_now.new.primary s
    c.in-Ok.settled c.args.totals c.counted.result c.counted.ensures.value
    (c.rekey_now.ensures.does s who (Moved c.in-Ok.settled) c.requires.whole has named answer)
    (c.rekey_now.ensures.state s who (Moved c.in-Ok.settled) c.requires.whole has named answer))

pub returns-in-Ok-clause-stays : goal.returns-in-Ok-clause-stays
returns-in-Ok-clause-stays g c =
    let s = c.holds_opened.ensures.state in
    let has = c.holds_opened.ensures.has in
    let who = name_said c.args.name.now [] in
    let named = printed_said c.printed_form_spells_the_name.ensures c.args.name.now c.requires.may.printed in
    let answer = ap answer_of c.in-Ok.is in
    let ask = rekey_ask c.args.now c.block_of.result.now c.args.name.now in
    record {
      on = λ told. c.in-Ok.ensures.on told;
      whole = c.in-Ok.ensures.whole;
      realm = moved_realm ask c.args.primary.now c.rekey_now.new.primary s c.args.totals (Ok c.counted.result)
          (moved_on ask c.args.primary.now c.rekey_now.new.primary s c.in-Ok.settled c.args.totals c.counted.result
          c.counted.ensures.value
          (c.rekey_now.ensures.does s who (Moved c.in-Ok.settled) c.requires.whole has named answer)
          (c.rekey_now.ensures.state s who (Moved c.in-Ok.settled) c.requires.whole has named answer));
    }

pub returns-in-Err-Refused-clause-done : goal.returns-in-Err-Refused-clause-done
returns-in-Err-Refused-clause-done g c = λ s has.
    let who = name_said c.args.name.now [] in
    let why = c.in-Err-Refused.why in
    let named = printed_said c.printed_form_spells_the_name.ensures c.args.name.now c.requires.may.printed in
    let answer = ap answer_of c.in-Err-Refused.is ∙ ap (λ (x : Stop). answer_of (Err x)) c.in-Err-Refused.field-0-is in
    subst (λ (w : Refusal). IsMoved (rekey_ask c.args.now c.args.random.now c.args.name.now) c.args.totals
    (seen (place_of c.args.primary.now) s) (Err w) c.rekey_now.new.primary) (sym c.in-Err-Refused.why-is)
    (subst (λ (r : List ℕ). IsMoved (rekey_ask c.args.now r c.args.name.now) c.args.totals
    (seen (place_of c.args.primary.now) s) (Err why) c.rekey_now.new.primary) c.block_of.ensures
    (moved_not (rekey_ask c.args.now c.block_of.result.now c.args.name.now) c.args.primary.now c.rekey_now.new.primary s
    why c.args.totals
    (c.rekey_now.ensures.does s who (NotMoved why) c.requires.whole has named answer)
    (c.rekey_now.ensures.state s who (NotMoved why) c.requires.whole has named answer)))

pub returns-in-Err-Refused-clause-stays : goal.returns-in-Err-Refused-clause-stays
returns-in-Err-Refused-clause-stays g c =
    let same = c.rekey_now.ensures.refused_keeps c.in-Err-Refused.why
    (c.in-Err-Refused.is ∙ ap (λ x. Err x) c.in-Err-Refused.field-0-is) in
    record {
      on = λ told. rw (same.0, same.1) (c.requires.on told);
      whole = ap (λ (o : Opened). o.kept.broken) same.0 ∙ c.requires.whole;
      realm = ap (λ (o : Opened). o.kept.realm) same.0;
    }

pub returns-in-Ok-clause-crash : goal.returns-in-Ok-clause-crash
returns-in-Ok-clause-crash g c = λ s has.
    let named = printed_said c.printed_form_spells_the_name.ensures c.args.name.now c.requires.may.printed in
    subst (λ (r : List ℕ). IsCrashSafe g.D.Disk c.args.disk.now c.rekey_now.new.disk
    (MayLeave (place_of c.args.primary.now) s (Perform (rekey_ask c.args.now r c.args.name.now)))) c.block_of.ensures
    (c.rekey_now.ensures.crash s (name_said c.args.name.now []) c.requires.whole has named)

pub returns-in-Err-Refused-clause-crash : goal.returns-in-Err-Refused-clause-crash
returns-in-Err-Refused-clause-crash g c = λ s has.
    let named = printed_said c.printed_form_spells_the_name.ensures c.args.name.now c.requires.may.printed in
    subst (λ (r : List ℕ). IsCrashSafe g.D.Disk c.args.disk.now c.rekey_now.new.disk
    (MayLeave (place_of c.args.primary.now) s (Perform (rekey_ask c.args.now r c.args.name.now)))) c.block_of.ensures
    (c.rekey_now.ensures.crash s (name_said c.args.name.now []) c.requires.whole has named)

pub returns-in-Err-Halt-clause-crash : goal.returns-in-Err-Halt-clause-crash
returns-in-Err-Halt-clause-crash g c = λ s has.
    let named = printed_said c.printed_form_spells_the_name.ensures c.args.name.now c.requires.may.printed in
    subst (λ (r : List ℕ). IsCrashSafe g.D.Disk c.args.disk.now c.rekey_now.new.disk
    (MayLeave (place_of c.args.primary.now) s (Perform (rekey_ask c.args.now r c.args.name.now)))) c.block_of.ensures
    (c.rekey_now.ensures.crash s (name_said c.args.name.now []) c.requires.whole has named)
