use Rattle.std.proofs.Common.{◌≡◌, true, false, arith, length, subst, sym, ◌∙◌}
use Rattle.iprop_truths.specs.Parts.{IsPart}
use Rattle.kdb_base.specs.declared.outcomes.Refusal.TheVariants.{RecordTooLarge, TimeEnd}
use Rattle.kdb_disk.proofs.Runs.{started, weaken}
use Rattle.kdb_histories.specs.Asks.{Moved, NotMoved}
use Rattle.kdb_histories.specs.Moves.{IsLeft}
use Rattle.kdb_histories.specs.Seen.{entry_point}
use Rattle.kdb_plain.specs.Lengths.{in_64_bits}
use Rattle.primary_core.specs.Changes.{change_places}
use Rattle.primary_core.proofs.Carried.{stays}
use Rattle.primary_core.specs.Deciding.{ends_time}
use Rattle.primary_core.specs.Opened.{place_of}
use Rattle.primary_rekeying.proofs.StoredCalls.{answers_state, stores_leaves, stores_reaches, stores_state}
use Rattle.primary_rekeying.proofs.storing.store.Goals as goal
use Rattle.princ_rows.specs.declared.entries.Op.TheVariants.{PutPrinc}
use Rattle.princ_record.specs.Princs.{princ}
use Rattle.princ_record.specs.declared.princs.Princ.{Princ}
use Rattle.rekey_work.specs.declared.works.Settled.TheVariants.{Updated}
use Rattle.store_files.specs.Recovery.{LeavesPart}

pub returns-then-len-gt-MAX_ROW_LEN-clause-state : goal.returns-then-len-gt-MAX_ROW_LEN-clause-state
returns-then-len-gt-MAX_ROW_LEN-clause-state g c = λ s ask answer at has st e.
    answers_state c.args.primary.now ask (NotMoved (RecordTooLarge (in_64_bits (length (princ c.args.made))))) s has
    (st.large (omega (arith, c.encoded_len-len.ensures, c.if-len-gt-MAX_ROW_LEN.true)))

pub returns-then-len-gt-MAX_ROW_LEN-clause-crash : goal.returns-then-len-gt-MAX_ROW_LEN-clause-crash
returns-then-len-gt-MAX_ROW_LEN-clause-crash g c = λ s ask at has st. record {
  told = λ t. started _ _
      (λ f i. stays c.args.primary.now s ask f (c.what_is_kept_is_recovered.ensures _ (c.requires.on t) f i));
}

pub returns-in_default-clause-crash : goal.returns-in_default-clause-crash
returns-in_default-clause-crash g c = λ s ask at has st. record {
  told = λ t. started _ _
      (λ f i. stays c.args.primary.now s ask f (c.what_is_kept_is_recovered.ensures _ (c.requires.on t) f i));
}

pub returns-then-ends_time-clause-state : goal.returns-then-ends_time-clause-state
returns-then-ends_time-clause-state g c = λ s ask answer at has st e.
    answers_state c.args.primary.now ask (NotMoved TimeEnd) s has
    (st.late (omega (arith, c.encoded_len-len.ensures, c.if-len-gt-MAX_ROW_LEN.false))
    (subst (λ (p : Princ). ends_time (PutPrinc p) (place_of c.args.primary.now) ≡ true) c.in-Ok.ensures
    (sym c.ends_time.ensures ∙ c.if-ends_time.true)))

pub returns-then-ends_time-clause-crash : goal.returns-then-ends_time-clause-crash
returns-then-ends_time-clause-crash g c = λ s ask at has st. record {
  told = λ t. started _ _
      (λ f i. stays c.args.primary.now s ask f (c.what_is_kept_is_recovered.ensures _ (c.requires.on t) f i));
}

pub returns-in-Ok-make-clause-state : goal.returns-in-Ok-make-clause-state
returns-in-Ok-make-clause-state g c = λ s ask answer at has st e.
    stores_state c.args.primary.now ask (Moved (Updated c.args.made)) s has c.args.now (PutPrinc c.args.made) at
    (st.stored (omega (arith, c.encoded_len-len.ensures, c.if-len-gt-MAX_ROW_LEN.false))
    (subst (λ (p : Princ). ends_time (PutPrinc p) (place_of c.args.primary.now) ≡ false) c.in-Ok.ensures
    (sym c.ends_time.ensures ∙ c.if-ends_time.false))) c.make.new.self
    (λ t left masters. c.in-Ok-make.ensures.state t
    (subst (λ (p : Princ).
    IsLeft (place_of c.args.primary.now).realm (entry_point c.args.now (PutPrinc p) (place_of c.args.primary.now))
    (PutPrinc p) (place_of c.args.primary.now).rows t) (sym c.in-Ok.ensures) left) masters)

pub returns-in-Ok-make-clause-crash : goal.returns-in-Ok-make-clause-crash
returns-in-Ok-make-clause-crash g c = λ s ask at has st. record {
  told = λ t. weaken (c.make.ensures.crash.told t)
      (λ f l. stores_leaves c.args.primary.now ask (Moved (Updated c.args.made)) s has c.args.now
      (PutPrinc c.args.made) at (st.stored (omega (arith, c.encoded_len-len.ensures, c.if-len-gt-MAX_ROW_LEN.false))
      (subst (λ (p : Princ). ends_time (PutPrinc p) (place_of c.args.primary.now) ≡ false) c.in-Ok.ensures
      (sym c.ends_time.ensures ∙ c.if-ends_time.false))) f
      (subst (λ (p : Princ). LeavesPart (place_of c.args.primary.now)
      (change_places c.args.now (PutPrinc p) (place_of c.args.primary.now)) f) c.in-Ok.ensures l));
}

pub returns-in-Err-clause-crash : goal.returns-in-Err-clause-crash
returns-in-Err-clause-crash g c = λ s ask at has st. record {
  told = λ t. weaken (c.make.ensures.crash.told t)
      (λ f l. stores_leaves c.args.primary.now ask (Moved (Updated c.args.made)) s has c.args.now
      (PutPrinc c.args.made) at (st.stored (omega (arith, c.encoded_len-len.ensures, c.if-len-gt-MAX_ROW_LEN.false))
      (subst (λ (p : Princ). ends_time (PutPrinc p) (place_of c.args.primary.now) ≡ false) c.in-Ok.ensures
      (sym c.ends_time.ensures ∙ c.if-ends_time.false))) f
      (subst (λ (p : Princ). LeavesPart (place_of c.args.primary.now)
      (change_places c.args.now (PutPrinc p) (place_of c.args.primary.now)) f) c.in-Ok.ensures l));
}

pub returns-in-Err-clause-reach : goal.returns-in-Err-clause-reach
returns-in-Err-clause-reach g c = λ s ask at has st.
    stores_reaches c.args.primary.now ask (Moved (Updated c.args.made)) s has c.args.now (PutPrinc c.args.made) at
    (st.stored (omega (arith, c.encoded_len-len.ensures, c.if-len-gt-MAX_ROW_LEN.false))
    (subst (λ (p : Princ). ends_time (PutPrinc p) (place_of c.args.primary.now) ≡ false) c.in-Ok.ensures
    (sym c.ends_time.ensures ∙ c.if-ends_time.false))) (place_of c.make.new.self)
    (subst (λ (p : Princ). IsPart (place_of c.args.primary.now) (change_places c.args.now (PutPrinc p)
    (place_of c.args.primary.now)) (place_of c.make.new.self)) c.in-Ok.ensures c.in-Err.ensures.part)
