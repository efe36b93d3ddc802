-- The state that work leads to where the model settles it, and the rows that show it.
use Rattle.std.proofs.Common.{◌≡◌, ℕ, Bool, true, false, ◌&&◌, List, Option, Some, None, refl, sym, ap, subst, ◌∙◌}
use Rattle.std.specs.Prelude.{if◌then◌else◌, nat_lt}
use Rattle.command_plans.proofs.RenamedFits.{row_fits}
use Rattle.kdb_base.specs.Limits.{longest_row}
use Rattle.kdb_base.specs.Moment.{Moment}
use Rattle.kdb_base.specs.declared.outcomes.Refusal.{Refusal}
use Rattle.kdb_base.specs.declared.outcomes.Refusal.TheVariants.{RecordTooLarge, TimeEnd}
use Rattle.kdb_histories.specs.Asks.{at_clock}
use Rattle.kdb_histories.specs.Moves.{IsLeft}
use Rattle.kdb_histories.specs.Seen.{entry_point, is_due}
use Rattle.kdb_model.specs.Calls.{is_last, point_after}
use Rattle.kdb_model.specs.Laws.{IsMoment}
use Rattle.kdb_model.specs.Refusals.{len_in}
use Rattle.kdb_model.specs.Rekeying as model
use Rattle.kdb_model.specs.Rekeying.{At, Rekeyed, Updated, Already, Gone, Refused, Stored, Work, active_at, may_settle}
use Rattle.kdb_model.specs.Rekeying.{other_record, other_version, rekey, settle, settled_by, under_version}
use Rattle.kdb_model.specs.Steps.{with_point}
use Rattle.kdb_plain.specs.Changes.{put_princ}
use Rattle.kdb_plain.specs.Lengths.{in_64_bits}
use Rattle.kdb_plain.specs.declared.princs.PlainPrinc.{PlainPrinc}
use Rattle.kdb_plain.specs.declared.states.State.{State}
use Rattle.primary_core.specs.Opened.{HasState, Opened, place_of}
use Rattle.primary_rekeying.proofs.FoundOut.{AreOneBySpelling}
use Rattle.primary_rekeying.proofs.Moved.{RowLaws, after, left_after, rekey_is}
use Rattle.primary_rekeying.proofs.Settled.{IsSame, is_same, work_in_place, work_moves}
use Rattle.primary_rekeying.specs.Moving.{IsInPlace, IsMoving}
use Rattle.princ_rows.specs.declared.entries.Op.TheVariants.{PutPrinc}
use Rattle.princ_name.specs.Names.{NameParts, printed}
use Rattle.princ_record.specs.declared.princs.Princ.{Princ}
use Rattle.princ_rows.specs.Rows.{AreRows}
use Rattle.rekey_work.specs.Works.{IsWork}
use Rattle.row_keys.proofs.Whole.{HoldOneKey}
use Rattle.row_keys.specs.Lookups.{record_named}

same_updated : (a b : State) → Updated a ≡ Updated b → a ≡ b
same_updated a b e = cc

-- a move that is made leads to this state
updated_is : (large late : Bool) (x y : Refusal) (made after : State)
    → (if large then Refused x else if late then Refused y else Updated made) ≡ Updated after → made ≡ after
updated_is true late x y made after e = absurd cc
updated_is false true x y made after e = absurd cc
updated_is false false x y made after e = same_updated made after e

moved_is : (s : State) (at : At) (q : PlainPrinc) (after : State) → model.moved s at q ≡ Updated after
    → with_point (point_after s at.clock at.due) (put_princ q s) ≡ after
unfolding model.moved
moved_is s at q after e =
    updated_is (nat_lt longest_row (len_in s q))
    (at.due && is_last s.point.time) (RecordTooLarge (in_64_bits (len_in s q))) TimeEnd
    (with_point (point_after s at.clock at.due) (put_princ q s)) after e

-- what is stored, and the state behind it
record IsStoredAs (work : Work) (r : Rekeyed) (after : State) (made : Princ) : Type 0 where
  made_is : made ≡ work.made
  rekeyed : r ≡ Updated after

same_stored_state : (a b : State) (p q : Princ) → Stored a p ≡ Stored b q → a ≡ b
same_stored_state a b p q e = cc

same_stored_record : (a b : State) (p q : Princ) → Stored a p ≡ Stored b q → p ≡ q
same_stored_record a b p q e = cc

stored_by : (work : Work) (r : Rekeyed) (after : State) (made : Princ) → settled_by work.made r ≡ Stored after made
    → IsStoredAs work r after made
unfolding settled_by
stored_by work (Updated state) after made e = record {
  made_is = sym (same_stored_record state after work.made made e);
  rekeyed = ap Updated (same_stored_state state after work.made made e);
}
stored_by work Already after made e = absurd cc
stored_by work Gone after made e = absurd cc
stored_by work (Refused why) after made e = absurd cc

abbrev Next : Opened → Moment → Work → State → Princ → Type 0
Next o clock work after made = (made ≡ work.made)
    × IsLeft (place_of o).realm (entry_point clock (PutPrinc made) (place_of o)) (PutPrinc made) (place_of o).rows after

module _ (laws : RowLaws) (one : HoldOneKey) (own : AreOneBySpelling) (o : Opened) (s : State) (has : HasState o s)
    (rows : AreRows o.kept.rows) (clock : Moment) (moment : IsMoment clock)
    (w : Work) (work : IsWork w) (name : NameParts) (named : printed name ≡ w.taken.princ.name) where
  abbrev due : Bool
  due = is_due (PutPrinc w.made) (place_of o)

  module _ (stored : Princ) (there : record_named w.taken.princ.name o.kept.rows.princs ≡ Some stored)
      (yes_ : may_settle s.masters (active_at s (at_clock clock due)) stored w.taken ≡ true) where
    unchanged : IsSame s.masters (active_at s (at_clock clock due)) stored w.taken
    unchanged =
        is_same own s.masters (active_at s (at_clock clock due)) stored w.taken
        (row_fits w.taken.princ.name o.kept.rows stored rows there) work.taken.spelled yes_

    stands : record_named w.taken.princ.name o.kept.rows.princs ≡ Some w.taken.princ
    stands = there ∙ ap Some unchanged.record_is

    in_place : IsInPlace o w.taken.princ.name w.made
    in_place = work_in_place o w work stands

    moves : IsMoving o s w.taken.princ.name clock w.made
    moves = work_moves one o s has clock w work stands unchanged.active_is unchanged.old_is unchanged.fresh_is

    leads : (after_it : State) (made : Princ) → IsStoredAs w (rekey s name (at_clock clock due)) after_it made
        → Next o clock w after_it made
    leads after_it made st =
        let moved : model.moved s (at_clock clock due) (under_version moves.version moves.plain) ≡ Updated after_it =
        sym (rekey_is laws o s has w.taken.princ.name clock w.made moment moves in_place name due named)
        ∙ st.rekeyed in (
          st.made_is,
          subst (λ (p : Princ). IsLeft (place_of o).realm (entry_point clock (PutPrinc p) (place_of o)) (PutPrinc p)
              (place_of o).rows after_it) (sym st.made_is)
              (subst (λ (x : State). IsLeft (place_of o).realm (entry_point clock (PutPrinc w.made) (place_of o))
              (PutPrinc w.made) (place_of o).rows x)
              (moved_is s (at_clock clock due) (under_version moves.version moves.plain) after_it moved)
              (left_after laws o s has w.taken.princ.name clock w.made moment moves in_place due refl)),
        )

  next_of : (stored : Option Princ) (after_it : State) (made : Princ)
      → record_named w.taken.princ.name o.kept.rows.princs ≡ stored
      → settle s name (at_clock clock due) stored w ≡ Stored after_it made
      → Next o clock w after_it made
  unfolding settle
  next_of None after_it made there e = absurd cc
  next_of (Some stored) after_it made there e =
      by (may_settle s.masters (active_at s (at_clock clock due)) stored w.taken) refl e
    where
      by : (test : Bool) → may_settle s.masters (active_at s (at_clock clock due)) stored w.taken ≡ test
          → (if test then settled_by w.made (rekey s name (at_clock clock due))
          else model.Changed (other_record stored w.taken) (other_version (active_at s (at_clock clock due)) w.taken))
          ≡ Stored after_it made
          → Next o clock w after_it made
      by true yes_ is =
          leads stored there yes_ after_it made (stored_by w (rekey s name (at_clock clock due)) after_it made is)
      by false no_ is = absurd cc

  pub next_state : (after_it : State) (made : Princ)
      → settle s name (at_clock clock due) (record_named (printed name) o.kept.rows.princs) w ≡ Stored after_it made
      → Next o clock w after_it made
  next_state after_it made e =
      next_of (record_named w.taken.princ.name o.kept.rows.princs) after_it made refl
      (ap (λ (n : List ℕ). settle s name (at_clock clock due) (record_named n o.kept.rows.princs) w) (sym named) ∙ e)
