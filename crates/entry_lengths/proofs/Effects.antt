-- A rekeying that is made has the effect of the change that is told of the state.
use Rattle.std.proofs.Common.{◌≡◌, ℕ, Bool, true, false, ◌&&◌, Option, Some, None, ap}
use Rattle.std.specs.Prelude.{if◌then◌else◌, nat_eq, nat_lt, option_and_then, option_map}
use Rattle.entry_lengths.specs.Rekeyings.{rekeyed_in}
use Rattle.kdb_base.specs.Limits.{longest_row}
use Rattle.kdb_base.specs.Moment.{Moment}
use Rattle.kdb_base.specs.declared.outcomes.Refusal.{Refusal}
use Rattle.kdb_base.specs.declared.outcomes.Refusal.TheVariants.{RecordTooLarge, TimeEnd}
use Rattle.kdb_histories.specs.Asks.{at_clock}
use Rattle.kdb_model.specs.Calls.{is_last, point_after}
use Rattle.kdb_model.specs.Refusals.{len_in}
use Rattle.kdb_model.specs.Rekeying.{Already, Refused, Updated, active_at, moved}
use Rattle.kdb_model.specs.Rekeying.{rekey, rekey_found, rekey_to, under_version}
use Rattle.kdb_model.specs.Steps.{with_point}
use Rattle.kdb_plain.specs.Changes.{effect_on}
use Rattle.kdb_plain.specs.Lengths.{in_64_bits}
use Rattle.kdb_plain.specs.States.{princ_named}
use Rattle.kdb_plain.specs.declared.changes.PlainOp.{PlainOp}
use Rattle.kdb_plain.specs.declared.changes.PlainOp.TheVariants.{PutPrinc}
use Rattle.kdb_plain.specs.declared.princs.PlainPrinc.{PlainPrinc}
use Rattle.kdb_plain.specs.declared.states.State.{State}
use Rattle.princ_name.specs.Names.{NameParts, printed}

updated_same : (a b : State) → Updated a ≡ Updated b → a ≡ b
updated_same a b e = cc

by_tests : (large late : Bool) (x y : Refusal) (made after : State)
    → (if large then Refused x else if late then Refused y else Updated made) ≡ Updated after → made ≡ after
by_tests true late x y made after e = absurd cc
by_tests false true x y made after e = absurd cc
by_tests false false x y made after e = updated_same made after e

module _ (s after : State) (clock : Moment) (due : Bool) where
  abbrev behind : PlainOp → State
  behind plain = with_point (point_after s clock due) (effect_on plain s)

  by_version : (version : ℕ) (q : PlainPrinc) (same : Bool)
      → (if same then Already else moved s (at_clock clock due) (under_version version q)) ≡ Updated after
      → behind (PutPrinc (under_version version q)) ≡ after
  unfolding moved effect_on
  by_version version q true e = absurd cc
  by_version version q false e =
      let moves = under_version version q in
      by_tests (nat_lt longest_row (len_in s moves)) (due && is_last s.point.time)
      (RecordTooLarge (in_64_bits (len_in s moves))) TimeEnd (behind (PutPrinc moves)) after e

  by_active : (q : PlainPrinc) (active : Option ℕ) → rekey_to s (at_clock clock due) active q ≡ Updated after
      → option_map behind (option_and_then (λ (version : ℕ). Some (PutPrinc (under_version version q))) active)
      ≡ Some after
  unfolding rekey_to
  by_active q None e = absurd cc
  by_active q (Some version) e = ap Some (by_version version q (nat_eq q.mkvno version) e)

  by_found : (plain : Option PlainPrinc) → rekey_found s (at_clock clock due) plain ≡ Updated after
      → option_map behind
      (option_and_then (λ (version : ℕ). option_map (λ (q : PlainPrinc). PutPrinc (under_version version q)) plain)
      (active_at s (at_clock clock false))) ≡ Some after
  by_found None e = absurd cc
  by_found (Some q) e = by_active q (active_at s (at_clock clock false)) e

  pub rekeyed_takes_effect : (name : NameParts) → rekey s name (at_clock clock due) ≡ Updated after
      → option_map behind (rekeyed_in s name clock) ≡ Some after
  unfolding rekey rekeyed_in
  rekeyed_takes_effect name e = by_found (princ_named (printed name) s.princs) e
