-- What is known where a command is not refused, and what it changes.
use Rattle.std.proofs.Common.{◌≡◌, ◌≢◌, ℕ, ◌+◌, Bool, true, false, ◌&&◌, ◌||◌, List, [], ◌∷◌}
use Rattle.std.proofs.Common.{length, Option, Some, None, refl, sym, ap, subst, ◌∙◌, ◌⊎◌, inl, inr}
use Rattle.std.specs.Prelude.{is_none, is_some, nat_le, option_map, option_and_then}
use Rattle.std.specs.List.{list_any}
use Rattle.std.specs.Str.{bytes_eq}
use Rattle.kadm_commands.specs.declared.commands.Command.{Command}
use Rattle.kdb_base.specs.Limits.{most_rows}
use Rattle.kdb_base.specs.declared.outcomes.Refusal.{Refusal}
use Rattle.kdb_model.specs.Calls.{Call}
use Rattle.kdb_model.specs.Refusals.{adds_row, causes_with, denied, duplicate, few_classes, first, has_last_kvno}
use Rattle.kdb_model.specs.Refusals.{is_protected, keys_full, lacks_policy, locked_down, new_keys, no_active_master}
use Rattle.kdb_model.specs.Refusals.{pass_reused, policy_in_use, protected, puts_many_keys, rows_full, strings_full}
use Rattle.kdb_model.specs.Refusals.{target, too_large, too_many_masters, too_short, too_soon, touched}
use Rattle.kdb_model.specs.Refusals.{unknown_master, unknown_policy, unknown_principal, unknown_string, when}
use Rattle.kdb_plain.specs.Changes.{IsOrdinary}
use Rattle.kdb_plain.specs.States.{history_name}
use Rattle.kdb_plain.specs.declared.changes.PlainOp.{PlainOp}
use Rattle.kdb_plain.specs.declared.states.State.{State}
use Rattle.master_keys.specs.First.{master_name}
use Rattle.princ_name.specs.Names.{NameParts, printed}
use Rattle.princ_rows.specs.EntryLaws.{bytes_same}

first_none : (o : Option Refusal) (os : List (Option Refusal)) → first (o ∷ os) ≡ None → (o ≡ None) × (first os ≡ None)
unfolding first
first_none None os e = (refl, e)
first_none (Some r) os e = absurd cc

pub when_none : (b : Bool) (r : Refusal) → when b r ≡ None → b ≡ false
when_none true r e = absurd cc
when_none false r e = refl

-- what the command is not refused for
pub record IsAccepted (s : State) (call : Call) (command : Command) (change : Option PlainOp) : Type 0 where
  pub known : unknown_master s command ≡ None
  pub unprotected : list_any (is_protected s.realm) (touched command) ≡ false
  pub policy : lacks_policy s change command ≡ false
  pub unused : policy_in_use s command ≡ None
  pub kvnos : (has_last_kvno command (target s command) || (is_some (new_keys command) && puts_many_keys change))
      ≡ false
  pub masters : too_many_masters s command ≡ None
  pub active : no_active_master s call command ≡ None
  pub room : (adds_row command && nat_le most_rows (length s.princs + length s.policies)) ≡ false

pub accepted : (s : State) (call : Call) (change : Option PlainOp) → first (causes_with s call change) ≡ None
    → IsAccepted s call call.command change
unfolding causes_with
accepted s call change e =
    let c1 = first_none (unknown_master s call.command) _ e in
    let c2 = first_none (denied s call) _ c1.1 in
    let c3 = first_none (protected s call.command) _ c2.1 in
    let c4 = first_none (duplicate s call.command) _ c3.1 in
    let c5 = first_none (unknown_principal s call.command) _ c4.1 in
    let c6 = first_none (locked_down s call change) _ c5.1 in
    let c7 = first_none (unknown_policy s change call.command) _ c6.1 in
    let c8 = first_none (policy_in_use s call.command) _ c7.1 in
    let c9 = first_none (too_short s call) _ c8.1 in
    let c10 = first_none (few_classes s call) _ c9.1 in
    let c11 = first_none (pass_reused s call) _ c10.1 in
    let c12 = first_none (too_soon s call) _ c11.1 in
    let c13 = first_none (keys_full s change call.command) _ c12.1 in
    let c14 = first_none (unknown_string s call.command) _ c13.1 in
    let c15 = first_none (strings_full s call.command) _ c14.1 in
    let c16 = first_none (too_many_masters s call.command) _ c15.1 in
    let c17 = first_none (no_active_master s call call.command) _ c16.1 in
    let c18 = first_none (rows_full s call.command) _ c17.1 in
    record {
      known = c1.0;
      unprotected = when_none (list_any (is_protected s.realm) (touched call.command)) _ c3.0;
      policy = when_none (lacks_policy s change call.command) _ c7.0;
      unused = c8.0;
      kvnos = when_none (has_last_kvno call.command (target s call.command)
          || (is_some (new_keys call.command) && puts_many_keys change)) _ c13.0;
      masters = c16.0;
      active = c17.0;
      room = when_none (adds_row call.command && nat_le most_rows (length s.princs + length s.policies)) _ c18.0;
    }

-- ---- names

pub or_false : (a b : Bool) → (a || b) ≡ false → (a ≡ false) × (b ≡ false)
or_false true b e = absurd cc
or_false false b e = (refl, e)

differ : (a b : List ℕ) → bytes_eq a b ≡ false → a ≢ b
differ a b different e = let same = bytes_same a b e in absurd cc

pub not_own : (realm : List ℕ) (name : NameParts) → is_protected realm name ≡ false → IsOrdinary realm (printed name)
unfolding is_protected
not_own realm name e =
    let parts =
    or_false (bytes_eq (printed name) (master_name realm)) (bytes_eq (printed name) (history_name realm)) e in
    record {
      other_than_master = differ (printed name) (master_name realm) parts.0;
      other_than_history = differ (printed name) (history_name realm) parts.1;
    }

pub one_name : (realm : List ℕ) (name : NameParts) → list_any (is_protected realm) (name ∷ []) ≡ false
    → is_protected realm name ≡ false
one_name realm name e = (or_false (is_protected realm name) false e).0

pub two_names : (realm : List ℕ) (a b : NameParts) → list_any (is_protected realm) (a ∷ b ∷ []) ≡ false
    → (is_protected realm a ≡ false) × (is_protected realm b ≡ false)
two_names realm a b e =
    let parts = or_false (is_protected realm a) (list_any (is_protected realm) (b ∷ [])) e in
    (parts.0, one_name realm b parts.1)

-- ---- what is mapped

same_some : {A : Type 0} (x y : A) → ◌≡◌ {A = Option A} (Some x) (Some y) → x ≡ y
same_some x y e = cc

pub mapped : {A B : Type 0} (g : A → B) (o : Option A) (y : B) → option_map g o ≡ Some y
    → (x : A) × ((o ≡ Some x) × (g x ≡ y))
mapped g None y e = absurd cc
mapped g (Some x) y e = (x, (refl, same_some (g x) y e))

pub chained : {A B : Type 0} (g : A → Option B) (o : Option A) (y : B) → option_and_then g o ≡ Some y
    → (x : A) × ((o ≡ Some x) × (g x ≡ Some y))
chained g None y e = absurd cc
chained g (Some x) y e = (x, (refl, e))
