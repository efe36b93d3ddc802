-- A version serves where it has one of the four causes.
use Rattle.std.proofs.Common.{◌≡◌, ◌≢◌, ◌↔◌, ℕ, suc, ◌<◌, Bool, true, false, List, [], ◌∷◌, length}
use Rattle.std.proofs.Common.{Option, Some, None, refl, ap, ◌∙◌, ◌⊎◌, inl, inr, eqb-true, eq-eqb, arith}
use Rattle.std.specs.Prelude.{◌||◌, filter, is_some, nat_eq, nat_lt, not, if◌then◌else◌}
use Rattle.std.specs.List.{Any, list_any}
use Rattle.std.specs.Str.{bytes_eq}
use Rattle.std.proofs.lemmas.Bool.{and_from, and_parts, ltb-true, lt-ltb}
use Rattle.std.proofs.lemmas.List.Folds.{Any-from_list_any, list_any-from_Any}
use Rattle.kdb_base.specs.declared.versions.Activation.{Activation}
use Rattle.key_activation.specs.Activations.{active}
use Rattle.master_keys.specs.First.{master_name}
use Rattle.master_keys.specs.Versions.{last_version}
use Rattle.princ_rows.specs.EntryLaws.{same_bytes, bytes_same}
use Rattle.serving_versions.specs.Versions.{HasActivationAfter, HasCause, HasPrincipal, becomes_active}
use Rattle.serving_versions.specs.Versions.{cause_from, cause_of, is_active_at, is_pending, is_under}
use Rattle.serving_versions.specs.Versions.{is_version_of, protected_by, serves}
use Rattle.kdb_plain.specs.declared.princs.PlainPrinc.{PlainPrinc}
use Rattle.kdb_plain.specs.declared.states.State.{State}

truth : (b : Bool) → (b ≡ true) ⊎ (b ≡ false)
truth true = inl refl
truth false = inr refl

or_first : (a b : Bool) → a ≡ true → (a || b) ≡ true
or_first true b e = refl
or_first false b e = absurd cc

or_second : (a b : Bool) → b ≡ true → (a || b) ≡ true
or_second true b e = refl
or_second false b e = e

or_other : (a b : Bool) → (a || b) ≡ true → a ≡ false → b ≡ true
or_other true b e different = absurd cc
or_other false b e different = e

not_true : (b : Bool) → not b ≡ true → b ≡ false
not_true true e = absurd cc
not_true false e = refl

not_false : (b : Bool) → b ≡ false → not b ≡ true
not_false true e = absurd cc
not_false false e = refl

-- ---- some item passes a test

module _ {A : Type 0} where
  some_passes : (p : A → Bool) (xs : List A) → 0 < length (filter p xs) → list_any p xs ≡ true
  some_passes p [] lt = absurd (omega arith)
  some_passes p (x ∷ xs) lt =
      elim (truth (p x)) [
        | inl e ↦ or_first (p x) (list_any p xs) e
        | inr e ↦
            let same : length (filter p (x ∷ xs)) ≡ length (filter p xs) = rw e refl in
            or_second (p x) (list_any p xs) (some_passes p xs (omega arith))
      ]

  passes_some : (p : A → Bool) (xs : List A) → list_any p xs ≡ true → 0 < length (filter p xs)
  passes_some p [] e = absurd cc
  passes_some p (x ∷ xs) e =
      elim (truth (p x)) [
        | inl here ↦ let more : length (filter p (x ∷ xs)) ≡ suc (length (filter p xs)) = rw here refl in omega arith
        | inr other ↦
            let same : length (filter p (x ∷ xs)) ≡ length (filter p xs) = rw other refl in
            let rest = passes_some p xs (or_other (p x) (list_any p xs) e other) in
            omega arith
      ]

  any_to : (F G : A → Type 0) → ((x : A) → F x → G x) → (xs : List A) → Any F xs → Any G xs
  any_to F G to xs a = (a.0, a.1, a.2, a.3, to a.1 a.4)

-- ---- each cause

name_differs : (a b : List ℕ) → bytes_eq a b ≡ false → a ≢ b
name_differs a b different e = let same = bytes_same a b e in absurd cc

differs_name : (a b : List ℕ) → a ≢ b → bytes_eq a b ≡ false
differs_name a b different =
    elim (truth (bytes_eq a b)) [
      | inl same ↦ absurd (different (same_bytes a b same))
      | inr other ↦ other
    ]

module _ (s : State) (version : ℕ) where
  abbrev Under : PlainPrinc → Type 0
  Under q = (q.mkvno ≡ version) × (q.name ≢ master_name s.realm)

  under_from : (q : PlainPrinc) → is_under s.realm version q ≡ true → Under q
  under_from q e =
      let parts = and_parts (nat_eq q.mkvno version) (not (bytes_eq q.name (master_name s.realm))) e in (
        eqb-true q.mkvno version parts.0,
        name_differs q.name (master_name s.realm) (not_true (bytes_eq q.name (master_name s.realm)) parts.1),
      )

  from_under : (q : PlainPrinc) → Under q → is_under s.realm version q ≡ true
  from_under q h =
      and_from (nat_eq q.mkvno version) (not (bytes_eq q.name (master_name s.realm))) (eq-eqb q.mkvno version h.0)
      (not_false (bytes_eq q.name (master_name s.realm)) (differs_name q.name (master_name s.realm) h.1))

  protects_from : nat_lt 0 (protected_by s.realm s.princs version) ≡ true → HasPrincipal s version
  unfolding protected_by
  protects_from e =
      let test = is_under s.realm version in
      any_to (λ q. test q ≡ true) Under under_from s.princs
      (Any-from_list_any test s.princs (some_passes test s.princs (ltb-true 0 (length (filter test s.princs)) e)))

  from_protects : HasPrincipal s version → nat_lt 0 (protected_by s.realm s.princs version) ≡ true
  unfolding protected_by
  from_protects h =
      let test = is_under s.realm version in
      lt-ltb 0 (length (filter test s.princs))
      (passes_some test s.princs
      (list_any-from_Any test s.princs (any_to Under (λ q. test q ≡ true) from_under s.princs h)))

version_from : (version : ℕ) (o : Option ℕ) → is_version_of version o ≡ true → o ≡ Some version
version_from version None e = absurd cc
version_from version (Some a) e = ap Some (eqb-true a version e)

from_version : (version : ℕ) (o : Option ℕ) → o ≡ Some version → is_version_of version o ≡ true
from_version version o e = ap (is_version_of version) e ∙ eq-eqb version version refl

module _ (s : State) (secs version : ℕ) where
  abbrev Later : Activation → Type 0
  Later a = (a.version ≡ version) × (secs < a.secs)

  later_from : (a : Activation) → becomes_active secs version a ≡ true → Later a
  later_from a e =
      let parts = and_parts (nat_eq a.version version) (nat_lt secs a.secs) e in
      (eqb-true a.version version parts.0, ltb-true secs a.secs parts.1)

  from_later : (a : Activation) → Later a → becomes_active secs version a ≡ true
  from_later a h =
      and_from (nat_eq a.version version) (nat_lt secs a.secs) (eq-eqb a.version version h.0) (lt-ltb secs a.secs h.1)

  pending_from : is_pending s.activations secs version ≡ true → HasActivationAfter s secs version
  unfolding is_pending
  pending_from e =
      let test = becomes_active secs version in
      any_to (λ a. test a ≡ true) Later later_from s.activations (Any-from_list_any test s.activations e)

  from_pending : HasActivationAfter s secs version → is_pending s.activations secs version ≡ true
  unfolding is_pending
  from_pending h =
      let test = becomes_active secs version in
      list_any-from_Any test s.activations (any_to Later (λ a. test a ≡ true) from_later s.activations h)

-- ---- the first of four

abbrev OneOf : Bool → Bool → Bool → Bool → Type 0
OneOf a b c d = (a ≡ true) ⊎ ((b ≡ true) ⊎ ((c ≡ true) ⊎ (d ≡ true)))

abbrev first_of : {A : Type 0} → Bool → Bool → Bool → Bool → A → A → A → A → Option A
first_of a b c d w x y z = if a then Some w else if b then Some x else if c then Some y else if d then Some z else None

one_of : {A : Type 0} (a b c d : Bool) (w x y z : A) → is_some (first_of a b c d w x y z) ≡ true → OneOf a b c d
one_of true b c d w x y z e = inl refl
one_of false true c d w x y z e = inr (inl refl)
one_of false false true d w x y z e = inr (inr (inl refl))
one_of false false false true w x y z e = inr (inr (inr refl))
one_of false false false false w x y z e = absurd cc

first_there : {A : Type 0} (a b c d : Bool) (w x y z : A) → (a ≡ false → b ≡ false → c ≡ false → d ≡ true)
    → is_some (first_of a b c d w x y z) ≡ true
first_there true b c d w x y z h = refl
first_there false true c d w x y z h = refl
first_there false false true d w x y z h = refl
first_there false false false true w x y z h = refl
first_there false false false false w x y z h = let wrong = h refl refl refl in absurd cc

some_there : {A : Type 0} (a b c d : Bool) (w x y z : A) → OneOf a b c d → is_some (first_of a b c d w x y z) ≡ true
some_there a b c d w x y z (inl e) = first_there a b c d w x y z (λ na _ _. absurd cc)
some_there a b c d w x y z (inr (inl e)) = first_there a b c d w x y z (λ _ nb _. absurd cc)
some_there a b c d w x y z (inr (inr (inl e))) = first_there a b c d w x y z (λ _ _ nc. absurd cc)
some_there a b c d w x y z (inr (inr (inr e))) = first_there a b c d w x y z (λ _ _ _. e)

module _ (s : State) (secs version : ℕ) where
  abbrev Tests : Type 0
  Tests = OneOf (nat_lt 0 (protected_by s.realm s.princs version)) (is_active_at s.activations secs version)
      (nat_eq version (last_version s.masters)) (is_pending s.activations secs version)

  causes_from : Tests → HasCause s secs version
  causes_from (inl e) = inl (protects_from s version e)
  causes_from (inr (inl e)) = inr (inl (version_from version (active s.activations secs) e))
  causes_from (inr (inr (inl e))) = inr (inr (inl (eqb-true version (last_version s.masters) e)))
  causes_from (inr (inr (inr e))) = inr (inr (inr (pending_from s secs version e)))

  from_causes : HasCause s secs version → Tests
  from_causes (inl h) = inl (from_protects s version h)
  from_causes (inr (inl h)) = inr (inl (from_version version (active s.activations secs) h))
  from_causes (inr (inr (inl h))) = inr (inr (inl (eq-eqb version (last_version s.masters) h)))
  from_causes (inr (inr (inr h))) = inr (inr (inr (from_pending s secs version h)))

  pub serves_where : (serves s secs version ≡ true) ↔ HasCause s secs version
  unfolding cause_of cause_from
  serves_where = (
    λ e. causes_from (one_of _ _ _ _ _ _ _ _ e),
    λ h. some_there _ _ _ _ _ _ _ _ (from_causes h),
  )
