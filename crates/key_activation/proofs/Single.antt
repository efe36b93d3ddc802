-- The activation of one version, where a list changes, and what it says of the whole list.
use Rattle.std.proofs.Common.{◌≡◌, ◌≢◌, ℕ, ◌<◌, ◌≤◌, Bool, true, false, eqb, ltb, List, [], ◌∷◌, ◌++◌, map}
use Rattle.std.proofs.Common.{Option, Some, None, refl, sym, ap, ◌∙◌, arith, inl, inr, eq-eqb, Result, Ok, Err}
use Rattle.std.specs.Prelude.{filter, not, option_map, OnOk}
use Rattle.std.specs.List.{find}
use Rattle.std.specs.Option.{option_or}
use Rattle.std.proofs.lemmas.Bool.{cases_eq, cases_lt, ne_eqb, eqb-true, lt-ltb, le-ltb}
use Rattle.std.proofs.lemmas.List.Folds.{find-append}
use Rattle.std.proofs.lemmas.List.Elements.{All-append, All-cons, All-filter}
use Rattle.std.proofs.lemmas.Option.{same_Some, none-some}
use Rattle.kdb_base.specs.Versions.{AreRising}
use Rattle.kdb_base.specs.declared.outcomes.MemoryOut.{MemoryOut}
use Rattle.kdb_base.specs.declared.versions.Activation.{Activation}
use Rattle.key_activation.specs.Activations.{AreNumbered, activation_of, with_activation, without_activation}
use Rattle.key_activation.proofs.Latest.{truth}
use Rattle.key_activation.proofs.Order.{version_of, AreAbove, Rises, rises, farther}

abbrev is_of : ℕ → Activation → Bool
is_of v a = eqb a.version v

-- ---- a filter

find_kept : (p q : Activation → Bool) → ((a : Activation) → p a ≡ true → q a ≡ true) → (xs : List Activation)
    → find p (filter q xs) ≡ find p xs
find_kept p q to [] = refl
find_kept p q to (x ∷ xs) =
    elim (truth (q x)) [
      | inl passes ↦ rw (passes, find_kept p q to xs) refl
      | inr fails ↦
          elim (truth (p x)) [
            | inl is ↦ let passes = to x is in absurd cc
            | inr other ↦ rw (fails, other) (find_kept p q to xs)
          ]
    ]

find_lost : (p q : Activation → Bool) → ((a : Activation) → p a ≡ true → q a ≡ false) → (xs : List Activation)
    → find p (filter q xs) ≡ None
find_lost p q to [] = refl
find_lost p q to (x ∷ xs) =
    elim (truth (q x)) [
      | inl passes ↦
          elim (truth (p x)) [
            | inl is ↦ let fails = to x is in absurd cc
            | inr other ↦ rw (passes, other) (find_lost p q to xs)
          ]
      | inr fails ↦ rw fails (find_lost p q to xs)
    ]

-- ---- dropped

pub without_gone : (version : ℕ) (xs : List Activation) → activation_of version (without_activation version xs) ≡ None
unfolding activation_of without_activation
without_gone version xs =
    let lost = find_lost (is_of version) (λ (a : Activation). not (eqb a.version version)) (λ a e. ap not e) xs in
    ap (option_map (λ (a : Activation). a.secs)) lost

pub without_others : (version : ℕ) (xs : List Activation) (v : ℕ) → v ≢ version
    → activation_of v (without_activation version xs) ≡ activation_of v xs
unfolding activation_of without_activation
without_others version xs v other =
    let kept = find_kept (is_of v) (λ (a : Activation). not (eqb a.version version))
    (λ a e. ap not (ne_eqb a.version version (λ is. other (sym (eqb-true a.version v e) ∙ is)))) xs in
    ap (option_map (λ (a : Activation). a.secs)) kept

-- ---- put

first_of : (version secs : ℕ) (ys : List Activation) → find (is_of version)
    (record { version = version; secs = secs } ∷ ys) ≡ Some (record { version = version; secs = secs })
first_of version secs ys = let yes = eq-eqb version version refl in rw yes refl

skips : (version secs v : ℕ) (ys : List Activation) → v ≢ version
    → find (is_of v) (record { version = version; secs = secs } ∷ ys) ≡ find (is_of v) ys
skips version secs v ys other = let no = ne_eqb version v (λ is. other (sym is)) in rw no refl

or_none : (o : Option Activation) → option_or o None ≡ o
or_none None = refl
or_none (Some a) = refl

pub with_own : (version secs : ℕ) (xs : List Activation)
    → activation_of version (with_activation version secs xs) ≡ Some secs
unfolding activation_of with_activation
with_own version secs xs =
    let low : Activation → Bool = λ (a : Activation). ltb a.version version in
    let rest = filter (λ (a : Activation). ltb version a.version) xs in
    let lost = find_lost (is_of version) low
    (λ a e. let is = eqb-true a.version version e in le-ltb a.version version (omega arith)) xs in
    let own = first_of version secs rest in
    let parts = find-append (is_of version) (filter low xs) (record { version = version; secs = secs } ∷ rest) in
    let found : find (is_of version) (filter low xs ++ record { version = version; secs = secs } ∷ rest)
    ≡ Some (record { version = version; secs = secs }) = parts ∙ rw (lost, own) refl in
    ap (option_map (λ (a : Activation). a.secs)) found

with_find : (version secs : ℕ) (xs : List Activation) (v : ℕ) → v ≢ version
    → find (is_of v) (filter (λ a. ltb a.version version) xs ++ record { version = version; secs = secs }
    ∷ filter (λ a. ltb version a.version) xs) ≡ find (is_of v) xs
with_find version secs xs v other =
    let low : Activation → Bool = λ (a : Activation). ltb a.version version in
    let high : Activation → Bool = λ (a : Activation). ltb version a.version in
    let parts = find-append (is_of v) (filter low xs) (record { version = version; secs = secs } ∷ filter high xs) in
    let over = skips version secs v (filter high xs) other in
    elim (cases_lt v version) [
      | inl below ↦
          let kept = find_kept (is_of v) low
          (λ a e. let is = eqb-true a.version v e in lt-ltb a.version version (omega arith)) xs in
          let lost = find_lost (is_of v) high
          (λ a e. let is = eqb-true a.version v e in le-ltb version a.version (omega arith)) xs in
          parts ∙ rw (over, lost, kept) (or_none (find (is_of v) xs))
      | inr from ↦
          elim (cases_eq v version) [
            | inl same ↦ absurd (other same)
            | inr _ ↦
                let lost = find_lost (is_of v) low
                (λ a e. let is = eqb-true a.version v e in le-ltb a.version version (omega arith)) xs in
                let kept = find_kept (is_of v) high
                (λ a e. let is = eqb-true a.version v e in lt-ltb version a.version (omega arith)) xs in
                parts ∙ rw (over, lost, kept) refl
          ]
    ]

pub with_others : (version secs : ℕ) (xs : List Activation) (v : ℕ) → v ≢ version
    → activation_of v (with_activation version secs xs) ≡ activation_of v xs
unfolding activation_of with_activation
with_others version secs xs v other = ap (option_map (λ (a : Activation). a.secs)) (with_find version secs xs v other)

-- ---- a list is told by the activation of each version

at_head : (x : Activation) (xs : List Activation) → activation_of x.version (x ∷ xs) ≡ Some x.secs
unfolding activation_of
at_head x xs = let yes = eq-eqb x.version x.version refl in rw yes refl

past_head : (v : ℕ) (x : Activation) (xs : List Activation) → v ≢ x.version
    → activation_of v (x ∷ xs) ≡ activation_of v xs
unfolding activation_of
past_head v x xs other = let no = ne_eqb x.version v (λ is. other (sym is)) in rw no refl

absent : (v : ℕ) (xs : List Activation) → AreAbove v xs → activation_of v xs ≡ None
unfolding activation_of
absent v [] h = refl
absent v (x ∷ xs) h = let lt = h.0 in let no =
    ne_eqb x.version v (λ is. absurd (omega arith)) in rw no (absent v xs h.1)

before_head : (v : ℕ) (x : Activation) (xs : List Activation) → v < x.version → Rises (x ∷ xs)
    → activation_of v (x ∷ xs) ≡ None
before_head v x xs lt h = absent v (x ∷ xs) (lt, farther v x.version xs (omega arith) h.0)

same_activation : (x y : Activation) → x.version ≡ y.version → x.secs ≡ y.secs → x ≡ y
same_activation x y v s =
    let made : ℕ → ℕ → Activation = λ (n : ℕ) (k : ℕ). record { version = n; secs = k } in
    ap (λ (n : ℕ). made n x.secs) v ∙ ap (λ (k : ℕ). made y.version k) s

abbrev Agree : List Activation → List Activation → Type 0
Agree xs ys = (v : ℕ) → activation_of v xs ≡ activation_of v ys

one_only : (x : Activation) (xs : List Activation) → Agree (x ∷ xs) [] → ⊥
unfolding activation_of
one_only x xs agree = none-some x.secs (sym (agree x.version) ∙ at_head x xs)

not_lower : (x y : Activation) (xs ys : List Activation) → Rises (y ∷ ys) → Agree (x ∷ xs) (y ∷ ys)
    → x.version < y.version → ⊥
not_lower x y xs ys h agree lt =
    none-some x.secs (sym (before_head x.version y ys lt h) ∙ sym (agree x.version) ∙ at_head x xs)

same_version : (x y : Activation) (xs ys : List Activation) → Rises (x ∷ xs) → Rises (y ∷ ys) → Agree (x ∷ xs) (y ∷ ys)
    → x.version ≡ y.version
same_version x y xs ys f g agree =
    elim (cases_lt x.version y.version) [
      | inl lt ↦ absurd (not_lower x y xs ys g agree lt)
      | inr from ↦
          elim (cases_lt y.version x.version) [
            | inl lt ↦ absurd (not_lower y x ys xs f (λ v. sym (agree v)) lt)
            | inr to ↦ omega arith
          ]
    ]

behind_heads : (x y : Activation) (xs ys : List Activation) → Rises (x ∷ xs) → Rises (y ∷ ys) → x.version ≡ y.version
    → Agree (x ∷ xs) (y ∷ ys) → Agree xs ys
behind_heads x y xs ys f g same agree v =
    elim (cases_eq v x.version) [
      | inl is ↦
          let gone_left = absent v xs (farther v x.version xs (omega arith) f.0) in
          let gone_right = absent v ys (farther v y.version ys (omega arith) g.0) in
          gone_left ∙ sym gone_right
      | inr other ↦ sym (past_head v x xs other) ∙ agree v ∙ past_head v y ys (λ is. other (is ∙ sym same))
    ]

same_list : (xs ys : List Activation) → Rises xs → Rises ys → Agree xs ys → xs ≡ ys
same_list [] [] f g agree = refl
same_list [] (y ∷ ys) f g agree = absurd (one_only y ys (λ v. sym (agree v)))
same_list (x ∷ xs) [] f g agree = absurd (one_only x xs agree)
same_list (x ∷ xs) (y ∷ ys) f g agree =
    let v = same_version x y xs ys f g agree in
    let s : Some x.secs ≡ Some y.secs =
    sym (at_head x xs) ∙ agree x.version ∙ ap (λ (n : ℕ). activation_of n (y ∷ ys)) v ∙ at_head y ys in
    let one = same_activation x y v (same_Some x.secs y.secs s) in
    let others = same_list xs ys f.1 g.1 (behind_heads x y xs ys f g v agree) in
    ap (λ (z : Activation). z ∷ xs) one ∙ ap (λ (zs : List Activation). y ∷ zs) others

pub told_by_versions : (xs ys : List Activation) → AreRising (map version_of xs) → AreRising (map version_of ys)
    → ((v : ℕ) → activation_of v xs ≡ activation_of v ys) → xs ≡ ys
told_by_versions xs ys f g agree = same_list xs ys (rises xs f) (rises ys g) agree

-- ---- after a call that may run out of memory

pub own_after : (r : Result (Unit {0}) MemoryOut) (version secs : ℕ) (old new : List Activation)
    → OnOk r (new ≡ with_activation version secs old) → OnOk r (activation_of version new ≡ Some secs)
own_after (Ok x) version secs old new is = ap (activation_of version) is ∙ with_own version secs old
own_after (Err e) version secs old new is = tt

pub others_after : (r : Result (Unit {0}) MemoryOut) (version secs : ℕ) (old new : List Activation)
    → OnOk r (new ≡ with_activation version secs old)
    → OnOk r ((v : ℕ) → v ≢ version → activation_of v new ≡ activation_of v old)
others_after (Ok x) version secs old new is = λ v other. ap (activation_of v) is ∙ with_others version secs old v other
others_after (Err e) version secs old new is = tt

-- ---- versions count from 1

pub numbered_with : (version secs : ℕ) (xs : List Activation) → 1 ≤ version → AreNumbered xs
    → AreNumbered (with_activation version secs xs)
unfolding with_activation
numbered_with version secs xs here h =
    let P : Activation → Type 0 = λ a. 1 ≤ a.version in
    let behind = All-cons P (record { version = version; secs = secs }) (filter (λ a. ltb version a.version) xs) here
    (All-filter (λ (a : Activation). ltb version a.version) P xs h) in
    All-append P (filter (λ a. ltb a.version version) xs) _
    (All-filter (λ (a : Activation). ltb a.version version) P xs h) behind

pub numbered_without : (version : ℕ) (xs : List Activation) → AreNumbered xs
    → AreNumbered (without_activation version xs)
unfolding without_activation
numbered_without version xs h =
    All-filter (λ (a : Activation). not (eqb a.version version)) (λ (a : Activation). 1 ≤ a.version) xs h

pub numbered_after : (r : Result (Unit {0}) MemoryOut) (version secs : ℕ) (old new : List Activation)
    → OnOk r (new ≡ with_activation version secs old)
    → OnOk r (1 ≤ version → AreNumbered old → AreNumbered new)
numbered_after (Ok done) version secs old new is = λ here h. rw is (numbered_with version secs old here h)
numbered_after (Err e) version secs old new is = tt
