-- The latest activation is the latest of some, where it is among them.
use Rattle.std.proofs.Common.{◌≡◌, ℕ, ◌<◌, ◌≤◌, Bool, true, false, List, [], ◌∷◌, fold, Option}
use Rattle.std.proofs.Common.{Some, None, refl, sym, ap, subst, ◌∙◌, ◌⊎◌, inl, inr, arith}
use Rattle.std.specs.Prelude.{filter, nat_eq, nat_le, nat_lt, option_map}
use Rattle.std.specs.List.{All, AllByRecursion, reduce}
use Rattle.std.proofs.lemmas.List.Elements.{recursion_from_All}
use Rattle.kdb_base.specs.declared.versions.Activation.{Activation}
use Rattle.key_activation.specs.Activations.{IsUpTo, active, begun, is_later, later, latest}
use Rattle.kdb_base.specs.Moment.{Moment}
use Rattle.serving_versions.specs.MasterChanges.{serving_activations}
use Rattle.kdb_plain.specs.States.{IsListed, IsValid}
use Rattle.serving_versions.specs.Versions.{serves}
use Rattle.kdb_plain.specs.declared.states.State.{State}
use Rattle.serving_versions.proofs.Causes.{serves_where}

truth : (b : Bool) → (b ≡ true) ⊎ (b ≡ false)
truth true = inl refl
truth false = inr refl

-- ---- filters

module _ {A : Type 0} where
  kept : (p : A → Bool) (x : A) (xs : List A) → p x ≡ true → filter p (x ∷ xs) ≡ x ∷ filter p xs
  kept p x xs e = rw e refl

  left_out : (p : A → Bool) (x : A) (xs : List A) → p x ≡ false → filter p (x ∷ xs) ≡ filter p xs
  left_out p x xs e = rw e refl

  filter_swap : (p q : A → Bool) (xs : List A) → filter q (filter p xs) ≡ filter p (filter q xs)
  filter_swap p q [] = refl
  filter_swap p q (x ∷ xs) =
      elim (truth (p x)) [
        | inl a ↦
            elim (truth (q x)) [
              | inl b ↦
                  ap (filter q) (kept p x xs a)
                  ∙ kept q x (filter p xs) b
                  ∙ ap (λ ys. x ∷ ys) (filter_swap p q xs)
                  ∙ sym (ap (filter p) (kept q x xs b) ∙ kept p x (filter q xs) a)
              | inr b ↦
                  ap (filter q) (kept p x xs a) ∙ left_out q x (filter p xs) b ∙ filter_swap p q xs
                  ∙ sym (ap (filter p) (left_out q x xs b))
            ]
        | inr a ↦
            elim (truth (q x)) [
              | inl b ↦
                  ap (filter q) (left_out p x xs a) ∙ filter_swap p q xs
                  ∙ sym (ap (filter p) (kept q x xs b) ∙ left_out p x (filter q xs) a)
              | inr b ↦
                  ap (filter q) (left_out p x xs a) ∙ filter_swap p q xs ∙ sym (ap (filter p) (left_out q x xs b))
            ]
      ]

  each_kept : (P : A → Type 0) (p : A → Bool) (xs : List A) → AllByRecursion P xs → AllByRecursion P (filter p xs)
  each_kept P p [] h = tt
  each_kept P p (x ∷ xs) h =
      elim (truth (p x)) [
        | inl e ↦ subst (AllByRecursion P) (sym (kept p x xs e)) (h.0, each_kept P p xs h.1)
        | inr e ↦ subst (AllByRecursion P) (sym (left_out p x xs e)) (each_kept P p xs h.1)
      ]

  -- what holds of those that are kept, holds of each where it is kept
  each_back : (P : A → Type 0) (p : A → Bool) (xs : List A) → AllByRecursion P (filter p xs)
      → AllByRecursion (λ x. p x ≡ true → P x) xs
  each_back P p [] h = tt
  each_back P p (x ∷ xs) h =
      elim (truth (p x)) [
        | inl e ↦ let parts = subst (AllByRecursion P) (kept p x xs e) h in ((λ _. parts.0), each_back P p xs parts.1)
        | inr e ↦ ((λ yes_it. absurd cc), each_back P p xs (subst (AllByRecursion P) (left_out p x xs e) h))
      ]

-- ---- the order of activations

abbrev Up : Activation → Activation → Type 0
Up a b = IsUpTo b.secs b.version a

own_up : (a : Activation) → Up a a
own_up a = inr (refl, omega arith)

up_up : (a b c : Activation) → Up a b → Up b c → Up a c
up_up a b c (inl x) (inl y) = inl (omega arith)
up_up a b c (inl x) (inr y) = let e = y.0 in inl (omega arith)
up_up a b c (inr x) (inl y) = let e = x.0 in inl (omega arith)
up_up a b c (inr x) (inr y) = let e = x.1 in let f = y.1 in (inr (x.0 ∙ y.0, omega arith))

same_activation : (a b : Activation) → a.version ≡ b.version → a.secs ≡ b.secs → a ≡ b
same_activation a b v t = rw (← v, ← t) refl

both_up : (a b : Activation) → Up a b → Up b a → a ≡ b
both_up a b (inl x) (inl y) = absurd (omega arith)
both_up a b (inl x) (inr y) = let e = y.0 in absurd (omega arith)
both_up a b (inr x) (inl y) = let e = x.0 in absurd (omega arith)
both_up a b (inr x) (inr y) = let e = x.1 in let f = y.1 in same_activation a b (omega arith) x.0

up_if_later : (a b : Activation) → is_later a b ≡ true → Up b a
up_if_later a b e = grind arith

up_if_not : (a b : Activation) → is_later a b ≡ false → Up a b
up_if_not a b e = grind arith

-- one of two that is later than both
first_up : (a b : Activation) → Up a (later a b)
unfolding later
first_up a b =
    elim (truth (is_later a b)) [
      | inl e ↦ rw e (own_up a)
      | inr e ↦ rw e (up_if_not a b e)
    ]

second_up : (a b : Activation) → Up b (later a b)
unfolding later
second_up a b =
    elim (truth (is_later a b)) [
      | inl e ↦ rw e (up_if_later a b e)
      | inr e ↦ rw e (own_up b)
    ]

either_holds : (P : Activation → Type 0) (a b : Activation) → P a → P b → P (later a b)
unfolding later
either_holds P a b x y =
    elim (truth (is_later a b)) [
      | inl e ↦ rw e x
      | inr e ↦ rw e y
    ]

each_up : (x : Activation) (xs : List Activation) → AllByRecursion (λ a. Up a (fold later x xs)) (x ∷ xs)
each_up x [] = (own_up x, tt)
each_up x (y ∷ ys) =
    let all = each_up (later x y) ys in
    let r = fold later (later x y) ys in
    (up_up x (later x y) r (first_up x y) all.0, (up_up y (later x y) r (second_up x y) all.0, all.1))

-- what holds of each holds of the latest
latest_holds : (P : Activation → Type 0) (x : Activation) (xs : List Activation) → P x → AllByRecursion P xs
    → P (fold later x xs)
latest_holds P x [] h all = h
latest_holds P x (y ∷ ys) h all = latest_holds P (later x y) ys (either_holds P x y h all.0) all.1

-- a list whose items are all up to one of them
reduced : (xs : List Activation) (r : Activation) → AllByRecursion (λ a. Up a r) xs
    → ((P : Activation → Type 0) → AllByRecursion P xs → P r) → reduce later xs ≡ Some r
reduced [] r all is_in = absurd (is_in (λ _. ⊥) tt)
reduced (x ∷ xs) r all is_in =
    let top = fold later x xs in
    ap Some (both_up top r (latest_holds (λ a. Up a r) x xs all.0 all.1) (is_in (λ a. Up a top) (each_up x xs)))

some_kept : (p : Activation → Bool) (x : Activation) (xs : List Activation) → p (fold later x xs) ≡ true
    → reduce later (filter p (x ∷ xs)) ≡ Some (fold later x xs)
some_kept p x xs passes =
    let r = fold later x xs in
    reduced (filter p (x ∷ xs)) r (each_kept (λ a. Up a r) p (x ∷ xs) (each_up x xs))
    (λ P all. let each = each_back P p (x ∷ xs) all in latest_holds (λ a. p a ≡ true → P a) x xs each.0 each.1 passes)

latest_kept : (p : Activation → Bool) (xs : List Activation) → ((r : Activation) → latest xs ≡ Some r → p r ≡ true)
    → latest (filter p xs) ≡ latest xs
unfolding latest
latest_kept p [] passes = refl
latest_kept p (x ∷ xs) passes = some_kept p x xs (passes (fold later x xs) refl)

-- ---- of a state

pub still_active : (s : State) (secs : ℕ) → active (serving_activations s secs) secs ≡ active s.activations secs
unfolding active begun serving_activations
still_active s secs =
    let p : Activation → Bool = λ (a : Activation). serves s secs a.version in
    let q : Activation → Bool = λ (a : Activation). nat_le a.secs secs in
    ap (λ (list : List Activation). option_map (λ (a : Activation). a.version) (latest list))
    (filter_swap p q s.activations)
    ∙ ap (option_map (λ (a : Activation). a.version))
    (latest_kept p (filter q s.activations)
    (λ r is. (serves_where s secs r.version).1 (inr (inl (ap (option_map (λ (a : Activation). a.version)) is)))))

-- what holds of each version holds of the one that is active
latest_from : (P : ℕ → Type 0) (xs : List Activation) (version : ℕ)
    → AllByRecursion (λ (a : Activation). P a.version) xs
    → option_map (λ (a : Activation). a.version) (latest xs) ≡ Some version → P version
unfolding latest
latest_from P [] version all is = absurd cc
latest_from P (x ∷ xs) version all is =
    let same : (fold later x xs).version ≡ version = cc in
    subst P same (latest_holds (λ (a : Activation). P a.version) x xs all.0 all.1)

pub active_holds : (P : ℕ → Type 0) (list : List Activation) (secs version : ℕ)
    → All (λ (a : Activation). P a.version) list → active list secs ≡ Some version → P version
unfolding active begun
active_holds P list secs version all is =
    let q : Activation → Bool = λ (a : Activation). nat_le a.secs secs in
    latest_from P (filter q list) version (each_kept (λ (a : Activation). P a.version) q list
    (recursion_from_All (λ (a : Activation). P a.version) list all)) is

pub active_listed : (time : Moment) (s : State) (secs version : ℕ) → IsValid time s
    → active s.activations secs ≡ Some version → IsListed s.masters version
active_listed time s secs version f is = active_holds (IsListed s.masters) s.activations secs version f.activations is
