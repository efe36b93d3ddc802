-- A change at the place that a binary search by versions found.
use Rattle.std.proofs.Common.{◌≡◌, ℕ, zero, suc, ◌+◌, ◌<◌, ◌≤◌, List, [], ◌∷◌, length, map}
use Rattle.std.proofs.Common.{get_or, set, Result, Ok, Err, refl, sym, ap, subst, ◌∙◌, arith}
use Rattle.std.specs.List.{AllWithin, insert}
use Rattle.std.specs.List.Sorted.{IsBinarySearchResult, IsSearchInRange, IsSortedBy}
use Rattle.std.specs.Ordering.{nat_cmp, ordering_reverse, is_lt}
use Rattle.std.specs.Cmp.{ranked}
use Rattle.std.specs.declared.cmp.Ordering.TheVariants.{Less, Equal, Greater}
use Rattle.std.proofs.lemmas.Bool.{lt-ltb, le-ltb}
use Rattle.std.proofs.lemmas.Cmp.{nat_cmp_total}
use Rattle.std.proofs.lemmas.List.{get_or-map, length-map}
use Rattle.std.proofs.lemmas.List.Elements.{All-from_recursion}
use Rattle.std.proofs.lemmas.List.Sorted.{searchable_from_sorted}
use Rattle.std.proofs.lemmas.Map.Keys.{Less-from_sorted}
use Rattle.kdb_base.specs.Versions.{AreRising}
use Rattle.kdb_base.specs.declared.versions.Activation.{Activation}
use Rattle.key_activation.specs.Activations.{with_activation, without_activation}
use Rattle.key_activation.proofs.Order.{version_of, AreAbove, Rises, rises, rising, rises_with}
use Rattle.key_activation.proofs.Order.{rises_without, no_lower, all_higher, farther}

abbrev with : Activation → List Activation → List Activation
with a xs = with_activation a.version a.secs xs

-- ---- the steps of `with_activation`

with_first : (a x : Activation) (xs : List Activation) → a.version ≡ x.version → AreAbove x.version xs
    → with a (x ∷ xs) ≡ a ∷ xs
unfolding with_activation
with_first a x xs same h =
    let above = farther a.version x.version xs (omega arith) h in
    let not_low = le-ltb x.version a.version (omega arith) in
    let not_high = le-ltb a.version x.version (omega arith) in
    rw (not_low, not_high, no_lower a.version xs above, all_higher a.version xs above) refl

with_before : (a x : Activation) (xs : List Activation) → a.version < x.version → AreAbove x.version xs
    → with a (x ∷ xs) ≡ a ∷ x ∷ xs
unfolding with_activation
with_before a x xs lt h =
    let above = farther a.version x.version xs (omega arith) h in
    let not_low = le-ltb x.version a.version (omega arith) in
    let high = lt-ltb a.version x.version lt in
    rw (not_low, high, no_lower a.version xs above, all_higher a.version xs above) refl

with_behind : (a x : Activation) (xs : List Activation) → x.version < a.version → with a (x ∷ xs) ≡ x ∷ with a xs
unfolding with_activation
with_behind a x xs lt =
    let low = lt-ltb x.version a.version lt in
    let not_high = le-ltb a.version x.version (omega arith) in
    rw (low, not_high) refl

-- ---- at a place

set_with : (a : Activation) (xs : List Activation) (at : ℕ) → Rises xs → at < length xs
    → ((d : Activation) → (get_or xs at d).version ≡ a.version) → set xs at a ≡ with a xs
set_with a [] at h lt is = absurd (omega arith)
set_with a (x ∷ xs) zero h lt is = sym (with_first a x xs (sym (is a)) h.0)
set_with a (x ∷ xs) (suc at) h lt is =
    let here : at < length xs = omega arith in
    let below = All-from_recursion (λ (b : Activation). x.version < b.version) xs h.0 at a here in
    let same = is a in
    let later : x.version < a.version = omega arith in
    ap (λ (zs : List Activation). x ∷ zs) (set_with a xs at h.1 here is) ∙ sym (with_behind a x xs later)

insert_with : (a : Activation) (xs : List Activation) (at : ℕ) → Rises xs → at ≤ length xs
    → AllWithin (λ b. b.version < a.version) xs 0 at → AllWithin (λ b. a.version < b.version) xs at (length xs)
    → insert xs at a ≡ with a xs
unfolding with_activation
insert_with a [] zero h le low high = refl
insert_with a [] (suc at) h le low high = absurd (omega arith)
insert_with a (x ∷ xs) zero h le low high = sym (with_before a x xs (high 0 a (omega arith) (omega arith)) h.0)
insert_with a (x ∷ xs) (suc at) h le low high =
    let others = insert_with a xs at h.1 (omega arith) (λ j d _ lt. low (suc j) d (omega arith) (omega arith))
    (λ j d from lt. high (suc j) d (omega arith) (omega arith)) in
    ap (λ (zs : List Activation). x ∷ zs) others ∙ sym (with_behind a x xs (low 0 a (omega arith) (omega arith)))

-- ---- at the place that was found

sorted : (xs : List Activation) → AreRising (map version_of xs)
    → IsSortedBy (λ a b. is_lt (nat_cmp a.version b.version)) xs
sorted xs h = λ k d low lt.
    let here : k < length xs = omega arith in
    let up : nat_cmp (get_or (map version_of xs) k d.version) (get_or (map version_of xs) (k + 1) d.version) ≡ Less =
    Less-from_sorted nat_cmp (map version_of xs) k (k + 1) d.version h (omega arith)
    (omega (arith, length-map xs version_of)) in
    let a : get_or (map version_of xs) k d.version ≡ (get_or xs k d).version =
    get_or-map version_of xs k d d.version here in
    let b : get_or (map version_of xs) (k + 1) d.version ≡ (get_or xs (k + 1) d).version =
    get_or-map version_of xs (k + 1) d d.version (omega arith) in
    let less : nat_cmp (get_or xs k d).version (get_or xs (k + 1) d).version ≡ Less = rw (← a, ← b) up in
    let back : nat_cmp (get_or xs (k + 1) d).version (get_or xs k d).version ≡ Greater =
    nat_cmp_total.antisymm (get_or xs (k + 1) d).version (get_or xs k d).version ∙ ap ordering_reverse less in
    ap is_lt back

abbrev Found : Activation → List Activation → Result ℕ ℕ → Type 0
Found a xs r = IsBinarySearchResult (λ y. nat_cmp y.version a.version) xs r

pub set_found : (a : Activation) (xs ys : List Activation) (at : ℕ) → ys ≡ xs → AreRising (map version_of xs)
    → IsSearchInRange (Ok at) (length ys) → Found a ys (Ok at) → set xs at a ≡ with_activation a.version a.secs xs
set_found a xs ys at same h bound is =
    let lt : at < length xs = subst (λ (zs : List Activation). at < length zs) same bound in
    let found : Found a xs (Ok at) = subst (λ (zs : List Activation). Found a zs (Ok at)) same is in
    set_with a xs at (rises xs h) lt (λ d. ranked (get_or xs at d).version a.version Equal (sym (found d)))

pub insert_found : (a : Activation) (xs ys : List Activation) (at : ℕ) → ys ≡ xs → AreRising (map version_of xs)
    → IsSearchInRange (Err at) (length ys) → Found a ys (Err at) → insert xs at a ≡ with_activation a.version a.secs xs
insert_found a xs ys at same h bound is =
    let le : at ≤ length xs = subst (λ (zs : List Activation). at ≤ length zs) same bound in
    let found : Found a xs (Err at) = subst (λ (zs : List Activation). Found a zs (Err at)) same is in
    let parted = found (searchable_from_sorted nat_cmp_total version_of xs a.version (sorted xs h)) in
    insert_with a xs at (rises xs h) le
    (λ j d low lt. ranked (get_or xs j d).version a.version Less (sym (parted.0 j d low lt)))
    (λ j d low lt. ranked (get_or xs j d).version a.version Greater (sym (parted.1 j d low lt)))

pub rising_after_put : (version secs : ℕ) (xs ys : List Activation) → AreRising (map version_of xs)
    → ys ≡ with_activation version secs xs → AreRising (map version_of ys)
rising_after_put version secs xs ys h is = subst (λ (zs : List Activation). AreRising (map version_of zs)) (sym is)
    (rising (with_activation version secs xs) (rises_with version secs xs (rises xs h)))

pub rising_after_drop : (version : ℕ) (xs ys : List Activation) → AreRising (map version_of xs)
    → ys ≡ without_activation version xs → AreRising (map version_of ys)
rising_after_drop version xs ys h is = subst (λ (zs : List Activation). AreRising (map version_of zs)) (sym is)
    (rising (without_activation version xs) (rises_without version xs (rises xs h)))
