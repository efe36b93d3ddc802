-- The test of the order of keys says whether they are in order.
use Rattle.std.proofs.Common.{◌≡◌, ℕ, true, List, [], ◌∷◌, Some, None, refl, ap}
use Rattle.std.specs.List.{AllByRecursion}
use Rattle.std.specs.List.Sorted.{IsStrictlySortedBy}
use Rattle.std.specs.Ordering.{is_lt}
use Rattle.std.specs.declared.cmp.Ordering.{Ordering}
use Rattle.std.specs.declared.cmp.Ordering.TheVariants.{Less, Equal, Greater}
use Rattle.std.proofs.lemmas.Bool.{and_parts, and_from}
use Rattle.std.proofs.lemmas.Cmp.{nat_list_cmp_total}
use Rattle.tagged_data.specs.KeyOrder.{key_cmp, AreInOrder, rises_from}

is_less : (o : Ordering) → is_lt o ≡ true → o ≡ Less
is_less Less e = refl
is_less Equal e = absurd cc
is_less Greater e = absurd cc

all_behind : (a b : List ℕ) (keys : List (List ℕ)) → key_cmp a b ≡ Less → AllByRecursion (λ k. key_cmp b k ≡ Less) keys
    → AllByRecursion (λ k. key_cmp a k ≡ Less) keys
all_behind a b [] lt h = tt
all_behind a b (k ∷ keys) lt h = (nat_list_cmp_total.trans a b k lt h.0, all_behind a b keys lt h.1)

in_order_behind : (last : List ℕ) (keys : List (List ℕ)) → rises_from (Some last) keys ≡ true
    → AllByRecursion (λ k. key_cmp last k ≡ Less) keys × AreInOrder keys
unfolding rises_from IsStrictlySortedBy
in_order_behind last [] e = (tt, tt)
in_order_behind last (k ∷ keys) e =
    let p = and_parts (is_lt (key_cmp last k)) (rises_from (Some k) keys) e in
    let lt = is_less (key_cmp last k) p.0 in
    let others = in_order_behind k keys p.1 in
    ((lt, all_behind last k keys lt others.0), others)

pub in_order : (keys : List (List ℕ)) → rises_from None keys ≡ true → AreInOrder keys
unfolding rises_from IsStrictlySortedBy
in_order [] e = tt
in_order (k ∷ keys) e = in_order_behind k keys e

rises_behind : (last : List ℕ) (keys : List (List ℕ)) → AllByRecursion (λ k. key_cmp last k ≡ Less) keys
    → AreInOrder keys → rises_from (Some last) keys ≡ true
unfolding rises_from IsStrictlySortedBy
rises_behind last [] all h = refl
rises_behind last (k ∷ keys) all h =
    and_from (is_lt (key_cmp last k)) (rises_from (Some k) keys) (ap is_lt all.0) (rises_behind k keys h.0 h.1)

pub rises : (keys : List (List ℕ)) → AreInOrder keys → rises_from None keys ≡ true
unfolding rises_from IsStrictlySortedBy
rises [] h = refl
rises (k ∷ keys) h = rises_behind k keys h.0 h.1

pub none_in_order : (keys : List (List ℕ)) → keys ≡ [] → AreInOrder keys
unfolding rises_from
none_in_order keys e = rw e (in_order [] refl)
