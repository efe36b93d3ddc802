-- Rows stay rows: their order, and what holds of each.
use Rattle.std.proofs.Common.{◌≡◌, ℕ, ◌+◌, ◌≤◌, Bool, true, false, List, [], ◌∷◌, ◌++◌}
use Rattle.std.proofs.Common.{length, map, refl, sym, ap, subst, ◌∙◌, arith, ◌⊎◌, inl, inr}
use Rattle.std.specs.Prelude.{filter}
use Rattle.std.specs.List.{All, AllByRecursion}
use Rattle.std.specs.List.Sorted.{IsStrictlySortedBy}
use Rattle.std.specs.Ordering.{ordering_reverse, is_lt, is_gt}
use Rattle.std.specs.declared.cmp.Ordering.{Ordering}
use Rattle.std.specs.declared.cmp.Ordering.TheVariants.{Less, Equal, Greater}
use Rattle.std.proofs.lemmas.Cmp.{nat_list_cmp_total}
use Rattle.std.proofs.lemmas.List.{length-append}
use Rattle.std.proofs.lemmas.List.Elements.{All-from_recursion, recursion_from_All}
use Rattle.policy_rules.specs.Rules.{Rules}
use Rattle.princ_record.specs.RowLimits.{IsRow}
use Rattle.princ_record.specs.Policies.{IsPolicy}
use Rattle.princ_rows.specs.Rows.{RowLists, AreRows}
use Rattle.tagged_data.specs.KeyOrder.{key_cmp, AreInOrder}
use Rattle.princ_rows.specs.Effects.{is_lower, is_higher, put_by, drop_by, put_princ}
use Rattle.princ_rows.specs.Effects.{drop_princ, put_policy, drop_policy, IsRoom}
use Rattle.princ_record.specs.declared.princs.Princ.{Princ}

truth : (b : Bool) → (b ≡ true) ⊎ (b ≡ false)
truth true = inl refl
truth false = inr refl

lt_is : (o : Ordering) → is_lt o ≡ true → o ≡ Less
lt_is Less e = refl
lt_is Equal e = absurd cc
lt_is Greater e = absurd cc

gt_is : (o : Ordering) → is_gt o ≡ true → o ≡ Greater
gt_is Less e = absurd cc
gt_is Equal e = absurd cc
gt_is Greater e = refl

-- a record is not on both sides of a key
not_both : (o : Ordering) → is_lt o ≡ true → is_gt o ≡ true → ⊥
not_both Less a b = absurd cc
not_both Equal a b = absurd cc
not_both Greater a b = absurd cc

module _ {X : Type 0} where
  kept : (p : X → Bool) (y : X) (ys : List X) → p y ≡ true → filter p (y ∷ ys) ≡ y ∷ filter p ys
  kept p y ys e = rw e refl

  left_out : (p : X → Bool) (y : X) (ys : List X) → p y ≡ false → filter p (y ∷ ys) ≡ filter p ys
  left_out p y ys e = rw e refl

  -- what holds of all holds of those that pass a test
  pub each_passed : (F : X → Type 0) (p : X → Bool) (xs : List X) → AllByRecursion F xs → AllByRecursion F (filter p xs)
  each_passed F p [] h = tt
  each_passed F p (y ∷ ys) h =
      elim (truth (p y)) [
        | inl e ↦ subst (AllByRecursion F) (sym (kept p y ys e)) (h.0, each_passed F p ys h.1)
        | inr e ↦ subst (AllByRecursion F) (sym (left_out p y ys e)) (each_passed F p ys h.1)
      ]

  passed : (F : X → Type 0) (p : X → Bool) → ((x : X) → p x ≡ true → F x) → (xs : List X)
      → AllByRecursion F (filter p xs)
  passed F p is [] = tt
  passed F p is (y ∷ ys) =
      elim (truth (p y)) [
        | inl e ↦ subst (AllByRecursion F) (sym (kept p y ys e)) (is y e, passed F p is ys)
        | inr e ↦ subst (AllByRecursion F) (sym (left_out p y ys e)) (passed F p is ys)
      ]

  keyed : (key : X → List ℕ) (F : List ℕ → Type 0) (xs : List X) → AllByRecursion (λ x. F (key x)) xs
      → AllByRecursion F (map key xs)
  keyed key F [] h = tt
  keyed key F (y ∷ ys) h = (h.0, keyed key F ys h.1)

  unkeyed : (key : X → List ℕ) (F : List ℕ → Type 0) (xs : List X) → AllByRecursion F (map key xs)
      → AllByRecursion (λ x. F (key x)) xs
  unkeyed key F [] h = tt
  unkeyed key F (y ∷ ys) h = (h.0, unkeyed key F ys h.1)

  joined : (F : X → Type 0) (xs ys : List X) → AllByRecursion F xs → AllByRecursion F ys → AllByRecursion F (xs ++ ys)
  joined F [] ys a b = b
  joined F (x ∷ xs) ys a b = (a.0, joined F xs ys a.1 b)

  filtered_order : (key : X → List ℕ) (p : X → Bool) (xs : List X) → AreInOrder (map key xs)
      → AreInOrder (map key (filter p xs))
  unfolding IsStrictlySortedBy
  filtered_order key p [] h = tt
  filtered_order key p (y ∷ ys) h =
      let F : List ℕ → Type 0 = λ (k : List ℕ). key_cmp (key y) k ≡ Less in
      let behind : AllByRecursion F (map key (filter p ys)) =
      keyed key F (filter p ys) (each_passed (λ (x : X). F (key x)) p ys (unkeyed key F ys h.0)) in
      elim (truth (p y)) [
        | inl e ↦
            subst (λ (zs : List X). AreInOrder (map key zs)) (sym (kept p y ys e)) (behind, filtered_order key p ys h.1)
        | inr e ↦
            subst (λ (zs : List X). AreInOrder (map key zs)) (sym (left_out p y ys e)) (filtered_order key p ys h.1)
      ]

  joined_order : (key : X → List ℕ) (xs ys : List X) → AreInOrder (map key xs)
      → AreInOrder (map key ys) → AllByRecursion (λ x. AllByRecursion (λ y. key_cmp (key x) (key y) ≡ Less) ys) xs
      → AreInOrder (map key (xs ++ ys))
  unfolding IsStrictlySortedBy
  joined_order key [] ys a b c = b
  joined_order key (x ∷ xs) ys a b c =
      let F : List ℕ → Type 0 = λ (k : List ℕ). key_cmp (key x) k ≡ Less in (
        keyed key F (xs ++ ys) (joined (λ (y : X). F (key y)) xs ys (unkeyed key F xs a.0) c.0),
        joined_order key xs ys a.1 b c.1,
      )

  -- all that are behind a key are behind one before it
  farther : (key : X → List ℕ) (a k : List ℕ) (ys : List X) → key_cmp a k ≡ Less
      → AllByRecursion (λ y. key_cmp k (key y) ≡ Less) ys → AllByRecursion (λ y. key_cmp a (key y) ≡ Less) ys
  farther key a k [] lt h = tt
  farther key a k (y ∷ ys) lt h = (nat_list_cmp_total.trans a k (key y) lt h.0, farther key a k ys lt h.1)

  each : (F G : X → Type 0) → ((x : X) → F x → G x) → (xs : List X) → AllByRecursion F xs → AllByRecursion G xs
  each F G to [] h = tt
  each F G to (x ∷ xs) h = (to x h.0, each F G to xs h.1)

  lowers : (key : X → List ℕ) (k : List ℕ) (xs : List X)
      → AllByRecursion (λ x. key_cmp (key x) k ≡ Less) (filter (is_lower key k) xs)
  lowers key k xs =
      passed (λ (x : X). key_cmp (key x) k ≡ Less) (is_lower key k) (λ x e. lt_is (key_cmp (key x) k) e) xs

  highers : (key : X → List ℕ) (k : List ℕ) (xs : List X)
      → AllByRecursion (λ x. key_cmp k (key x) ≡ Less) (filter (is_higher key k) xs)
  highers key k xs =
      passed (λ (x : X). key_cmp k (key x) ≡ Less) (is_higher key k)
      (λ x e. nat_list_cmp_total.antisymm k (key x) ∙ ap ordering_reverse (gt_is (key_cmp (key x) k) e)) xs

  pub put_order : (key : X → List ℕ) (x : X) (xs : List X) → AreInOrder (map key xs)
      → AreInOrder (map key (put_by key x xs))
  unfolding put_by IsStrictlySortedBy
  put_order key x xs h =
      let k = key x in
      let low = filter (is_lower key k) xs in
      let high = filter (is_higher key k) xs in
      let behind = highers key k xs in
      let above : AreInOrder (map key (x ∷ high)) =
      (keyed key (λ (c : List ℕ). key_cmp k c ≡ Less) high behind, filtered_order key (is_higher key k) xs h) in
      joined_order key low (x ∷ high) (filtered_order key (is_lower key k) xs h) above
      (each (λ (y : X). key_cmp (key y) k ≡ Less)
      (λ (y : X). AllByRecursion (λ z. key_cmp (key y) (key z) ≡ Less) (x ∷ high))
      (λ y lt. (lt, farther key (key y) k high lt behind)) low (lowers key k xs))

  pub drop_order : (key : X → List ℕ) (k : List ℕ) (xs : List X) → AreInOrder (map key xs)
      → AreInOrder (map key (drop_by key k xs))
  unfolding drop_by
  drop_order key k xs h =
      let low = filter (is_lower key k) xs in
      let high = filter (is_higher key k) xs in
      let behind = highers key k xs in
      joined_order key low high (filtered_order key (is_lower key k) xs h) (filtered_order key (is_higher key k) xs h)
      (each (λ (y : X). key_cmp (key y) k ≡ Less) (λ (y : X). AllByRecursion (λ z. key_cmp (key y) (key z) ≡ Less) high)
      (λ y lt. farther key (key y) k high lt behind) low (lowers key k xs))

  pub put_each : (F : X → Type 0) (key : X → List ℕ) (x : X) (xs : List X) → F x → All F xs → All F (put_by key x xs)
  unfolding put_by
  put_each F key x xs f h =
      let all = recursion_from_All F xs h in
      All-from_recursion F (filter (is_lower key (key x)) xs ++ x ∷ filter (is_higher key (key x)) xs)
      (joined F (filter (is_lower key (key x)) xs) (x ∷ filter (is_higher key (key x)) xs)
      (each_passed F (is_lower key (key x)) xs all) (f, each_passed F (is_higher key (key x)) xs all))

  pub drop_each : (F : X → Type 0) (key : X → List ℕ) (k : List ℕ) (xs : List X) → All F xs → All F (drop_by key k xs)
  unfolding drop_by
  drop_each F key k xs h =
      let all = recursion_from_All F xs h in
      All-from_recursion F (filter (is_lower key k) xs ++ filter (is_higher key k) xs)
      (joined F (filter (is_lower key k) xs) (filter (is_higher key k) xs) (each_passed F (is_lower key k) xs all)
      (each_passed F (is_higher key k) xs all))

  sides : (key : X → List ℕ) (k : List ℕ) (xs : List X)
      → length (filter (is_lower key k) xs) + length (filter (is_higher key k) xs) ≤ length xs
  sides key k [] = omega arith
  sides key k (y ∷ ys) =
      let low = is_lower key k in
      let high = is_higher key k in
      let rest = sides key k ys in
      elim (truth (low y)) [
        | inl a ↦
            elim (truth (high y)) [
              | inl b ↦ absurd (not_both (key_cmp (key y) k) a b)
              | inr b ↦ omega (
                arith,
                rest,
                ap (λ (zs : List X). length zs) (kept low y ys a),
                ap (λ (zs : List X). length zs) (left_out high y ys b),
              )
            ]
        | inr a ↦
            elim (truth (high y)) [
              | inl b ↦ omega (
                arith,
                rest,
                ap (λ (zs : List X). length zs) (left_out low y ys a),
                ap (λ (zs : List X). length zs) (kept high y ys b),
              )
              | inr b ↦ omega (
                arith,
                rest,
                ap (λ (zs : List X). length zs) (left_out low y ys a),
                ap (λ (zs : List X). length zs) (left_out high y ys b),
              )
            ]
      ]

  pub drop_short : (key : X → List ℕ) (k : List ℕ) (xs : List X) → length (drop_by key k xs) ≤ length xs
  unfolding drop_by
  drop_short key k xs =
      omega (arith, sides key k xs, length-append (filter (is_lower key k) xs) (filter (is_higher key k) xs))

  pub put_short : (key : X → List ℕ) (x : X) (xs : List X) → length (put_by key x xs) ≤ length xs + 1
  unfolding put_by
  put_short key x xs = omega (
    arith,
    sides key (key x) xs,
    length-append (filter (is_lower key (key x)) xs) (x ∷ filter (is_higher key (key x)) xs),
  )

-- ---- the rows

pub put_princ_rows : (p : Princ) (r : RowLists) → AreRows r → IsRow p → IsRoom (put_princ p r) → AreRows (put_princ p r)
unfolding put_princ
put_princ_rows p r f is room = record {
  princ_order = put_order (λ (q : Princ). q.name) p r.princs f.princ_order;
  policy_order = f.policy_order;
  few = room;
  princs = put_each IsRow (λ (q : Princ). q.name) p r.princs is f.princs;
  policies = f.policies;
}

pub drop_princ_rows : (name : List ℕ) (r : RowLists) → AreRows r → AreRows (drop_princ name r)
unfolding drop_princ
drop_princ_rows name r f =
    let few = f.few in
    record {
      princ_order = drop_order (λ (q : Princ). q.name) name r.princs f.princ_order;
      policy_order = f.policy_order;
      few = omega (arith, drop_short (λ (q : Princ). q.name) name r.princs);
      princs = drop_each IsRow (λ (q : Princ). q.name) name r.princs f.princs;
      policies = f.policies;
    }

pub put_policy_rows : (p : Rules) (r : RowLists) → AreRows r → IsPolicy p → IsRoom (put_policy p r)
    → AreRows (put_policy p r)
unfolding put_policy
put_policy_rows p r f is room = record {
  princ_order = f.princ_order;
  policy_order = put_order (λ (q : Rules). q.name) p r.policies f.policy_order;
  few = room;
  princs = f.princs;
  policies = put_each IsPolicy (λ (q : Rules). q.name) p r.policies is f.policies;
}

pub drop_policy_rows : (name : List ℕ) (r : RowLists) → AreRows r → AreRows (drop_policy name r)
unfolding drop_policy
drop_policy_rows name r f =
    let few = f.few in
    record {
      princ_order = f.princ_order;
      policy_order = drop_order (λ (q : Rules). q.name) name r.policies f.policy_order;
      few = omega (arith, drop_short (λ (q : Rules). q.name) name r.policies);
      princs = f.princs;
      policies = drop_each IsPolicy (λ (q : Rules). q.name) name r.policies f.policies;
    }
