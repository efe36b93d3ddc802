-- Rows in their order, one more and fewer of them.
use Rattle.std.proofs.Common.{◌≡◌, ℕ, zero, suc, ◌+◌, ◌-◌, ◌<◌, Bool, true, false, ◌&&◌, if◌then◌else◌, List, []}
use Rattle.std.proofs.Common.{◌∷◌, ◌++◌, length, map, take, Option, Some, None, refl, sym, ap, subst, ◌∙◌, arith}
use Rattle.std.specs.Prelude.{slice_get, option_map, nat_eq, nat_le}
use Rattle.std.specs.List.{All}
use Rattle.std.proofs.lemmas.Bool.{and_parts, and_from, le-leb}
use Rattle.std.proofs.lemmas.List.{map-append, take-map, length-append, length-take}
use Rattle.std.proofs.lemmas.List.Elements.{All-append, All-cons, All-nil, All-take}
use Rattle.std.proofs.lemmas.Option.{slice_get-map}
use Rattle.kdb_base.specs.Limits.{most_rows}
use Rattle.policy_rules.specs.Rules.{Rules}
use Rattle.princ_record.specs.RowLimits.{IsRow}
use Rattle.princ_record.specs.Policies.{IsPolicy}
use Rattle.princ_rows.specs.Rows.{RowLists, AreRows, princ_keys, policy_keys}
use Rattle.tagged_data.specs.KeyOrder.{AreInOrder, is_behind, rises_from}
use Rattle.tagged_data.specs.KeyOrderLaws.{in_order, rises}
use Rattle.princ_record.specs.declared.princs.Princ.{Princ}
use Rattle.dump_text.specs.Dumps.{row_count}
use Rattle.dump_text.specs.Judged.{Said, is_in_order, with_princ, with_policy}

-- ---- the order

and_true : (b : Bool) → b && true ≡ b
and_true true = refl
and_true false = refl

-- the last of the keys behind this one
last_of : Option (List ℕ) → List (List ℕ) → Option (List ℕ)
last_of last [] = last
last_of last (key ∷ keys) = last_of (Some key) keys

rises_end : (last : Option (List ℕ)) (keys : List (List ℕ)) (key : List ℕ) → rises_from last keys ≡ true
    → rises_from last (keys ++ (key ∷ [])) ≡ is_behind (last_of last keys) key
unfolding rises_from last_of
rises_end last [] key e = and_true (is_behind last key)
rises_end last (k ∷ keys) key e =
    let parts = and_parts (is_behind last k) (rises_from (Some k) keys) e in
    rw parts.0 (rises_end (Some k) keys key parts.1)

last_at : (key : List ℕ) (keys : List (List ℕ)) → last_of (Some key) keys ≡ slice_get (key ∷ keys) (length keys)
unfolding last_of
last_at key [] = refl
last_at key (k ∷ keys) = last_at k keys

last_is : (keys : List (List ℕ)) → last_of None keys ≡ slice_get keys (length keys - 1)
unfolding last_of
last_is [] = refl
last_is (k ∷ keys) =
    let at : length keys ≡ length (k ∷ keys) - 1 = omega arith in
    last_at k keys ∙ ap (slice_get (k ∷ keys)) at

length-map : {X : Type 0} (key_of : X → List ℕ) (xs : List X) → length (map key_of xs) ≡ length xs
length-map key_of [] = refl
length-map key_of (x ∷ xs) = ap suc (length-map key_of xs)

rises_more : {X : Type 0} (key_of : X → List ℕ) (xs : List X) (x : X) → rises_from None (map key_of xs) ≡ true
    → rises_from None (map key_of (xs ++ (x ∷ [])))
    ≡ is_behind (option_map key_of (slice_get xs (length xs - 1))) (key_of x)
rises_more key_of xs x e =
    ap (rises_from None) (map-append key_of xs (x ∷ [])) ∙ rises_end None (map key_of xs) (key_of x) e
    ∙ ap (λ (o : Option (List ℕ)). is_behind o (key_of x))
    (last_is (map key_of xs) ∙ ap (λ (n : ℕ). slice_get (map key_of xs) (n - 1)) (length-map key_of xs)
    ∙ slice_get-map key_of xs (length xs - 1))

-- the key of the last one was compared
pub behind_last : {X : Type 0} (key_of : X → List ℕ) (xs : List X) (x last : X) (a k : List ℕ) (b : Bool)
    → rises_from None (map key_of xs) ≡ true
    → Some last ≡ slice_get xs (length xs - 1) → a ≡ key_of last → k ≡ key_of x → b ≡ is_behind (Some a) k
    → b ≡ rises_from None (map key_of (xs ++ (x ∷ [])))
behind_last key_of xs x last a k b e at first second is =
    is ∙ (λ i. is_behind (Some (first i)) (second i)) ∙ ap (λ o. is_behind (option_map key_of o) (key_of x)) at
    ∙ sym (rises_more key_of xs x e)

-- there was none
pub behind_none : {X : Type 0} (key_of : X → List ℕ) (xs : List X) (x : X) → rises_from None (map key_of xs) ≡ true
    → None ≡ slice_get xs (length xs - 1) → true ≡ rises_from None (map key_of (xs ++ (x ∷ [])))
behind_none key_of xs x e at = ap (λ o. is_behind (option_map key_of o) (key_of x)) at ∙ sym (rises_more key_of xs x e)

rises_front : (last : Option (List ℕ)) (n : ℕ) (keys : List (List ℕ)) → rises_from last keys ≡ true
    → rises_from last (take n keys) ≡ true
unfolding rises_from
rises_front last zero keys e = refl
rises_front last (suc n) [] e = refl
rises_front last (suc n) (k ∷ keys) e =
    let parts = and_parts (is_behind last k) (rises_from (Some k) keys) e in
    and_from (is_behind last k) (rises_from (Some k) (take n keys)) parts.0 (rises_front (Some k) n keys parts.1)

order_front : {X : Type 0} (key_of : X → List ℕ) (n : ℕ) (xs : List X) → AreInOrder (map key_of xs)
    → AreInOrder (map key_of (take n xs))
order_front key_of n xs h = subst AreInOrder (take-map key_of n xs)
    (in_order (take n (map key_of xs)) (rises_front None n (map key_of xs) (rises (map key_of xs) h)))

-- ---- rows

rises_none : (last : Option (List ℕ)) → rises_from last [] ≡ true
unfolding rises_from
rises_none last = refl

pub no_rows : AreRows (record { princs = []; policies = [] })
no_rows = record {
  princ_order = in_order [] (rises_none None);
  policy_order = in_order [] (rises_none None);
  few = omega arith;
  princs = All-nil IsRow;
  policies = All-nil IsPolicy;
}

-- fewer rows
pub fewer_rows : (rows : RowLists) (m n : ℕ) (princs : List Princ) (policies : List Rules) → AreRows rows
    → princs ≡ take m rows.princs → policies ≡ take n rows.policies
    → AreRows (record { princs = princs; policies = policies })
fewer_rows rows m n princs policies f first second =
    subst AreRows (λ i. record { princs = sym first i; policies = sym second i }) (record {
      princ_order = order_front (λ p. p.name) m rows.princs f.princ_order;
      policy_order = order_front (λ p. p.name) n rows.policies f.policy_order;
      few = omega (arith, f.few, length-take m rows.princs, length-take n rows.policies);
      princs = All-take IsRow m rows.princs f.princs;
      policies = All-take IsPolicy n rows.policies f.policies;
    })

pub more_princs : (rows : RowLists) (p : Princ) (princs : List Princ) → AreRows rows → IsRow p
    → princs ≡ rows.princs ++ (p ∷ []) → row_count rows < most_rows → rises_from None (princ_keys princs) ≡ true
    → AreRows (record { princs = princs; policies = rows.policies })
more_princs rows p princs f is e few order = record {
  princ_order = in_order (princ_keys princs) order;
  policy_order = f.policy_order;
  few = let len : length princs ≡ length rows.princs + 1 =
      ap length e ∙ length-append rows.princs (p ∷ []) in omega (arith, len, few);
  princs = subst (All IsRow) (sym e)
      (All-append IsRow rows.princs (p ∷ []) f.princs (All-cons IsRow p [] is (All-nil IsRow)));
  policies = f.policies;
}

pub more_policies : (rows : RowLists) (p : Rules) (policies : List Rules) → AreRows rows → IsPolicy p
    → policies ≡ rows.policies ++ (p ∷ []) → row_count rows < most_rows → rises_from None (policy_keys policies) ≡ true
    → AreRows (record { princs = rows.princs; policies = policies })
more_policies rows p policies f is e few order = record {
  princ_order = f.princ_order;
  policy_order = in_order (policy_keys policies) order;
  few = let len : length policies ≡ length rows.policies + 1 =
      ap length e ∙ length-append rows.policies (p ∷ []) in omega (arith, len, few);
  princs = f.princs;
  policies = subst (All IsPolicy) (sym e)
      (All-append IsPolicy rows.policies (p ∷ []) f.policies (All-cons IsPolicy p [] is (All-nil IsPolicy)));
}

-- ---- steps

pub order_test : (rows : RowLists) → AreRows rows → is_in_order rows ≡ true
order_test rows f =
    and_from (nat_le (row_count rows) most_rows) (rises_from None (princ_keys rows.princs)
    && rises_from None (policy_keys rows.policies)) (le-leb (row_count rows) most_rows f.few)
    (and_from (rises_from None (princ_keys rows.princs)) (rises_from None (policy_keys rows.policies))
    (rises (princ_keys rows.princs) f.princ_order) (rises (policy_keys rows.policies) f.policy_order))

passed : {A : Type 0} (a b : Bool) (x : Option A) → a ≡ true → b ≡ true
    → (if a then (if b then x else None) else None) ≡ x
passed a b x e f = rw (e, f) refl

pub princ_goes : (s : Said) (p : Princ)
    → length s.policies ≡ 0 → AreRows (record { princs = s.princs ++ (p ∷ []); policies = s.policies })
    → with_princ s p ≡ Some (record s { princs = s.princs ++ (p ∷ []) })
unfolding with_princ
princ_goes s p none f =
    passed (nat_eq (length s.policies) 0)
    (is_in_order (record { princs = s.princs ++ (p ∷ []); policies = s.policies }))
    (Some (record s { princs = s.princs ++ (p ∷ []) }))
    (ap (λ (n : ℕ). nat_eq n 0) none) (order_test (record { princs = s.princs ++ (p ∷ []); policies = s.policies }) f)

pub policy_goes : (s : Said) (p : Rules) → AreRows (record { princs = s.princs; policies = s.policies ++ (p ∷ []) })
    → with_policy s p ≡ Some (record s { policies = s.policies ++ (p ∷ []) })
unfolding with_policy
policy_goes s p f =
    passed true (is_in_order (record { princs = s.princs; policies = s.policies ++ (p ∷ []) }))
    (Some (record s { policies = s.policies ++ (p ∷ []) }))
    refl (order_test (record { princs = s.princs; policies = s.policies ++ (p ∷ []) }) f)

-- what a method sees of its fields
pub princ_put : (s r : Said) (p : Princ) (princs : List Princ) → s ≡ r → length s.policies ≡ 0
    → AreRows (record { princs = princs; policies = s.policies }) → princs ≡ s.princs ++ (p ∷ [])
    → with_princ r p ≡ Some (record s { princs = princs })
princ_put s r p princs view none f e =
    ap (λ (t : Said). with_princ t p) (sym view)
    ∙ princ_goes s p none (subst (λ (ps : List Princ). AreRows (record { princs = ps; policies = s.policies })) e f)
    ∙ ap (λ (ps : List Princ). Some (record s { princs = ps })) (sym e)

pub policy_put : (s r : Said) (p : Rules) (policies : List Rules) → s ≡ r
    → AreRows (record { princs = s.princs; policies = policies }) → policies ≡ s.policies ++ (p ∷ [])
    → with_policy r p ≡ Some (record s { policies = policies })
policy_put s r p policies view f e =
    ap (λ (t : Said). with_policy t p) (sym view)
    ∙ policy_goes s p (subst (λ (ps : List Rules). AreRows (record { princs = s.princs; policies = ps })) e f)
    ∙ ap (λ (ps : List Rules). Some (record s { policies = ps })) (sym e)

pub test_of_order : {X : Type 0} (key_of : X → List ℕ) (xs ys : List X) → xs ≡ ys → AreInOrder (map key_of ys)
    → rises_from None (map key_of xs) ≡ true
test_of_order key_of xs ys same h = ap (λ zs. rises_from None (map key_of zs)) same ∙ rises (map key_of ys) h

-- the test that a new row passed
pub test_of_more : {X : Type 0} (key_of : X → List ℕ) (xs ys zs : List X) (x : X) (b : Bool)
    → xs ≡ ys → b ≡ rises_from None (map key_of (xs ++ (x ∷ []))) → b ≡ true → zs ≡ ys ++ (x ∷ [])
    → rises_from None (map key_of zs) ≡ true
test_of_more key_of xs ys zs x b same is e new = ap (λ ws. rises_from None (map key_of ws)) new
    ∙ ap (λ ws. rises_from None (map key_of (ws ++ (x ∷ [])))) (sym same) ∙ sym is ∙ e
