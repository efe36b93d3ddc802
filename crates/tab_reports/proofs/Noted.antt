-- Counting the principals that name each policy.
use Rattle.std.proofs.Common.{◌≡◌, ℕ, ◌+◌, ◌^◌, ◌<◌, ◌≤◌, Bool, true, false, cond, List, [], ◌∷◌, length}
use Rattle.std.proofs.Common.{map, take, get_or, set, Some, refl, sym, ap, ◌∙◌, arith, inl, inr}
use Rattle.std.specs.List.{All, filter}
use Rattle.std.specs.Str.{bytes_eq}
use Rattle.std.specs.Ordering.{ordering_reverse}
use Rattle.std.specs.declared.cmp.Ordering.TheVariants.{Less, Greater}
use Rattle.std.proofs.lemmas.Bool.{cases_eq, cases_lt, eq-eqb, ne_eqb}
use Rattle.std.proofs.lemmas.Cmp.{nat_list_cmp_total}
use Rattle.std.proofs.lemmas.Grind.{get_or_default_zero}
use Rattle.std.proofs.lemmas.List.{get_or-map, get_or-set_other, get_or-set_same, length-map, length-set, length-take}
use Rattle.std.proofs.lemmas.List.Filters.{length-filter_more}
use Rattle.std.proofs.lemmas.List.Sums.{count_by-le-length, length-filter}
use Rattle.std.proofs.lemmas.Map.Keys.{Less-from_sorted}
use Rattle.std.proofs.lemmas.Slice.Eq.{bytes_eq-Decides}
use Rattle.policy_rules.specs.Rules.{Rules}
use Rattle.princ_record.specs.declared.princs.Princ.{Princ}
use Rattle.princ_rows.specs.Rows.{AreRows, IsAt, IsGap, RowLists, policy_keys}
use Rattle.tagged_data.specs.KeyOrder.{AreInOrder, key_cmp}
use Rattle.princ_rows.proofs.Searches.{none_has}
use Rattle.tab_reports.specs.Counts.{is_name, names_policy, users_of}
use Rattle.tab_reports.specs.Noting.{AreCounted, IsNamed, IsNoted, NamesNone}

-- ---- the policy of a principal

same_bytes : (a b : List ℕ) → a ≡ b → bytes_eq a b ≡ true
same_bytes a b e = (bytes_eq-Decides a b).1 e

other_bytes : (a b : List ℕ) → (a ≡ b → ⊥) → bytes_eq a b ≡ false
other_bytes a b ne = by_test (bytes_eq a b) refl
  where
    by_test : (t : Bool) → bytes_eq a b ≡ t → bytes_eq a b ≡ false
    by_test true e = absurd (ne ((bytes_eq-Decides a b).0 e))
    by_test false e = e

never_less : (k : List ℕ) → key_cmp k k ≡ Less → ⊥
never_less k lt =
    let back : key_cmp k k ≡ Greater = nat_list_cmp_total.antisymm k k ∙ ap ordering_reverse lt in
    let both : Less ≡ Greater = sym lt ∙ back in
    absurd cc

-- the policies at two places have two names
two_names : (policies : List Rules) (i j : ℕ) (d : Rules) → AreInOrder (policy_keys policies) → i < j
    → j < length policies → (get_or policies i d).name ≡ (get_or policies j d).name → ⊥
two_names policies i j d order lt in_range same =
    let key : Rules → List ℕ = λ q. q.name in
    let less =
    Less-from_sorted key_cmp (policy_keys policies) i j d.name order lt (omega (arith, length-map policies key)) in
    let a = get_or-map key policies i d d.name (omega arith) in
    let b = get_or-map key policies j d d.name in_range in
    never_less (get_or policies j d).name
    (ap (λ (k : List ℕ). key_cmp k (get_or policies j d).name) (sym (a ∙ same))
    ∙ ap (λ (k : List ℕ). key_cmp (get_or (policy_keys policies) i d.name) k) (sym b) ∙ less)

pub named_at : (p : Princ) (policies : List Rules) (name : List ℕ) (at : ℕ) → p.policy ≡ Some name
    → AreInOrder (policy_keys policies) → IsAt (λ (q : Rules). q.name) policies name at → IsNamed p policies at
named_at p policies name at is order found = record {
  in_range = found.in_range;
  each = λ j d lt.
      let here = found.has_key d in
      let seen : names_policy (get_or policies j d).name p ≡ bytes_eq name (get_or policies j d).name =
      ap (is_name (get_or policies j d).name) is in
      elim (cases_eq j at) [
        | inl same ↦ seen ∙ same_bytes name (get_or policies j d).name
            (sym (ap (λ (k : ℕ). (get_or policies k d).name) same ∙ here)) ∙ sym (eq-eqb j at same)
        | inr other ↦
            seen
            ∙ other_bytes name (get_or policies j d).name (λ e. elim (cases_lt j at) [
              | inl below ↦ two_names policies j at d order below found.in_range (sym e ∙ sym here)
              | inr from ↦ two_names policies at j d order (omega (arith, other)) lt (here ∙ e)
            ])
            ∙ sym (ne_eqb j at other)
      ];
}

pub named_none : (p : Princ) (policies : List Rules) (name : List ℕ) (at : ℕ) → p.policy ≡ Some name
    → IsGap (λ (q : Rules). q.name) policies name at → NamesNone p policies
named_none p policies name at is gap = record {
  each = λ j d lt.
      let ne = none_has (λ (q : Rules). q.name) policies name at gap j d lt in
      ap (is_name (get_or policies j d).name) is ∙ other_bytes name (get_or policies j d).name (λ e. ne (sym e));
}

-- ---- one principal

pub named_bound : (p : Princ) (policies : List Rules) (users : List ℕ) (at : ℕ) → length users ≡ length policies
    → IsNamed p policies at → at < length users
named_bound p policies users at long is = let bound = is.in_range in omega arith

pub noted_at : (p : Princ) (policies : List Rules) (old new : List ℕ) (at : ℕ) → length old ≡ length policies
    → IsNamed p policies at → new ≡ set old at (get_or old at 0 + 1) → IsNoted p policies old new
noted_at p policies old new at long is e = record {
  long = ap (length {A = ℕ}) e ∙ length-set old at (get_or old at 0 + 1);
  each = λ j d lt.
      let bound = is.in_range in
      let test = is.each j d lt in
      elim (cases_eq j at) [
        | inl same ↦
            ap (λ (xs : List ℕ). get_or xs j 0) e
            ∙ ap (λ (k : ℕ). get_or (set old at (get_or old at 0 + 1)) k 0) same
            ∙ get_or-set_same old at (get_or old at 0 + 1) 0 (omega arith)
            ∙ ap (λ (k : ℕ). get_or old k 0 + 1) (sym same)
            ∙ ap (λ (b : Bool). get_or old j 0 + cond b 1 0) (sym (test ∙ eq-eqb j at same))
        | inr other ↦
            ap (λ (xs : List ℕ). get_or xs j 0) e
            ∙ get_or-set_other old at j (get_or old at 0 + 1) 0 other
            ∙ sym (omega arith)
            ∙ ap (λ (b : Bool). get_or old j 0 + cond b 1 0) (sym (test ∙ ne_eqb j at other))
      ];
}

pub noted_none : (p : Princ) (policies : List Rules) (old new : List ℕ) → NamesNone p policies → new ≡ old
    → IsNoted p policies old new
noted_none p policies old new none e = record {
  long = ap (length {A = ℕ}) e;
  each = λ j d lt.
      let plus : get_or old j 0 ≡ get_or old j 0 + cond false 1 0 = omega arith in
      ap (λ (xs : List ℕ). get_or xs j 0) e ∙ plus
      ∙ ap (λ (b : Bool). get_or old j 0 + cond b 1 0) (sym (none.each j d lt));
}

-- ---- all principals

pub none_counted : (policies : List Rules) (users : List ℕ) → users ≡ map (λ _. 0) policies
    → AreCounted users policies []
unfolding users_of
none_counted policies users e = record {
  long = ap (length {A = ℕ}) e ∙ length-map policies (λ (q : Rules). 0);
  each = λ j d lt. ap (λ (xs : List ℕ). get_or xs j 0) e ∙ get_or-map (λ (q : Rules). 0) policies j d 0 lt;
}

pub row_counted : (policies : List Rules) (princs : List Princ) (i : ℕ) (p : Princ) (old new : List ℕ)
    → i < length princs → p ≡ get_or princs i p → AreCounted old policies (take i princs)
    → IsNoted p policies old new → AreCounted new policies (take (i + 1) princs)
unfolding users_of
row_counted policies princs i p old new lt is before noted = record {
  long = noted.long ∙ before.long;
  each = λ j d bound.
      let test : Princ → Bool = names_policy (get_or policies j d).name in
      noted.each j d bound
      ∙ ap (λ (n : ℕ). n + cond (test p) 1 0) (before.each j d bound)
      ∙ ap (λ (x : Princ). length (filter test (take i princs)) + cond (test x) 1 0) is
      ∙ sym (length-filter_more test princs i p lt);
}

few_users : (name : List ℕ) (princs : List Princ) (i : ℕ) → users_of name (take i princs) ≤ length princs
unfolding users_of
few_users name princs i =
    omega (
      arith,
      length-filter (names_policy name) (take i princs),
      count_by-le-length (names_policy name) (take i princs),
      length-take i princs,
    )

pub counted_few : (rows : RowLists) (users : List ℕ) (i : ℕ) → AreRows rows
    → AreCounted users rows.policies (take i rows.princs) → All (λ count. count < 2 ^ 31) users
counted_few rows users i are counted = λ k d lt. small k d lt rows.policies counted
  where
    small : (k : ℕ) (d : ℕ) → k < length users → (policies : List Rules)
        → AreCounted users policies (take i rows.princs) → get_or users k d < 2 ^ 31
    small k d lt [] c = let long = c.long in absurd (omega arith)
    small k d lt (q ∷ policies) c =
        let few = are.few in
        let long = c.long in
        let here = c.each k q (omega arith) in
        omega (arith, get_or_default_zero users k d lt, few_users (get_or (q ∷ policies) k q).name rows.princs i)

pub counted_bound : (users : List ℕ) (policies : List Rules) (princs : List Princ) (at : ℕ)
    → AreCounted users policies princs → at < length policies → at < length users
counted_bound users policies princs at counted lt = let long = counted.long in omega arith
