-- The comparison of names.
use Rattle.std.proofs.Common.{◌≡◌, ◌↔◌, ℕ, ◌∙◌, ap, refl, subst, true, List}
use Rattle.std.specs.Prelude.{Bool, nat_eq}
use Rattle.std.specs.Cmp.{IsEquivalence, IsPartialEquivalence, first_so, partial_equiv_from_equiv, second_so}
use Rattle.std.specs.Cmp.Lexicographic.{pointwise}
use Rattle.std.specs.Ordering.{eq_of_both, on}
use Rattle.std.proofs.lemmas.Cmp.{and_equiv, lists_equiv, nat_list_eq_equiv, on_equiv}
use Rattle.std.proofs.lemmas.Slice.Eq.{bytes_eq-Decides, slice_eq-Decides}
use Rattle.princ_name.specs.Names.{NameParts}

-- the same realm and the same components
abbrev pub same_name : NameParts → NameParts → Bool
same_name = eq_of_both (on (λ (n : NameParts). n.realm) (pointwise nat_eq))
    (on (λ (n : NameParts). n.parts) (pointwise (pointwise nat_eq)))

pub same_name_equiv : IsEquivalence same_name
same_name_equiv =
    and_equiv (on_equiv (λ (n : NameParts). n.realm) nat_list_eq_equiv)
    (on_equiv (λ (n : NameParts). n.parts) (lists_equiv nat_list_eq_equiv))

pub same_name_partial : IsPartialEquivalence same_name
same_name_partial = partial_equiv_from_equiv same_name_equiv

-- ---- what is equal is one

abbrev made : List ℕ → List (List ℕ) → NameParts
made realm parts = record { parts = parts; realm = realm }

one_name : (a b : NameParts) → same_name a b ≡ true → a ≡ b
one_name a b e =
    let realm = (bytes_eq-Decides a.realm b.realm).0 (first_so _ _ e) in
    let parts =
    (slice_eq-Decides bytes_eq-Decides a.parts b.parts (pointwise (pointwise nat_eq) a.parts b.parts) refl).0
    (second_so _ _ e) in
    ap (λ (r : List ℕ). made r a.parts) realm ∙ ap (λ (ps : List (List ℕ)). made b.realm ps) parts

pub equal_name : (a b : NameParts) → (same_name a b ≡ true) ↔ (a ≡ b)
equal_name a b = (one_name a b, λ e. subst (λ (n : NameParts). same_name a n ≡ true) e (same_name_equiv.refl a))
