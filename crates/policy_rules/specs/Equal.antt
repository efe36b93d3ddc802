-- The comparison of policies.
use Rattle.std.proofs.Common.{◌≡◌, ◌↔◌, ℕ, ◌∙◌, ap, subst, true, List}
use Rattle.std.specs.Prelude.{Bool, nat_eq}
use Rattle.std.specs.Cmp.{IsEquivalence, IsPartialEquivalence, first_so, partial_equiv_from_equiv, second_so}
use Rattle.std.specs.Cmp.Lexicographic.{pointwise}
use Rattle.std.specs.Ordering.{eq_of_both, on}
use Rattle.std.proofs.lemmas.Bool.{eqb-true}
use Rattle.std.proofs.lemmas.Cmp.{and_equiv, nat_eq_equiv, nat_list_eq_equiv, on_equiv}
use Rattle.std.proofs.lemmas.Slice.Eq.{bytes_eq-Decides}
use Rattle.policy_rules.specs.Rules.{Rules}

abbrev pub same_lives : Rules → Rules → Bool
same_lives = eq_of_both (on (λ (r : Rules). r.max_life) nat_eq) (on (λ (r : Rules). r.min_life) nat_eq)

abbrev pub same_demands : Rules → Rules → Bool
same_demands = eq_of_both (on (λ (r : Rules). r.min_length) nat_eq)
    (eq_of_both (on (λ (r : Rules). r.min_classes) nat_eq) (on (λ (r : Rules). r.history) nat_eq))

-- the same name and the same numbers
abbrev pub same_rules : Rules → Rules → Bool
same_rules = eq_of_both (on (λ (r : Rules). r.name) (pointwise nat_eq)) (eq_of_both same_lives same_demands)

same_lives_equiv : IsEquivalence same_lives
same_lives_equiv =
    and_equiv (on_equiv (λ (r : Rules). r.max_life) nat_eq_equiv) (on_equiv (λ (r : Rules). r.min_life) nat_eq_equiv)

same_demands_equiv : IsEquivalence same_demands
same_demands_equiv =
    and_equiv (on_equiv (λ (r : Rules). r.min_length) nat_eq_equiv)
    (and_equiv (on_equiv (λ (r : Rules). r.min_classes) nat_eq_equiv)
    (on_equiv (λ (r : Rules). r.history) nat_eq_equiv))

pub same_rules_equiv : IsEquivalence same_rules
same_rules_equiv =
    and_equiv (on_equiv (λ (r : Rules). r.name) nat_list_eq_equiv) (and_equiv same_lives_equiv same_demands_equiv)

pub same_rules_partial : IsPartialEquivalence same_rules
same_rules_partial = partial_equiv_from_equiv same_rules_equiv

-- ---- what is equal is one

abbrev made : List ℕ → ℕ → ℕ → ℕ → ℕ → ℕ → Rules
made name max_life min_life min_length min_classes history =
    record {
      name = name;
      max_life = max_life;
      min_life = min_life;
      min_length = min_length;
      min_classes = min_classes;
      history = history;
    }

one_policy : (a b : Rules) → same_rules a b ≡ true → a ≡ b
one_policy a b e =
    let numbers = second_so _ _ e in
    let lives = first_so _ _ numbers in
    let demands = second_so _ _ numbers in
    let others = second_so _ _ demands in
    let name = (bytes_eq-Decides a.name b.name).0 (first_so _ _ e) in
    let max_life = eqb-true a.max_life b.max_life (first_so _ _ lives) in
    let min_life = eqb-true a.min_life b.min_life (second_so _ _ lives) in
    let min_length = eqb-true a.min_length b.min_length (first_so _ _ demands) in
    let min_classes = eqb-true a.min_classes b.min_classes (first_so _ _ others) in
    let history = eqb-true a.history b.history (second_so _ _ others) in
    ap (λ (x : List ℕ). made x a.max_life a.min_life a.min_length a.min_classes a.history) name
    ∙ ap (λ (n : ℕ). made b.name n a.min_life a.min_length a.min_classes a.history) max_life
    ∙ ap (λ (n : ℕ). made b.name b.max_life n a.min_length a.min_classes a.history) min_life
    ∙ ap (λ (n : ℕ). made b.name b.max_life b.min_life n a.min_classes a.history) min_length
    ∙ ap (λ (n : ℕ). made b.name b.max_life b.min_life b.min_length n a.history) min_classes
    ∙ ap (λ (n : ℕ). made b.name b.max_life b.min_life b.min_length b.min_classes n) history

pub equal_rules : (a b : Rules) → (same_rules a b ≡ true) ↔ (a ≡ b)
equal_rules a b = (one_policy a b, λ e. subst (λ (r : Rules). same_rules a r ≡ true) e (same_rules_equiv.refl a))
