-- How the record is found whose keys are changed.
use Rattle.std.proofs.Common.{◌≡◌, ℕ, List, [], ◌∷◌, Option, Some, None, sym, ap, ◌∙◌}
use Rattle.std.specs.Prelude.{is_none}
use Rattle.std.specs.List.{list_any}
use Rattle.command_plans.proofs.Lists.{nested, none_of, when_not}
use Rattle.command_plans.specs.declared.given.Given.{Given}
use Rattle.kdb_base.specs.declared.outcomes.Refusal.{Refusal}
use Rattle.kdb_base.specs.declared.outcomes.Refusal.TheVariants.{Protected, UnknownPrincipal}
use Rattle.kdb_model.specs.Refusals.{first, is_protected, when}
use Rattle.key_plans.specs.Targets.{IsKeyTarget, change_denial, key_target_refusal}
use Rattle.princ_name.specs.Names.{NameParts, printed}
use Rattle.princ_record.specs.declared.princs.Princ.{Princ}
use Rattle.princ_rows.specs.Rows.{AreRows}
use Rattle.row_keys.specs.Lookups.{record_named}

module _ (g : Given) (name : NameParts) (text : List ℕ) (denied protected : Option Refusal) (found : Option Princ)
    (text_is : text ≡ printed name)
    (denied_is : denied ≡ change_denial g name)
    (protected_is : protected ≡ when (list_any (is_protected g.realm.now) (name ∷ [])) Protected)
    (found_is : found ≡ record_named text g.rows.now.princs) where
  here : found ≡ record_named (printed name) g.rows.now.princs
  here = found_is ∙ ap (λ (n : List ℕ). record_named n g.rows.now.princs) text_is

  pub key_target_found : (p : Princ) → AreRows g.rows.now → first (denied ∷ protected ∷ []) ≡ None → found ≡ Some p
      → IsKeyTarget g name p
  key_target_found p rows none is =
      let first_none = none_of denied (protected ∷ []) none in
      let second_none = none_of protected [] first_none.1 in
      record {
        allowed = sym denied_is ∙ first_none.0;
        unprotected =
            when_not (list_any (is_protected g.realm.now) (name ∷ [])) Protected (sym protected_is ∙ second_none.0);
        there = sym here ∙ is;
        rows = rows;
      }

  pub key_target_missed : (why : Refusal)
      → first (first (denied ∷ protected ∷ []) ∷ when (is_none found) UnknownPrincipal ∷ []) ≡ Some why
      → key_target_refusal g name ≡ Some why
  key_target_missed why e =
      rw (← denied_is, ← protected_is, ← here)
      (sym (nested (denied ∷ protected ∷ []) (when (is_none found) UnknownPrincipal ∷ [])) ∙ e)
