-- How a target is found.
use Rattle.std.proofs.Common.{◌≡◌, ℕ, List, [], ◌∷◌, Option, Some, None, refl, sym, ap, ◌∙◌}
use Rattle.std.specs.Prelude.{Result, Ok, Err, IfOk, is_none, option_map}
use Rattle.std.specs.List.{list_any}
use Rattle.command_plans.specs.Causes.{denial_of}
use Rattle.command_plans.specs.Targets.{IsTarget, target_refusal}
use Rattle.command_plans.specs.declared.given.Given.{Given}
use Rattle.command_plans.proofs.Lists.{nested, none_of, when_not}
use Rattle.kdb_base.specs.declared.outcomes.Refusal.{Refusal}
use Rattle.kdb_base.specs.declared.outcomes.Refusal.TheVariants.{Protected, UnknownPrincipal}
use Rattle.kdb_model.specs.Access.{asking}
use Rattle.kdb_model.specs.Refusals.{first, is_protected, when}
use Rattle.princ_name.specs.Names.{NameParts, printed}
use Rattle.princ_record.specs.declared.princs.Princ.{Princ}
use Rattle.princ_rows.specs.Rows.{AreRows}
use Rattle.row_keys.specs.Lookups.{record_named}

pub ok_from : {A E : Type 0} (F : A → Type 0) (r : Result A E) → ((x : A) → r ≡ Ok x → F x) → IfOk r F
ok_from F (Ok x) each = each x refl
ok_from F (Err e) each = tt

module _ (g : Given) (letter : ℕ) (name : NameParts) (text : List ℕ) (denied protected : Option Refusal)
    (found : Option Princ)
    (text_is : text ≡ printed name)
    (denied_is : denied ≡ denial_of (option_map (λ acl. acl.now) g.acl) g.client.now (asking letter name ∷ []))
    (protected_is : protected ≡ when (list_any (is_protected g.realm.now) (name ∷ [])) Protected)
    (found_is : found ≡ record_named text g.rows.now.princs) where
  here : found ≡ record_named (printed name) g.rows.now.princs
  here = found_is ∙ ap (λ (n : List ℕ). record_named n g.rows.now.princs) text_is

  pub target_found : (p : Princ) → AreRows g.rows.now → first (denied ∷ protected ∷ []) ≡ None → found ≡ Some p
      → IsTarget g letter name p
  target_found p rows none is =
      let first_none = none_of denied (protected ∷ []) none in
      let second_none = none_of protected [] first_none.1 in
      record {
        allowed = sym denied_is ∙ first_none.0;
        unprotected =
            when_not (list_any (is_protected g.realm.now) (name ∷ [])) Protected (sym protected_is ∙ second_none.0);
        there = sym here ∙ is;
        rows = rows;
      }

  pub target_missed : (why : Refusal)
      → first (first (denied ∷ protected ∷ []) ∷ when (is_none found) UnknownPrincipal ∷ []) ≡ Some why
      → target_refusal g letter name ≡ Some why
  target_missed why e =
      rw (← denied_is, ← protected_is, ← here)
      (sym (nested (denied ∷ protected ∷ []) (when (is_none found) UnknownPrincipal ∷ [])) ∙ e)
