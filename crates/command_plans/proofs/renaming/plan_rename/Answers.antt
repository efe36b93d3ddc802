use Rattle.std.proofs.Common.{◌≡◌, ℕ, List, [], ◌∷◌, Option, Some, None, refl, sym, ap, ◌∙◌, rules}
use Rattle.std.specs.Prelude.{is_none, is_some, option_map}
use Rattle.std.specs.List.{list_any}
use Rattle.princ_name.specs.Names.{printed}
use Rattle.command_plans.proofs.Lists.{missing_alike}
use Rattle.command_plans.proofs.RenamePlans.{rename_early, rename_found, rename_locked, tests_before}
use Rattle.kdb_base.specs.declared.outcomes.Refusal.{Refusal}
use Rattle.kdb_base.specs.declared.outcomes.Refusal.TheVariants.{Duplicate, Protected, UnknownPrincipal}
use Rattle.kdb_model.specs.Refusals.{first, is_protected, when}
use Rattle.princ_record.specs.declared.princs.Princ.{Princ}
use Rattle.row_keys.specs.Lookups.{record_named}
use Rattle.command_plans.proofs.renaming.plan_rename.Goals as goal

pub returns-in-Some : goal.returns-in-Some
returns-in-Some c =
    let denied = c.denial_of_both.ensures in
    let old_is : c.as_slice.result.now ≡ printed c.args.c.now.name = search rules in
    let new_is : c.as_slice-2.result.now ≡ printed c.args.c.now.new_name = search rules in
    let protected : c.protection_of_both.result ≡ when
    (list_any (is_protected c.args.given.now.realm.now) (c.args.c.now.name ∷ c.args.c.now.new_name ∷ [])) Protected =
    c.protection_of_both.ensures c.args.c.now.name c.args.c.now.new_name old_is new_is in
    let twice : c.when.result
    ≡ when (is_some (record_named (printed c.args.c.now.new_name) c.args.given.now.rows.now.princs)) Duplicate =
    search rules in
    let before : c.first.result ≡ first (tests_before c.args.given.now c.args.c.now) =
    c.first.ensures ∙ rw (denied, protected, twice) refl in
    let present = c.present.ensures.ok c.in-Ok.princ c.in-Ok.is in
    let standing : option_map (λ p. p.now) c.found-standing.result
    ≡ record_named (printed c.args.c.now.name) c.args.given.now.rows.now.princs = search rules in
    rename_locked c.args.given.now c.args.c.now c.in-Ok.princ.now c.in-Some.why (sym before ∙ present.0)
    (sym standing ∙ ap (option_map (λ p. p.now)) present.1) (sym c.lockdown.ensures ∙ c.in-Some.is)

pub returns-in-Err : goal.returns-in-Err
returns-in-Err c =
    let denied = c.denial_of_both.ensures in
    let old_is : c.as_slice.result.now ≡ printed c.args.c.now.name = search rules in
    let new_is : c.as_slice-2.result.now ≡ printed c.args.c.now.new_name = search rules in
    let protected : c.protection_of_both.result ≡ when
    (list_any (is_protected c.args.given.now.realm.now) (c.args.c.now.name ∷ c.args.c.now.new_name ∷ [])) Protected =
    c.protection_of_both.ensures c.args.c.now.name c.args.c.now.new_name old_is new_is in
    let twice : c.when.result
    ≡ when (is_some (record_named (printed c.args.c.now.new_name) c.args.given.now.rows.now.princs)) Duplicate =
    search rules in
    let before : c.first.result ≡ first (tests_before c.args.given.now c.args.c.now) =
    c.first.ensures ∙ rw (denied, protected, twice) refl in
    let standing : option_map (λ p. p.now) c.found-standing.result
    ≡ record_named (printed c.args.c.now.name) c.args.given.now.rows.now.princs = search rules in
    rename_early c.args.given.now c.args.c.now c.in-Err.why
    (ap (λ (r : Option Refusal). first
    (r ∷ when (is_none (record_named (printed c.args.c.now.name) c.args.given.now.rows.now.princs)) UnknownPrincipal
    ∷ [])) (sym before)
    ∙ ap (λ (o : Option Princ). first (c.first.result ∷ when (is_none o) UnknownPrincipal ∷ [])) (sym standing)
    ∙ sym (missing_alike (λ p. p.now) c.first.result c.found-standing.result UnknownPrincipal)
    ∙ c.present.ensures.err c.in-Err.why c.in-Err.is)

pub rename-requires-clause-renamed : goal.rename-requires-clause-renamed
rename-requires-clause-renamed c =
    let denied = c.denial_of_both.ensures in
    let old_is : c.as_slice.result.now ≡ printed c.args.c.now.name = search rules in
    let new_is : c.as_slice-2.result.now ≡ printed c.args.c.now.new_name = search rules in
    let protected : c.protection_of_both.result ≡ when
    (list_any (is_protected c.args.given.now.realm.now) (c.args.c.now.name ∷ c.args.c.now.new_name ∷ [])) Protected =
    c.protection_of_both.ensures c.args.c.now.name c.args.c.now.new_name old_is new_is in
    let twice : c.when.result
    ≡ when (is_some (record_named (printed c.args.c.now.new_name) c.args.given.now.rows.now.princs)) Duplicate =
    search rules in
    let before : c.first.result ≡ first (tests_before c.args.given.now c.args.c.now) =
    c.first.ensures ∙ rw (denied, protected, twice) refl in
    let present = c.present.ensures.ok c.in-Ok.princ c.in-Ok.is in
    let standing : option_map (λ p. p.now) c.found-standing.result
    ≡ record_named (printed c.args.c.now.name) c.args.given.now.rows.now.princs = search rules in
    rename_found c.args.given.now c.args.c.now c.in-Ok.princ.now c.found-standing.ensures.rows (sym before ∙ present.0)
    (sym standing ∙ ap (option_map (λ p. p.now)) present.1) (sym c.lockdown.ensures ∙ c.in-None.is)
