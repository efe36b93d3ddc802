use Rattle.std.proofs.Common.{◌≡◌, IfOk, List, Some, ℕ, rules, sym, ap, subst, ◌∙◌}
use Rattle.std.specs.Prelude.{option_map}
use Rattle.command_plans.proofs.TargetFound.{ok_from}
use Rattle.kdb_base.specs.Key.{Key}
use Rattle.kdb_plain.specs.States.{history_name}
use Rattle.key_plans.proofs.Opened.{history_found}
use Rattle.key_plans.specs.Opening.{IsHistoryKey}
use Rattle.row_keys.specs.Lookups.{record_named}
use Rattle.key_plans.proofs.opening.history_key.Goals as goal

pub returns-in-Some : goal.returns-in-Some
returns-in-Some c =
    let g = c.args.given.now in
    let text_is : c.as_slice.result.now ≡ history_name g.realm.now = search rules in
    let there : record_named (history_name g.realm.now) g.rows.now.princs ≡ Some c.in-Some.princ.now =
    ap (λ (n : List ℕ). record_named n g.rows.now.princs) (sym text_is) ∙ sym c.found.ensures.found
    ∙ ap (option_map (λ p. p.now)) c.in-Some.is in
    ok_from (λ key. IsHistoryKey g key) c.first_opened.result (λ key is.
    history_found g c.in-Some.princ.now key there (λ master plain first named shown is_first.
    subst (λ r. IfOk r (λ (x : Key). x ≡ first)) is (c.first_opened.ensures master plain first named shown is_first)))
