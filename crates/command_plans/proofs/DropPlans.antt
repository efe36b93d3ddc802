-- Plans of delprinc.
use Rattle.std.proofs.Common.{◌≡◌, ℕ, ◌&&◌, List, [], ◌∷◌, Option, Some, None, refl, sym, ap, ◌∙◌}
use Rattle.std.specs.Prelude.{Ok, is_none, is_some}
use Rattle.std.specs.List.{list_any}
use Rattle.kadm_commands.specs.Commands.{IsCommand}
use Rattle.kadm_commands.specs.declared.commands.Command.TheVariants as command
use Rattle.command_plans.specs.Causes.{denial_of, is_locked_record}
use Rattle.command_plans.specs.Given.{IsGiven, IsJudged}
use Rattle.command_plans.specs.KeptEntries.{kept_entry_of}
use Rattle.command_plans.specs.declared.given.Given.{Given}
use Rattle.command_plans.specs.declared.planned.Planned.TheVariants.{Change}
use Rattle.command_plans.proofs.CommandTests.{drop_tests}
use Rattle.command_plans.proofs.Lists.{both, none_of, there}
use Rattle.command_plans.proofs.Rooms.{may_drop}
use Rattle.command_plans.proofs.Seen.{ComesTo, MakesChange, absent_alike, access_of}
use Rattle.command_plans.proofs.Seen.{changed, comes, found_both, locked_alike, told_at}
use Rattle.kdb_base.specs.declared.outcomes.Refusal.{Refusal}
use Rattle.kdb_base.specs.declared.outcomes.Refusal.TheVariants.{LockedDown, Protected, UnknownPrincipal}
use Rattle.kdb_model.specs.Access.{asking, deleting}
use Rattle.kdb_model.specs.Calls.{Call}
use Rattle.kdb_model.specs.Entries.{entry_of}
use Rattle.kdb_model.specs.Refusals.{first, is_protected, when}
use Rattle.kdb_plain.specs.States.{princ_named}
use Rattle.kdb_plain.specs.declared.changes.PlainOp.TheVariants as plain
use Rattle.kdb_plain.specs.declared.states.State.{State}
use Rattle.princ_rows.specs.declared.entries.Op.TheVariants.{DropPrinc}
use Rattle.princ_name.specs.Names.{NameParts, printed}
use Rattle.princ_record.specs.declared.princs.Princ.{Princ}
use Rattle.princ_rows.specs.Rows.{AreRows}
use Rattle.row_keys.proofs.Sides.{both_beside}
use Rattle.row_keys.specs.Lookups.{record_named}
use Rattle.row_keys.specs.Shows.{ShowsPrinc}
use Rattle.row_keys.specs.Sides.{IsBeside}

module _ (g : Given) (name : NameParts) (text : List ℕ) (found : Option Princ)
    (denied protected absent locked : Option Refusal)
    (text_is : text ≡ printed name)
    (found_is : found ≡ record_named text g.rows.now.princs)
    (denied_is : denied ≡ denial_of (access_of g) g.client.now (asking deleting name ∷ []))
    (protected_is : protected ≡ when (list_any (is_protected g.realm.now) (name ∷ [])) Protected)
    (absent_is : absent ≡ when (is_none found) UnknownPrincipal)
    (locked_is : locked ≡ when (is_some (access_of g) && is_locked_record found) LockedDown) where
  pub drop_comes : ComesTo g (command.DelPrinc name) (denied ∷ protected ∷ absent ∷ locked ∷ [])
  drop_comes = comes g (command.DelPrinc name) (denied ∷ protected ∷ absent ∷ locked ∷ []) (λ s call given.
      let sides = found_both g (command.DelPrinc name) s call given (printed name) text found text_is found_is in
      let history = given.seen.shows.history in
      let other = princ_named (printed name) s.princs in
      drop_tests s g.client.now given.called.clock g.random.now (access_of g) name other refl
      ∙ both _ _ _ _ (sym denied_is)
      (both _ _ _ _
      (ap (λ r. when (list_any (is_protected r) (name ∷ [])) Protected) given.seen.realm_is ∙ sym protected_is)
      (both _ _ _ _
      (ap (λ b. when b UnknownPrincipal) (sym (absent_alike s.masters history found other sides)) ∙ sym absent_is)
      (both _ _ _ _ (ap (λ b. when (is_some (access_of g) && b) LockedDown)
      (sym (locked_alike s.masters history found other sides)) ∙ sym locked_is) refl))))

  drop_makes : (p : Princ) (s : State) (call : Call) (given : IsGiven g (command.DelPrinc name) s call) → found ≡ Some p
      → MakesChange g.rows.now s (told_at g (command.DelPrinc name) given.called.clock) (DropPrinc text)
  unfolding entry_of kept_entry_of
  drop_makes p s call given is =
      let sides = found_both g (command.DelPrinc name) s call given (printed name) text found text_is found_is in
      let beside : IsBeside (ShowsPrinc s.masters given.seen.shows.history) p (princ_named (printed name) s.princs) =
      both_beside (ShowsPrinc s.masters given.seen.shows.history) found
      (princ_named (printed name) s.princs) p sides is in
      let row : record_named (printed name) g.rows.now.princs ≡ Some p =
      ap (λ (n : List ℕ). record_named n g.rows.now.princs) (sym text_is) ∙ sym found_is ∙ is in
      record {
        plain = plain.DropPrinc (printed name);
        entry_is = rw beside.there refl;
        shown = λ history is. text_is;
        exact = rw row (ap (λ (n : List ℕ). Some (DropPrinc n)) (sym text_is));
      }

  pub drops : (result : Option Refusal) → result ≡ first (denied ∷ protected ∷ absent ∷ locked ∷ []) → result ≡ None
      → IsCommand g.realm.now (command.DelPrinc name) → AreRows g.rows.now
      → IsJudged g (command.DelPrinc name) (Ok (Change (DropPrinc text)))
  unfolding IsCommand
  drops result is none own rows =
      let first_none = none_of denied (protected ∷ absent ∷ locked ∷ []) (sym is ∙ none) in
      let second_none = none_of protected (absent ∷ locked ∷ []) first_none.1 in
      let third_none = none_of absent (locked ∷ []) second_none.1 in
      let p = there found UnknownPrincipal (sym absent_is ∙ third_none.0) in
      changed g (command.DelPrinc name) (denied ∷ protected ∷ absent ∷ locked ∷ []) drop_comes result is
      (DropPrinc text) none
      (record { spelled = (name, (own.is_name, text_is)); applies = may_drop text g.rows.now rows })
      (λ s call given. drop_makes p.0 s call given p.1)
