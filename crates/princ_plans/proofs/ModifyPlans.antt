-- Plans of modprinc.
use Rattle.std.proofs.Common.{◌≡◌, ℕ, ◌&&◌, List, [], ◌∷◌, ◌++◌, Option, Some, None, refl, sym, ap, subst, ◌∙◌}
use Rattle.std.specs.Prelude.{Result, Err, IfSome, is_some, not}
use Rattle.command_plans.proofs.Lists.{both, early, later}
use Rattle.command_plans.proofs.Puts.{Touches, by_alike, puts, target_alone, target_beside, target_fits}
use Rattle.command_plans.proofs.Puts.{target_name, touch_early, touch_left, touch_refused}
use Rattle.command_plans.proofs.Rooms.{may_replace}
use Rattle.command_plans.proofs.Seen.{access_of, told_at}
use Rattle.command_plans.specs.Given.{IsGiven, IsJudged}
use Rattle.command_plans.specs.KeptEntries.{kept_entry_of, kept_modified}
use Rattle.command_plans.specs.Targets.{IsPut, IsTarget, by_given, target_refusal}
use Rattle.command_plans.specs.declared.given.Given.{Given}
use Rattle.command_plans.specs.declared.planned.Planned.{Planned}
use Rattle.kadm_commands.specs.Commands.{AreOptions, IsCommand, IsPolicyChoice}
use Rattle.kadm_commands.specs.declared.commands.Command.TheVariants as command
use Rattle.kadm_commands.specs.declared.commands.ModPrinc.{ModPrinc}
use Rattle.kdb_base.specs.declared.outcomes.Refusal.{Refusal}
use Rattle.kdb_base.specs.declared.outcomes.Refusal.TheVariants.{LockedDown}
use Rattle.kdb_model.specs.Access.{limits_for, modifying}
use Rattle.kdb_model.specs.Calls.{Call}
use Rattle.kdb_model.specs.Entries.{entry_of}
use Rattle.kdb_model.specs.Fields.{By, has_bit, lockdown_keys, modified_head}
use Rattle.kdb_model.specs.Records.{modified}
use Rattle.kdb_model.specs.Refusals.{first, too_large, when}
use Rattle.kdb_plain.specs.Heads.{plain_head, plain_of}
use Rattle.kdb_plain.specs.States.{princ_named}
use Rattle.kdb_plain.specs.declared.changes.PlainOp.TheVariants as plain
use Rattle.kdb_plain.specs.declared.princs.PlainPrinc.{PlainPrinc}
use Rattle.kdb_plain.specs.declared.states.State.{State}
use Rattle.princ_rows.specs.declared.entries.Op.TheVariants as op
use Rattle.princ_name.specs.Names.{printed}
use Rattle.princ_name.specs.Realms.{IsRealm}
use Rattle.princ_plans.proofs.ModifyFits.{modified_fits, modified_shows, same_chain, same_name}
use Rattle.princ_plans.proofs.ModifyTests.{locked_rest, missing_rest, modify_absent, modify_present, modify_rest}
use Rattle.princ_plans.proofs.PolicyFits.{missing_alike}
use Rattle.princ_plans.specs.Limits.{limits_given}
use Rattle.princ_plans.specs.Modifying.{IsModified, modified_record, modify_causes, unlocking}
use Rattle.princ_plans.specs.Policies.{missing_policy}
use Rattle.princ_record.specs.Princs.{AreLives, IsPrinc, lives_of}
use Rattle.princ_record.specs.declared.princs.Princ.{Princ}
use Rattle.princ_rows.specs.Rows.{AreRows}
use Rattle.row_keys.specs.Lookups.{record_named}
use Rattle.row_keys.specs.Shows.{ShowsPrinc}
use Rattle.row_keys.specs.Sides.{IsBeside}

modify_well : (realm : List ℕ) (c : ModPrinc) → IsCommand realm (command.ModPrinc c)
    → (c.name.realm ≡ realm) × (IfSome c.policy IsPolicyChoice × AreOptions c.options)
unfolding IsCommand
modify_well realm c is = (is.0.own, (is.1, is.2))

module _ (g : Given) (c : ModPrinc) where
  abbrev rest : State → Call → PlainPrinc → List (Option Refusal)
  rest s call q = modify_rest s call c q

  pub modify_touches : Touches g (command.ModPrinc c) modifying c.name rest
  modify_touches = record {
    absent = λ s clock e. modify_absent s g.client.now clock g.random.now (access_of g) c e;
    present = λ s clock q are e. modify_present s g.client.now clock g.random.now (access_of g) c q e;
  }

  pub modify_early : (why : Refusal) → AreRows g.rows.now → target_refusal g modifying c.name ≡ Some why
      → IsJudged g (command.ModPrinc c) (Err why)
  modify_early why rows e = touch_early g (command.ModPrinc c) modifying c.name rest modify_touches why rows e

  -- in a state, the model's principal is the one with the fields of what is given
  modified_is : (s : State) (call : Call) (given : IsGiven g (command.ModPrinc c) s call) (q : PlainPrinc)
      → modified s (told_at g (command.ModPrinc c) given.called.clock) c q
      ≡ plain_of (modified_head c.policy (limits_given g modifying c.name) c.options (by_given g) (plain_head q)) q.keys
      q.old
  unfolding modified limits_for
  modified_is s call given q =
      ap (λ (b : By).
      plain_of (modified_head c.policy (limits_given g modifying c.name) c.options b (plain_head q)) q.keys q.old)
      (by_alike g (command.ModPrinc c) s call given)

  module _ (p : Princ) (target : IsTarget g modifying c.name p) (made : Princ) (is : IsModified g c p made) where
    pub modify_fits : IsCommand g.realm.now (command.ModPrinc c) → IsPrinc made
    modify_fits command_is =
        let well = modify_well g.realm.now c command_is in
        subst IsPrinc (sym is.made_is)
        (modified_fits c.policy c.options (by_given g) p (limits_given g modifying c.name) is.limits well.1.0
        well.1.1 is.by
        (subst (λ (m : Princ). AreLives (lives_of m)) is.made_is is.lives) (target_fits g modifying c.name p target))

    abbrev other : (s : State) (call : Call) (given : IsGiven g (command.ModPrinc c) s call)
        → IsBeside (ShowsPrinc s.masters given.seen.shows.history) p (princ_named (printed c.name) s.princs)
    other s call given = target_beside g (command.ModPrinc c) modifying c.name rest modify_touches p target s call given

    abbrev call_at : (s : State) (call : Call) (given : IsGiven g (command.ModPrinc c) s call) → Call
    call_at s call given = told_at g (command.ModPrinc c) given.called.clock

    made_shows : (s : State) (call : Call) (given : IsGiven g (command.ModPrinc c) s call)
        → ShowsPrinc s.masters given.seen.shows.history made
        (modified s (call_at s call given) c (other s call given).other)
    made_shows s call given =
        let q = other s call given in
        subst (λ (m : Princ).
        ShowsPrinc s.masters given.seen.shows.history m (modified s (call_at s call given) c q.other)) (sym is.made_is)
        (subst (λ (o : PlainPrinc). ShowsPrinc s.masters given.seen.shows.history (modified_record g c p) o)
        (sym (modified_is s call given q.other))
        (modified_shows s.masters given.seen.shows.history c.policy c.options (by_given g) p q.other
        (limits_given g modifying c.name) q.beside))

    -- what is left of the causes is told of the records
    left_is : (s : State) (call : Call) (given : IsGiven g (command.ModPrinc c) s call)
        → first (rest s (call_at s call given) (other s call given).other)
        ≡ first (modify_causes g c p made ++ too_large s
        (Some (plain.PutPrinc (modified s (call_at s call given) c (other s call given).other))) ∷ [])
    left_is s call given =
        let q = other s call given in
        let made_q : PlainPrinc = modified s (call_at s call given) c q.other in
        let shows = made_shows s call given in
        let locked : locked_rest (call_at s call given) q.other made_q ≡ unlocking g p made =
        ap (λ (h : Princ). when (is_some (access_of g) && has_bit lockdown_keys h.attributes && not
        (has_bit lockdown_keys made_q.attributes)) LockedDown) (sym q.beside.under.fields)
        ∙ ap (λ (h : Princ). when (is_some (access_of g) && has_bit lockdown_keys p.attributes && not
        (has_bit lockdown_keys h.attributes)) LockedDown) (sym shows.under.fields) in
        let missing : missing_rest s c made_q ≡ missing_policy g.rows.now.policies c.policy made.policy =
        missing_alike s g.rows.now.policies c.policy made_q.policy given.seen.shows.policies
        ∙ ap (λ (h : Princ). missing_policy g.rows.now.policies c.policy h.policy) (sym shows.under.fields) in
        both _ _ _ _ locked (both _ _ _ _ missing refl)

    pub modifies : (plan : Result Planned Refusal) (before : Option Refusal) → before ≡ first (modify_causes g c p made)
        → ((why : Refusal) → before ≡ Some why → plan ≡ Err why) → (before ≡ None → IsPut op.PutPrinc made plan)
        → IsRealm g.realm.now → IsCommand g.realm.now (command.ModPrinc c) → IsJudged g (command.ModPrinc c) plan
    unfolding entry_of kept_entry_of kept_modified limits_for
    modifies plan (Some why) before_is refused put realm command_is =
        subst (λ (r : Result Planned Refusal). IsJudged g (command.ModPrinc c) r) (sym (refused why refl))
        (touch_refused g (command.ModPrinc c) modifying c.name rest modify_touches p target why
        (λ s call given. left_is s call given ∙ early (modify_causes g c p made) _ why (sym before_is)))
    modifies plan None before_is refused put realm command_is =
        let well = modify_well g.realm.now c command_is in
        let limits = limits_given g modifying c.name in
        puts g (command.ModPrinc c) made (modify_fits command_is)
        (ap (λ (m : Princ). m.chain) is.made_is ∙ same_chain c.policy c.options (by_given g) p limits
        ∙ target_alone g modifying c.name p target realm well.0)
        (λ s call given.
        let q = other s call given in
        record {
          other = modified s (call_at s call given) c q.other;
          tests = touch_left g (command.ModPrinc c) modifying c.name rest modify_touches p target s call given
              ∙ left_is s call given ∙ later (modify_causes g c p made) _ (sym before_is);
          entry_is = rw q.there refl;
          shows = made_shows s call given;
          exact = rw target.there (ap (λ (b : By). Some (op.PutPrinc (modified_head c.policy limits c.options b p)))
              (by_alike g (command.ModPrinc c) s call given)
              ∙ ap (λ (m : Princ). Some (op.PutPrinc m)) (sym is.made_is));
        }) plan (put refl)
        (may_replace made p g.rows.now target.rows
        (ap (λ (m : Princ). record_named m.name g.rows.now.princs) is.made_is
        ∙ ap (λ n. record_named n g.rows.now.princs)
        (same_name c.policy c.options (by_given g) p limits ∙ target_name g modifying c.name p target)
        ∙ target.there))
