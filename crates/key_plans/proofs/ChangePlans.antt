-- Plans of cpw.
use Rattle.std.proofs.Common.{◌≡◌, ℕ, Bool, false, List, [], ◌∷◌, ◌++◌, length}
use Rattle.std.proofs.Common.{Option, Some, None, refl, sym, ap, subst, ◌∙◌}
use Rattle.std.specs.Prelude.{Result, Err, is_none, is_some, option_and_then, option_map, unwrap_or}
use Rattle.std.specs.List.{AllZip, list_any}
use Rattle.command_plans.proofs.Lists.{early, later, none_of, when_not}
use Rattle.command_plans.proofs.PrintedPairs.{not_master}
use Rattle.command_plans.proofs.Puts.{by_alike, puts}
use Rattle.command_plans.proofs.RenamedFits.{row_fits, row_name}
use Rattle.command_plans.proofs.Rooms.{may_replace}
use Rattle.command_plans.proofs.Seen.{access_of, found_both, told_at}
use Rattle.command_plans.specs.Given.{IsGiven, IsJudged}
use Rattle.command_plans.specs.KeptEntries.{active_key, kept_entry_of, kept_rekeyed}
use Rattle.command_plans.specs.Targets.{IsBy, IsPut, by_given}
use Rattle.command_plans.specs.declared.given.Given.{Given}
use Rattle.command_plans.specs.declared.planned.Planned.{Planned}
use Rattle.kadm_commands.specs.Commands.{IsCommand, IsNewKeys}
use Rattle.kadm_commands.specs.declared.commands.ChangeKeys.{ChangeKeys}
use Rattle.kadm_commands.specs.declared.commands.Command.{Command}
use Rattle.kadm_commands.specs.declared.commands.Command.TheVariants as command
use Rattle.kdb_base.specs.Key.{Key}
use Rattle.kdb_base.specs.Moment.{Moment}
use Rattle.kdb_base.specs.declared.outcomes.Refusal.{Refusal}
use Rattle.kdb_base.specs.declared.outcomes.Refusal.TheVariants.{KeysFull, Protected, UnknownPrincipal}
use Rattle.kdb_base.specs.declared.versions.Activation.{Activation}
use Rattle.kdb_base.specs.declared.versions.Master.{Master}
use Rattle.kdb_model.proofs.Accepted.{one_name}
use Rattle.kdb_model.specs.Access.{same_name}
use Rattle.kdb_model.specs.Calls.{Call, secs_of}
use Rattle.kdb_model.specs.Entries.{entry, entry_of}
use Rattle.kdb_model.specs.Fields.{By, rekeyed_head}
use Rattle.kdb_model.specs.Records.{active_in, by_of, numbers_for, rekeyed}
use Rattle.kdb_model.specs.Refusals.{first, is_protected, refusal, too_large, when}
use Rattle.kdb_plain.specs.States.{history_key, master_of, princ_named}
use Rattle.kdb_plain.specs.declared.changes.PlainOp.TheVariants as plain
use Rattle.kdb_plain.specs.declared.princs.PlainPrinc.{PlainPrinc}
use Rattle.kdb_plain.specs.declared.states.State.{State}
use Rattle.key_activation.specs.Activations.{active}
use Rattle.key_plans.proofs.ChangeTests.{change_absent, change_present}
use Rattle.key_plans.proofs.KeyFits.{HasRoom, few_remembered, plain_formed, room_there}
use Rattle.key_plans.proofs.Opened.{active_short, opened_is}
use Rattle.key_plans.specs.Changing.{change_causes, kept_with, lacks_room, plain_with}
use Rattle.key_plans.specs.Opening.{IsActiveMaster, IsHistoryKey, IsOpened, active_by}
use Rattle.key_plans.specs.Targets.{IsKeyTarget, change_denial, key_target_refusal}
use Rattle.key_plans.specs.declared.rekeying.With.{With}
use Rattle.master_keys.specs.First.{master_name}
use Rattle.plain_keys.specs.Keys.{made_keys}
use Rattle.policy_rules.specs.Numbers.{Numbers}
use Rattle.policy_rules.specs.Rules.{Rules}
use Rattle.princ_rows.specs.declared.entries.Op.{Op}
use Rattle.princ_rows.specs.declared.entries.Op.TheVariants as op
use Rattle.princ_name.specs.Names.{printed}
use Rattle.princ_name.specs.Printed.{is_master}
use Rattle.princ_name.specs.Realms.{IsRealm}
use Rattle.princ_record.specs.Princs.{IsPrinc}
use Rattle.princ_record.specs.declared.facts.ChainPart.{ChainPart}
use Rattle.princ_record.specs.declared.princs.Princ.{Princ}
use Rattle.row_keys.proofs.Formed.{formed_princ, princ_formed}
use Rattle.row_keys.proofs.Sides.{both_beside}
use Rattle.row_keys.specs.Formed.{IsFormed}
use Rattle.row_keys.specs.Lookups.{record_named}
use Rattle.row_keys.specs.Shows.{ShowsPrinc, ShowsUnder}
use Rattle.row_keys.specs.Sides.{AreBoth, IsBeside}

pub change_well : (realm : List ℕ) (c : ChangeKeys) → IsCommand realm (command.ChangeKeys c)
    → (c.name.realm ≡ realm) × IsNewKeys c.keys
unfolding IsCommand
change_well realm c is = (is.0.own, is.1)

no_chain : (o : Option ChainPart) → is_some o ≡ false → o ≡ None
no_chain None e = refl
no_chain (Some part) e = absurd cc

drop_none : (a b : Option Refusal) (why : Refusal) → first (a ∷ b ∷ None ∷ []) ≡ Some why
    → first (a ∷ b ∷ []) ≡ Some why
unfolding first
drop_none None None why e = absurd cc
drop_none None (Some x) why e = e
drop_none (Some x) b why e = e

unwrapped : (o : Option ℕ) (n : ℕ) → o ≡ Some n → unwrap_or o 0 ≡ n
unwrapped o n e = rw e refl

kept_by : (master history : Option Key) (plain : Option PlainPrinc) (kept : Option Princ)
    (make : Key → Key → PlainPrinc → Princ → Op) (m h : Key) (q : PlainPrinc) (p : Princ)
    → master ≡ Some m → history ≡ Some h → plain ≡ Some q → kept ≡ Some p
    → option_and_then (λ a. option_and_then (λ b. option_and_then (λ x. option_map (make a b x) kept) plain) history)
    master ≡ Some (make m h q p)
kept_by master history plain kept make m h q p a b d e = rw (a, b, d, e) refl

module _ (g : Given) (c : ChangeKeys) where
  abbrev cmd : Command
  cmd = command.ChangeKeys c

  abbrev own : Bool
  own = same_name g.client.now c.name

  abbrev pub fresh : List Key
  fresh = made_keys g.random.now c.name c.keys

  abbrev pub numbers : PlainPrinc → Numbers
  numbers q = numbers_for q.policy g.rows.now.policies

  abbrev pub causes_of : PlainPrinc → List (Option Refusal)
  causes_of q = change_causes (is_some (access_of g)) own g.moment.secs (numbers q) c fresh q

  abbrev pub with_of : Master → Key → PlainPrinc → With
  with_of m history q = record { active = m; history = history; numbers = numbers q }

  pub room_of : (q : PlainPrinc) → first (causes_of q) ≡ None → HasRoom (length fresh) c.keep_old q
  room_of q none =
      let a = none_of _ _ none in
      let b = none_of _ _ a.1 in
      let d = none_of _ _ b.1 in
      let e = none_of _ _ d.1 in
      let f = none_of _ _ e.1 in
      let h = none_of _ _ f.1 in
      room_there (length fresh) c.keep_old q (when_not (lacks_room (length fresh) c.keep_old q) KeysFull h.0)

  -- the record and the principal with new keys
  abbrev pub made_of : Master → Key → PlainPrinc → Princ → Princ
  made_of m history q p = kept_with (with_of m history q) g.random.now (by_given g) c fresh q p

  abbrev pub other_of : Master → Key → PlainPrinc → PlainPrinc
  other_of m history q = plain_with (with_of m history q) (by_given g) c fresh q

  -- ---- what code tells, by its own numbers and keys

  module _ (mine : Bool) (asked : Numbers) (keys : List Key) (q : PlainPrinc) (mine_is : mine ≡ own)
      (asked_is : asked ≡ numbers q) (keys_are : keys ≡ fresh) where
    pub causes_told : first (change_causes (is_some (access_of g)) mine g.moment.secs asked c keys q)
        ≡ first (causes_of q)
    causes_told = rw (mine_is, asked_is, keys_are) refl

    pub made_told : (m : Master) (history : Key) (p : Princ)
        → kept_with (record { active = m; history = history; numbers = asked }) g.random.now (by_given g) c keys q p
        ≡ made_of m history q p
    made_told m history p = rw (asked_is, keys_are) refl

    pub other_told : (m : Master) (history : Key)
        → plain_with (record { active = m; history = history; numbers = asked }) (by_given g) c keys q
        ≡ other_of m history q
    other_told m history = rw (asked_is, keys_are) refl

  abbrev protected_by : List ℕ → Option Refusal
  protected_by realm = when (list_any (is_protected realm) (c.name ∷ [])) Protected

  -- ---- in a state

  module _ (s : State) (call : Call) (given : IsGiven g cmd s call) where
    abbrev told : Call
    told = told_at g cmd given.called.clock

    abbrev R : Princ → PlainPrinc → Type 0
    R = ShowsPrinc s.masters given.seen.shows.history

    sides : AreBoth R (record_named (printed c.name) g.rows.now.princs) (princ_named (printed c.name) s.princs)
    sides = found_both g cmd s call given (printed c.name) (printed c.name)
        (record_named (printed c.name) g.rows.now.princs) refl refl

    abbrev tail : PlainPrinc → List (Option Refusal)
    tail q = too_large s (Some (plain.PutPrinc (rekeyed s told c q))) ∷ []

    rest_alike : (q : PlainPrinc) → first (change_causes (is_some (access_of g)) own (secs_of s told)
        (numbers_for q.policy s.policies) c fresh q ++ tail q) ≡ first (causes_of q ++ tail q)
    rest_alike q =
        ap (λ (n : ℕ).
        first (change_causes (is_some (access_of g)) own n (numbers_for q.policy s.policies) c fresh q ++ tail q))
        (ap (λ (m : Moment). m.secs) given.called.moment_is)
        ∙ ap (λ (ps : List Rules).
        first (change_causes (is_some (access_of g)) own g.moment.secs (numbers_for q.policy ps) c fresh q ++ tail q))
        (sym given.seen.shows.policies)

    early_in : (found : Option Princ) (other : Option PlainPrinc) (why : Refusal)
        → princ_named (printed c.name) s.princs ≡ other → AreBoth R found other
        → first (change_denial g c.name ∷ protected_by g.realm.now ∷ when (is_none found) UnknownPrincipal ∷ [])
        ≡ Some why → refusal s told ≡ Some why
    early_in None None why there both e =
        change_absent s g.client.now given.called.clock g.random.now c (access_of g) own refl there
        ∙ ap (λ r. first (change_denial g c.name ∷ protected_by r ∷ Some UnknownPrincipal ∷ [])) given.seen.realm_is
        ∙ e
    early_in (Some p) (Some q) why there both e =
        change_present s g.client.now given.called.clock g.random.now c (access_of g) own q refl there
        ∙ ap (λ r. first (change_denial g c.name ∷ protected_by r ∷ change_causes (is_some (access_of g)) own
        (secs_of s told) (numbers_for q.policy s.policies) c fresh q ++ tail q)) given.seen.realm_is
        ∙ early (change_denial g c.name ∷ protected_by g.realm.now ∷ []) (change_causes (is_some (access_of g)) own
        (secs_of s told) (numbers_for q.policy s.policies) c fresh q ++ tail q) why
        (drop_none (change_denial g c.name) (protected_by g.realm.now) why e)
    early_in None (Some q) why there both e = absurd both
    early_in (Some p) None why there both e = absurd both

  pub change_early : (why : Refusal) → key_target_refusal g c.name ≡ Some why → IsJudged g cmd (Err why)
  change_early why e = record {
    plan_is = λ s call given.
        ap (refusal s) given.called.call_is
        ∙ early_in s call given (record_named (printed c.name) g.rows.now.princs)
        (princ_named (printed c.name) s.princs) why refl (sides s call given) e;
    applies = tt;
  }

  -- ---- what is known of the record, of what it is opened to, and of the master keys

  module _ (p : Princ) (target : IsKeyTarget g c.name p) (history : Key) (history_is : IsHistoryKey g history)
      (q : PlainPrinc) (opened : IsOpened g.masters.now history p q) where
    fits : IsPrinc p
    fits = row_fits (printed c.name) g.rows.now p target.rows target.there

    alone : IsRealm g.realm.now → IsCommand g.realm.now cmd → p.chain ≡ None
    alone realm is =
        no_chain p.chain
        (fits.facts.chain_there ∙ ap is_master (row_name (printed c.name) g.rows.now p target.there)
        ∙ not_master g.realm.now c.name realm (change_well g.realm.now c is).0
        (one_name g.realm.now c.name target.unprotected))

    pub opened_formed : IsRealm g.realm.now → IsCommand g.realm.now cmd → IsFormed q
    opened_formed realm is = princ_formed opened.master history p q opened.shows (alone realm is) fits

    module _ (s : State) (call : Call) (given : IsGiven g cmd s call) where
      beside : IsBeside (R s call given) p (princ_named (printed c.name) s.princs)
      beside = both_beside (R s call given) (record_named (printed c.name) g.rows.now.princs)
          (princ_named (printed c.name) s.princs) p (sides s call given) target.there

      same_history : history ≡ given.seen.shows.history
      same_history =
          let key = given.seen.shows.history in
          history_is key s.princs
          (subst (λ (ms : List Master). AllZip (ShowsPrinc ms key) g.rows.now.princs s.princs) given.seen.masters_are
          given.seen.shows.princs)
          (subst (λ (r : List ℕ). history_key r s.princs ≡ Some key) given.seen.realm_is given.seen.shows.history_is)

      same_princ : q ≡ beside.other
      same_princ =
          opened_is g.masters.now history p q beside.other opened
          (subst (λ (ms : List Master). ShowsPrinc ms history p beside.other) given.seen.masters_are
          (subst (λ (k : Key). ShowsPrinc s.masters k p beside.other) (sym same_history) beside.beside))

      there : princ_named (printed c.name) s.princs ≡ Some q
      there = beside.there ∙ ap Some (sym same_princ)

      left : refusal s (told s call given) ≡ first (causes_of q ++ tail s call given q)
      unfolding first
      left =
          change_present s g.client.now given.called.clock g.random.now c (access_of g) own q refl there
          ∙ ap (λ r. first (change_denial g c.name ∷ protected_by r ∷ change_causes (is_some (access_of g)) own
          (secs_of s (told s call given)) (numbers_for q.policy s.policies) c fresh q ++ tail s call given q))
          given.seen.realm_is
          ∙ rw (target.allowed, target.unprotected) (rest_alike s call given q)

    pub change_refused : (why : Refusal) → first (causes_of q) ≡ Some why → IsJudged g cmd (Err why)
    change_refused why e = record {
      plan_is = λ s call given. ap (refusal s) given.called.call_is ∙ left s call given
          ∙ early (causes_of q) (tail s call given q) why e;
      applies = tt;
    }

    -- ---- the record with new keys

    module _ (m : Master) (begun : IsActiveMaster g m) (none : first (causes_of q) ≡ None) (realm : IsRealm g.realm.now)
        (is : IsCommand g.realm.now cmd) where
      abbrev change_made : Princ
      change_made = made_of m history q p

      abbrev change_other : PlainPrinc
      change_other = other_of m history q

      made_alone : change_made.chain ≡ None
      unfolding rekeyed_head
      made_alone = alone realm is

      pub change_fits : IsBy (by_given g) → ShowsUnder m.key history change_made change_other → IsPrinc change_made
      change_fits by shows =
          formed_princ m.key history change_made change_other shows made_alone
          (plain_formed g.random.now c (change_well g.realm.now c is).1 q (opened_formed realm is) (room_of q none)
          (with_of m history q) (by_given g) (active_short g m target.rows begun)
          (few_remembered q.policy g.rows.now.policies target.rows.policies) by)

      made_name : change_made.name ≡ printed c.name
      unfolding rekeyed_head
      made_name = row_name (printed c.name) g.rows.now p target.there

      made_mkvno : change_made.mkvno ≡ m.version
      unfolding rekeyed_head
      made_mkvno = refl

      module _ (s : State) (call : Call) (given : IsGiven g cmd s call) where
        active_version : active_in s (told s call given) ≡ m.version
        active_version =
            let shows = given.seen.shows in
            let entry_there : record_named (master_name g.realm.now) g.rows.now.princs ≡ Some shows.entry =
            ap (λ r. record_named (master_name r) g.rows.now.princs) (sym given.seen.realm_is) ∙ shows.there in
            let by_rows : active_by (Some shows.entry) g.moment.secs ≡ Some m.version =
            ap (λ (o : Option Princ). active_by o g.moment.secs) (sym entry_there) ∙ begun.active_is in
            let by_part : active_by (Some shows.entry) g.moment.secs ≡ active s.activations g.moment.secs =
            rw shows.chain.part_is
            (ap (λ (list : List Activation). active list g.moment.secs) shows.chain.activations_are) in
            unwrapped (active s.activations (secs_of s (told s call given))) m.version
            (ap (λ (moment : Moment). active s.activations moment.secs) given.called.moment_is ∙ sym by_part ∙ by_rows)

        abbrev with_at : Key → ℕ → List Rules → With
        with_at key version policies = record {
          active = record { version = version; key = m.key };
          history = key;
          numbers = numbers_for q.policy policies;
        }

        abbrev made_at : Key → ℕ → List Rules → By → Princ
        made_at key version policies by = kept_with (with_at key version policies) g.random.now by c fresh q p

        abbrev other_at : ℕ → List Rules → By → PlainPrinc
        other_at version policies by = plain_with (with_at history version policies) by c fresh q

        made_alike : made_at given.seen.shows.history (active_in s (told s call given)) s.policies
            (by_of s (told s call given)) ≡ change_made
        made_alike =
            ap (λ (key : Key). made_at key (active_in s (told s call given)) s.policies (by_of s (told s call given)))
            (sym (same_history s call given))
            ∙ ap (λ (version : ℕ). made_at history version s.policies (by_of s (told s call given))) active_version
            ∙ ap (λ (policies : List Rules). made_at history m.version policies (by_of s (told s call given)))
            (sym given.seen.shows.policies)
            ∙ ap (made_at history m.version g.rows.now.policies) (by_alike g cmd s call given)

        other_alike : rekeyed s (told s call given) c q ≡ change_other
        unfolding rekeyed
        other_alike =
            ap (λ (version : ℕ). other_at version s.policies (by_of s (told s call given))) active_version
            ∙ ap (λ (policies : List Rules). other_at m.version policies (by_of s (told s call given)))
            (sym given.seen.shows.policies)
            ∙ ap (other_at m.version g.rows.now.policies) (by_alike g cmd s call given)

        active_there : active_key s (told s call given) ≡ Some m.key
        active_there = ap (master_of s.masters) active_version
            ∙ ap (λ (ms : List Master). master_of ms m.version) given.seen.masters_are ∙ begun.key_is

        kept_exact : kept_entry_of g.rows.now s (told s call given) cmd ≡ Some (op.PutPrinc change_made)
        unfolding kept_entry_of kept_rekeyed
        kept_exact =
            kept_by (active_key s (told s call given)) (history_key s.realm s.princs)
            (princ_named (printed c.name) s.princs) (record_named (printed c.name) g.rows.now.princs)
            (λ master key x r. op.PutPrinc (kept_rekeyed master key s (told s call given) c x r)) m.key
            given.seen.shows.history q p
            active_there given.seen.shows.history_is (there s call given) target.there
            ∙ ap (λ (r : Princ). Some (op.PutPrinc r)) made_alike

        entry_there : entry s (told s call given) ≡ Some (plain.PutPrinc (rekeyed s (told s call given) c q))
        unfolding entry_of
        entry_there = rw (there s call given) refl

        shown_in : ShowsUnder m.key history change_made change_other
            → ShowsPrinc s.masters given.seen.shows.history change_made (rekeyed s (told s call given) c q)
        shown_in shows = record {
          master = m.key;
          named = ap (master_of s.masters) made_mkvno
              ∙ ap (λ (ms : List Master). master_of ms m.version) given.seen.masters_are ∙ begun.key_is;
          under = subst (λ (x : PlainPrinc). ShowsUnder m.key given.seen.shows.history change_made x) (sym other_alike)
              (subst (λ (k : Key). ShowsUnder m.key k change_made change_other) (same_history s call given) shows);
        }

      pub changes : (plan : Result Planned Refusal) → IsBy (by_given g)
          → ShowsUnder m.key history change_made change_other → IsPut op.PutPrinc change_made plan → IsJudged g cmd plan
      changes plan by shows put =
          puts g cmd change_made (change_fits by shows) made_alone
          (λ s call given. record {
            other = rekeyed s (told s call given) c q;
            tests = left s call given ∙ later (causes_of q) (tail s call given q) none;
            entry_is = entry_there s call given;
            shows = shown_in s call given shows;
            exact = kept_exact s call given;
          }) plan put (may_replace change_made p g.rows.now target.rows
          (ap (λ n. record_named n g.rows.now.princs) made_name ∙ target.there))
