-- Plans of addprinc.
use Rattle.std.proofs.Common.{◌≡◌, ℕ, ◌+◌, ◌<◌, Bool, true, false, ◌&&◌, List, [], ◌∷◌, ◌++◌}
use Rattle.std.proofs.Common.{length, Option, Some, None, refl, sym, ap, subst, ◌∙◌, arith}
use Rattle.std.specs.Prelude.{Result, if◌then◌else◌, Err, IfSome, is_some, nat_le}
use Rattle.std.specs.Prelude.{nat_lt, option_and_then, option_map, unwrap_or}
use Rattle.std.specs.List.{AllZip, list_any}
use Rattle.std.proofs.lemmas.Bool.{le-ltb, leb-false}
use Rattle.acl_text.specs.Restricting.{restricted}
use Rattle.acl_text.specs.declared.limits.Limits.{Limits}
use Rattle.command_plans.proofs.Lists.{and_false, both, early, later, none_of, when_not}
use Rattle.command_plans.proofs.PrintedPairs.{not_master}
use Rattle.command_plans.proofs.Puts.{by_alike, puts}
use Rattle.command_plans.proofs.Seen.{access_of, found_both, told_at}
use Rattle.command_plans.specs.Given.{IsGiven, IsJudged}
use Rattle.command_plans.specs.KeptEntries.{kept_added, kept_entry_of, wrapped_new}
use Rattle.command_plans.specs.Targets.{IsPut, by_given}
use Rattle.command_plans.specs.declared.given.Given.{Given}
use Rattle.command_plans.specs.declared.planned.Planned.{Planned}
use Rattle.kadm_commands.specs.Commands.{AreOptions, IsCommand, IsNewKeys, IsOwnName, IsPolicyChoice}
use Rattle.kadm_commands.specs.declared.commands.AddPrinc.{AddPrinc}
use Rattle.kadm_commands.specs.declared.commands.Command.TheVariants as command
use Rattle.kadm_commands.specs.declared.options.PrincOptions.{PrincOptions}
use Rattle.kdb_base.specs.Key.{Key}
use Rattle.kdb_base.specs.Limits.{most_keys, most_rows}
use Rattle.kdb_base.specs.Moment.{Moment}
use Rattle.kdb_base.specs.declared.outcomes.Refusal.{Refusal}
use Rattle.kdb_base.specs.declared.outcomes.Refusal.TheVariants.{Duplicate, KeysFull, PassClasses}
use Rattle.kdb_base.specs.declared.outcomes.Refusal.TheVariants.{PassTooShort, Protected, RowsFull}
use Rattle.kdb_base.specs.declared.versions.Activation.{Activation}
use Rattle.kdb_base.specs.declared.versions.Master.{Master}
use Rattle.kdb_model.proofs.Accepted.{one_name}
use Rattle.kdb_model.specs.Access.{adding, limits_for}
use Rattle.kdb_model.specs.Calls.{Call}
use Rattle.kdb_model.specs.Entries.{entry_of}
use Rattle.kdb_model.specs.Fields.{By, added_head, blank_head, forced, with_options}
use Rattle.kdb_model.specs.Records.{active_in, added, added_policy, by_of, default_given}
use Rattle.kdb_model.specs.Records.{default_policy, line_policy, numbers_for}
use Rattle.kdb_model.specs.Refusals.{fails_by, first, is_protected, refusal, when}
use Rattle.kdb_places.proofs.Judged.{may_from}
use Rattle.kdb_places.specs.Applying.{may_apply}
use Rattle.kdb_plain.specs.Heads.{plain_head, plain_of}
use Rattle.kdb_plain.specs.States.{has_policy, master_of, princ_named}
use Rattle.kdb_plain.specs.declared.princs.PlainPrinc.{PlainPrinc}
use Rattle.kdb_plain.specs.declared.states.State.{State}
use Rattle.key_activation.specs.Activations.{active}
use Rattle.master_keys.specs.First.{master_name}
use Rattle.plain_keys.specs.Keys.{items_of, made_keys}
use Rattle.plain_keys.specs.declared.new_keys.NewKeys.{NewKeys}
use Rattle.policy_rules.specs.Names.{is_policy_name}
use Rattle.policy_rules.specs.Numbers.{Numbers}
use Rattle.policy_rules.specs.Passwords.{has_few_classes, is_short}
use Rattle.policy_rules.specs.Rules.{Rules}
use Rattle.princ_rows.specs.declared.entries.Op.{Op}
use Rattle.princ_rows.specs.declared.entries.Op.TheVariants as op
use Rattle.princ_keys.specs.declared.keys.KeyItem.{KeyItem}
use Rattle.princ_name.specs.Names.{NameParts, printed}
use Rattle.princ_name.specs.Realms.{IsRealm}
use Rattle.princ_plans.proofs.AddFits.{AreTold, fields_formed, head_attributes, head_policy, new_fits, new_shows, told}
use Rattle.princ_plans.proofs.AddTests.{add_tests, classes, full, large, many, missing, short, twice}
use Rattle.princ_plans.proofs.NewItems.{made_formed, no_items}
use Rattle.princ_plans.proofs.PolicyFits.{chosen_fits, missing_alike}
use Rattle.princ_plans.specs.Active.{IsActiveMaster, active_of}
use Rattle.princ_plans.specs.Adding.{add_causes, added_record, head_given, items_given}
use Rattle.princ_plans.specs.Adding.{life_given, numbers_given, password_given, policy_given}
use Rattle.princ_plans.specs.Limits.{limits_given}
use Rattle.princ_plans.specs.NewRecords.{IsNewRecord}
use Rattle.princ_plans.specs.Policies.{missing_policy}
use Rattle.princ_record.specs.Princs.{AreLives, IsPolicyOr, IsPrinc, lives_of}
use Rattle.princ_record.specs.declared.facts.ChainPart.{ChainPart}
use Rattle.princ_record.specs.declared.princs.Princ.{Princ}
use Rattle.princ_rows.proofs.Orders.{put_short}
use Rattle.princ_rows.specs.Effects.{IsRoom, effect, put_princ}
use Rattle.princ_rows.specs.Rows.{RowLists}
use Rattle.row_keys.proofs.Names.{counted_alike}
use Rattle.row_keys.specs.Formed.{AreFields, AreItems}
use Rattle.row_keys.specs.Lookups.{record_named}
use Rattle.row_keys.specs.Shows.{ShowsItem, ShowsPrinc}
use Rattle.row_keys.specs.Sides.{AreBoth}

-- ---- the command

abbrev IsWell : List ℕ → AddPrinc → Type 0
IsWell realm c =
    IsOwnName realm c.name × IfSome c.keys IsNewKeys × IfSome c.policy IsPolicyChoice × AreOptions c.options

add_well : (realm : List ℕ) (c : AddPrinc) → IsCommand realm (command.AddPrinc c) → IsWell realm c
unfolding IsCommand
add_well realm c is = is

add_room : (p : Princ) (rows : RowLists) → length rows.princs + length rows.policies < most_rows
    → IsRoom (effect (Some (op.PutPrinc p)) rows)
unfolding effect put_princ
add_room p rows lt = omega (arith, put_short (λ (q : Princ). q.name) p rows.princs)

may_add : (p : Princ) (rows : RowLists) → length rows.princs + length rows.policies < most_rows
    → may_apply (op.PutPrinc p) rows ≡ true
may_add p rows lt = may_from (op.PutPrinc p) rows (add_room p rows lt) tt

default_fits : (b : Bool) → IsPolicyOr (if b then Some default_policy else None)
unfolding is_policy_name
default_fits true = refl
default_fits false = tt

items_formed : (random : List ℕ) (name : NameParts) (keys : Option NewKeys) → IfSome keys IsNewKeys
    → AreItems (unwrap_or (option_map (λ k. items_of 1 (made_keys random name k)) keys) [])
items_formed random name None are = no_items
items_formed random name (Some keys) are = made_formed random name keys are

some_alike : {A B : Type 0} (R : A → B → Type 0) (a : Option A) (b : Option B) → AreBoth R a b → is_some a ≡ is_some b
some_alike R None None h = refl
some_alike R (Some x) (Some y) h = refl
some_alike R None (Some y) h = absurd h
some_alike R (Some x) None h = absurd h

head_forced : (name : List ℕ) (version : ℕ) (policy : Option (List ℕ)) (life : Option ℕ) (limits : Option Limits)
    (options : PrincOptions) (by : By)
    → (added_head name version policy life limits options by).policy ≡ forced limits policy
unfolding added_head with_options blank_head restricted
head_forced name version policy None None options by = refl
head_forced name version policy None (Some l) options by = refl
head_forced name version policy (Some life) None options by = refl
head_forced name version policy (Some life) (Some l) options by = refl

-- ---- a state and what is given

module _ (g : Given) (c : AddPrinc) where
  abbrev limits : Option Limits
  limits = limits_given g adding c.name

  -- what is told of the line under some policies
  abbrev policy_in : List Rules → Option (List ℕ)
  policy_in ps = forced limits (line_policy c ps)

  abbrev numbers_in : List Rules → Numbers
  numbers_in ps = numbers_for (policy_in ps) ps

  abbrev life_in : List Rules → Option ℕ
  life_in ps = option_map (λ (keys : NewKeys). (numbers_in ps).max_life) c.keys

  module _ (s : State) (call : Call) (given : IsGiven g (command.AddPrinc c) s call) where
    abbrev here : Call
    here = told_at g (command.AddPrinc c) given.called.clock

    policies_are : s.policies ≡ g.rows.now.policies
    policies_are = sym given.seen.shows.policies

    numbers_are : numbers_for (added_policy s here c) s.policies ≡ numbers_given g c
    unfolding limits_for
    numbers_are = ap (λ (ps : List Rules). numbers_in ps) policies_are

    put_policy : (added s here c).policy ≡ policy_given g c
    unfolding added limits_for
    put_policy =
        head_forced (printed c.name) (active_in s here) (line_policy c s.policies) (life_in s.policies) limits c.options
        (by_of s here)
        ∙ ap (λ (ps : List Rules). policy_in ps) policies_are

    -- ---- the causes

    twice_is : twice s here c ≡ when (is_some (record_named (printed c.name) g.rows.now.princs)) Duplicate
    twice_is =
        ap (λ b. when b Duplicate) (sym
        (some_alike (ShowsPrinc s.masters given.seen.shows.history) (record_named (printed c.name) g.rows.now.princs)
        (princ_named (printed c.name) s.princs)
        (found_both g (command.AddPrinc c) s call given (printed c.name) (printed c.name)
        (record_named (printed c.name) g.rows.now.princs) refl refl)))

    missing_is : missing s here c ≡ missing_policy g.rows.now.policies c.policy (policy_given g c)
    missing_is =
        missing_alike s g.rows.now.policies c.policy (added s here c).policy given.seen.shows.policies
        ∙ ap (λ p. missing_policy g.rows.now.policies c.policy p) put_policy

    short_is : short s here c ≡ when (fails_by is_short (numbers_given g c) (password_given c)) PassTooShort
    short_is = ap (λ (n : Numbers). when (fails_by is_short n (password_given c)) PassTooShort) numbers_are

    classes_is : classes s here c ≡ when (fails_by has_few_classes (numbers_given g c) (password_given c)) PassClasses
    classes_is = ap (λ (n : Numbers). when (fails_by has_few_classes n (password_given c)) PassClasses) numbers_are

    not_many : IfSome c.keys IsNewKeys → many s here c ≡ None
    unfolding added
    not_many are =
        let few : nat_lt most_keys (length (items_given g c)) ≡ false = le-ltb most_keys (length (items_given g c))
        (items_formed g.random.now c.name c.keys are).few in
        ap (λ b. when (is_some c.keys && b) KeysFull) few ∙ ap (λ b. when b KeysFull) (and_false (is_some c.keys))

    full_is : full s here c
        ≡ when (nat_le most_rows (length g.rows.now.princs + length g.rows.now.policies)) (RowsFull most_rows)
    full_is =
        ap (λ n. when (nat_le most_rows (n + length s.policies)) (RowsFull most_rows))
        (sym (counted_alike s.masters given.seen.shows.history g.rows.now.princs s.princs given.seen.shows.princs))
        ∙ ap (λ (ps : List Rules). when (nat_le most_rows (length g.rows.now.princs + length ps)) (RowsFull most_rows))
        policies_are

    without : (o : Option Refusal) (xs : List (Option Refusal)) → o ≡ None → first (o ∷ xs) ≡ first xs
    unfolding first
    without o xs none = ap (λ (x : Option Refusal). first (x ∷ xs)) none

    left_is : IfSome c.keys IsNewKeys → refusal s here ≡ first (add_causes g c ++ large s here c ∷ [])
    left_is are =
        add_tests s g.client.now given.called.clock g.random.now (access_of g) c
        ∙ both _ _ _ _ refl
        (both _ _ _ _ (ap (λ r. when (list_any (is_protected r) (c.name ∷ [])) Protected) given.seen.realm_is)
        (both _ _ _ _ twice_is (both _ _ _ _ missing_is (both _ _ _ _ short_is (both _ _ _ _ classes_is
        (without (many s here c) _ (not_many are) ∙ both _ _ _ _ full_is refl))))))

    -- ---- the active master key

    module _ (version : ℕ) (key : Key) (is : IsActiveMaster g version key) where
      active_told : active s.activations g.moment.secs ≡ Some version
      active_told =
          let shows = given.seen.shows in
          ap (λ (list : List Activation). active list g.moment.secs) (sym shows.chain.activations_are)
          ∙ ap (option_and_then (λ (part : ChainPart). active part.activations g.moment.secs)) (sym shows.chain.part_is)
          ∙ ap (option_and_then (active_of g)) (sym shows.there)
          ∙ ap (λ (r : List ℕ). option_and_then (active_of g) (record_named (master_name r) g.rows.now.princs))
          given.seen.realm_is
          ∙ is.active

      active_is : active_in s here ≡ version
      active_is =
          ap (λ (m : Moment). unwrap_or (active s.activations m.secs) 0) given.called.moment_is
          ∙ ap (λ (o : Option ℕ). unwrap_or o 0) active_told

      key_there : master_of s.masters version ≡ Some key
      key_there = ap (λ (ms : List Master). master_of ms version) given.seen.masters_are ∙ is.key_is

      added_is : added s here c ≡ plain_of (head_given g c version) (items_given g c) []
      unfolding added limits_for
      added_is =
          ap (λ (b : By). plain_of (added_head (printed c.name) (active_in s here) (line_policy c s.policies)
          (life_in s.policies) limits c.options b) (items_given g c) [])
          (by_alike g (command.AddPrinc c) s call given)
          ∙ ap (λ (n : ℕ). plain_of
          (added_head (printed c.name) n (line_policy c s.policies) (life_in s.policies) limits c.options (by_given g))
          (items_given g c) []) active_is
          ∙ ap (λ (ps : List Rules).
          plain_of (added_head (printed c.name) version (line_policy c ps) (life_in ps) limits c.options (by_given g))
          (items_given g c) []) policies_are

  -- ---- plans

  pub add_refused : (why : Refusal) → IsCommand g.realm.now (command.AddPrinc c) → first (add_causes g c) ≡ Some why
      → IsJudged g (command.AddPrinc c) (Err why)
  add_refused why command_is e = record {
    plan_is = λ s call given.
        ap (refusal s) given.called.call_is ∙ left_is s call given (add_well g.realm.now c command_is).1
        ∙ early (add_causes g c) (large s (here s call given) c ∷ []) why e;
    applies = tt;
  }

  module _ (made : Princ) (is : IsNewRecord g c made) (command_is : IsCommand g.realm.now (command.AddPrinc c))
      (none : first (add_causes g c) ≡ None) where
    well : IsWell g.realm.now c
    well = add_well g.realm.now c command_is

    told_head : AreTold (printed c.name) is.version (by_given g) (head_given g c is.version)
    told_head = told (printed c.name) is.version (line_policy c g.rows.now.policies) c.options (by_given g)
        (life_given g c) limits

    abbrev keys_of : List KeyItem
    keys_of = wrapped_new is.key g.random.now (items_given g c) c.keys

    keys_show : AllZip (ShowsItem is.key) keys_of (items_given g c)
    keys_show = subst (λ (m : Princ). AllZip (ShowsItem is.key) m.keys (items_given g c)) is.made_is is.shows

    no_causes : (list_any (is_protected g.realm.now) (c.name ∷ []) ≡ false)
        × (length g.rows.now.princs + length g.rows.now.policies < most_rows)
    no_causes =
        let a = none_of _ _ none in
        let b = none_of _ _ a.1 in
        let t = none_of _ _ b.1 in
        let m = none_of _ _ t.1 in
        let p = none_of _ _ m.1 in
        let q = none_of _ _ p.1 in
        let f = none_of _ _ q.1 in
        let rows = length g.rows.now.princs + length g.rows.now.policies in
        let free = when_not (nat_le most_rows rows) (RowsFull most_rows) f.0 in (
          when_not (list_any (is_protected g.realm.now) (c.name ∷ [])) Protected b.0,
          omega (arith, leb-false most_rows rows free),
        )

    head_fields : IsRealm g.realm.now → AreFields (head_given g c is.version)
    head_fields realm =
        let policy = line_policy c g.rows.now.policies in
        let named : IsPolicyOr policy = chosen_fits c.policy (default_given g.rows.now.policies) well.2
        (default_fits (has_policy default_policy g.rows.now.policies)) in
        fields_formed (printed c.name) is.version (by_given g) (head_given g c is.version) told_head is.by
        (c.name, (well.0.is_name, refl))
        (not_master g.realm.now c.name realm well.0.own (one_name g.realm.now c.name no_causes.0)) is.active.known
        (head_attributes (printed c.name) is.version policy c.options (by_given g)
        (life_given g c) limits is.limits well.3)
        (subst (λ (m : Princ). AreLives (lives_of m)) is.made_is is.lives)
        (head_policy (printed c.name) is.version policy c.options (by_given g) (life_given g c) limits is.limits named)

    pub add_fits : IsRealm g.realm.now → IsPrinc made
    add_fits realm =
        subst IsPrinc (sym is.made_is)
        (new_fits (printed c.name) is.version (by_given g)
        (head_given g c is.version) told_head keys_of (items_given g c)
        is.key keys_show (head_fields realm) (items_formed g.random.now c.name c.keys well.1))

    made_shows : (s : State) (call : Call) (given : IsGiven g (command.AddPrinc c) s call)
        → ShowsPrinc s.masters given.seen.shows.history made (added s (here s call given) c)
    made_shows s call given =
        subst (λ (m : Princ). ShowsPrinc s.masters given.seen.shows.history m (added s (here s call given) c))
        (sym is.made_is)
        (subst (λ (q : PlainPrinc).
        ShowsPrinc s.masters given.seen.shows.history (added_record g c is.version is.key) q)
        (sym (added_is s call given is.version is.key is.active))
        (new_shows (printed c.name) is.version (by_given g)
        (head_given g c is.version) told_head keys_of (items_given g c)
        s.masters is.key given.seen.shows.history (key_there s call given is.version is.key is.active) keys_show))

    abbrev put_with : Princ → Option Op
    put_with h = Some (op.PutPrinc (record h { keys = keys_of }))

    kept_is : (s : State) (call : Call) (given : IsGiven g (command.AddPrinc c) s call)
        → kept_entry_of g.rows.now s (here s call given) (command.AddPrinc c) ≡ Some (op.PutPrinc made)
    unfolding kept_entry_of kept_added
    kept_is s call given =
        let at = here s call given in
        ap (λ (n : ℕ). option_map (λ (master : Key). op.PutPrinc (kept_added master s at c)) (master_of s.masters n))
        (active_is s call given is.version is.key is.active)
        ∙ ap (option_map (λ (master : Key). op.PutPrinc (kept_added master s at c)))
        (key_there s call given is.version is.key is.active)
        ∙ ap (λ (q : PlainPrinc). put_with (plain_head q)) (added_is s call given is.version is.key is.active)
        ∙ ap put_with (told_head.whole (items_given g c))
        ∙ ap (λ (m : Princ). Some (op.PutPrinc m)) (sym is.made_is)

    pub adds : (plan : Result Planned Refusal) → IsRealm g.realm.now → IsPut op.PutPrinc made plan
        → IsJudged g (command.AddPrinc c) plan
    unfolding entry_of
    adds plan realm put =
        puts g (command.AddPrinc c) made (add_fits realm) (ap (λ (m : Princ). m.chain) is.made_is ∙ told_head.chain)
        (λ s call given. record {
          other = added s (here s call given) c;
          tests = left_is s call given well.1 ∙ later (add_causes g c) (large s (here s call given) c ∷ []) none;
          entry_is = refl;
          shows = made_shows s call given;
          exact = kept_is s call given;
        }) plan put (may_add made g.rows.now no_causes.1)
