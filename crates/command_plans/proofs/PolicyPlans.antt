-- Plans of the commands of policies.
use Rattle.std.proofs.Common.{◌≡◌, ℕ, ◌+◌, ◌<◌, ◌^◌, Bool, List, [], ◌∷◌, length}
use Rattle.std.proofs.Common.{Option, Some, None, refl, sym, ap, subst, ◌∙◌, arith}
use Rattle.std.specs.Prelude.{Ok, IsTrue, is_none, is_some, nat_le, nat_lt, not, unwrap_or}
use Rattle.std.proofs.lemmas.Bool.{leb-false}
use Rattle.kadm_commands.specs.Commands.{IsBelow32, IsCommand, IsModPolicy, Within}
use Rattle.kadm_commands.specs.declared.commands.Command.TheVariants as command
use Rattle.kadm_commands.specs.declared.policies.ModPolicy.{ModPolicy}
use Rattle.kadm_commands.specs.declared.replies.Reply.TheVariants as reply
use Rattle.command_plans.specs.Causes.{denial_of}
use Rattle.command_plans.specs.Given.{IsGiven, IsJudged}
use Rattle.command_plans.specs.KeptEntries.{kept_entry_of}
use Rattle.command_plans.specs.declared.given.Given.{Given}
use Rattle.command_plans.specs.declared.planned.Planned.TheVariants.{Answer, Change}
use Rattle.command_plans.proofs.CommandTests.{add_policy_tests, drop_policy_tests}
use Rattle.command_plans.proofs.CommandTests.{modify_policy_tests, policies_tests, policy_tests}
use Rattle.command_plans.proofs.Lists.{both, none_missing, none_of, there, when_not}
use Rattle.command_plans.proofs.Rooms.{found_holds, may_add_policy, may_drop_policy, may_replace_policy}
use Rattle.command_plans.proofs.Seen.{ComesTo, access_of, answered, changed, comes}
use Rattle.kdb_base.specs.Limits.{most_rows}
use Rattle.kdb_base.specs.declared.outcomes.Refusal.{Refusal}
use Rattle.kdb_base.specs.declared.outcomes.Refusal.TheVariants.{Duplicate, PolicyInUse, RowsFull, UnknownPolicy}
use Rattle.kdb_model.specs.Access.{adding, asking_alone, deleting, inquiring, listing, modifying}
use Rattle.kdb_model.specs.Calls.{Call}
use Rattle.kdb_model.specs.Entries.{entry_of}
use Rattle.kdb_model.specs.Records.{changed_policy}
use Rattle.kdb_model.specs.Refusals.{first, when}
use Rattle.kdb_model.specs.Steps.{reading_of}
use Rattle.kdb_plain.specs.States.{has_policy, is_policy_named, policy_named}
use Rattle.kdb_plain.specs.declared.changes.PlainOp.TheVariants as plain
use Rattle.kdb_plain.specs.declared.states.State.{State}
use Rattle.policy_rules.specs.Rules.{Rules}
use Rattle.princ_rows.specs.EntryLaws.{same_bytes}
use Rattle.princ_rows.specs.declared.entries.Op.TheVariants.{DropPolicy, PutPolicy}
use Rattle.princ_record.specs.Policies.{IsPolicy}
use Rattle.princ_rows.specs.Rows.{AreRows, policy_keys}
use Rattle.row_keys.proofs.Names.{counted_alike, users_alike}
use Rattle.row_keys.proofs.Whole.{find_there}
use Rattle.row_keys.specs.Lookups.{records_with_policy}

-- ---- what is put has a spelling

below : (given : Option ℕ) (standing : ℕ) → IsBelow32 given → standing < 2 ^ 32 → unwrap_or given standing < 2 ^ 32
below None standing given_is lt = lt
below (Some value) standing lt standing_is = lt

within : (test : ℕ → Bool) (given : Option ℕ) (standing : ℕ) → Within test given → IsTrue (test standing)
    → IsTrue (test (unwrap_or given standing))
within test None standing given_is is = is
within test (Some value) standing is standing_is = is

pub changed_fits : (c : ModPolicy) (p : Rules) → IsModPolicy c → IsPolicy p → IsPolicy (changed_policy c p)
unfolding changed_policy
changed_fits c p is f = record {
  named = f.named;
  max_life = below c.max_life p.max_life is.max_life f.max_life;
  min_life = below c.min_life p.min_life is.min_life f.min_life;
  length = within _ c.min_length p.min_length is.min_length f.length;
  classes = within _ c.min_classes p.min_classes is.min_classes f.classes;
  remembered = within _ c.history p.history is.history f.remembered;
}

pub modifies_well : (realm : List ℕ) (c : ModPolicy) → IsCommand realm (command.ModPolicy c) → IsModPolicy c
unfolding IsCommand
modifies_well realm c is = is

found_name : (name : List ℕ) (policies : List Rules) (p : Rules) → policy_named name policies ≡ Some p → p.name ≡ name
unfolding policy_named
found_name name policies p e = same_bytes p.name name (find_there (is_policy_named name) policies p e).1

found_fits : (name : List ℕ) (g : Given) (p : Rules) → policy_named name g.rows.now.policies ≡ Some p
    → AreRows g.rows.now → IsPolicy p
unfolding policy_named
found_fits name g p e rows = found_holds IsPolicy (is_policy_named name) g.rows.now.policies p e rows.policies

-- ---- addpol

module _ (g : Given) (p : Rules) (denied twice full : Option Refusal)
    (denied_is : denied ≡ denial_of (access_of g) g.client.now (asking_alone adding ∷ []))
    (twice_is : twice ≡ when (has_policy p.name g.rows.now.policies) Duplicate)
    (full_is : full
    ≡ when (nat_le most_rows (length g.rows.now.princs + length g.rows.now.policies)) (RowsFull most_rows)) where
  pub add_comes : ComesTo g (command.AddPolicy p) (denied ∷ twice ∷ full ∷ [])
  add_comes = comes g (command.AddPolicy p) (denied ∷ twice ∷ full ∷ []) (λ s call given.
      let shows = given.seen.shows in
      let same : length s.princs + length s.policies ≡ length g.rows.now.princs + length g.rows.now.policies =
      ap (λ n. n + length s.policies)
      (sym (counted_alike s.masters shows.history g.rows.now.princs s.princs shows.princs))
      ∙ ap (λ (ps : List Rules). length g.rows.now.princs + length ps) (sym shows.policies) in
      add_policy_tests s g.client.now given.called.clock g.random.now (access_of g) p
      ∙ both _ _ _ _ (sym denied_is)
      (both _ _ _ _
      (ap (λ (ps : List Rules). when (has_policy p.name ps) Duplicate) (sym shows.policies) ∙ sym twice_is)
      (both _ _ _ _ (ap (λ n. when (nat_le most_rows n) (RowsFull most_rows)) same ∙ sym full_is) refl)))

  pub adds : (made : Rules) (result : Option Refusal) → result ≡ first (denied ∷ twice ∷ full ∷ []) → result ≡ None
      → IsCommand g.realm.now (command.AddPolicy p) → made ≡ p
      → IsJudged g (command.AddPolicy p) (Ok (Change (PutPolicy made)))
  unfolding IsCommand entry_of kept_entry_of
  adds made result is none fits made_is =
      let first_none = none_of denied (twice ∷ full ∷ []) (sym is ∙ none) in
      let second_none = none_of twice (full ∷ []) first_none.1 in
      let third_none = none_of full [] second_none.1 in
      let short = when_not (nat_le most_rows (length g.rows.now.princs + length g.rows.now.policies))
      (RowsFull most_rows) (sym full_is ∙ third_none.0) in
      changed g (command.AddPolicy p) (denied ∷ twice ∷ full ∷ []) add_comes result is (PutPolicy made) none
      (record {
        spelled = subst IsPolicy (sym made_is) fits;
        applies = may_add_policy made g.rows.now
            (omega (arith, leb-false most_rows (length g.rows.now.princs + length g.rows.now.policies) short));
      })
      (λ s call given. record {
        plain = plain.PutPolicy p;
        entry_is = refl;
        shown = λ history is. made_is;
        exact = ap (λ (q : Rules). Some (PutPolicy q)) (sym made_is);
      })

-- ---- modpol

module _ (g : Given) (c : ModPolicy) (found : Option Rules) (denied : Option Refusal)
    (found_is : found ≡ policy_named c.name g.rows.now.policies)
    (denied_is : denied ≡ denial_of (access_of g) g.client.now (asking_alone modifying ∷ [])) where
  pub modify_comes : ComesTo g (command.ModPolicy c) (denied ∷ when (is_none found) UnknownPolicy ∷ [])
  modify_comes = comes g (command.ModPolicy c) (denied ∷ when (is_none found) UnknownPolicy ∷ []) (λ s call given.
      modify_policy_tests s g.client.now given.called.clock g.random.now (access_of g) c found
      (ap (λ (ps : List Rules). policy_named c.name ps) (sym given.seen.shows.policies) ∙ sym found_is)
      ∙ both _ _ _ _ (sym denied_is) refl)

  pub modifies : (p made : Rules) → denied ≡ None → found ≡ Some p → made ≡ changed_policy c p → IsModPolicy c
      → AreRows g.rows.now → IsJudged g (command.ModPolicy c) (Ok (Change (PutPolicy made)))
  unfolding entry_of kept_entry_of changed_policy
  modifies p made none is made_is well rows =
      let there : policy_named c.name g.rows.now.policies ≡ Some p = sym found_is ∙ is in
      let same : made.name ≡ c.name =
      ap (λ (q : Rules). q.name) made_is ∙ found_name c.name g.rows.now.policies p there in
      changed g (command.ModPolicy c) (denied ∷ when (is_none found) UnknownPolicy ∷ []) modify_comes None
      (none_missing denied found p UnknownPolicy none is) (PutPolicy made) refl
      (record {
        spelled = subst IsPolicy (sym made_is) (changed_fits c p well (found_fits c.name g p there rows));
        applies = may_replace_policy made p g.rows.now rows (ap (λ n. policy_named n g.rows.now.policies) same ∙ there);
      })
      (λ s call given.
      let here : policy_named c.name s.policies ≡ Some p =
      ap (λ (ps : List Rules). policy_named c.name ps) (sym given.seen.shows.policies) ∙ there in
      record {
        plain = plain.PutPolicy (changed_policy c p);
        entry_is = rw here refl;
        shown = λ history is. made_is;
        exact = rw there (ap (λ (q : Rules). Some (PutPolicy q)) (sym made_is));
      })

-- ---- delpol

module _ (g : Given) (name : List ℕ) (found : Option Rules) (denied missing used : Option Refusal)
    (found_is : found ≡ policy_named name g.rows.now.policies)
    (denied_is : denied ≡ denial_of (access_of g) g.client.now (asking_alone deleting ∷ []))
    (missing_is : missing ≡ when (is_none found) UnknownPolicy)
    (used_is : used ≡ when (nat_lt 0 (records_with_policy name g.rows.now.princs))
    (PolicyInUse (records_with_policy name g.rows.now.princs))) where
  pub drop_comes : ComesTo g (command.DelPolicy name) (denied ∷ missing ∷ used ∷ [])
  drop_comes = comes g (command.DelPolicy name) (denied ∷ missing ∷ used ∷ []) (λ s call given.
      let shows = given.seen.shows in
      drop_policy_tests s g.client.now given.called.clock g.random.now (access_of g) name found
      (ap (λ (ps : List Rules). policy_named name ps) (sym shows.policies) ∙ sym found_is)
      ∙ both _ _ _ _ (sym denied_is)
      (both _ _ _ _ (sym missing_is)
      (both _ _ _ _ (ap (λ n. when (nat_lt 0 n) (PolicyInUse n))
      (sym (users_alike s.masters shows.history g.rows.now.princs s.princs shows.princs name)) ∙ sym used_is) refl)))

  pub drops : (made : List ℕ) (result : Option Refusal) → result ≡ first (denied ∷ missing ∷ used ∷ []) → result ≡ None
      → IsCommand g.realm.now (command.DelPolicy name) → made ≡ name → AreRows g.rows.now
      → IsJudged g (command.DelPolicy name) (Ok (Change (DropPolicy made)))
  unfolding IsCommand entry_of kept_entry_of
  drops made result is none fits made_is rows =
      let first_none = none_of denied (missing ∷ used ∷ []) (sym is ∙ none) in
      let second_none = none_of missing (used ∷ []) first_none.1 in
      let p = there found UnknownPolicy (sym missing_is ∙ second_none.0) in
      let row : policy_named name g.rows.now.policies ≡ Some p.0 = sym found_is ∙ p.1 in
      changed g (command.DelPolicy name) (denied ∷ missing ∷ used ∷ []) drop_comes result is (DropPolicy made) none
      (record { spelled = rw made_is fits; applies = may_drop_policy made g.rows.now rows })
      (λ s call given.
      let here : policy_named name s.policies ≡ Some p.0 =
      ap (λ (ps : List Rules). policy_named name ps) (sym given.seen.shows.policies) ∙ row in
      record {
        plain = plain.DropPolicy name;
        entry_is = rw here refl;
        shown = λ history is. made_is;
        exact = rw row (ap (λ n. Some (DropPolicy n)) (sym made_is));
      })

-- ---- getpol

none_not : {A : Type 0} (o : Option A) → not (is_some o) ≡ is_none o
none_not None = refl
none_not (Some x) = refl

module _ (g : Given) (name : List ℕ) (found : Option Rules) (denied : Option Refusal)
    (found_is : found ≡ policy_named name g.rows.now.policies)
    (denied_is : denied ≡ denial_of (access_of g) g.client.now (asking_alone inquiring ∷ [])) where
  here_is : (s : State) (call : Call) → IsGiven g (command.GetPolicy name) s call → policy_named name s.policies ≡ found
  here_is s call given = ap (λ (ps : List Rules). policy_named name ps) (sym given.seen.shows.policies) ∙ sym found_is

  pub show_comes : ComesTo g (command.GetPolicy name) (denied ∷ when (is_none found) UnknownPolicy ∷ [])
  show_comes = comes g (command.GetPolicy name) (denied ∷ when (is_none found) UnknownPolicy ∷ []) (λ s call given.
      policy_tests s g.client.now given.called.clock g.random.now (access_of g) name
      ∙ both _ _ _ _ (sym denied_is)
      (both _ _ _ _ (ap (λ (o : Option Rules). when (not (is_some o)) UnknownPolicy) (here_is s call given)
      ∙ ap (λ b. when b UnknownPolicy) (none_not found)) refl))

  pub shows_policy : (p made : Rules) → denied ≡ None → found ≡ Some p → made ≡ p
      → IsJudged g (command.GetPolicy name) (Ok (Answer (reply.PolicyShown made)))
  unfolding entry_of reading_of
  shows_policy p made none is made_is =
      answered g (command.GetPolicy name) (denied ∷ when (is_none found) UnknownPolicy ∷ []) show_comes None
      (none_missing denied found p UnknownPolicy none is) (reply.PolicyShown made) refl
      (λ s call given. (refl, rw (here_is s call given ∙ is) (ap reply.PolicyShown made_is)))

-- ---- listpols

pub list_comes : (g : Given) (denied : Option Refusal)
    → denied ≡ denial_of (access_of g) g.client.now (asking_alone listing ∷ [])
    → ComesTo g command.ListPolicies (denied ∷ [])
list_comes g denied denied_is = comes g command.ListPolicies (denied ∷ []) (λ s call given.
    policies_tests s g.client.now given.called.clock g.random.now (access_of g) ∙ both _ _ _ _ (sym denied_is) refl)

pub lists_policies : (g : Given) (denied : Option Refusal) (names : List (List ℕ))
    → denied ≡ denial_of (access_of g) g.client.now (asking_alone listing ∷ []) → denied ≡ None
    → names ≡ policy_keys g.rows.now.policies
    → IsJudged g command.ListPolicies (Ok (Answer (reply.Listed names)))
unfolding entry_of reading_of first
lists_policies g denied names denied_is none names_are =
    answered g command.ListPolicies (denied ∷ []) (list_comes g denied denied_is) None (rw none refl)
    (reply.Listed names) refl
    (λ s call given.
    (refl, ap reply.Listed (names_are ∙ ap (λ (ps : List Rules). policy_keys ps) given.seen.shows.policies)))
