-- What the whole list of causes comes to, command by command. All of it is over states alone.
use Rattle.std.proofs.Common.{◌≡◌, ℕ, ◌+◌, Bool, true, false, ◌&&◌, List, [], ◌∷◌, length, Option, Some, None, refl}
use Rattle.std.specs.Prelude.{is_none, is_some, nat_le, nat_lt, not}
use Rattle.std.specs.List.{list_any}
use Rattle.acl_text.specs.declared.rules.AclLine.{AclLine}
use Rattle.kadm_commands.specs.declared.commands.Command.{Command}
use Rattle.kadm_commands.specs.declared.commands.Command.TheVariants as command
use Rattle.kadm_commands.specs.declared.commands.DelString.{DelString}
use Rattle.kadm_commands.specs.declared.commands.PurgeKeys.{PurgeKeys}
use Rattle.kadm_commands.specs.declared.commands.RenPrinc.{RenPrinc}
use Rattle.kadm_commands.specs.declared.commands.SetString.{SetString}
use Rattle.kadm_commands.specs.declared.policies.ModPolicy.{ModPolicy}
use Rattle.command_plans.specs.Causes.{denial_of, denial_unless}
use Rattle.command_plans.specs.Renaming.{both_asked}
use Rattle.command_plans.proofs.Lists.{skip, and_true, and_false}
use Rattle.kdb_base.specs.Limits.{most_keys, most_rows, most_strings}
use Rattle.kdb_base.specs.Moment.{Moment}
use Rattle.kdb_base.specs.declared.outcomes.Refusal.{Refusal}
use Rattle.kdb_base.specs.declared.outcomes.Refusal.TheVariants.{Duplicate, LockedDown, PolicyInUse, Protected}
use Rattle.kdb_base.specs.declared.outcomes.Refusal.TheVariants.{RowsFull, StringsFull, UnknownPolicy}
use Rattle.kdb_base.specs.declared.outcomes.Refusal.TheVariants.{UnknownPrincipal, UnknownString}
use Rattle.kdb_model.specs.Access.{adding, asking, asking_alone, asks, deleting, denied_in}
use Rattle.kdb_model.specs.Access.{extracting, inquiring, listing, modifying, same_name}
use Rattle.kdb_model.specs.Calls.{Call, call_of}
use Rattle.kdb_model.specs.Entries.{entry_of}
use Rattle.kdb_model.specs.Fields.{has_bit, lockdown_keys}
use Rattle.kdb_model.specs.Refusals.{bytes_put, causes_with, first, is_locked}
use Rattle.kdb_model.specs.Refusals.{is_protected, refusal, target, too_large, when}
use Rattle.kdb_model.specs.Records.{purged, renamed, restrung}
use Rattle.kdb_plain.specs.Strings.{has_room_for, has_string, with_string, without_string}
use Rattle.kdb_plain.specs.declared.changes.PlainOp.TheVariants.{PutPrinc, Rename}
use Rattle.plain_keys.specs.Keys.{keys_from, least_kvno}
use Rattle.kdb_plain.specs.States.{has_policy, policy_named, princ_named, users_of}
use Rattle.kdb_plain.specs.declared.princs.PlainPrinc.{PlainPrinc}
use Rattle.kdb_plain.specs.declared.states.State.{State}
use Rattle.policy_rules.specs.Rules.{Rules}
use Rattle.princ_name.specs.Names.{NameParts, printed}

-- ---- what is left of the causes, once there is the principal

abbrev pub set_string_rest : State → Call → SetString → PlainPrinc → List (Option Refusal)
set_string_rest s call c q =
    when (not (has_room_for c.key q.strings)) (StringsFull most_strings)
    ∷ too_large s (Some (PutPrinc (restrung s call (with_string c.key c.value q.strings) q))) ∷ []

abbrev pub drop_string_rest : State → Call → DelString → PlainPrinc → List (Option Refusal)
drop_string_rest s call c q =
    when (not (has_string c.key q.strings)) UnknownString
    ∷ too_large s (Some (PutPrinc (restrung s call (without_string c.key q.strings) q))) ∷ []

abbrev pub purge_rest : State → Call → PurgeKeys → PlainPrinc → List (Option Refusal)
purge_rest s call c q = too_large s (Some (PutPrinc (purged s call c q))) ∷ []

abbrev pub rename_rest : State → Call → RenPrinc → Option PlainPrinc → List (Option Refusal)
rename_rest s call c None = []
rename_rest s call c (Some q) = when (is_some call.access && is_locked (Some q)) LockedDown
    ∷ too_large s (Some (Rename (printed c.name) (renamed s call c q))) ∷ []

module _ (s : State) (client : NameParts) (clock : Moment) (random : List ℕ) where
  abbrev told : Option (List AclLine) → Command → Call
  told access c = call_of client access c clock random false

  -- ---- principals

  pub drop_tests : (access : Option (List AclLine)) (name : NameParts) (found : Option PlainPrinc)
      → princ_named (printed name) s.princs ≡ found
      → refusal s (told access (command.DelPrinc name)) ≡ first (
      denial_of access client (asking deleting name ∷ [])
      ∷ when (list_any (is_protected s.realm) (name ∷ [])) Protected
      ∷ when (is_none found) UnknownPrincipal
      ∷ when (is_some access && is_locked found) LockedDown
      ∷ []
      )
  unfolding refusal causes_with first target entry_of asks bytes_put
  drop_tests None name None e = rw e (skip (when (list_any (is_protected s.realm) (name ∷ [])) Protected) _ _ refl)
  drop_tests None name (Some q) e = rw e (skip (when (list_any (is_protected s.realm) (name ∷ [])) Protected) _ _ refl)
  drop_tests (Some lines) name None e =
      rw e (skip (denied_in lines client (asking deleting name ∷ [])) _ _
      (skip (when (list_any (is_protected s.realm) (name ∷ [])) Protected) _ _ refl))
  drop_tests (Some lines) name (Some q) e =
      rw e (skip (denied_in lines client (asking deleting name ∷ [])) _ _
      (skip (when (list_any (is_protected s.realm) (name ∷ [])) Protected) _ _
      (rw (and_true (has_bit lockdown_keys q.attributes))
      (skip (when (has_bit lockdown_keys q.attributes) LockedDown) _ _ refl))))

  pub extract_tests : (access : Option (List AclLine)) (name : NameParts) (found : Option PlainPrinc)
      → princ_named (printed name) s.princs ≡ found
      → refusal s (told access (command.Extract name)) ≡ first (
      denial_of access client (asking extracting name ∷ [])
      ∷ when (list_any (is_protected s.realm) (name ∷ [])) Protected
      ∷ when (is_none found) UnknownPrincipal
      ∷ when (is_some access && is_locked found) LockedDown
      ∷ []
      )
  unfolding refusal causes_with first target entry_of asks bytes_put
  extract_tests None name None e = rw e (skip (when (list_any (is_protected s.realm) (name ∷ [])) Protected) _ _ refl)
  extract_tests None name (Some q) e =
      rw e (skip (when (list_any (is_protected s.realm) (name ∷ [])) Protected) _ _ refl)
  extract_tests (Some lines) name None e =
      rw e (skip (denied_in lines client (asking extracting name ∷ [])) _ _
      (skip (when (list_any (is_protected s.realm) (name ∷ [])) Protected) _ _ refl))
  extract_tests (Some lines) name (Some q) e =
      rw e (skip (denied_in lines client (asking extracting name ∷ [])) _ _
      (skip (when (list_any (is_protected s.realm) (name ∷ [])) Protected) _ _
      (rw (and_true (has_bit lockdown_keys q.attributes))
      (skip (when (has_bit lockdown_keys q.attributes) LockedDown) _ _ refl))))

  pub strings_tests : (access : Option (List AclLine)) (name : NameParts) (found : Option PlainPrinc)
      → princ_named (printed name) s.princs ≡ found
      → refusal s (told access (command.GetStrings name))
      ≡ first (denial_of access client (asking inquiring name ∷ []) ∷ when (is_none found) UnknownPrincipal ∷ [])
  unfolding refusal causes_with first target entry_of asks bytes_put
  strings_tests None name None e = rw e refl
  strings_tests None name (Some q) e = rw e refl
  strings_tests (Some lines) name None e = rw e (skip (denied_in lines client (asking inquiring name ∷ [])) _ _ refl)
  strings_tests (Some lines) name (Some q) e = rw (e, and_false (has_bit lockdown_keys q.attributes))
      (skip (denied_in lines client (asking inquiring name ∷ [])) _ _ refl)

  -- everybody may look at the own record
  pub show_tests : (access : Option (List AclLine)) (name : NameParts) (found : Option PlainPrinc) (own : Bool)
      → princ_named (printed name) s.princs ≡ found → same_name client name ≡ own
      → refusal s (told access (command.GetPrinc name)) ≡ first
      (denial_unless own access client (asking inquiring name ∷ []) ∷ when (is_none found) UnknownPrincipal ∷ [])
  unfolding refusal causes_with first target entry_of asks bytes_put
  show_tests None name None own e same = rw e refl
  show_tests None name (Some q) own e same = rw e refl
  show_tests (Some lines) name None true e same = rw (e, same) refl
  show_tests (Some lines) name (Some q) true e same = rw (e, same, and_false (has_bit lockdown_keys q.attributes)) refl
  show_tests (Some lines) name None false e same =
      rw (e, same) (skip (denied_in lines client (asking inquiring name ∷ [])) _ _ refl)
  show_tests (Some lines) name (Some q) false e same = rw (e, same, and_false (has_bit lockdown_keys q.attributes))
      (skip (denied_in lines client (asking inquiring name ∷ [])) _ _ refl)

  pub list_tests : (access : Option (List AclLine)) (glob : Option (List ℕ)) → refusal s
      (told access (command.ListPrincs glob)) ≡ first (denial_of access client (asking_alone listing ∷ []) ∷ [])
  unfolding refusal causes_with first target entry_of asks bytes_put
  list_tests None glob = refl
  list_tests (Some lines) glob = skip (denied_in lines client (asking_alone listing ∷ [])) _ _ refl

  pub privileges_tests : (access : Option (List AclLine)) → refusal s (told access command.GetPrivs) ≡ None
  unfolding refusal causes_with first target entry_of asks bytes_put denied_in
  privileges_tests None = refl
  privileges_tests (Some lines) = refl

  -- ---- policies

  pub policies_tests : (access : Option (List AclLine))
      → refusal s (told access command.ListPolicies) ≡ first (denial_of access client (asking_alone listing ∷ []) ∷ [])
  unfolding refusal causes_with first target entry_of asks bytes_put
  policies_tests None = refl
  policies_tests (Some lines) = skip (denied_in lines client (asking_alone listing ∷ [])) _ _ refl

  pub policy_tests : (access : Option (List AclLine)) (name : List ℕ)
      → refusal s (told access (command.GetPolicy name)) ≡ first (denial_of access client (asking_alone inquiring ∷ [])
      ∷ when (not (has_policy name s.policies)) UnknownPolicy ∷ [])
  unfolding refusal causes_with first target entry_of asks bytes_put
  policy_tests None name = skip (when (not (has_policy name s.policies)) UnknownPolicy) _ _ refl
  policy_tests (Some lines) name = skip (denied_in lines client (asking_alone inquiring ∷ [])) _ _
      (skip (when (not (has_policy name s.policies)) UnknownPolicy) _ _ refl)

  abbrev full : Option Refusal
  full = when (nat_le most_rows (length s.princs + length s.policies)) (RowsFull most_rows)

  pub add_policy_tests : (access : Option (List AclLine)) (p : Rules)
      → refusal s (told access (command.AddPolicy p)) ≡ first
      (denial_of access client (asking_alone adding ∷ []) ∷ when (has_policy p.name s.policies) Duplicate ∷ full ∷ [])
  unfolding refusal causes_with first target entry_of asks bytes_put
  add_policy_tests None p = skip (when (has_policy p.name s.policies) Duplicate) _ _ (skip full _ _ refl)
  add_policy_tests (Some lines) p = skip (denied_in lines client (asking_alone adding ∷ [])) _ _
      (skip (when (has_policy p.name s.policies) Duplicate) _ _ (skip full _ _ refl))

  pub modify_policy_tests : (access : Option (List AclLine)) (c : ModPolicy) (found : Option Rules)
      → policy_named c.name s.policies ≡ found
      → refusal s (told access (command.ModPolicy c))
      ≡ first (denial_of access client (asking_alone modifying ∷ []) ∷ when (is_none found) UnknownPolicy ∷ [])
  unfolding refusal causes_with first target entry_of asks bytes_put
  modify_policy_tests None c None e = rw e refl
  modify_policy_tests None c (Some p) e = rw e refl
  modify_policy_tests (Some lines) c None e =
      rw e (skip (denied_in lines client (asking_alone modifying ∷ [])) _ _ refl)
  modify_policy_tests (Some lines) c (Some p) e =
      rw e (skip (denied_in lines client (asking_alone modifying ∷ [])) _ _ refl)

  abbrev used : List ℕ → Option Refusal
  used name = when (nat_lt 0 (users_of name s.princs)) (PolicyInUse (users_of name s.princs))

  pub drop_policy_tests : (access : Option (List AclLine)) (name : List ℕ) (found : Option Rules)
      → policy_named name s.policies ≡ found
      → refusal s (told access (command.DelPolicy name)) ≡ first
      (denial_of access client (asking_alone deleting ∷ []) ∷ when (is_none found) UnknownPolicy ∷ used name ∷ [])
  unfolding refusal causes_with first target entry_of asks bytes_put
  drop_policy_tests None name None e = rw e refl
  drop_policy_tests None name (Some p) e = rw e (skip (used name) _ _ refl)
  drop_policy_tests (Some lines) name None e =
      rw e (skip (denied_in lines client (asking_alone deleting ∷ [])) _ _ refl)
  drop_policy_tests (Some lines) name (Some p) e =
      rw e (skip (denied_in lines client (asking_alone deleting ∷ [])) _ _ (skip (used name) _ _ refl))

  -- ---- string attributes

  abbrev protected_by : NameParts → Option Refusal
  protected_by name = when (list_any (is_protected s.realm) (name ∷ [])) Protected

  pub set_string_absent : (access : Option (List AclLine)) (c : SetString)
      → princ_named (printed c.name) s.princs ≡ None
      → refusal s (told access (command.SetString c)) ≡ first
      (denial_of access client (asking modifying c.name ∷ []) ∷ protected_by c.name ∷ Some UnknownPrincipal ∷ [])
  unfolding refusal causes_with first target entry_of asks bytes_put
  set_string_absent None c e = rw e (skip (protected_by c.name) _ _ refl)
  set_string_absent (Some lines) c e =
      rw e (skip (denied_in lines client (asking modifying c.name ∷ [])) _ _ (skip (protected_by c.name) _ _ refl))

  pub set_string_present : (access : Option (List AclLine)) (c : SetString) (q : PlainPrinc)
      → nat_lt most_keys (length q.keys) ≡ false → princ_named (printed c.name) s.princs ≡ Some q
      → refusal s (told access (command.SetString c)) ≡ first (denial_of access client (asking modifying c.name ∷ [])
      ∷ protected_by c.name ∷ set_string_rest s (told access (command.SetString c)) c q)
  unfolding refusal causes_with first target entry_of asks bytes_put restrung
  set_string_present None c q few e =
      rw e
      (skip (protected_by c.name) _ _ (skip (when (not (has_room_for c.key q.strings)) (StringsFull most_strings)) _ _
      (skip (too_large s (Some
      (PutPrinc (restrung s (told None (command.SetString c)) (with_string c.key c.value q.strings) q)))) _ _ refl)))
  set_string_present (Some lines) c q few e =
      rw (e, and_false (has_bit lockdown_keys q.attributes))
      (skip (denied_in lines client (asking modifying c.name ∷ [])) _ _ (skip (protected_by c.name) _ _
      (skip (when (not (has_room_for c.key q.strings)) (StringsFull most_strings)) _ _
      (skip (too_large s
      (Some (PutPrinc (restrung s (told (Some lines) (command.SetString c)) (with_string c.key c.value q.strings) q))))
      _ _ refl))))

  pub drop_string_absent : (access : Option (List AclLine)) (c : DelString)
      → princ_named (printed c.name) s.princs ≡ None
      → refusal s (told access (command.DelString c)) ≡ first
      (denial_of access client (asking modifying c.name ∷ []) ∷ protected_by c.name ∷ Some UnknownPrincipal ∷ [])
  unfolding refusal causes_with first target entry_of asks bytes_put
  drop_string_absent None c e = rw e (skip (protected_by c.name) _ _ refl)
  drop_string_absent (Some lines) c e =
      rw e (skip (denied_in lines client (asking modifying c.name ∷ [])) _ _ (skip (protected_by c.name) _ _ refl))

  pub drop_string_present : (access : Option (List AclLine)) (c : DelString) (q : PlainPrinc)
      → nat_lt most_keys (length q.keys) ≡ false → princ_named (printed c.name) s.princs ≡ Some q
      → refusal s (told access (command.DelString c)) ≡ first (denial_of access client (asking modifying c.name ∷ [])
      ∷ protected_by c.name ∷ drop_string_rest s (told access (command.DelString c)) c q)
  unfolding refusal causes_with first target entry_of asks bytes_put restrung
  drop_string_present None c q few e =
      rw e (skip (protected_by c.name) _ _ (skip (when (not (has_string c.key q.strings)) UnknownString) _ _
      (skip (too_large s
      (Some (PutPrinc (restrung s (told None (command.DelString c)) (without_string c.key q.strings) q)))) _ _ refl)))
  drop_string_present (Some lines) c q few e =
      rw (e, and_false (has_bit lockdown_keys q.attributes))
      (skip (denied_in lines client (asking modifying c.name ∷ [])) _ _ (skip (protected_by c.name) _ _
      (skip (when (not (has_string c.key q.strings)) UnknownString) _ _
      (skip (too_large s
      (Some (PutPrinc (restrung s (told (Some lines) (command.DelString c)) (without_string c.key q.strings) q)))) _ _
      refl))))

  -- ---- purgekeys

  pub purge_absent : (access : Option (List AclLine)) (c : PurgeKeys) → princ_named (printed c.name) s.princs ≡ None
      → refusal s (told access (command.PurgeKeys c)) ≡ first
      (denial_of access client (asking modifying c.name ∷ []) ∷ protected_by c.name ∷ Some UnknownPrincipal ∷ [])
  unfolding refusal causes_with first target entry_of asks bytes_put
  purge_absent None c e = rw e (skip (protected_by c.name) _ _ refl)
  purge_absent (Some lines) c e =
      rw e (skip (denied_in lines client (asking modifying c.name ∷ [])) _ _ (skip (protected_by c.name) _ _ refl))

  pub purge_present : (access : Option (List AclLine)) (c : PurgeKeys) (q : PlainPrinc)
      → nat_lt most_keys (length (keys_from (least_kvno c.keep q.keys) q.keys)) ≡ false
      → princ_named (printed c.name) s.princs ≡ Some q
      → refusal s (told access (command.PurgeKeys c)) ≡ first (denial_of access client (asking modifying c.name ∷ [])
      ∷ protected_by c.name ∷ purge_rest s (told access (command.PurgeKeys c)) c q)
  unfolding refusal causes_with first target entry_of asks bytes_put purged
  purge_present None c q few e = rw e (skip (protected_by c.name) _ _
      (skip (too_large s (Some (PutPrinc (purged s (told None (command.PurgeKeys c)) c q)))) _ _ refl))
  purge_present (Some lines) c q few e =
      rw (e, and_false (has_bit lockdown_keys q.attributes))
      (skip (denied_in lines client (asking modifying c.name ∷ [])) _ _ (skip (protected_by c.name) _ _
      (skip (too_large s (Some (PutPrinc (purged s (told (Some lines) (command.PurgeKeys c)) c q)))) _ _ refl)))

  -- ---- renprinc

  abbrev duplicates : Option PlainPrinc → Option Refusal
  duplicates new = when (is_some new) Duplicate

  abbrev both_protected : RenPrinc → Option Refusal
  both_protected c = when (list_any (is_protected s.realm) (c.name ∷ c.new_name ∷ [])) Protected

  pub rename_tests : (access : Option (List AclLine)) (c : RenPrinc) (new found : Option PlainPrinc)
      → princ_named (printed c.new_name) s.princs ≡ new → princ_named (printed c.name) s.princs ≡ found
      → refusal s (told access (command.RenPrinc c)) ≡ first (
      denial_of access client (both_asked c.name c.new_name) ∷ both_protected c ∷ duplicates new
      ∷ when (is_none found) UnknownPrincipal
      ∷ rename_rest s (told access (command.RenPrinc c)) c found
      )
  unfolding refusal causes_with first target entry_of asks bytes_put
  rename_tests None c new None en e = rw (en, e) (skip (both_protected c) _ _ (skip (duplicates new) _ _ refl))
  rename_tests None c new (Some q) en e =
      rw (en, e) (skip (both_protected c) _ _ (skip (duplicates new) _ _
      (skip (too_large s (Some (Rename (printed c.name) (renamed s (told None (command.RenPrinc c)) c q)))) _ _ refl)))
  rename_tests (Some lines) c new None en e =
      rw (en, e) (skip (denied_in lines client (both_asked c.name c.new_name)) _ _
      (skip (both_protected c) _ _ (skip (duplicates new) _ _ refl)))
  rename_tests (Some lines) c new (Some q) en e =
      rw (en, e) (skip (denied_in lines client (both_asked c.name c.new_name)) _ _
      (skip (both_protected c) _ _ (skip (duplicates new) _ _
      (rw (and_true (has_bit lockdown_keys q.attributes))
      (skip (when (has_bit lockdown_keys q.attributes) LockedDown) _ _
      (skip (too_large s (Some (Rename (printed c.name) (renamed s (told (Some lines) (command.RenPrinc c)) c q))))
      _ _ refl))))))
