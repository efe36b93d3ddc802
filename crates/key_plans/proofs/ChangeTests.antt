-- What the whole list of causes comes to for cpw, over states alone.
use Rattle.std.proofs.Common.{◌≡◌, ℕ, ◌+◌, Bool, true, false, ◌&&◌, ◌||◌, List, [], ◌∷◌}
use Rattle.std.proofs.Common.{◌++◌, length, map, Option, Some, None, refl, ap, arith}
use Rattle.std.specs.Prelude.{is_some, nat_le, nat_lt}
use Rattle.std.specs.List.{list_any}
use Rattle.std.proofs.lemmas.List.{length-append, length-map}
use Rattle.acl_text.specs.declared.rules.AclLine.{AclLine}
use Rattle.command_plans.proofs.Lists.{both, skip}
use Rattle.command_plans.specs.Causes.{denial_unless}
use Rattle.kadm_commands.specs.declared.commands.ChangeKeys.{ChangeKeys}
use Rattle.kadm_commands.specs.declared.commands.Command.TheVariants as command
use Rattle.kdb_base.specs.Key.{Key}
use Rattle.kdb_base.specs.Limits.{most_keys}
use Rattle.kdb_base.specs.Moment.{Moment}
use Rattle.kdb_base.specs.declared.outcomes.Refusal.{Refusal}
use Rattle.kdb_base.specs.declared.outcomes.Refusal.TheVariants.{KeysFull, LockedDown, PassClasses, PassReused}
use Rattle.kdb_base.specs.declared.outcomes.Refusal.TheVariants.{PassTooShort, Protected, UnknownPrincipal}
use Rattle.kdb_model.specs.Access.{asking, asks, changing, denied_in, same_name}
use Rattle.kdb_model.specs.Calls.{Call, call_of, secs_of}
use Rattle.kdb_model.specs.Entries.{entry_of}
use Rattle.kdb_model.specs.Fields.{has_bit, lockdown_keys}
use Rattle.kdb_model.specs.Records.{numbers_for, rekeyed}
use Rattle.kdb_model.specs.Refusals.{bytes_put, causes_with, fails_by, first, greatest_kvno}
use Rattle.kdb_model.specs.Refusals.{is_protected, password_of, refusal, target, too_large, when}
use Rattle.kdb_plain.specs.States.{princ_named}
use Rattle.kdb_plain.specs.declared.changes.PlainOp.TheVariants.{PutPrinc}
use Rattle.kdb_plain.specs.declared.princs.PlainPrinc.{PlainPrinc}
use Rattle.kdb_plain.specs.declared.states.State.{State}
use Rattle.key_plans.specs.Changing.{change_causes, next_items, soon_again}
use Rattle.plain_keys.specs.Keys.{is_password, is_reused, item_of, items_of, kept_keys, made_keys, newest_kvno}
use Rattle.plain_keys.specs.declared.items.PlainItem.{PlainItem}
use Rattle.policy_rules.specs.Passwords.{has_few_classes, is_short}
use Rattle.princ_name.specs.Names.{NameParts, printed}

items_long : (kvno : ℕ) (fresh : List Key) (kept : List PlainItem)
    → length (items_of kvno fresh ++ kept) ≡ length fresh + length kept
unfolding items_of
items_long kvno fresh kept =
    omega (arith, length-append (map (item_of kvno) fresh) kept, length-map fresh (item_of kvno))

module _ (s : State) (client : NameParts) (clock : Moment) (random : List ℕ) (c : ChangeKeys) where
  abbrev told : Option (List AclLine) → Call
  told access = call_of client access (command.ChangeKeys c) clock random false

  abbrev protected : Option Refusal
  protected = when (list_any (is_protected s.realm) (c.name ∷ [])) Protected

  abbrev asked : List AclLine → Option Refusal
  asked lines = denied_in lines client (asking changing c.name ∷ [])

  pub change_absent : (access : Option (List AclLine)) (own : Bool) → same_name client c.name ≡ own
      → princ_named (printed c.name) s.princs ≡ None
      → refusal s (told access)
      ≡ first (denial_unless own access client (asking changing c.name ∷ []) ∷ protected ∷ Some UnknownPrincipal ∷ [])
  unfolding refusal causes_with first target entry_of asks bytes_put
  change_absent None own same e = rw e (skip protected _ _ refl)
  change_absent (Some lines) true same e = rw (e, same) (skip protected _ _ refl)
  change_absent (Some lines) false same e = rw (e, same) (skip (asked lines) _ _ (skip protected _ _ refl))

  -- behind the access list and the protected names
  abbrev rest : Option (List AclLine) → Bool → PlainPrinc → List (Option Refusal)
  rest access own q =
      change_causes (is_some access) own (secs_of s (told access)) (numbers_for q.policy s.policies) c
      (made_keys random c.name c.keys) q
      ++ too_large s (Some (PutPrinc (rekeyed s (told access) c q)))
      ∷ []

  room_alike : (q : PlainPrinc)
      → when (nat_le greatest_kvno (newest_kvno q.keys) || nat_lt most_keys
      (length (next_items (made_keys random c.name c.keys) q.keys ++ kept_keys c.keep_old q.keys))) KeysFull
      ≡ when (nat_le greatest_kvno (newest_kvno q.keys)
      || nat_lt most_keys (length (made_keys random c.name c.keys) + length (kept_keys c.keep_old q.keys))) KeysFull
  room_alike q =
      ap (λ (n : ℕ). when (nat_le greatest_kvno (newest_kvno q.keys) || nat_lt most_keys n) KeysFull)
      (items_long (newest_kvno q.keys + 1) (made_keys random c.name c.keys) (kept_keys c.keep_old q.keys))

  abbrev lock : PlainPrinc → Option Refusal
  lock q = when (has_bit lockdown_keys q.attributes && is_password c.keys) LockedDown

  abbrev short : PlainPrinc → Option Refusal
  short q = when (fails_by is_short (numbers_for q.policy s.policies) (password_of c.keys)) PassTooShort

  abbrev few : PlainPrinc → Option Refusal
  few q = when (fails_by has_few_classes (numbers_for q.policy s.policies) (password_of c.keys)) PassClasses

  abbrev again : PlainPrinc → Option Refusal
  again q = when (is_password c.keys && is_reused (made_keys random c.name c.keys) q.keys q.old) PassReused

  abbrev soon : Option (List AclLine) → Bool → PlainPrinc → Option Refusal
  soon access own q =
      soon_again (is_some access) own (secs_of s (told access)) (numbers_for q.policy s.policies).min_life q

  abbrev large : Option (List AclLine) → PlainPrinc → Option Refusal
  large access q = too_large s (Some (PutPrinc (rekeyed s (told access) c q)))

  pub change_present : (access : Option (List AclLine)) (own : Bool) (q : PlainPrinc) → same_name client c.name ≡ own
      → princ_named (printed c.name) s.princs ≡ Some q
      → refusal s (told access)
      ≡ first (denial_unless own access client (asking changing c.name ∷ []) ∷ protected ∷ rest access own q)
  unfolding refusal causes_with first target entry_of asks bytes_put rekeyed
  change_present None own q same e =
      rw e (skip protected _ _ (skip (short q) _ _
      (skip (few q) _ _ (skip (again q) _ _ (both _ _ _ _ (room_alike q) (skip (large None q) _ _ refl))))))
  change_present (Some lines) true q same e =
      rw (e, same) (skip protected _ _
      (skip (lock q) _ _ (skip (short q) _ _ (skip (few q) _ _ (skip (again q) _ _ (skip (soon (Some lines) true q) _ _
      (both _ _ _ _ (room_alike q) (skip (large (Some lines) q) _ _ refl))))))))
  change_present (Some lines) false q same e =
      rw (e, same) (skip (asked lines) _ _
      (skip protected _ _ (skip (lock q) _ _ (skip (short q) _ _ (skip (few q) _ _ (skip (again q) _ _
      (both _ _ _ _ (room_alike q) (skip (large (Some lines) q) _ _ refl))))))))
