-- Why keys are not changed, and the record that has them changed. All of it is over plain variables.
use Rattle.std.specs.Prelude.{ℕ, ◌+◌, Bool, false, not, ◌&&◌, ◌||◌, nat_le, nat_lt, List, [], ◌∷◌}
use Rattle.std.specs.Prelude.{◌++◌, drop, length, min, Option, None, option_and_then, if◌then◌else◌}
use Rattle.command_plans.specs.KeptEntries.{is_drawn}
use Rattle.kadm_commands.specs.declared.commands.ChangeKeys.{ChangeKeys}
use Rattle.kdb_base.specs.Key.{Key}
use Rattle.kdb_base.specs.Limits.{most_keys}
use Rattle.kdb_base.specs.declared.outcomes.Refusal.{Refusal}
use Rattle.kdb_base.specs.declared.outcomes.Refusal.TheVariants as why
use Rattle.key_plans.specs.declared.rekeying.With.{With}
use Rattle.kdb_model.specs.Fields.{By, has_bit, lockdown_keys, needchange, rekeyed_head}
use Rattle.kdb_model.specs.Refusals.{fails_by, greatest_kvno, password_of, when}
use Rattle.kdb_plain.specs.Heads.{plain_head, plain_of}
use Rattle.kdb_plain.specs.declared.princs.PlainPrinc.{PlainPrinc}
use Rattle.plain_keys.specs.Keys.{is_password, is_reused, items_of, kept_keys, newest_kvno, remembered}
use Rattle.plain_keys.specs.declared.items.PlainItem.{PlainItem}
use Rattle.plain_keys.specs.declared.items.PlainSet.{PlainSet}
use Rattle.policy_rules.specs.Numbers.{Numbers}
use Rattle.policy_rules.specs.Passwords.{has_few_classes, is_short}
use Rattle.princ_keys.specs.declared.keys.KeyItem.{KeyItem}
use Rattle.princ_keys.specs.declared.remembered.OldSet.{OldSet}
use Rattle.princ_record.specs.declared.princs.Princ.{Princ}
use Rattle.row_keys.specs.Remembering.{remembered_sets}
use Rattle.row_keys.specs.Wraps.{rekeyed_items, taken_lens}

-- ---- causes

-- the least life of keys that were set at this second is not over
abbrev pub soon_after : ℕ → ℕ → ℕ → ℕ → Option Refusal
soon_after secs life attributes changed =
    when (not (has_bit needchange attributes) && nat_lt secs (changed + life))
    (why.PassTooSoon (min (changed + life) 4294967295))

-- over a connection a principal does not change the own keys again before that
abbrev pub soon_again : Bool → Bool → ℕ → ℕ → PlainPrinc → Option Refusal
soon_again connected own secs life q =
    if connected then (if own then option_and_then (soon_after secs life q.attributes) q.pw_changed else None) else None

-- no version is left for new keys, or there would be more than a principal may have
abbrev pub lacks_room : ℕ → Bool → PlainPrinc → Bool
lacks_room count keep q =
    nat_le greatest_kvno (newest_kvno q.keys) || nat_lt most_keys (count + length (kept_keys keep q.keys))

-- Why the keys of this principal are not changed for these, one after the other: `connected` says that there is an
-- access list, `own` that the command is on the client's own name, and the numbers are those of the principal's policy.
abbrev pub change_causes : Bool → Bool → ℕ → Numbers → ChangeKeys → List Key → PlainPrinc → List (Option Refusal)
change_causes connected own secs numbers c fresh q =
    when (connected && has_bit lockdown_keys q.attributes && is_password c.keys) why.LockedDown
    ∷ when (fails_by is_short numbers (password_of c.keys)) why.PassTooShort
    ∷ when (fails_by has_few_classes numbers (password_of c.keys)) why.PassClasses
    ∷ when (is_password c.keys && is_reused fresh q.keys q.old) why.PassReused
    ∷ soon_again connected own secs numbers.min_life q
    ∷ when (lacks_room (length fresh) c.keep_old q) why.KeysFull
    ∷ []

-- ---- the record

-- new keys have the next version
abbrev pub next_items : List Key → List PlainItem → List PlainItem
next_items fresh keys = items_of (newest_kvno keys + 1) fresh

-- what new keys and those that stay leave of the block
abbrev pub block_behind : List ℕ → ChangeKeys → List Key → PlainPrinc → List ℕ
block_behind random c fresh q = drop (taken_lens false (kept_keys c.keep_old q.keys))
    (drop (taken_lens (is_drawn c.keys) (next_items fresh q.keys)) random)

-- the keys, wrapped under the active master key
abbrev pub kept_items : Key → List ℕ → ChangeKeys → List Key → PlainPrinc → List KeyItem
kept_items master random c fresh q =
    rekeyed_items master (is_drawn c.keys) random (next_items fresh q.keys) (kept_keys c.keep_old q.keys)

-- the remembered keys, wrapped under the history key; a random key leaves them as they are
abbrev pub kept_sets : Key → ℕ → List ℕ → ChangeKeys → List Key → PlainPrinc → List OldSet → List OldSet
kept_sets history count random c fresh q old =
    if is_password c.keys then remembered_sets history count (block_behind random c fresh q) q.keys old else old

-- the record, of this principal, with new keys
abbrev pub kept_with : With → List ℕ → By → ChangeKeys → List Key → PlainPrinc → Princ → Princ
kept_with w random by c fresh q p = record (rekeyed_head w.active.version w.numbers.max_life by p) {
  keys = kept_items w.active.key random c fresh q;
  old = kept_sets w.history w.numbers.history random c fresh q p.old;
}

-- what the principal remembers then
abbrev pub plain_sets : ℕ → ChangeKeys → PlainPrinc → List PlainSet
plain_sets count c q = if is_password c.keys then remembered count q.keys q.old else q.old

-- the principal with new keys
abbrev pub plain_with : With → By → ChangeKeys → List Key → PlainPrinc → PlainPrinc
plain_with w by c fresh q =
    plain_of (rekeyed_head w.active.version w.numbers.max_life by (plain_head q))
    (next_items fresh q.keys ++ kept_keys c.keep_old q.keys) (plain_sets w.numbers.history c q)
