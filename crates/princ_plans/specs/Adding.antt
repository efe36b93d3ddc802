-- The record that addprinc puts.
use Rattle.std.specs.Prelude.{ℕ, ◌≡◌, ◌+◌, [], ◌∷◌, List, Option, IfSome, is_some}
use Rattle.std.specs.Prelude.{length, nat_le, option_and_then, option_map, unwrap_or}
use Rattle.std.specs.List.{list_any}
use Rattle.acl_text.specs.Limits.{IsLimits}
use Rattle.command_plans.specs.Causes.{denial_of}
use Rattle.command_plans.specs.KeptEntries.{wrapped_new}
use Rattle.command_plans.specs.Targets.{IsBy, by_given}
use Rattle.command_plans.specs.declared.given.Given.{Given}
use Rattle.kadm_commands.specs.declared.commands.AddPrinc.{AddPrinc}
use Rattle.kdb_base.specs.Key.{Key}
use Rattle.kdb_base.specs.Limits.{most_rows}
use Rattle.kdb_base.specs.declared.outcomes.Refusal.{Refusal}
use Rattle.kdb_base.specs.declared.outcomes.Refusal.TheVariants.{Duplicate, PassClasses}
use Rattle.kdb_base.specs.declared.outcomes.Refusal.TheVariants.{PassTooShort, Protected, RowsFull}
use Rattle.kdb_model.specs.Access.{adding, asking}
use Rattle.kdb_model.specs.Fields.{added_head, forced}
use Rattle.kdb_model.specs.Records.{line_policy, numbers_for}
use Rattle.kdb_model.specs.Refusals.{fails_by, is_protected, password_of, when}
use Rattle.plain_keys.specs.Keys.{items_of, made_keys}
use Rattle.plain_keys.specs.declared.items.PlainItem.{PlainItem}
use Rattle.plain_keys.specs.declared.new_keys.NewKeys.{NewKeys}
use Rattle.policy_rules.specs.Numbers.{Numbers}
use Rattle.policy_rules.specs.Passwords.{has_few_classes, is_short}
use Rattle.princ_name.specs.Names.{printed}
use Rattle.princ_plans.specs.Limits.{limits_given}
use Rattle.princ_plans.specs.Policies.{missing_policy}
use Rattle.princ_record.specs.Princs.{AreLives, lives_of}
use Rattle.princ_record.specs.declared.princs.Princ.{Princ}
use Rattle.row_keys.specs.Lookups.{record_named}

-- the policy behind restrictions
abbrev pub policy_given : Given → AddPrinc → Option (List ℕ)
policy_given g c = forced (limits_given g adding c.name) (line_policy c g.rows.now.policies)

-- what it asks
abbrev pub numbers_given : Given → AddPrinc → Numbers
numbers_given g c = numbers_for (policy_given g c) g.rows.now.policies

abbrev pub life_given : Given → AddPrinc → Option ℕ
life_given g c = option_map (λ (keys : NewKeys). (numbers_given g c).max_life) c.keys

-- the fields, under this version of the master key
abbrev pub head_given : Given → AddPrinc → ℕ → Princ
head_given g c version =
    added_head (printed c.name) version (line_policy c g.rows.now.policies) (life_given g c)
    (limits_given g adding c.name) c.options (by_given g)

-- the fields, and what is known of their values
pub record IsHead (g : Given) (c : AddPrinc) (version : ℕ) (head : Princ) : Type 0 where
  pub head_is : head ≡ head_given g c version
  pub by : IsBy (by_given g)
  pub lives : AreLives (lives_of head)
  pub limits : IfSome (limits_given g adding c.name) IsLimits

abbrev pub items_given : Given → AddPrinc → List PlainItem
items_given g c = unwrap_or (option_map (λ keys. items_of 1 (made_keys g.random.now c.name keys)) c.keys) []

-- the record, its keys wrapped under this master key
abbrev pub added_record : Given → AddPrinc → ℕ → Key → Princ
added_record g c version master =
    record (head_given g c version) { keys = wrapped_new master g.random.now (items_given g c) c.keys }

abbrev pub password_given : AddPrinc → Option (List ℕ)
password_given c = option_and_then password_of c.keys

-- why the record is not put, before its length
abbrev pub add_causes : Given → AddPrinc → List (Option Refusal)
add_causes g c =
    denial_of (option_map (λ acl. acl.now) g.acl) g.client.now (asking adding c.name ∷ [])
    ∷ when (list_any (is_protected g.realm.now) (c.name ∷ [])) Protected
    ∷ when (is_some (record_named (printed c.name) g.rows.now.princs)) Duplicate
    ∷ missing_policy g.rows.now.policies c.policy (policy_given g c)
    ∷ when (fails_by is_short (numbers_given g c) (password_given c)) PassTooShort
    ∷ when (fails_by has_few_classes (numbers_given g c) (password_given c)) PassClasses
    ∷ when (nat_le most_rows (length g.rows.now.princs + length g.rows.now.policies)) (RowsFull most_rows)
    ∷ []
