-- The records that commands put: principals with their keys, and policies.
use Rattle.std.specs.Prelude.{ℕ, ◌+◌, List, [], ◌++◌, codes, Option, Some, None, option_map, unwrap_or, if◌then◌else◌}
use Rattle.acl_text.specs.declared.limits.Limits.{Limits}
use Rattle.kadm_commands.specs.declared.commands.AddPrinc.{AddPrinc}
use Rattle.kadm_commands.specs.declared.commands.ChangeKeys.{ChangeKeys}
use Rattle.kadm_commands.specs.declared.commands.ModPrinc.{ModPrinc}
use Rattle.kadm_commands.specs.declared.commands.PurgeKeys.{PurgeKeys}
use Rattle.kadm_commands.specs.declared.commands.RenPrinc.{RenPrinc}
use Rattle.kadm_commands.specs.declared.policies.ModPolicy.{ModPolicy}
use Rattle.kdb_model.specs.Access.{adding, modifying, limits_for}
use Rattle.kdb_model.specs.Calls.{Call, secs_of}
use Rattle.kdb_model.specs.Fields.{By, marked, chosen, forced, added_head, modified_head, rekeyed_head, renamed_head}
use Rattle.kdb_plain.specs.Heads.{plain_head, plain_of}
use Rattle.plain_keys.specs.Keys.{newest_kvno, made_keys, items_of, is_password, kept_keys}
use Rattle.plain_keys.specs.Keys.{keys_from, least_kvno, remembered, settled_items}
use Rattle.kdb_plain.specs.States.{has_policy, policy_named}
use Rattle.plain_keys.specs.declared.items.PlainItem.{PlainItem}
use Rattle.plain_keys.specs.declared.new_keys.NewKeys.{NewKeys}
use Rattle.kdb_plain.specs.declared.princs.PlainPrinc.{PlainPrinc}
use Rattle.kdb_plain.specs.declared.states.State.{State}
use Rattle.key_activation.specs.Activations.{active}
use Rattle.policy_rules.specs.Numbers.{Numbers, numbers_of, default_numbers}
use Rattle.policy_rules.specs.Rules.{Rules}
use Rattle.princ_name.specs.Names.{printed}
use Rattle.tagged_data.specs.declared.string_attributes.StringAttribute.{StringAttribute}

abbrev pub by_of : State → Call → By
by_of s call = record { client = printed call.client; secs = secs_of s call }

-- the version under which new keys are kept; a valid state has one
abbrev pub active_in : State → Call → ℕ
active_in s call = unwrap_or (active s.activations (secs_of s call)) 0

-- what a policy asks; without one, or where it is not there, the defaults
abbrev pub numbers_for : Option (List ℕ) → List Rules → Numbers
numbers_for None policies = default_numbers
numbers_for (Some name) policies = unwrap_or (option_map numbers_of (policy_named name policies)) default_numbers

-- ---- addprinc

-- the policy of this name is given where there is one and the line says nothing of policies
abbrev pub default_policy : List ℕ
default_policy = codes "default"

abbrev pub default_given : List Rules → Option (List ℕ)
default_given policies = if has_policy default_policy policies then Some default_policy else None

abbrev pub line_policy : AddPrinc → List Rules → Option (List ℕ)
line_policy c policies = chosen c.policy (default_given policies)

-- the policy behind restrictions
abbrev pub added_policy : State → Call → AddPrinc → Option (List ℕ)
added_policy s call c = forced (limits_for call adding c.name) (line_policy c s.policies)

-- the greatest life of the keys that it sets
abbrev pub added_life : State → Call → AddPrinc → Option ℕ
added_life s call c = option_map (λ (keys : NewKeys). (numbers_for (added_policy s call c) s.policies).max_life) c.keys

abbrev pub added_keys : Call → AddPrinc → List PlainItem
added_keys call c = unwrap_or (option_map (λ keys. items_of 1 (made_keys call.random c.name keys)) c.keys) []

unfoldable pub added : State → Call → AddPrinc → PlainPrinc
added s call c = plain_of
    (added_head (printed c.name) (active_in s call) (line_policy c s.policies) (added_life s call c)
    (limits_for call adding c.name) c.options (by_of s call))
    (added_keys call c)
    []

-- ---- changes of a principal

unfoldable pub modified : State → Call → ModPrinc → PlainPrinc → PlainPrinc
modified s call c q = plain_of
    (modified_head c.policy (limits_for call modifying c.name) c.options (by_of s call) (plain_head q)) q.keys q.old

-- new keys in front of the kept ones; the keys that a password replaces are remembered, those that a random key
-- replaces are not
unfoldable pub rekeyed : State → Call → ChangeKeys → PlainPrinc → PlainPrinc
rekeyed s call c q = plain_of
    (rekeyed_head (active_in s call) (numbers_for q.policy s.policies).max_life (by_of s call) (plain_head q))
    (items_of (newest_kvno q.keys + 1) (made_keys call.random c.name c.keys) ++ kept_keys c.keep_old q.keys)
    (if is_password c.keys then remembered (numbers_for q.policy s.policies).history q.keys q.old else q.old)

-- the salts of the old name stay
unfoldable pub renamed : State → Call → RenPrinc → PlainPrinc → PlainPrinc
renamed s call c q =
    plain_of (renamed_head (printed c.new_name) (by_of s call) (plain_head q)) (settled_items c.name q.keys) q.old

unfoldable pub purged : State → Call → PurgeKeys → PlainPrinc → PlainPrinc
purged s call c q = plain_of (marked (by_of s call) (plain_head q)) (keys_from (least_kvno c.keep q.keys) q.keys) q.old

-- setstr and delstr
unfoldable pub restrung : State → Call → List StringAttribute → PlainPrinc → PlainPrinc
restrung s call strings q = record (plain_of (marked (by_of s call) (plain_head q)) q.keys q.old) { strings = strings }

-- ---- modpol

unfoldable pub changed_policy : ModPolicy → Rules → Rules
changed_policy c p = record {
  name = p.name;
  max_life = unwrap_or c.max_life p.max_life;
  min_life = unwrap_or c.min_life p.min_life;
  min_length = unwrap_or c.min_length p.min_length;
  min_classes = unwrap_or c.min_classes p.min_classes;
  history = unwrap_or c.history p.history;
}
