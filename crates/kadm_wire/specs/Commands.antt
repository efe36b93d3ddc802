-- The commands that verbs make of their options and other words.
use Rattle.std.specs.Prelude.{ℕ, Bool, List, [], ◌∷◌, Option, Some, None, unwrap_or, if◌then◌else◌}
use Rattle.std.specs.List.{filter_map}
use Rattle.std.specs.Option.{option_and_then}
use Rattle.kadm_commands.specs.declared.commands.Command.{Command}
use Rattle.kadm_commands.specs.declared.commands.Command.TheVariants as command
use Rattle.kadm_commands.specs.declared.options.PrincOptions.{PrincOptions}
use Rattle.kadm_commands.specs.declared.policies.ModPolicy.{ModPolicy}
use Rattle.kadm_commands.specs.declared.policies.PolicyChoice.{PolicyChoice}
use Rattle.kadm_commands.specs.declared.policies.PolicyChoice.TheVariants.{Named, Cleared}
use Rattle.kadm_options.specs.OptionValues.{flag_of, number_within, seconds_given, word_given}
use Rattle.kadm_options.specs.Options.{is_given}
use Rattle.kadm_options.specs.declared.options.Given.{Given}
use Rattle.kadm_options.specs.declared.options.OptionName.{OptionName}
use Rattle.kadm_options.specs.declared.options.OptionName.TheVariants.{NoKey, Password, KeepOld, Enctypes}
use Rattle.kadm_options.specs.declared.options.OptionName.TheVariants.{Policy, ClearPolicy, Expire, PwExpire}
use Rattle.kadm_options.specs.declared.options.OptionName.TheVariants.{MaxLife, MaxRenewLife, MinLife, MinLength}
use Rattle.kadm_options.specs.declared.options.OptionName.TheVariants.{MinClasses, History, KeepKvno}
use Rattle.kadm_values.specs.EtypeWords.{etype_named, etypes_in}
use Rattle.kdb_base.specs.declared.keys.Etype.{Etype}
use Rattle.kdb_base.specs.declared.keys.Etype.TheVariants.{Aes128, Aes256}
use Rattle.plain_keys.specs.declared.new_keys.NewKeys.{NewKeys}
use Rattle.plain_keys.specs.declared.new_keys.NewKeys.TheVariants as made
use Rattle.policy_rules.specs.Names.{is_policy_name}
use Rattle.policy_rules.specs.Rules.{Rules}
use Rattle.princ_name.specs.Names.{NameParts}
use Rattle.kadm_wire.specs.declared.verbs.PrincVerb.{PrincVerb}
use Rattle.kadm_wire.specs.declared.verbs.PrincVerb.TheVariants as princ
use Rattle.kadm_wire.specs.declared.verbs.PolicyVerb.{PolicyVerb}
use Rattle.kadm_wire.specs.declared.verbs.PolicyVerb.TheVariants as policy
use Rattle.kadm_wire.specs.declared.verbs.NamesVerb.{NamesVerb}
use Rattle.kadm_wire.specs.declared.verbs.NamesVerb.TheVariants as names
use Rattle.kadm_wire.specs.declared.verbs.LoneVerb.{LoneVerb}
use Rattle.kadm_wire.specs.declared.verbs.LoneVerb.TheVariants as lone

-- ---- what options say

-- flags in the order of the line
abbrev pub fields_given : List Given → PrincOptions
fields_given options = record {
  expire = seconds_given Expire options;
  pw_expire = seconds_given PwExpire options;
  max_life = seconds_given MaxLife options;
  max_renew = seconds_given MaxRenewLife options;
  flags = filter_map flag_of options;
}

abbrev pub policy_by : Option (List ℕ) → Option PolicyChoice
policy_by None = None
policy_by (Some word) = if is_policy_name word then Some (Named word) else None

-- the policy that is named, or none by -clearpolicy
unfoldable pub chosen_policy : List Given → Option PolicyChoice
chosen_policy options = if is_given ClearPolicy options then Some Cleared else policy_by (word_given Policy options)

-- the types of keys where none are listed
unfoldable pub default_etypes : List Etype
default_etypes = Aes256 ∷ Aes128 ∷ []

-- the types of a list, where it is one
abbrev pub etypes_by : Option (List ℕ) → List Etype
etypes_by None = default_etypes
etypes_by (Some word) = unwrap_or (etypes_in word) default_etypes

abbrev pub keys_by : Option (List ℕ) → List Etype → NewKeys
keys_by None etypes = made.Random etypes
keys_by (Some password) etypes = made.Password password etypes

-- keys of the password, or random ones
unfoldable pub new_keys : List Given → NewKeys
new_keys options = keys_by (word_given Password options) (etypes_by (word_given Enctypes options))

unfoldable pub keys_given : List Given → Option NewKeys
keys_given options = if is_given NoKey options then None else Some (new_keys options)

-- the number of the first option of this name, where it is one from the least to the greatest
abbrev pub number_given : OptionName → ℕ → ℕ → List Given → Option ℕ
number_given option least most options = option_and_then (number_within least most) (word_given option options)

-- a new policy; what no option says is what holds without a policy
unfoldable pub rules_given : List Given → List ℕ → Rules
rules_given options name = record {
  name = name;
  max_life = unwrap_or (seconds_given MaxLife options) 0;
  min_life = unwrap_or (seconds_given MinLife options) 0;
  min_length = unwrap_or (number_given MinLength 1 255 options) 1;
  min_classes = unwrap_or (number_given MinClasses 1 5 options) 1;
  history = unwrap_or (number_given History 1 16 options) 1;
}

-- what changes of a policy
unfoldable pub rules_changed : List Given → List ℕ → ModPolicy
rules_changed options name = record {
  name = name;
  max_life = seconds_given MaxLife options;
  min_life = seconds_given MinLife options;
  min_length = number_given MinLength 1 255 options;
  min_classes = number_given MinClasses 1 5 options;
  history = number_given History 1 16 options;
}

-- ---- commands

unfoldable pub princ_command : PrincVerb → List Given → NameParts → Command
princ_command princ.Add options name =
    command.AddPrinc (record {
      name = name;
      keys = keys_given options;
      policy = chosen_policy options;
      options = fields_given options;
    })
princ_command princ.Modify options name =
    command.ModPrinc (record { name = name; policy = chosen_policy options; options = fields_given options })
princ_command princ.ChangeKeys options name =
    command.ChangeKeys (record { name = name; keys = new_keys options; keep_old = is_given KeepOld options })
princ_command princ.Delete options name = command.DelPrinc name
princ_command princ.Show options name = command.GetPrinc name
princ_command princ.PurgeKeys options name =
    command.PurgeKeys (record { name = name; keep = number_given KeepKvno 1 65535 options })
princ_command princ.ShowStrings options name = command.GetStrings name
princ_command princ.Extract options name = command.Extract name

unfoldable pub policy_command : PolicyVerb → List Given → List ℕ → Command
policy_command policy.Add options name = command.AddPolicy (rules_given options name)
policy_command policy.Modify options name = command.ModPolicy (rules_changed options name)
policy_command policy.Delete options name = command.DelPolicy name
policy_command policy.Show options name = command.GetPolicy name

unfoldable pub names_command : NamesVerb → Option (List ℕ) → Command
names_command names.List glob = command.ListPrincs glob
names_command names.Rekey glob = command.RekeyPrincs glob

unfoldable pub lone_command : LoneVerb → List Given → Command
lone_command lone.ListPolicies options = command.ListPolicies
lone_command lone.GetPrivs options = command.GetPrivs
lone_command lone.AddMaster options = command.AddMaster (option_and_then etype_named (word_given Enctypes options))
lone_command lone.ListMasters options = command.ListMasters
lone_command lone.PurgeMasters options = command.PurgeMasters
lone_command lone.Stash options = command.Stash
lone_command lone.Dump options = command.Dump
