-- Commands that a line can give, in a database of one realm.
use Rattle.std.specs.Prelude.{ℕ, ◌≡◌, ◌≢◌, ◌<◌, ◌^◌, Bool, List, [], Option, IfSome, IsTrue}
use Rattle.std.specs.List.{All}
use Rattle.kadm_values.specs.declared.flags.FlagChange.{FlagChange}
use Rattle.kdb_base.specs.declared.keys.Etype.{Etype}
use Rattle.plain_keys.specs.Keys.{AreOnce}
use Rattle.plain_keys.specs.declared.new_keys.NewKeys.{NewKeys}
use Rattle.plain_keys.specs.declared.new_keys.NewKeys.TheVariants.{Random, Password}
use Rattle.policy_rules.specs.Names.{is_policy_name}
use Rattle.policy_rules.specs.Ranges.{is_min_length, is_min_classes, is_history}
use Rattle.princ_name.specs.Names.{NameParts, IsName}
use Rattle.princ_record.specs.Policies.{IsPolicy}
use Rattle.princ_record.specs.Princs.{are_attributes}
use Rattle.tagged_data.specs.Strings.{is_string_key, is_string_value}
use Rattle.kadm_commands.specs.declared.commands.Command.{Command}
use Rattle.kadm_commands.specs.declared.commands.Command.TheVariants as command
use Rattle.kadm_commands.specs.declared.options.PrincOptions.{PrincOptions}
use Rattle.kadm_commands.specs.declared.policies.ModPolicy.{ModPolicy}
use Rattle.kadm_commands.specs.declared.policies.PolicyChoice.{PolicyChoice}
use Rattle.kadm_commands.specs.declared.policies.PolicyChoice.TheVariants.{Named, Cleared}

-- ---- values

abbrev pub IsBelow32 : Option ℕ → Type 0
IsBelow32 value = IfSome value (λ n. n < 2 ^ 32)

abbrev pub Within : (ℕ → Bool) → Option ℕ → Type 0
Within test value = IfSome value (λ n. IsTrue (test n))

-- a name of this realm
pub record IsOwnName (realm : List ℕ) (name : NameParts) : Type 0 where
  pub is_name : IsName name
  pub own : name.realm ≡ realm

pub record AreOptions (o : PrincOptions) : Type 0 where
  pub flags : All (λ (flag : FlagChange). IsTrue (are_attributes flag.bit)) o.flags
  pub expire : IsBelow32 o.expire
  pub pw_expire : IsBelow32 o.pw_expire
  pub max_life : IsBelow32 o.max_life
  pub max_renew : IsBelow32 o.max_renew

-- some types, and each once
pub record AreEtypes (etypes : List Etype) : Type 0 where
  pub some : etypes ≢ []
  pub once : AreOnce etypes

abbrev pub IsNewKeys : NewKeys → Type 0
IsNewKeys (Random etypes) = AreEtypes etypes
IsNewKeys (Password password etypes) = AreEtypes etypes

abbrev pub IsPolicyChoice : PolicyChoice → Type 0
IsPolicyChoice (Named name) = IsTrue (is_policy_name name)
IsPolicyChoice Cleared = Unit {0}

-- a version of a key
pub record IsKvno (n : ℕ) : Type 0 where
  pub from_one : 0 < n
  pub short : n < 2 ^ 16

-- when a version becomes active: 0 is never, and no such time
pub record IsActivationTime (secs : ℕ) : Type 0 where
  pub set : 0 < secs
  pub short : secs < 2 ^ 32

pub record IsModPolicy (c : ModPolicy) : Type 0 where
  pub named : IsTrue (is_policy_name c.name)
  pub max_life : IsBelow32 c.max_life
  pub min_life : IsBelow32 c.min_life
  pub min_length : Within is_min_length c.min_length
  pub min_classes : Within is_min_classes c.min_classes
  pub history : Within is_history c.history

-- ---- commands

unfoldable pub IsCommand : List ℕ → Command → Type 0
IsCommand realm (command.AddPrinc c) =
    IsOwnName realm c.name × IfSome c.keys IsNewKeys × IfSome c.policy IsPolicyChoice × AreOptions c.options
IsCommand realm (command.ModPrinc c) = IsOwnName realm c.name × IfSome c.policy IsPolicyChoice × AreOptions c.options
IsCommand realm (command.ChangeKeys c) = IsOwnName realm c.name × IsNewKeys c.keys
IsCommand realm (command.RenPrinc c) = IsOwnName realm c.name × IsOwnName realm c.new_name
IsCommand realm (command.DelPrinc name) = IsOwnName realm name
IsCommand realm (command.GetPrinc name) = IsOwnName realm name
IsCommand realm (command.PurgeKeys c) = IsOwnName realm c.name × IfSome c.keep IsKvno
IsCommand realm (command.SetString c) =
    IsOwnName realm c.name × IsTrue (is_string_key c.key) × IsTrue (is_string_value c.value)
IsCommand realm (command.DelString c) = IsOwnName realm c.name × IsTrue (is_string_key c.key)
IsCommand realm (command.GetStrings name) = IsOwnName realm name
IsCommand realm (command.Extract name) = IsOwnName realm name
IsCommand realm (command.AddPolicy p) = IsPolicy p
IsCommand realm (command.ModPolicy c) = IsModPolicy c
IsCommand realm (command.DelPolicy name) = IsTrue (is_policy_name name)
IsCommand realm (command.GetPolicy name) = IsTrue (is_policy_name name)
IsCommand realm (command.UseMaster c) = IsKvno c.version × IfSome c.secs IsActivationTime
IsCommand realm _ = Unit {0}

-- a command with names of one realm, whichever that is
pub record IsOwnCommand (c : Command) : Type 0 where
  pub realm : List ℕ
  pub is : IsCommand realm c
