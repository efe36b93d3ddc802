-- The commands: their words, and which options each of them has.
use Rattle.std.specs.Prelude.{ℕ, ◌≡◌, Bool, true, false, not, ◌||◌, ◌&&◌, List}
use Rattle.std.specs.Prelude.{[], ◌∷◌, ◌++◌, codes, find, Option, option_map}
use Rattle.std.specs.Str.{bytes_eq}
use Rattle.kadm_options.specs.Options.{are_single, is_chosen, option_named}
use Rattle.kadm_options.specs.declared.options.Given.{Given}
use Rattle.kadm_options.specs.declared.options.Opening.{Opening}
use Rattle.kadm_options.specs.declared.options.Opening.TheVariants.{Alone as BareOption, Value}
use Rattle.kadm_options.specs.declared.options.OptionName.TheVariants as option
use Rattle.kadm_options.specs.declared.options.ValueKind.TheVariants.{Time, Duration, PolicyName, Word}
use Rattle.kadm_options.specs.declared.options.ValueKind.TheVariants.{EtypeList, OneEtype, Number}
use Rattle.kdb_base.specs.declared.outcomes.Field.TheVariants as field
use Rattle.kadm_wire.specs.declared.verbs.PrincVerb.{PrincVerb}
use Rattle.kadm_wire.specs.declared.verbs.PrincVerb.TheVariants as princ
use Rattle.kadm_wire.specs.declared.verbs.PolicyVerb.{PolicyVerb}
use Rattle.kadm_wire.specs.declared.verbs.PolicyVerb.TheVariants as policy
use Rattle.kadm_wire.specs.declared.verbs.NamesVerb.{NamesVerb}
use Rattle.kadm_wire.specs.declared.verbs.NamesVerb.TheVariants as names
use Rattle.kadm_wire.specs.declared.verbs.LoneVerb.{LoneVerb}
use Rattle.kadm_wire.specs.declared.verbs.LoneVerb.TheVariants as lone
use Rattle.kadm_wire.specs.declared.verbs.Verb.{Verb}
use Rattle.kadm_wire.specs.declared.verbs.Verb.TheVariants.{OnPrinc, OnPolicy, OnNames, Alone}
use Rattle.kadm_wire.specs.declared.verbs.Verb.TheVariants.{RenPrinc, SetString, DelString, UseMaster}
use Rattle.kadm_wire.specs.declared.verbs.VerbWord.{VerbWord}

-- ---- their words

pub record VerbRow : Type 0 where
  pub word : List ℕ
  pub verb : Verb

abbrev pub verb_row : VerbWord → VerbRow
verb_row row = record { word = row.word.now; verb = row.verb }

unfoldable pub verb_rows : List VerbRow
verb_rows =
    record { word = codes "addprinc"; verb = OnPrinc princ.Add }
    ∷ record { word = codes "add_principal"; verb = OnPrinc princ.Add }
    ∷ record { word = codes "ank"; verb = OnPrinc princ.Add }
    ∷ record { word = codes "modprinc"; verb = OnPrinc princ.Modify }
    ∷ record { word = codes "modify_principal"; verb = OnPrinc princ.Modify }
    ∷ record { word = codes "cpw"; verb = OnPrinc princ.ChangeKeys }
    ∷ record { word = codes "change_password"; verb = OnPrinc princ.ChangeKeys }
    ∷ record { word = codes "renprinc"; verb = RenPrinc }
    ∷ record { word = codes "rename_principal"; verb = RenPrinc }
    ∷ record { word = codes "delprinc"; verb = OnPrinc princ.Delete }
    ∷ record { word = codes "delete_principal"; verb = OnPrinc princ.Delete }
    ∷ record { word = codes "getprinc"; verb = OnPrinc princ.Show }
    ∷ record { word = codes "get_principal"; verb = OnPrinc princ.Show }
    ∷ record { word = codes "listprincs"; verb = OnNames names.List }
    ∷ record { word = codes "list_principals"; verb = OnNames names.List }
    ∷ record { word = codes "get_principals"; verb = OnNames names.List }
    ∷ record { word = codes "getprincs"; verb = OnNames names.List }
    ∷ record { word = codes "purgekeys"; verb = OnPrinc princ.PurgeKeys }
    ∷ record { word = codes "setstr"; verb = SetString }
    ∷ record { word = codes "delstr"; verb = DelString }
    ∷ record { word = codes "getstrs"; verb = OnPrinc princ.ShowStrings }
    ∷ record { word = codes "extract"; verb = OnPrinc princ.Extract }
    ∷ record { word = codes "addpol"; verb = OnPolicy policy.Add }
    ∷ record { word = codes "add_policy"; verb = OnPolicy policy.Add }
    ∷ record { word = codes "modpol"; verb = OnPolicy policy.Modify }
    ∷ record { word = codes "modify_policy"; verb = OnPolicy policy.Modify }
    ∷ record { word = codes "delpol"; verb = OnPolicy policy.Delete }
    ∷ record { word = codes "delete_policy"; verb = OnPolicy policy.Delete }
    ∷ record { word = codes "getpol"; verb = OnPolicy policy.Show }
    ∷ record { word = codes "get_policy"; verb = OnPolicy policy.Show }
    ∷ record { word = codes "listpols"; verb = Alone lone.ListPolicies }
    ∷ record { word = codes "list_policies"; verb = Alone lone.ListPolicies }
    ∷ record { word = codes "get_policies"; verb = Alone lone.ListPolicies }
    ∷ record { word = codes "getpols"; verb = Alone lone.ListPolicies }
    ∷ record { word = codes "getprivs"; verb = Alone lone.GetPrivs }
    ∷ record { word = codes "get_privs"; verb = Alone lone.GetPrivs }
    ∷ record { word = codes "add_mkey"; verb = Alone lone.AddMaster }
    ∷ record { word = codes "use_mkey"; verb = UseMaster }
    ∷ record { word = codes "list_mkeys"; verb = Alone lone.ListMasters }
    ∷ record { word = codes "purge_mkeys"; verb = Alone lone.PurgeMasters }
    ∷ record { word = codes "update_princ_encryption"; verb = OnNames names.Rekey }
    ∷ record { word = codes "stash"; verb = Alone lone.Stash }
    ∷ record { word = codes "dump"; verb = Alone lone.Dump }
    ∷ []

abbrev pub verb_among : List VerbRow → List ℕ → Option Verb
verb_among rows word = option_map (λ row. row.verb) (find (λ row. bytes_eq row.word word) rows)

-- the command of a word
unfoldable pub verb_named : List ℕ → Option Verb
verb_named word = verb_among verb_rows word

-- ---- their options

-- the fields of a principal
unfoldable pub field_options : List Opening
field_options =
    BareOption option.ClearPolicy
    ∷ Value (record { option = option.Policy; kind = PolicyName; field = field.Policy })
    ∷ Value (record { option = option.Expire; kind = Time; field = field.Expire })
    ∷ Value (record { option = option.PwExpire; kind = Time; field = field.PwExpire })
    ∷ Value (record { option = option.MaxLife; kind = Duration; field = field.MaxLife })
    ∷ Value (record { option = option.MaxRenewLife; kind = Duration; field = field.MaxRenewLife })
    ∷ []

-- how keys are made, and of which types; any word is a password, so no refusal names the field of -pw
unfoldable pub key_options : List Opening
key_options =
    BareOption option.RandKey
    ∷ Value (record { option = option.Password; kind = Word; field = field.Value })
    ∷ Value (record { option = option.Enctypes; kind = EtypeList; field = field.Enctypes })
    ∷ []

unfoldable pub adding_options : List Opening
adding_options = key_options ++ (BareOption option.NoKey ∷ field_options)

unfoldable pub changing_options : List Opening
changing_options = BareOption option.KeepOld ∷ key_options

unfoldable pub purging_options : List Opening
purging_options = Value (record { option = option.KeepKvno; kind = Number 1 65535; field = field.KeepKvno }) ∷ []

-- the numbers of a policy
unfoldable pub policy_options : List Opening
policy_options =
    Value (record { option = option.MaxLife; kind = Duration; field = field.MaxLife })
    ∷ Value (record { option = option.MinLife; kind = Duration; field = field.MinLife })
    ∷ Value (record { option = option.MinLength; kind = Number 1 255; field = field.MinLength })
    ∷ Value (record { option = option.MinClasses; kind = Number 1 5; field = field.MinClasses })
    ∷ Value (record { option = option.History; kind = Number 1 16; field = field.History })
    ∷ []

unfoldable pub master_options : List Opening
master_options = Value (record { option = option.Enctypes; kind = OneEtype; field = field.Enctypes }) ∷ []

-- both have no effect, since nothing is asked
unfoldable pub force_options : List Opening
force_options = BareOption option.Force ∷ []

unfoldable pub short_force_options : List Opening
short_force_options = BareOption option.ShortForce ∷ []

unfoldable pub princ_options : PrincVerb → List Opening
princ_options princ.Add = adding_options
princ_options princ.Modify = field_options
princ_options princ.ChangeKeys = changing_options
princ_options princ.Delete = force_options
princ_options princ.PurgeKeys = purging_options
princ_options _ = []

unfoldable pub options_of_policy : PolicyVerb → List Opening
options_of_policy policy.Add = policy_options
options_of_policy policy.Modify = policy_options
options_of_policy policy.Delete = force_options
options_of_policy policy.Show = []

unfoldable pub names_options : NamesVerb → List Opening
names_options names.List = []
names_options names.Rekey = short_force_options

unfoldable pub lone_options : LoneVerb → List Opening
lone_options lone.AddMaster = master_options
lone_options lone.PurgeMasters = short_force_options
lone_options _ = []

-- the options of a command, beside flags
unfoldable pub options_for : Verb → List Opening
options_for (OnPrinc verb) = princ_options verb
options_for (OnPolicy verb) = options_of_policy verb
options_for (OnNames verb) = names_options verb
options_for (Alone verb) = lone_options verb
options_for RenPrinc = force_options
options_for SetString = []
options_for DelString = []
options_for UseMaster = []

-- addprinc and modprinc, which change flags
unfoldable pub has_flags : Verb → Bool
has_flags (OnPrinc princ.Add) = true
has_flags (OnPrinc princ.Modify) = true
has_flags _ = false

-- addprinc and cpw, which want to be told how keys are made
unfoldable pub makes_keys : Verb → Bool
makes_keys (OnPrinc princ.Add) = true
makes_keys (OnPrinc princ.ChangeKeys) = true
makes_keys _ = false

-- what a word says where an option of this command is wanted
abbrev pub named_by : Verb → List ℕ → Option Opening
named_by verb = option_named (options_for verb) (has_flags verb)

-- nothing is decided twice, and how keys are made is told where it has to be
unfoldable pub is_whole : Verb → List Given → Bool
is_whole verb options = are_single options && (not (makes_keys verb) || is_chosen option.NoKey options)
