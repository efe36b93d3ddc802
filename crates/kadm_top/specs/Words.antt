-- What the words of a run ask for.
use Rattle.std.specs.Prelude.{ℕ, ◌≤◌, ◌&&◌, ◌||◌, List, [], ◌∷◌, Bool, true, false, codes, Option}
use Rattle.std.specs.Prelude.{Some, None, Result, Ok, Err, IfSome, unwrap_or, if◌then◌else◌}
use Rattle.std.specs.Option.{option_and_then}
use Rattle.std.specs.Str.{bytes_eq}
use Rattle.first_rows.specs.Parts.{SpecParts}
use Rattle.kadm_options.specs.Options.{OptionParts, are_single, is_dashes, option_named, options_in}
use Rattle.kadm_options.specs.OptionValues.{first_bad_in, number_within, word_given}
use Rattle.kadm_options.specs.declared.options.Given.{Given}
use Rattle.kadm_options.specs.declared.options.Opening.{Opening}
use Rattle.kadm_options.specs.declared.options.Opening.TheVariants as opening
use Rattle.kadm_options.specs.declared.options.OptionName.TheVariants as option
use Rattle.kadm_options.specs.declared.options.ValueKind.TheVariants.{Word, OneEtype, Number}
use Rattle.kadm_top.specs.declared.alone.TheConstants.{USAGE, VERSION}
use Rattle.kadm_top.specs.declared.words.Account.{Account}
use Rattle.kadm_top.specs.declared.words.Account.TheVariants.{Dump, Log, Report}
use Rattle.kadm_top.specs.declared.words.Words.{Words}
use Rattle.kadm_top.specs.declared.words.Words.TheVariants.{Admin, Create, Destroy, Generate}
use Rattle.kadm_top.specs.declared.words.Words.TheVariants.{Keytab, Line, Load, Renew, Tell}
use Rattle.kadm_values.specs.EtypeWords.{etype_named}
use Rattle.kadm_commands.specs.declared.commands.Command.{Command}
use Rattle.kadm_wire.specs.LineReadings.{words_answer}
use Rattle.kdb_base.specs.declared.keys.Etype.{Etype}
use Rattle.kdb_base.specs.declared.keys.Etype.TheVariants.{Aes256}
use Rattle.kdb_base.specs.declared.outcomes.Field.{Field}
use Rattle.kdb_base.specs.declared.outcomes.Field.TheVariants as field
use Rattle.kdb_base.specs.declared.outcomes.Refusal.{Refusal}
use Rattle.kdb_base.specs.declared.outcomes.Refusal.TheVariants.{BadLine, BadValue}
use Rattle.keytab_words.specs.Words.{AreValid, ktadd_in, ktremove_in}
use Rattle.keytab_words.specs.declared.words.KeytabWords.{KeytabWords}
use Rattle.made_scripts.specs.Words.{script_in}
use Rattle.made_scripts.specs.declared.words.Script.{Script}
use Rattle.princ_name.specs.Realms.{is_realm}
use Rattle.tab_reports.specs.declared.reports.ReportKind.{ReportKind}
use Rattle.tab_reports.specs.declared.reports.ReportKind.TheVariants.{Principals, Keys, Policies, Masters}

-- ---- the options

unfoldable pub admin_options : List Opening
admin_options = opening.Value (record { option = option.UlogSize; kind = Number 2 10000; field = field.UlogSize }) ∷ []

-- any word is a password, so no refusal names the field of -P
unfoldable pub create_options : List Opening
create_options =
    opening.Value (record { option = option.MasterPassword; kind = Word; field = field.Value })
    ∷ opening.Value (record { option = option.Enctypes; kind = OneEtype; field = field.Enctypes })
    ∷ opening.Value (record { option = option.UlogSize; kind = Number 2 10000; field = field.UlogSize })
    ∷ []

-- it has no effect
unfoldable pub destroy_options : List Opening
destroy_options = opening.Alone option.ShortForce ∷ []

-- no word is left, but for the one that ends the options
unfoldable pub no_more : List (List ℕ) → Bool
no_more [] = true
no_more (word ∷ []) = is_dashes word
no_more (word ∷ _ ∷ _) = false

abbrev pub when_alone : OptionParts → Option (List Given)
when_alone parts = if no_more parts.rest && are_single parts.options then Some parts.options else None

-- the options that the words spell, of which each stands at most once, where these are all of the words
unfoldable pub options_alone : List Opening → List (List ℕ) → Option (List Given)
options_alone known words = option_and_then when_alone (options_in (option_named known false) words)

-- ---- what they say

abbrev pub size_given : List Given → Option ℕ
size_given options = option_and_then (number_within 2 10000) (word_given option.UlogSize options)

abbrev pub etype_given : List Given → Option Etype
etype_given options = option_and_then etype_named (word_given option.Enctypes options)

-- a random master key of enctype 18, and a log of 1000 entries, where nothing else is said
abbrev pub spec_of : List ℕ → List Given → SpecParts
spec_of realm options = record {
  realm = realm;
  password = word_given option.MasterPassword options;
  etype = unwrap_or (etype_given options) Aes256;
  size = unwrap_or (size_given options) 1000;
}

-- a bad value refuses
abbrev pub unless_bad : Option Field → Words → Result Words Refusal
unless_bad None words = Ok words
unless_bad (Some field) words = Err (BadValue field)

-- ---- the commands: `admin [-ulogsize N]`, `create REALM [-P PASS] [-e ETYPE] [-ulogsize N]`, `destroy [-f]`, `dump`,
-- `load`, `kproplog`, `kproplog -R`, `report KIND`, `ktadd`, `ktremove`, `generate SEED COUNT`, and the lines of master
-- keys

abbrev pub admin_by : Option (List Given) → Result Words Refusal
admin_by None = Err BadLine
admin_by (Some options) = unless_bad (first_bad_in options) (Admin (size_given options))

-- the realm is judged before the options
abbrev pub create_by : List ℕ → Option (List Given) → Result Words Refusal
create_by realm None = Err BadLine
create_by realm (Some options) = if is_realm realm
    then unless_bad (first_bad_in options) (Create (spec_of realm options)) else Err (BadValue field.Realm)

-- the realm stands directly behind the command, whatever it is
abbrev pub create_in : List (List ℕ) → Result Words Refusal
create_in [] = Err BadLine
create_in (realm ∷ words) = create_by realm (options_alone create_options words)

abbrev pub tell_by : Account → Option (List Given) → Result Words Refusal
tell_by account None = Err BadLine
tell_by account (Some options) = Ok (Tell account)

abbrev pub load_by : Option (List Given) → Result Words Refusal
load_by None = Err BadLine
load_by (Some options) = Ok Load

abbrev pub renew_by : Bool → Result Words Refusal
renew_by true = Ok Renew
renew_by false = Err BadLine

-- with `-R` alone the log is begun anew, else it is told
unfoldable pub log_in : List (List ℕ) → Result Words Refusal
log_in [] = tell_by Log (options_alone [] [])
log_in (word ∷ words) =
    if bytes_eq word (codes "-R") then renew_by (no_more words) else tell_by Log (options_alone [] (word ∷ words))

-- what a report tells of
unfoldable pub kind_named : List ℕ → Option ReportKind
kind_named word =
    if bytes_eq word (codes "principals") then Some Principals
    else if bytes_eq word (codes "keys") then Some Keys
    else if bytes_eq word (codes "policies") then Some Policies
    else if bytes_eq word (codes "masters") then Some Masters
    else None

abbrev pub report_by : Option ReportKind → Result Words Refusal
report_by None = Err BadLine
report_by (Some kind) = Ok (Tell (Report kind))

-- the kind alone, or behind two dashes
unfoldable pub report_in : List (List ℕ) → Result Words Refusal
report_in [] = Err BadLine
report_in (kind ∷ []) = report_by (kind_named kind)
report_in (dashes ∷ kind ∷ []) = if is_dashes dashes then report_by (kind_named kind) else Err BadLine
report_in (_ ∷ _ ∷ _ ∷ _) = Err BadLine

abbrev pub destroy_by : Option (List Given) → Result Words Refusal
destroy_by None = Err BadLine
destroy_by (Some options) = Ok Destroy

abbrev pub keytab_by : Result KeytabWords Refusal → Result Words Refusal
keytab_by (Ok words) = Ok (Keytab words)
keytab_by (Err refusal) = Err refusal

abbrev pub generate_by : Result Script Refusal → Result Words Refusal
generate_by (Ok script) = Ok (Generate script)
generate_by (Err refusal) = Err refusal

-- the first word of a line that may stand in place of the input
unfoldable pub is_line_word : List ℕ → Bool
is_line_word word =
    bytes_eq word (codes "add_mkey") || bytes_eq word (codes "use_mkey") || bytes_eq word (codes "list_mkeys")
    || bytes_eq word (codes "purge_mkeys") || bytes_eq word (codes "stash")
    || bytes_eq word (codes "update_princ_encryption")

-- The words of a line that is read in no realm, or why it is refused there. In the realm of the database it is read
-- again.
abbrev pub line_refusal : Result (Option Command) Refusal → Option Refusal
line_refusal (Ok (Some command)) = None
line_refusal (Ok None) = Some BadLine
line_refusal (Err refusal) = Some refusal

abbrev pub unless_refused : List (List ℕ) → Option Refusal → Result Words Refusal
unless_refused words None = Ok (Line words)
unless_refused words (Some refusal) = Err refusal

abbrev pub line_by : List (List ℕ) → Result (Option Command) Refusal → Result Words Refusal
line_by words said = unless_refused words (line_refusal said)

abbrev pub words_behind : List ℕ → List (List ℕ) → Result Words Refusal
words_behind word words =
    if bytes_eq word (codes "admin") then admin_by (options_alone admin_options words)
    else if bytes_eq word (codes "create") then create_in words
    else if bytes_eq word (codes "dump") then tell_by Dump (options_alone [] words)
    else if bytes_eq word (codes "load") then load_by (options_alone [] words)
    else if bytes_eq word (codes "kproplog") then log_in words
    else if bytes_eq word (codes "report") then report_in words
    else if bytes_eq word (codes "ktadd") then keytab_by (ktadd_in words)
    else if bytes_eq word (codes "ktremove") then keytab_by (ktremove_in words)
    else if bytes_eq word (codes "generate") then generate_by (script_in words)
    else if bytes_eq word (codes "destroy") then destroy_by (options_alone destroy_options words)
    else Err BadLine

-- what the words ask for, or why they are refused: they are not of the grammar, or a value is bad
unfoldable pub words_in : List (List ℕ) → Result Words Refusal
words_in [] = Err BadLine
words_in (word ∷ words) = if is_line_word word then line_by (word ∷ words) (words_answer [] (word ∷ words))
    else words_behind word words

-- the size of a log is one that a log may have, and a name that is a word still is no longer than a line
abbrev pub AreSized : Result Words Refusal → Type 0
AreSized (Ok (Admin size)) = IfSome size (λ n. (2 ≤ n) × (n ≤ 10000))
AreSized (Ok (Keytab words)) = AreValid (Ok words)
AreSized (Ok other) = Unit {0}
AreSized (Err refusal) = Unit {0}

-- ---- words that stand alone

-- the text that a word asks for where it stands alone
abbrev pub text_for : List ℕ → Option (List ℕ)
text_for word = if bytes_eq word (codes "--help") then Some USAGE.now else if bytes_eq word (codes "--version")
    then Some VERSION.now else None

-- what the only word asks for
unfoldable pub alone_text : List (List ℕ) → Option (List ℕ)
alone_text [] = None
alone_text (word ∷ []) = text_for word
alone_text (word ∷ _ ∷ _) = None
