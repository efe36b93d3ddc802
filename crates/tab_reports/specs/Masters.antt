-- The report of master keys: the versions of K/M's record.
use Rattle.std.specs.Prelude.{ℕ, Bool, nat_eq, nat_lt, List, [], ◌++◌, codes}
use Rattle.std.specs.Prelude.{reverse, Option, Some, None, if◌then◌else◌}
use Rattle.std.specs.Fmt.{decimal}
use Rattle.std.specs.List.{find, flat_map}
use Rattle.kadm_replies.specs.Texts.{etype_text}
use Rattle.kdb_base.specs.declared.versions.Activation.{Activation}
use Rattle.key_activation.specs.Activations.{activation_of}
use Rattle.princ_keys.specs.declared.keys.KeyItem.{KeyItem}
use Rattle.princ_name.specs.Printed.{is_master}
use Rattle.princ_record.specs.declared.facts.ChainPart.{ChainPart}
use Rattle.princ_record.specs.declared.princs.Princ.{Princ}
use Rattle.serving_versions.specs.Versions.{is_active_at, is_pending}
use Rattle.tab_reports.specs.declared.masters.Given.{Given}
use Rattle.tab_reports.specs.Counts.{protected_by}
use Rattle.tab_reports.specs.Principals.{line_feed, tab}

-- an empty field where there is none
abbrev pub moment_text : Option ℕ → List ℕ
moment_text None = []
moment_text (Some secs) = decimal secs

abbrev pub yes_no : Bool → List ℕ
yes_no active = if active then codes "yes" else codes "no"

-- why a version that protects so many principals serves at these seconds, where this is the newest one: the first cause
-- that holds
unfoldable pub cause_word : ℕ → ℕ → List Activation → ℕ → ℕ → List ℕ
cause_word count newest activations secs version =
    if nat_lt 0 count then codes "protects"
    else if is_active_at activations secs version then codes "active"
    else if nat_eq version newest then codes "newest"
    else if is_pending activations secs version then codes "pending"
    else codes "none"

-- what the lines of versions are told by: the principals, the activations, the newest version, and the seconds
pub record Ground : Type 0 where
  pub princs : List Princ
  pub activations : List Activation
  pub newest : ℕ
  pub secs : ℕ

abbrev pub ground_of : Given → Ground
ground_of g = record { princs = g.princs.now; activations = g.activations.now; newest = g.newest; secs = g.secs }

-- the version, its encryption type, its activation, and whether it is active
unfoldable pub master_front : Ground → KeyItem → List ℕ
master_front g k =
    decimal k.kvno ++ (tab ++ (etype_text k.etype ++ (tab ++ (moment_text (activation_of k.kvno g.activations)
    ++ (tab ++ (yes_no (is_active_at g.activations g.secs k.kvno) ++ tab))))))

-- how many principals it protects, and why it serves
unfoldable pub master_rest : ℕ → Ground → KeyItem → List ℕ
master_rest count g k = decimal count ++ (tab ++ (cause_word count g.newest g.activations g.secs k.kvno ++ line_feed))

abbrev pub master_line : Ground → KeyItem → List ℕ
master_line g k = master_front g k ++ master_rest (protected_by k.kvno g.princs) g k

unfoldable pub masters_header : List ℕ
masters_header = codes "version\tenctype\tactivation\tactive\tprotects\tcause\n"

-- K/M has its keys by falling versions
unfoldable pub versions_text : Ground → List KeyItem → List ℕ
versions_text g keys = flat_map (master_line g) (reverse keys)

-- K/M names the newest version
abbrev pub chain_text : List Princ → ℕ → Princ → Option ChainPart → List ℕ
chain_text princs secs p None = []
chain_text princs secs p (Some chain) =
    versions_text (record { princs = princs; activations = chain.activations; newest = p.mkvno; secs = secs }) p.keys

abbrev pub record_text : List Princ → ℕ → Option Princ → List ℕ
record_text princs secs None = []
record_text princs secs (Some p) = chain_text princs secs p p.chain

abbrev pub is_master_record : Princ → Bool
is_master_record p = is_master p.name

-- the first record of K/M
unfoldable pub masters_text : List Princ → ℕ → List ℕ
masters_text princs secs = masters_header ++ record_text princs secs (find is_master_record princs)
