-- What a plan has to open before it can judge and make keys.
use Rattle.std.specs.Prelude.{ℕ, ◌≡◌, List, Option, Some, option_and_then}
use Rattle.std.specs.List.{AllZip}
use Rattle.command_plans.specs.declared.given.Given.{Given}
use Rattle.kdb_base.specs.Key.{Key}
use Rattle.kdb_base.specs.declared.versions.Master.{Master}
use Rattle.kdb_plain.specs.States.{history_key, master_of}
use Rattle.kdb_plain.specs.declared.princs.PlainPrinc.{PlainPrinc}
use Rattle.key_activation.specs.Activations.{active}
use Rattle.master_keys.specs.First.{master_name}
use Rattle.princ_record.specs.declared.facts.ChainPart.{ChainPart}
use Rattle.princ_record.specs.declared.princs.Princ.{Princ}
use Rattle.row_keys.specs.Lookups.{record_named}
use Rattle.row_keys.specs.Shows.{ShowsPrinc, ShowsUnder}

-- the history key of whatever principals the rows show
abbrev pub IsHistoryKey : Given → Key → Type 0
IsHistoryKey g key =
    (history : Key) (princs : List PlainPrinc) → AllZip (ShowsPrinc g.masters.now history) g.rows.now.princs princs
    → history_key g.realm.now princs ≡ Some history → key ≡ history

-- under the master key of its version and this history key, the record is of this principal and of no other
pub record IsOpened (masters : List Master) (history : Key) (p : Princ) (q : PlainPrinc) : Type 0 where
  pub master : Key
  pub named : master_of masters p.mkvno ≡ Some master
  pub shows : ShowsUnder master history p q
  pub only : (other : PlainPrinc) → ShowsUnder master history p other → q ≡ other

-- the version of the master key that is active, by K/M's record
abbrev pub active_by : Option Princ → ℕ → Option ℕ
active_by entry secs = option_and_then (λ (part : ChainPart). active part.activations secs)
    (option_and_then (λ (p : Princ). p.chain) entry)

-- the master key that is active at the moment, with its version
pub record IsActiveMaster (g : Given) (m : Master) : Type 0 where
  pub active_is : active_by (record_named (master_name g.realm.now) g.rows.now.princs) g.moment.secs ≡ Some m.version
  pub key_is : master_of g.masters.now m.version ≡ Some m.key
