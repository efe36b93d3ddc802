-- What the check of rows carries along.
use Rattle.std.specs.Prelude.{ℕ, ◌≡◌, ◌≢◌, List, None}
use Rattle.kdb_base.specs.Key.{Key}
use Rattle.kdb_base.specs.declared.versions.Master.{Master}
use Rattle.princ_record.specs.declared.princs.Princ.{Princ}
use Rattle.kdb_plain.specs.States.{history_name}
use Rattle.row_keys.specs.Lookups.{record_named}
use Rattle.row_keys.specs.Sound.{HasHistoryKey}
use Rattle.row_keys.specs.declared.sound.History.{History}
use Rattle.row_keys.specs.declared.sound.History.TheVariants.{Missing, Closed, Opened}

-- what was found of kadmin/history
abbrev pub IsHistoryOf : List Master → List ℕ → List Princ → History → Type 0
IsHistoryOf masters realm princs Missing = record_named (history_name realm) princs ≡ None
IsHistoryOf masters realm princs Closed =
    (record_named (history_name realm) princs ≢ None) × ((key : Key) → HasHistoryKey masters realm princs key → ⊥)
IsHistoryOf masters realm princs (Opened key) =
    HasHistoryKey masters realm princs key × ((other : Key) → HasHistoryKey masters realm princs other → key ≡ other)
