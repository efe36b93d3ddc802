-- What a database that is made anew holds.
use Rattle.std.specs.Prelude.{ℕ, ◌≡◌, ◌≢◌, List, Option, Some, None, Result, Ok, Err}
use Rattle.kdb_base.specs.declared.moments.Point.{Point}
use Rattle.kdb_base.specs.declared.outcomes.Refusal.TheVariants.{AlreadyThere}
use Rattle.kdb_base.specs.declared.outcomes.Stop.{Stop}
use Rattle.kdb_base.specs.declared.outcomes.Stop.TheVariants.{Refused, Halt}
use Rattle.kdb_control.specs.Choice.{Choice}
use Rattle.kdb_control.specs.declared.force.Force.{Force}
use Rattle.kdb_control.specs.declared.force.Force.TheVariants.{Nothing}
use Rattle.princ_rows.specs.Rows.{RowLists}
use Rattle.cell_files.specs.NewFiles.{sheet_for}
use Rattle.store_files.specs.Found.{Found}
use Rattle.store_files.specs.Switches.{first_choice, first_found}

-- the stash file of a database that is made anew: the first of the two, or 0 for none
abbrev pub first_stash : Option (List ℕ) → ℕ
first_stash (Some bytes) = 5
first_stash None = 0

-- What a database is made of.
pub record Making : Type 0 where
  pub format : ℕ
  pub realm : List ℕ
  pub rows : RowLists
  pub base : Point
  pub size : ℕ
  pub block : ℕ
  pub stash : Option (List ℕ)

abbrev pub made_choice : Making → Choice
made_choice m = first_choice m.format (first_stash m.stash) m.base m.size m.block

-- what its files hold
abbrev pub made_found : Making → Found
made_found m = first_found (made_choice m) (sheet_for m.realm m.rows) m.stash

-- A database is made where no slot is open, and refused as there already where one is.
abbrev pub AnswersMade : {A : Type 0} → Result A Stop → Force → Type 0
AnswersMade (Ok made) force = force ≡ Nothing
AnswersMade (Err (Refused refusal)) force = (refusal ≡ AlreadyThere) × (force ≢ Nothing)
AnswersMade (Err (Halt halt)) force = Unit {0}

-- a making is refused so, or halts
abbrev pub StopsMaking : Stop → Type 0
StopsMaking (Refused refusal) = refusal ≡ AlreadyThere
StopsMaking (Halt halt) = Unit {0}
