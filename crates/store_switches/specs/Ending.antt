-- What an end of a database answers.
use Rattle.std.specs.Prelude.{◌≡◌, ◌⊎◌, ℕ, Result, Ok, Err}
use Rattle.kdb_base.specs.declared.outcomes.Refusal.{Refusal}
use Rattle.kdb_base.specs.declared.outcomes.Refusal.TheVariants.{NotADatabase, Damaged}
use Rattle.kdb_base.specs.declared.outcomes.Stop.{Stop}
use Rattle.kdb_base.specs.declared.outcomes.Stop.TheVariants.{Refused, Halt}
use Rattle.kdb_control.specs.Choice.{Choice}
use Rattle.kdb_control.specs.declared.force.Force.{Force}
use Rattle.kdb_control.specs.declared.force.Force.TheVariants.{Nothing, Is, Broken}

-- why nothing is ended where this is in force
abbrev pub RefusesEnd : Force → Refusal → Type 0
RefusesEnd Nothing refusal = refusal ≡ NotADatabase
RefusesEnd (Broken place) refusal = refusal ≡ Damaged 0 place
RefusesEnd (Is choice) refusal = ⊥

-- a database is ended where one is in force
abbrev pub IsChosen : Force → Type 0
IsChosen (Is choice) = Unit {0}
IsChosen Nothing = ⊥
IsChosen (Broken place) = ⊥

-- it is ended, or refused by its cause, unless the disk failed
abbrev pub AnswersEnded : {A : Type 0} → Result A Stop → Force → Type 0
AnswersEnded (Ok ended) force = IsChosen force
AnswersEnded (Err (Refused refusal)) force = RefusesEnd force refusal
AnswersEnded (Err (Halt halt)) force = Unit {0}

-- the answer is what is in force, or why nothing is, unless the disk failed
abbrev pub Chooses : Result Choice Stop → Force → Type 0
Chooses (Ok choice) force = force ≡ Is choice
Chooses (Err (Refused refusal)) force = RefusesEnd force refusal
Chooses (Err (Halt halt)) force = Unit {0}

-- no database is there, or the control file is damaged at some place
abbrev pub IsUnended : Refusal → Type 0
IsUnended refusal = (refusal ≡ NotADatabase) ⊎ ((file : ℕ) × ((place : ℕ) × (refusal ≡ Damaged file place)))

-- an end is refused so, or halts
abbrev pub StopsEnding : Stop → Type 0
StopsEnding (Refused refusal) = IsUnended refusal
StopsEnding (Halt halt) = Unit {0}
