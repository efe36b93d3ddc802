-- What a creation makes, as the first stage of a history.
use Rattle.std.specs.Prelude.{ℕ, List}
use Rattle.first_rows.specs.Creation.{first_state}
use Rattle.first_rows.specs.Parts.{SpecParts}
use Rattle.kdb_base.specs.Moment.{Moment}
use Rattle.kdb_histories.specs.Stages.{Filled, Stage, stage}
use Rattle.primary_core.specs.Opening.{first_place}

-- the place to the byte, with the state of a creation
abbrev pub first_stage : SpecParts → Moment → List ℕ → Stage
first_stage spec now random = stage (first_place spec now random) (Filled (first_state spec now random))
