-- The end of a database, by what is kept of it.
use Rattle.std.proofs.Common.{◌≡◌, Result, Ok, Err, inl, inr, ap, subst, ◌∙◌}
use Rattle.std.specs.Prelude.{IfErr}
use Rattle.kdb_base.specs.declared.outcomes.Refusal.{Refusal}
use Rattle.kdb_base.specs.declared.outcomes.Stop.{Stop}
use Rattle.kdb_base.specs.declared.outcomes.Stop.TheVariants as stop
use Rattle.kdb_control.specs.Force.{in_force}
use Rattle.kdb_control.specs.declared.force.Force.{Force}
use Rattle.kdb_control.specs.declared.force.Force.TheVariants.{Nothing, Is, Broken}
use Rattle.kdb_disk.specs.Files.{Files}
use Rattle.kdb_disk.specs.View.{View}
use Rattle.kdb_places.specs.Places.{Place}
use Rattle.primary_core.specs.Ending.{MayEnd}
use Rattle.store_files.specs.Found.{found_by, found_in, place_in, recovers}
use Rattle.store_files.specs.Recovery.{Destroys, RecoversTo}
use Rattle.store_opening.specs.Looking.{StopsOpening}
use Rattle.store_switches.specs.Ending.{AnswersEnded, RefusesEnd, StopsEnding}

pub may_end : (old : View) (p : Place) (f : Files) → RecoversTo p old → Destroys old f → MayEnd p f
may_end old p f stands (inl like) = inl (ap place_in like.same ∙ stands like.before like.was)
may_end old p f stands (inr none) = inr none

by_force : (force : Force) (files : Files) (p : Place) (why : Refusal) → place_in (found_by force files) ≡ Ok p
    → RefusesEnd force why → ⊥
by_force Nothing files p why is refuses = absurd cc
by_force (Broken place) files p why is refuses = absurd cc
by_force (Is choice) files p why is refuses = refuses

never_ends : (files : Files) (p : Place) (why : Refusal) → recovers files ≡ Ok p
    → RefusesEnd (in_force (files 0)) why → ⊥
unfolding found_in
never_ends files p why is refuses = by_force (in_force (files 0)) files p why is refuses

pub never_refused : (A : Type 0) (files : Files) (p : Place) (r : Result A Stop) (why : Refusal) → recovers files ≡ Ok p
    → AnswersEnded r (in_force (files 0))
    → r ≡ Err (stop.Refused why) → ⊥
never_refused A files p r why is answers e =
    never_ends files p why is (subst (λ (x : Result A Stop). AnswersEnded x (in_force (files 0))) e answers)

-- an end is refused as an opening is
pub ends_as_opening : {A : Type 0} (r : Result A Stop) → IfErr r StopsEnding → IfErr r StopsOpening
ends_as_opening (Ok a) stops = tt
ends_as_opening (Err (stop.Refused why)) stops = stops
ends_as_opening (Err (stop.Halt halt)) stops = tt
