-- What an opening answers, of what is found.
use Rattle.std.proofs.Common.{◌≡◌, Ok, refl, ap, ◌∙◌}
use Rattle.std.specs.Prelude.{Result, Err}
use Rattle.kdb_base.specs.declared.outcomes.Refusal.{Refusal}
use Rattle.kdb_base.specs.declared.outcomes.Stop.{Stop}
use Rattle.kdb_base.specs.declared.outcomes.Stop.TheVariants.{Refused, Halt}
use Rattle.kdb_places.specs.Places.{Place}
use Rattle.store_files.specs.Found.{Found, place_in}
use Rattle.store_files.specs.Kept.{Kept, place_kept}
use Rattle.store_files.proofs.Placed.{place_is}
use Rattle.store_opening.specs.Looking.{AnswersFound}
use Rattle.store_opening.specs.Reading.{IsFoundOf}
use Rattle.kdb_store.specs.Reading.{IsFoundAs}

pub found_as : (k : Kept) (found : Result Found Refusal) → IsFoundOf k found → IsFoundAs k found
found_as k found is = record { cells = is.0; rows = is.1.0; is = is.1.1 }

-- its place is the one that is found
pub answers_ok : (k : Kept) (found : Result Found Refusal) → IsFoundOf k found → place_in found ≡ Ok (place_kept k)
answers_ok k found is = ap place_in is.1.1 ∙ ap Ok (place_is k is.0 is.1.0)

-- and a refusal is why none is found
pub answers_err : {A B : Type 0} (place : A → Place) (stop : Stop) (found : Result Found Refusal)
    → ((why : Refusal) → ◌≡◌ {A = Result B Stop} (Err stop) (Err (Refused why)) → found ≡ Err why)
    → AnswersFound place (Err stop) (place_in found)
answers_err place (Refused why) found is = ap place_in (is why refl)
answers_err place (Halt halt) found is = tt
