-- What files stand for after a crash, as a part of the places that were made.
use Rattle.std.proofs.Common.{◌≡◌, inl, inr, List, [], ◌∷◌, Option, Some, None, ap}
use Rattle.kdb_disk.specs.Files.{Files}
use Rattle.kdb_places.specs.Places.{Place}
use Rattle.replica_core.specs.Opened.{LeavesMade}
use Rattle.replica_core.specs.Opening.{place_found}
use Rattle.replica_steps.specs.Bridges.{MayBePart}
use Rattle.store_files.specs.Found.{place_in, recovers}
use Rattle.store_files.specs.Recovery.{HasNone, LeavesPart}

part_found : (p : Place) (made : List Place) (files : Files) → LeavesPart p made files
    → MayBePart (Some p) made (place_found (recovers files))
unfolding LeavesPart
part_found p [] files is = ap place_found is
part_found p (q ∷ made) files (inl is) = inl (ap place_found is)
part_found p (q ∷ made) files (inr is) = inr (part_found q made files is)

none_found : (files : Files) → HasNone files → place_found (recovers files) ≡ None
none_found files none = ap (λ r. place_found (place_in r)) none

pub part_left : (place : Option Place) (made : List Place) (files : Files) → LeavesMade place made files
    → MayBePart place made (place_found (recovers files))
part_left (Some p) made files is = part_found p made files is
part_left None [] files none = none_found files none
part_left None (q ∷ made) files (inl none) = inl (none_found files none)
part_left None (q ∷ made) files (inr is) = inr (part_found q made files is)
