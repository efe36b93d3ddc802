-- A call by the stages that it makes: what it may have come to, and what a crash may leave.
use Rattle.std.proofs.Common.{◌≡◌, List, [], ◌∷◌, Ok, inl, inr, refl}
use Rattle.iprop_truths.specs.Parts.{IsPart, end_of}
use Rattle.kdb_disk.specs.Files.{Files}
use Rattle.kdb_histories.specs.Asks.{Answer}
use Rattle.kdb_histories.specs.Calls.{Call, CallMakes}
use Rattle.kdb_histories.specs.Leaving.{Does, MayReach}
use Rattle.kdb_histories.specs.Stages.{Stage, places}
use Rattle.kdb_places.specs.Places.{Place}
use Rattle.kdb_plain.specs.declared.states.State.{State}
use Rattle.primary_core.specs.Opened.{MayLeave}
use Rattle.store_files.specs.Found.{recovers}
use Rattle.store_files.specs.Recovery.{LeavesPart}

-- the files recover to the place, or to one of those that follow it
pub record LeftAt (p : Place) (made : List Place) (c : Files) : Type 0 where
  pub place : Place
  pub is : recovers c ≡ Ok place
  pub part : IsPart p made place

pub left_at : (p : Place) (made : List Place) (c : Files) → LeavesPart p made c → LeftAt p made c
unfolding LeavesPart
left_at p [] c is = record { place = p; is = is; part = refl }
left_at p (q ∷ made) c (inl is) = record { place = p; is = is; part = inl refl }
left_at p (q ∷ made) c (inr rest) = let l =
    left_at q made c rest in record { place = l.place; is = l.is; part = inr l.part }

module _ (p : Place) (s : State) (call : Call) (answer : Answer) (made : List Stage)
    (makes : CallMakes p s call answer made) where
  pub call_reaches : (q : Place) → IsPart p (places made) q → MayReach p s call q
  call_reaches q part = inr (record { answer = answer; made = made; makes = makes; part = part })

  pub call_leaves : (c : Files) → LeavesPart p (places made) c → MayLeave p s call c
  call_leaves c h =
      let l = left_at p (places made) c h in
      record { place = l.place; is = l.is; may = call_reaches l.place l.part }

  pub call_does : (q : Place) → q ≡ end_of p (places made) → Does p s call answer q
  call_does q is = record { made = made; makes = makes; is = is }

-- what stands as before
pub call_stays : (p : Place) (s : State) (call : Call) (c : Files) → recovers c ≡ Ok p → MayLeave p s call c
call_stays p s call c is = record { place = p; is = is; may = inl refl }
