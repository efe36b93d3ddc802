-- What a call of the primary makes of its place, and which places it may have come to where it stopped.
use Rattle.std.specs.Prelude.{◌≡◌, ◌⊎◌, List}
use Rattle.iprop_truths.specs.Parts.{IsPart, end_of}
use Rattle.kdb_histories.specs.Asks.{Answer}
use Rattle.kdb_histories.specs.Calls.{Call, CallMakes}
use Rattle.kdb_histories.specs.Stages.{Stage, places}
use Rattle.kdb_places.specs.Places.{Place}
use Rattle.kdb_plain.specs.declared.states.State.{State}

-- The call answers this and makes these places, the last of which is this one.
pub record Does (p : Place) (s : State) (call : Call) (answer : Answer) (q : Place) : Type 0 where
  pub made : List Stage
  pub makes : CallMakes p s call answer made
  pub is : q ≡ end_of p (places made)

-- It makes these places, and stopped at this one.
pub record StopsAt (p : Place) (s : State) (call : Call) (q : Place) : Type 0 where
  pub answer : Answer
  pub made : List Stage
  pub makes : CallMakes p s call answer made
  pub part : IsPart p (places made) q

-- The place is as before, or one at which the call stopped. A call that wants memory or is refused makes none.
abbrev pub MayReach : Place → State → Call → Place → Type 0
MayReach p s call q = (q ≡ p) ⊎ StopsAt p s call q
