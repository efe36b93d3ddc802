-- What the messages of a primary are true of: the places of its histories, the newest first.
use Rattle.std.specs.Prelude.{◌≡◌, ◌≢◌, ◌+◌, ◌≤◌, ◌⊎◌, true, List, [], ◌∷◌, Contains, Some}
use Rattle.std.specs.List.{All}
use Rattle.iprop_truths.specs.Polls.{PollReply, updates_here}
use Rattle.kdb_base.specs.Moments.{micros}
use Rattle.kdb_base.specs.declared.moments.Point.{Point}
use Rattle.kdb_places.specs.Applying.{may_apply}
use Rattle.kdb_places.specs.Places.{Place, Contents, contents_of}
use Rattle.princ_rows.specs.declared.entries.Entry.{Entry}
use Rattle.princ_rows.specs.declared.entries.Op.{Op}
use Rattle.princ_rows.specs.Effects.{effect}

-- One of the places has these contents.
pub record Has (places : List Place) (c : Contents) : Type 0 where
  pub place : Place
  pub there : Contains places place
  pub is : c ≡ contents_of place

-- One place comes directly behind the other, and these are their contents.
abbrev pub IsNext : List Place → Contents → Contents → Type 0
IsNext [] c d = ⊥
IsNext (q ∷ []) c d = ⊥
IsNext (q ∷ p ∷ older) c d = ((c ≡ contents_of p) × (d ≡ contents_of q)) ⊎ IsNext (p ∷ older) c d

-- The entry makes the one of the other: its serial is the next, its time not before, and its change may be made of the
-- rows.
pub record Makes (c : Contents) (u : Entry) (d : Contents) : Type 0 where
  pub op : Op
  pub change : u.op ≡ Some op
  pub more : c.point.sno ≢ 4294967295
  pub serial : u.point.sno ≡ c.point.sno + 1
  pub not_before : micros c.point.time ≤ micros u.point.time
  pub fits : may_apply op c.rows ≡ true
  pub realm : d.realm ≡ c.realm
  pub point : d.point ≡ u.point
  pub rows : d.rows ≡ effect (Some op) c.rows

-- The entries, in order, lead from the one to the other: each makes the contents of the next place.
abbrev pub AreLinked : List Place → Contents → List Entry → Contents → Type 0
AreLinked places c [] d = c ≡ d
AreLinked places c (u ∷ us) d =
    (next : Contents) × Has places next × Makes c u next × AreLinked places next us d × IsNext places c next

-- The entries lead on from a place at this point.
pub record GoesOn (places : List Place) (asked : Point) (us : List Entry) (d : Contents) : Type 0 where
  pub from : Contents
  pub has : Has places from
  pub at : from.point ≡ asked
  pub leads : AreLinked places from us d

-- The first entry that is held stands at the point of a place, and the others lead from there to these contents.
abbrev pub HoldsFrom : List Place → List Entry → Contents → Type 0
HoldsFrom places [] d = ⊥
HoldsFrom places (e ∷ entries) d = GoesOn places e.point entries d

-- The updates lead from a place at the point that was asked for.
pub record LeadsOn (places : List Place) (asked : Point) (us : List Entry) : Type 0 where
  pub to : Contents
  pub on : GoesOn places asked us to

-- ---- messages

pub data Message : Type 0 where
  Reply : (reply : PollReply) → Message
  Dumped : (contents : Contents) → Message

-- A dump has the contents of a place. A reply with updates leads on from a place at the asked point; every other reply
-- says nothing of places.
abbrev pub IsTrueOf : List Place → Message → Type 0
IsTrueOf places (Reply r) = r.code ≡ updates_here → LeadsOn places r.asked r.updates
IsTrueOf places (Dumped c) = Has places c

abbrev pub AreTrue : List Place → List Message → Type 0
AreTrue places sent = All (IsTrueOf places) sent

-- Two places at one point have the same contents.
abbrev pub IsOnePerPoint : List Place → Type 0
IsOnePerPoint places = (c d : Contents) → Has places c → Has places d → c.point ≡ d.point → c ≡ d
