-- How a replica judges a reply, and the places that it makes of one.
use Rattle.std.specs.Prelude.{ℕ, ◌+◌, Bool, true, false, not, ◌&&◌, ◌||◌, nat_eq, nat_le}
use Rattle.std.specs.Prelude.{List, [], ◌∷◌, length, Option, Some, None, if◌then◌else◌}
use Rattle.iprop_reply.specs.Polls.{is_point}
use Rattle.iprop_truths.specs.Blocks.{block_for, is_too_long}
use Rattle.iprop_truths.specs.Parts.{end_of}
use Rattle.iprop_truths.specs.Polls.{PollReply, dumps_busy, nothing_new, resync_needed, updates_here}
use Rattle.kdb_base.specs.Moment.{Moment}
use Rattle.kdb_base.specs.Moments.{micros}
use Rattle.kdb_base.specs.declared.moments.Point.{Point}
use Rattle.kdb_places.specs.Applying.{may_apply}
use Rattle.kdb_places.specs.Places.{Place, committed, log_anew, no_point, point_of}
use Rattle.princ_rows.specs.declared.entries.Entry.{Entry}
use Rattle.princ_rows.specs.declared.entries.Op.{Op}

-- serial 0 at 0.000000 without a database
abbrev pub point_in : Option Place → Point
point_in None = no_point
point_in (Some p) = point_of p

abbrev pub is_based : Option Place → Bool
is_based None = false
is_based (Some p) = true

-- what is answered to a reply
pub data Judged : Type 0 where
  WrongPoint : (reply : Point) (mine : Point) → Judged
  Gap : (want : ℕ) (found : Point) → Judged
  Updated : (count : ℕ) → Judged
  Nil : Judged
  Resync : Judged
  Busy : Judged
  Denied : Judged

-- ---- a reply as a whole

-- a serial comes behind this point of a database
abbrev pub has_next : Bool → Point → Bool
has_next based at = based && not (nat_eq at.sno 4294967295)

-- the update has the next serial, and its time is not before
abbrev pub follows : Bool → Point → Entry → Bool
follows based at u = has_next based at && (nat_eq u.point.sno (at.sno + 1) && nat_le (micros at.time) (micros u.point.time))

abbrev pub wanted : Bool → Point → ℕ
wanted based at = if has_next based at then at.sno + 1 else 0

-- the first update that does not follow
unfoldable pub gap_in : Bool → Point → List Entry → Option Judged
gap_in based at [] = None
gap_in based at (u ∷ us) = if follows based at u then gap_in true u.point us else Some (Gap (wanted based at) u.point)

abbrev pub is_whole : Option Judged → Bool
is_whole None = true
is_whole (Some gap) = false

-- the updates run on from this point of a database
abbrev pub run_on : Point → List Entry → Bool
run_on at us = is_whole (gap_in true at us)

-- ---- one update after another

-- a change whose entry is too long begins the log anew before it, at the same point, with this size and a longer block
abbrev pub anew_for : ℕ → Op → Place → Place
anew_for size op p = log_anew (point_of p) size (block_for op p) p

abbrev pub updated : ℕ → Op → Moment → Place → List Place
updated size op time p = if is_too_long op p then anew_for size op p ∷ committed op time (anew_for size op p) ∷ []
    else committed op time p ∷ []

-- these places, and what comes of the last of them
abbrev pub then_all : Place → List Place → (Place → List Place) → List Place
then_all p [] rest = rest p
then_all p (q ∷ others) rest = q ∷ then_all q others rest

abbrev pub update_or_stop : ℕ → Option Op → Moment → Place → (Place → List Place) → List Place
update_or_stop size None time p rest = []
update_or_stop size (Some op) time p rest = if may_apply op p.rows then then_all p (updated size op time p) rest else []

-- the places that the updates make, up to the first that may not be made of the rows
unfoldable pub all_updated : ℕ → List Entry → Place → List Place
all_updated size [] p = []
all_updated size (u ∷ us) p = update_or_stop size u.op u.point.time p (all_updated size us)

abbrev pub stop_or : ℕ → Option Op → Point → Place → (Place → Option Judged) → Option Judged
stop_or size None at p rest = Some (Gap at.sno at)
stop_or size (Some op) at p rest = if may_apply op p.rows then rest (end_of p (updated size op at.time p))
    else Some (Gap at.sno at)

-- the first update that may not be made of the rows
unfoldable pub stop_in : ℕ → List Entry → Place → Option Judged
stop_in size [] p = None
stop_in size (u ∷ us) p = stop_or size u.op u.point p (stop_in size us)

abbrev pub stop_at : ℕ → Option Place → List Entry → Option Judged
stop_at size None us = None
stop_at size (Some p) us = stop_in size us p

-- ---- the judgement

abbrev pub first_of : Option Judged → Judged → Judged
first_of None otherwise = otherwise
first_of (Some gap) otherwise = gap

-- over the whole reply first, then one update after another
abbrev pub judged_updates : ℕ → Option Place → List Entry → Judged
judged_updates size place us =
    first_of (gap_in (is_based place) (point_in place) us) (first_of (stop_at size place us) (Updated (length us)))

abbrev pub judged_other : ℕ → Judged
judged_other code =
    if nat_eq code nothing_new then Nil else if nat_eq code resync_needed then Resync else if nat_eq code dumps_busy
    then Busy else Denied

-- a reply that speaks of the point that was asked for
abbrev pub names_point : ℕ → Bool
names_point code = nat_eq code updates_here || nat_eq code nothing_new

unfoldable pub judged : ℕ → Option Place → PollReply → Judged
judged size place r =
    if names_point r.code && not (is_point r.asked (point_in place)) then WrongPoint r.asked (point_in place)
    else if nat_eq r.code updates_here then judged_updates size place r.updates
    else judged_other r.code

-- updates from the replica's own point, which run on
abbrev pub is_taken : Point → PollReply → Bool
is_taken at r = nat_eq r.code updates_here && (is_point r.asked at && run_on at r.updates)

-- the places that a reply makes of a replica
abbrev pub made_by_reply : ℕ → Option Place → PollReply → List Place
made_by_reply size None r = []
made_by_reply size (Some p) r = if is_taken (point_of p) r then all_updated size r.updates p else []
