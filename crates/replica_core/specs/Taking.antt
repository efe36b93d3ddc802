-- What a reply comes to at a replica, by the judgement of it.
use Rattle.std.specs.Prelude.{◌≡◌, ℕ, List, [], Option, Some, None, Result, Ok, Err, if◌then◌else◌}
use Rattle.iprop_truths.specs.Polls.{PollReply, reply_of}
use Rattle.kdb_base.specs.Moment.{Moment}
use Rattle.kdb_base.specs.declared.outcomes.Halt.TheVariants as halting
use Rattle.kdb_places.specs.Applying.{may_apply}
use Rattle.kdb_places.specs.Places.{Place}
use Rattle.princ_rows.specs.Replies.{Reply, number_of}
use Rattle.princ_rows.specs.declared.entries.Entry.{Entry}
use Rattle.princ_rows.specs.declared.entries.Op.{Op}
use Rattle.replica_steps.specs.Judging.{Judged, WrongPoint, Gap, Updated, Nil}
use Rattle.replica_steps.specs.Judging.{Resync, Busy, Denied, all_updated, updated}
use Rattle.replica_core.specs.declared.stops.ReplicaStop.{ReplicaStop}
use Rattle.replica_core.specs.declared.stops.ReplicaStop.TheVariants as stop
use Rattle.replica_core.specs.declared.stops.Taken4.{Taken4}
use Rattle.replica_core.specs.declared.stops.Taken4.TheVariants as taken

-- a reply as a replica is told it
abbrev pub told_reply : Reply → PollReply
told_reply r = reply_of (number_of r.code) r.asked r.updates

-- ---- answers

abbrev pub judgement_of : Taken4 → Judged
judgement_of taken.Nil = Nil
judgement_of (taken.Updated count) = Updated count
judgement_of taken.Resync = Resync
judgement_of taken.Busy = Busy
judgement_of taken.Denied = Denied

abbrev pub IsStopOf : ReplicaStop → Judged → Type 0
IsStopOf (stop.WrongPoint reply mine) j = j ≡ WrongPoint reply mine
IsStopOf (stop.Gap want found) j = j ≡ Gap want found
IsStopOf (stop.Halt halt) j = Unit {0}

-- the answer is the judgement, unless memory ran out or the disk failed
abbrev pub IsAnswerOf : Result Taken4 ReplicaStop → Judged → Type 0
IsAnswerOf (Ok done) j = j ≡ judgement_of done
IsAnswerOf (Err why) j = IsStopOf why j

-- it goes on where nothing stops it, and else stops so, unless memory ran out or the disk failed
abbrev pub IsStoppedAs : ReplicaStop → Option Judged → Type 0
IsStoppedAs (stop.WrongPoint reply mine) j = j ≡ Some (WrongPoint reply mine)
IsStoppedAs (stop.Gap want found) j = j ≡ Some (Gap want found)
IsStoppedAs (stop.Halt halt) j = Unit {0}

abbrev pub IsStopIn : Result Unit ReplicaStop → Option Judged → Type 0
IsStopIn (Ok done) j = j ≡ None
IsStopIn (Err why) j = IsStoppedAs why j

-- ---- what holds after some of the answers

abbrev pub AtJudgement : ReplicaStop → Type 0 → Type 0
AtJudgement (stop.WrongPoint reply mine) P = P
AtJudgement (stop.Gap want found) P = P
AtJudgement (stop.Halt halt) P = Unit {0}

-- unless memory ran out or the disk failed
abbrev pub UnlessHalted : {A : Type 0} → Result A ReplicaStop → Type 0 → Type 0
UnlessHalted (Ok done) P = P
UnlessHalted (Err why) P = AtJudgement why P

abbrev pub AtNoFault : ReplicaStop → Type 0 → Type 0
AtNoFault (stop.WrongPoint reply mine) P = P
AtNoFault (stop.Gap want found) P = P
AtNoFault (stop.Halt halting.MemoryOut) P = P
AtNoFault (stop.Halt halting.DiskFault) P = Unit {0}

-- unless the disk failed
abbrev pub UnlessFaulted : {A : Type 0} → Result A ReplicaStop → Type 0 → Type 0
UnlessFaulted (Ok done) P = P
UnlessFaulted (Err why) P = AtNoFault why P

-- where memory ran out or the disk failed
abbrev pub AtHalt : ReplicaStop → Type 0 → Type 0
AtHalt (stop.WrongPoint reply mine) P = Unit {0}
AtHalt (stop.Gap want found) P = Unit {0}
AtHalt (stop.Halt halt) P = P

abbrev pub OnHalt : {A : Type 0} → Result A ReplicaStop → Type 0 → Type 0
OnHalt (Ok done) P = Unit {0}
OnHalt (Err why) P = AtHalt why P

-- ---- one update

-- the places that an update makes: none where it may not be made of the rows
abbrev pub one_updated : ℕ → Option Op → Moment → Place → List Place
one_updated size None time p = []
one_updated size (Some op) time p = if may_apply op p.rows then updated size op time p else []

-- the places that updates make of a database, where there is one
abbrev pub stored_in : ℕ → List Entry → Option Place → List Place
stored_in size us None = []
stored_in size us (Some p) = all_updated size us p

-- the log size and the format stay
abbrev pub IsSized : Place → Place → Type 0
IsSized old new = (new.size ≡ old.size) × (new.format ≡ old.format)
