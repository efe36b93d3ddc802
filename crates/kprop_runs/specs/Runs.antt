-- A replica's run, from its opening on: how it ends, where it may be stopped, and what a crash may leave.
use Rattle.std.specs.Prelude.{ℕ, ◌≡◌, ◌⊎◌, Bool, true, false, List, [], Option, Some, Result, IfOk, OnErr}
use Rattle.iprop_links.specs.Asking.{sent_in}
use Rattle.kadm_replies.specs.Refusals.{refusal_text}
use Rattle.kadm_replies.specs.Texts.{done_text}
use Rattle.kdb_base.specs.declared.outcomes.Refusal.{Refusal}
use Rattle.kdb_base.specs.declared.outcomes.Status.{Status}
use Rattle.kdb_disk.specs.Files.{Files}
use Rattle.kdb_disk.specs.Moments.{Keeps, LeavesOnly}
use Rattle.kdb_disk.specs.View.{View}
use Rattle.kdb_places.specs.Places.{Place}
use Rattle.kdb_ports.specs.Links.{Wire}
use Rattle.kdb_ports.specs.Parts.{SaidPart}
use Rattle.kdb_ports.specs.Told.{after_told}
use Rattle.kprop_runs.specs.Halts.{OnEnd, OnStop}
use Rattle.kprop_runs.specs.Openings.{Opening, Opens, Refuses}
use Rattle.kprop_runs.specs.Stages.{HoldsBehind, HoldsIn, LeavesRounds, LeavesUntold, MayLead, Stage, StandsFrom}
use Rattle.kprop_runs.specs.Stages.{StopsBehind, StopsIn, after_rounds, stage_of}
use Rattle.kprop_runs.specs.declared.halts.RunHalt.{RunHalt}
use Rattle.kprop_runs.specs.declared.words.Asked.{Asked}
use Rattle.replica_core.specs.Opening.{MayOpen}
use Rattle.replica_steps.specs.Judging.{point_in}
use Rattle.store_files.specs.Recovery.{IsLike}

-- ---- how it ends where nothing fails

-- what was sent on each connection, the newest first, what was written, as far as it is told, and whether a refusal was
pub record RunEnd : Type 0 where
  pub sent : List (List ℕ)
  pub out : Option (List ℕ)
  pub refused : Bool

-- behind the rounds the last line tells the replica's point
abbrev pub end_behind : Stage → RunEnd
end_behind s = record { sent = s.sent; out = after_told s.out (done_text (point_in s.place)); refused = s.refused }

-- a run of rounds from this place
abbrev pub first_stage : Wire → Option (List ℕ) → Option Place → Stage
first_stage w taken place = stage_of w taken place false

abbrev pub last_stage : Asked → Stage → Stage
last_stage a s = after_rounds a.name a.size a.rounds s

abbrev pub refusal_end : Refusal → Wire → Option (List ℕ) → RunEnd
refusal_end why w taken = record { sent = w.sent; out = after_told taken (refusal_text why); refused = true }

abbrev pub run_end : Opening → Wire → Option (List ℕ) → RunEnd
run_end (Refuses why) w taken = refusal_end why w taken
run_end (Opens a place) w taken = end_behind (last_stage a (first_stage w taken place))

-- whatever a crash then leaves stands for the place
abbrev pub StandsFor : Option Place → View → Type 0
StandsFor place now = StandsFrom place [] now

-- what stands then: what stood before a refusal, or the last place
abbrev pub Stands : Opening → Wire → Option (List ℕ) → View → View → Type 0
Stands (Refuses why) w taken old now = Keeps old now
Stands (Opens a place) w taken old now = StandsFor (last_stage a (first_stage w taken place)).place now

pub record EndsAs (end : RunEnd) (told : Option Wire) (out : Option (List ℕ)) (refused : Bool) : Type 0 where
  pub sent_is : sent_in told ≡ Some end.sent
  pub out_is : out ≡ end.out
  pub refused_is : refused ≡ end.refused

-- ---- where it may be stopped

-- in a round, or in the last line
abbrev pub StopsRounds : Asked → Stage → Option (List (List ℕ)) → Option (List ℕ) → Type 0
StopsRounds a s sent out = StopsIn a.name a.size a.rounds s sent out ⊎ StopsBehind (last_stage a s) sent out

abbrev pub StopsFrom : Opening → Wire → Option (List ℕ) → Option (List (List ℕ)) → Option (List ℕ) → Type 0
StopsFrom (Refuses why) w taken sent out = (sent ≡ Some w.sent) × SaidPart (refusal_text why) taken out
StopsFrom (Opens a place) w taken sent out = StopsRounds a (first_stage w taken place) sent out

-- before its opening was done, when nothing was sent or written, or after it
abbrev pub RunStops : Opening → Wire → Option (List ℕ) → Option (List (List ℕ)) → Option (List ℕ) → Type 0
RunStops o w taken sent out = ((sent ≡ Some w.sent) × (out ≡ taken)) ⊎ StopsFrom o w taken sent out

-- What the disk has goes with what was written: where a front of a round's line was, the place behind that round.
abbrev pub HoldsRounds : Asked → Stage → Option (List ℕ) → View → Type 0
HoldsRounds a s out now = HoldsIn a.name a.size a.rounds s out now ⊎ HoldsBehind (last_stage a s) out now

-- nothing was written, and its opening was not done, or it goes with what was written
abbrev pub RunHolds : Opening → Wire → Option (List ℕ) → Option (List ℕ) → View → Type 0
RunHolds (Refuses why) w taken out now = Unit {0}
RunHolds (Opens a place) w taken out now = (out ≡ taken) ⊎ HoldsRounds a (first_stage w taken place) out now

-- ---- what a crash may leave at any moment of it

-- what an image of before stood for, a place of the opening, by what the files stood for, or one of a round
abbrev pub RunLeaves : Opening → Result Place Refusal → Wire → Option (List ℕ) → View → Files → Type 0
RunLeaves (Refuses why) found w taken old files = IsLike old files
RunLeaves (Opens a place) found w taken old files =
    MayOpen old a.size found files ⊎ LeavesRounds a.name a.size a.rounds (first_stage w taken place) files

-- where nothing is told of what comes
abbrev pub RunLeavesSome : Opening → Result Place Refusal → View → Files → Type 0
RunLeavesSome (Refuses why) found old files = IsLike old files
RunLeavesSome (Opens a place) found old files =
    MayOpen old a.size found files ⊎ LeavesUntold a.size a.rounds place files

-- Some replies and dumps led to a place. It stands then, and the last line tells its point.
pub record EndsSome (size rounds : ℕ) (place : Option Place) (out : Option (List ℕ)) (now : View) : Type 0 where
  pub at : Option Place
  pub leads : MayLead size rounds place at
  pub stands : StandsFor at now
  pub lines : Option (List ℕ)
  pub said : out ≡ after_told lines (done_text (point_in at))

-- where nothing is told of what came, and nothing stopped it
abbrev pub RunEndsSome : Opening → Option (List ℕ) → Option (List ℕ) → View → View → Type 0
RunEndsSome (Refuses why) taken out old now = (out ≡ after_told taken (refusal_text why)) × Keeps old now
RunEndsSome (Opens a place) taken out old now = EndsSome a.size a.rounds place out now

-- ---- all of it

-- The rounds and the last line behind an opening.
pub record HasRounds (result : Result Bool RunHalt) (a : Asked) (s : Stage) (told : Option Wire)
    (out : Option (List ℕ)) : Type 0 where
  pub ended : IfOk result (λ refused. EndsAs (end_behind (last_stage a s)) told out refused)
  pub stopped : OnErr result (StopsRounds a s (sent_in told) out)

-- A run from its opening on: it went through, and says whether a refusal was written, or it was stopped.
pub record HasRun (o : Opening) (found : Result Place Refusal) (w : Wire) (taken : Option (List ℕ)) (old now : View)
    (told : Option Wire)
    (out : Option (List ℕ)) (result : Result Bool RunHalt) : Type 0 where
  pub ended : IfOk result (λ refused. EndsAs (run_end o w taken) told out refused × Stands o w taken old now)
  pub stopped : OnErr result (RunStops o w taken (sent_in told) out)
  pub holds : OnErr result (RunHolds o w taken out now)
  pub moments : LeavesOnly old now (RunLeaves o found w taken old)

-- the same by its status
pub record IsRun (o : Opening) (found : Result Place Refusal) (w : Wire) (taken : Option (List ℕ)) (old now : View)
    (told : Option Wire)
    (out : Option (List ℕ)) (result : Status) : Type 0 where
  -- where nothing stopped it: the bytes that were sent and written, whether a refusal is among them, and what then
  -- stands
  pub ended : OnEnd result (λ refused. EndsAs (run_end o w taken) told out refused × Stands o w taken old now)
  -- where it was stopped: a front of these bytes
  pub stopped : OnStop result (RunStops o w taken (sent_in told) out)
  -- and the disk then has a place that goes with what was written
  pub holds : OnStop result (RunHolds o w taken out now)
  -- at any moment of it
  pub moments : LeavesOnly old now (RunLeaves o found w taken old)

-- A refusal of the words: it is written, or a front of it, and no more is done.
pub record HasRefusal (text : List ℕ) (taken out : Option (List ℕ)) (result : Result Bool RunHalt) : Type 0 where
  pub ended : IfOk result (λ refused. (refused ≡ true) × (out ≡ after_told taken text))
  pub stopped : OnErr result (SaidPart text taken out)

-- the same by its status
pub record IsRefusal (text : List ℕ) (taken out : Option (List ℕ)) (result : Status) : Type 0 where
  pub ended : OnEnd result (λ refused. (refused ≡ true) × (out ≡ after_told taken text))
  pub stopped : OnStop result (SaidPart text taken out)
