-- Where the rounds of a replica lead, and where they may be stopped.
use Rattle.std.specs.Prelude.{ℕ, zero, suc, ◌≡◌, ◌<◌, ◌⊎◌, Bool, ◌||◌, List, [], ◌∷◌, Option, Some}
use Rattle.iprop_links.specs.Asking.{MaySay, later_in, sent_in}
use Rattle.kadm_replies.specs.Texts.{done_text}
use Rattle.kdb_disk.specs.Files.{Files}
use Rattle.kdb_disk.specs.View.{View}
use Rattle.kdb_places.specs.Places.{Place}
use Rattle.kdb_ports.specs.Links.{Wire, behind_first, first_of}
use Rattle.kdb_ports.specs.Parts.{SaidPart}
use Rattle.kdb_ports.specs.Told.{after_told}
use Rattle.kprop_rounds.specs.Rounds.{IsOfRound, LeavesSome, RoundEnd, round_end, round_text}
use Rattle.kprop_runs.specs.Lines.{is_refused, round_line}
use Rattle.replica_core.specs.Opened.{LeavesMade}
use Rattle.replica_steps.specs.Bridges.{MayBePart}
use Rattle.replica_steps.specs.Judging.{point_in}
use Rattle.replica_steps.specs.Replicas.{Task, place_after, task_makes}

-- The replica's place, what was sent on each connection, the newest first, what those of later dials give, what was
-- written, as far as it is told, and whether a round was refused.
pub record Stage : Type 0 where
  pub place : Option Place
  pub sent : List (List ℕ)
  pub to_come : List (List ℕ)
  pub out : Option (List ℕ)
  pub refused : Bool

-- of a link that tells this, a sink that tells so much, and a replica at this place
abbrev pub stage_of : Wire → Option (List ℕ) → Option Place → Bool → Stage
stage_of w taken place refused =
    record { place = place; sent = w.sent; to_come = w.to_come; out = taken; refused = refused }

-- what is told is the stage
pub record StandsAt (s : Stage) (told : Option Wire) (taken : Option (List ℕ)) (place : Option Place)
    (refused : Bool) : Type 0 where
  pub place_is : place ≡ s.place
  pub sent_is : sent_in told ≡ Some s.sent
  pub later_is : later_in told ≡ Some s.to_come
  pub out_is : taken ≡ s.out
  pub refused_is : refused ≡ s.refused

-- ---- one round

-- what the next connection leads to
abbrev pub end_at : ℕ → Stage → RoundEnd
end_at size s = round_end size s.place (first_of s.to_come)

abbrev pub place_behind : RoundEnd → Stage → Option Place
place_behind end s = place_after s.place end.made

-- the line of a round of this number with this end
abbrev pub line_at : ℕ → RoundEnd → Stage → List ℕ
line_at number end s = round_line number end.word (point_in (place_behind end s))

abbrev pub stage_behind : List ℕ → ℕ → RoundEnd → Stage → Stage
stage_behind name number end s = record {
  place = place_behind end s;
  sent = round_text name s.place end ∷ s.sent;
  to_come = behind_first s.to_come;
  out = after_told s.out (line_at number end s);
  refused = s.refused || is_refused end.word;
}

abbrev pub after_round : List ℕ → ℕ → ℕ → Stage → Stage
after_round name size number s = stage_behind name number (end_at size s) s

-- It was stopped in a round with this end: nothing of its line was written, and a front of what it says was sent, or no
-- connection was made; or all of that was sent, and a front of its line was written.
abbrev pub StopsRound : List ℕ → ℕ → RoundEnd → Stage → Option (List (List ℕ)) → Option (List ℕ) → Type 0
StopsRound name number end s sent out =
    (MaySay (round_text name s.place end) s.sent sent × (out ≡ s.out))
    ⊎ ((sent ≡ Some (round_text name s.place end ∷ s.sent)) × SaidPart (line_at number end s) s.out out)

-- ---- one after another, numbered from 1

unfoldable pub after_rounds : List ℕ → ℕ → ℕ → Stage → Stage
after_rounds name size zero s = s
after_rounds name size (suc n) s = after_round name size (suc n) (after_rounds name size n s)

-- it was stopped in one of so many rounds, and those before it were done
pub record StopsIn (name : List ℕ) (size count : ℕ) (s : Stage) (sent : Option (List (List ℕ)))
    (out : Option (List ℕ)) : Type 0 where
  pub done : ℕ
  pub few : done < count
  pub stops : StopsRound name (suc done) (end_at size (after_rounds name size done s))
      (after_rounds name size done s) sent out

-- or in the last line, with all of them done
abbrev pub StopsBehind : Stage → Option (List (List ℕ)) → Option (List ℕ) → Type 0
StopsBehind s sent out = (sent ≡ Some s.sent) × SaidPart (done_text (point_in s.place)) s.out out

-- ---- what stands on the disk where it was stopped

-- whatever a crash then leaves stands for this place, or for one of those that are made of it
pub record StandsFrom (place : Option Place) (made : List Place) (now : View) : Type 0 where
  pub each : (c : Files) → now.images c → LeavesMade place made c

-- A round with this end was stopped: nothing of its line was written, and the disk has a place of the round; or a front
-- of its line was, and the disk has the last of them.
abbrev pub HoldsRound : ℕ → RoundEnd → Stage → Option (List ℕ) → View → Type 0
HoldsRound number end s out now =
    ((out ≡ s.out) × StandsFrom s.place end.made now)
    ⊎ (SaidPart (line_at number end s) s.out out × StandsFrom (place_behind end s) [] now)

-- one of so many rounds was stopped so
pub record HoldsIn (name : List ℕ) (size count : ℕ) (s : Stage) (out : Option (List ℕ)) (now : View) : Type 0 where
  pub done : ℕ
  pub few : done < count
  pub holds : HoldsRound (suc done) (end_at size (after_rounds name size done s))
      (after_rounds name size done s) out now

-- or the last line was, with all of them done
abbrev pub HoldsBehind : Stage → Option (List ℕ) → View → Type 0
HoldsBehind s out now = SaidPart (done_text (point_in s.place)) s.out out × StandsFrom s.place [] now

-- ---- what a crash leaves

-- the files stand for a place that one of so many rounds begins at or makes
pub record LeavesIn (name : List ℕ) (size count : ℕ) (s : Stage) (files : Files) : Type 0 where
  pub done : ℕ
  pub few : done < count
  pub leaves : LeavesMade (after_rounds name size done s).place (end_at size (after_rounds name size done s)).made files

-- or for the first of all
abbrev pub LeavesRounds : List ℕ → ℕ → ℕ → Stage → Files → Type 0
LeavesRounds name size count s files = LeavesMade s.place [] files ⊎ LeavesIn name size count s files

-- ---- where nothing is told of what comes

-- a reply or a dump leads from the one place to the other, or stops there on its way
pub record MayCome (size : ℕ) (old new : Option Place) : Type 0 where
  pub task : Task
  pub of_round : IsOfRound task
  pub part : MayBePart old (task_makes size old task) new

-- so many of them do, one after another
unfoldable pub MayLead : ℕ → ℕ → Option Place → Option Place → Type 0
MayLead size zero place now = now ≡ place
MayLead size (suc n) place now = (mid : Option Place) × MayLead size n place mid × MayCome size mid now

-- the files stand for a place that some of so many rounds begins at, or that a reply or a dump makes of it
pub record LeavesOfSome (size count : ℕ) (place : Option Place) (files : Files) : Type 0 where
  pub done : ℕ
  pub few : done < count
  pub at : Option Place
  pub leads : MayLead size done place at
  pub leaves : LeavesSome size at files

-- or for the first of all
abbrev pub LeavesUntold : ℕ → ℕ → Option Place → Files → Type 0
LeavesUntold size count place files = LeavesMade place [] files ⊎ LeavesOfSome size count place files
