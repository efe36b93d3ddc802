-- A round that is stopped since its connection gives more than it may receive, and rounds that were done.
use Rattle.std.specs.Prelude.{ℕ, ◌≤◌, ◌<◌, List, Option, length, ⊤}
use Rattle.std.specs.List.{Contains}
use Rattle.iprop_links.specs.Asking.{MaySay}
use Rattle.kdb_ports.specs.Links.{Wire, first_of}
use Rattle.kprop_rounds.specs.Rounds.{GivesNoEnd, round_text}
use Rattle.kprop_runs.specs.Openings.{Opening, Opens, Refuses}
use Rattle.kprop_runs.specs.Runs.{first_stage}
use Rattle.kprop_runs.specs.Stages.{Stage, after_rounds, end_at}

-- one of these connections does
pub record GivesTooMuch (to_come : List (List ℕ)) : Type 0 where
  pub text : List ℕ
  pub among : Contains to_come text
  pub long : 4294967296 ≤ length text

-- In a round from this stage a front of what it says was sent, and what it received of its connection makes no end.
pub record StopsLong (name : List ℕ) (size : ℕ) (s : Stage) (sent : Option (List (List ℕ))) : Type 0 where
  pub said : MaySay (round_text name s.place (end_at size s)) s.sent sent
  pub gives : GivesNoEnd size s.place (first_of s.to_come)

-- that is one of so many rounds, and those before it were done
pub record StopsLongIn (name : List ℕ) (size count : ℕ) (s : Stage) (sent : Option (List (List ℕ))) : Type 0 where
  pub done : ℕ
  pub few : done < count
  pub stops : StopsLong name size (after_rounds name size done s) sent

-- of a run from its opening on
abbrev pub RunStopsLong : Opening → Wire → Option (List ℕ) → Option (List (List ℕ)) → Type 0
RunStopsLong (Refuses why) w taken sent = ⊥
RunStopsLong (Opens a place) w taken sent = StopsLongIn a.name a.size a.rounds (first_stage w taken place) sent

-- what each of so many rounds received of its connection makes an end
abbrev pub AllEnd : List ℕ → ℕ → ℕ → Stage → Type 0
AllEnd name size count s = (done : ℕ) → done < count
    → GivesNoEnd size (after_rounds name size done s).place (first_of (after_rounds name size done s).to_come) → ⊥

-- of a run from its opening on
abbrev pub RunRoundsEnd : Opening → Wire → Option (List ℕ) → Type 0
RunRoundsEnd (Refuses why) w taken = ⊤
RunRoundsEnd (Opens a place) w taken = AllEnd a.name a.size a.rounds (first_stage w taken place)
