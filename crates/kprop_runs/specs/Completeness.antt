-- When nothing stops a replica's run: it is opened, none of its rounds is refused, and no device failed.
use Rattle.std.specs.Prelude.{ℕ, ◌≡◌, ◌≢◌, ◌<◌, false, List, Option}
use Rattle.iprop_links.specs.Arriving.{Counts}
use Rattle.kdb_base.specs.Causes.{Rose}
use Rattle.kdb_base.specs.declared.outcomes.Status.{Status}
use Rattle.kdb_base.specs.declared.outcomes.Status.TheVariants as status
use Rattle.kdb_ports.specs.Links.{Wire}
use Rattle.kprop_runs.specs.Lines.{is_refused}
use Rattle.kprop_runs.specs.Longs.{RunStopsLong}
use Rattle.kprop_runs.specs.Openings.{Opening, Opens, Refuses}
use Rattle.kprop_runs.specs.Runs.{first_stage}
use Rattle.kprop_runs.specs.Stages.{Stage, after_rounds, end_at}

-- ---- what is refused

-- the word of none of so many rounds is a refusal
abbrev pub NoneRefused : List ℕ → ℕ → ℕ → Stage → Type 0
NoneRefused name size count s = (done : ℕ) → done < count
    → is_refused (end_at size (after_rounds name size done s)).word ≡ false

-- neither the words nor the files are refused, and no round is
abbrev pub RefusesNothing : Opening → Wire → Option (List ℕ) → Type 0
RefusesNothing (Refuses why) w taken = ⊥
RefusesNothing (Opens a place) w taken = NoneRefused a.name a.size a.rounds (first_stage w taken place)

-- ---- what fails

-- the counts of the faults of the disk, the link and the sink
pub record Faults : Type 0 where
  pub calls : ℕ
  pub links : ℕ
  pub writes : ℕ

-- No count rose.
pub record NoneRose (before now : Faults) : Type 0 where
  pub calls : Rose before.calls now.calls → ⊥
  pub links : Rose before.links now.links → ⊥
  pub writes : Rose before.writes now.writes → ⊥

-- The causes of a status: a fault comes only where its count rose, and a round that received too much only where what
-- it received made no end.
pub record HasCauses (o : Opening) (w : Wire) (taken : Option (List ℕ)) (sent : Option (List (List ℕ)))
    (before now : Faults) (result : Status) : Type 0 where
  pub calls : Counts before.calls now.calls (result ≡ status.DiskFault)
  pub links : Counts before.links now.links (result ≡ status.LinkFault)
  pub writes : Counts before.writes now.writes (result ≡ status.WriteFault)
  pub long : result ≡ status.InputTooLong → RunStopsLong o w taken sent
  pub no_read : result ≢ status.ReadFault
