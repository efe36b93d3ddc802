-- What each listed master key opens.
use Rattle.std.specs.Prelude.{ℕ, ◌≡◌, Some}
use Rattle.kdb_base.specs.Key.{Key}
use Rattle.kdb_histories.specs.Stages.{ShowsAt}
use Rattle.kdb_places.specs.Places.{Place}
use Rattle.kdb_plain.specs.declared.states.State.{State}
use Rattle.kdb_worlds.specs.Lawful.{IsReplicaOf}
use Rattle.kdb_worlds.specs.Worlds.{World}
use Rattle.master_keys.specs.Chain.{HasVersion, Lists, Opens}
use Rattle.master_keys.specs.First.{master_name}
use Rattle.princ_record.specs.declared.princs.Princ.{Princ}
use Rattle.row_keys.specs.Lookups.{record_named}

-- The rows show the state, so its master keys open each key and each remembered key. With K/M's record of the rows,
-- each of these master keys opens all of them, and each version that the record lists has one.
pub record IsOpenedByEach (p : Place) (s : State) : Type 0 where
  pub shows : ShowsAt p s
  pub own : Princ
  pub there : record_named (master_name p.realm) p.rows.princs ≡ Some own
  pub listed : (version : ℕ) → HasVersion own.keys version → (key : Key) × Lists s.masters version key
  pub each : (version : ℕ) (key : Key) → Lists s.masters version key → Opens own version key s.masters

-- The replica's place is opened by each master key of the primary's place that it has the contents of.
pub record IsReplicaOpened (w : World) (p : Place) : Type 0 where
  pub copy : IsReplicaOf w p
  pub opened : IsOpenedByEach p copy.at.state
