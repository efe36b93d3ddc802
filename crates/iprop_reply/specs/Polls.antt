-- What a poll is told, by the entries that a log holds (incremental propagation of the MIT Kerberos administration
-- guide).
use Rattle.std.specs.Prelude.{ℕ, ◌≡◌, ◌+◌, ◌-◌, ◌<◌, Bool, ◌&&◌, nat_eq, List, [], ◌∷◌}
use Rattle.std.specs.Prelude.{length, slice_index_or, Option, Some, None, if◌then◌else◌}
use Rattle.kdb_base.specs.Moment.{Moment}
use Rattle.kdb_base.specs.declared.moments.Point.{Point}
use Rattle.princ_rows.specs.declared.entries.Entry.{Entry}
use Rattle.iprop_reply.specs.declared.status.Status4.{Status4}
use Rattle.iprop_reply.specs.declared.status.Status4.TheVariants as status

abbrev pub is_moment : Moment → Moment → Bool
is_moment a b = nat_eq a.secs b.secs && nat_eq a.usecs b.usecs

abbrev pub is_point : Point → Point → Bool
is_point a b = nat_eq a.sno b.sno && is_moment a.time b.time

-- the entries behind the one at this point; None where no entry has it
unfoldable pub updates_after : Point → List Entry → Option (List Entry)
updates_after asked [] = None
updates_after asked (e ∷ entries) = if is_point e.point asked then Some entries else updates_after asked entries

-- the whole database has to be sent, or there is nothing new, or these updates
abbrev pub status_of : Option (List Entry) → Status4
status_of None = status.Resync
status_of (Some []) = status.Nil
status_of (Some (e ∷ entries)) = status.Ok

-- the time of the entry with this serial
unfoldable pub time_of : ℕ → List Entry → Option Moment
time_of sno [] = None
time_of sno (e ∷ entries) = if nat_eq e.point.sno sno then Some e.point.time else time_of sno entries

-- entries whose serials run on one by one, from the first of these points to the last
pub record AreHeld (first last : Point) (entries : List Entry) : Type 0 where
  pub some : 0 < length entries
  pub last_is : (d : Entry) → (slice_index_or entries (length entries - 1) d).point ≡ last
  pub serials : (i : ℕ) (d : Entry) → i < length entries → (slice_index_or entries i d).point.sno ≡ first.sno + i
