-- Moments and points in order.
use Rattle.std.specs.Prelude.{ℕ, ◌+◌, ◌*◌, ◌<◌, ◌≡◌, ◌⊎◌, nat_lt, if◌then◌else◌}
use Rattle.kdb_base.specs.Moment.{Moment}
use Rattle.kdb_base.specs.declared.moments.Point.{Point}

-- the microseconds since 1970
abbrev pub micros : Moment → ℕ
micros m = m.secs * 1000000 + m.usecs

abbrev pub later_moment : Moment → Moment → Moment
later_moment a b = if nat_lt (micros a) (micros b) then b else a

-- by time, and at one time by serial
abbrev pub ComesBefore : Point → Point → Type 0
ComesBefore a b = (micros a.time < micros b.time) ⊎ ((micros a.time ≡ micros b.time) × (a.sno < b.sno))
