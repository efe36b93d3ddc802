-- A command as it comes to a database.
use Rattle.std.specs.Prelude.{ℕ, ◌+◌, Bool, ◌&&◌, nat_eq, List, Option, if◌then◌else◌}
use Rattle.acl_text.specs.declared.rules.AclLine.{AclLine}
use Rattle.kadm_commands.specs.declared.commands.Command.{Command}
use Rattle.kdb_base.specs.Moment.{Moment}
use Rattle.kdb_base.specs.Moments.{later_moment}
use Rattle.kdb_base.specs.declared.moments.Point.{Point}
use Rattle.kdb_plain.specs.declared.states.State.{State}
use Rattle.princ_name.specs.Names.{NameParts}

pub record Call : Type 0 where
  -- who gives the command
  pub client : NameParts
  -- the lines of the access list, where there is one
  pub access : Option (List AclLine)
  pub command : Command
  -- what the clock says
  pub moment : Moment
  -- 2048 random bytes, of which new keys and their confounders are taken
  pub random : List ℕ
  -- whether the log is to start anew before the change: a fact of the log, which is no part of a state
  pub due : Bool

abbrev pub call_of : NameParts → Option (List AclLine) → Command → Moment → List ℕ → Bool → Call
call_of client access command moment random due =
    record { client = client; access = access; command = command; moment = moment; random = random; due = due }

-- the later of the clock's time and that of the last change
abbrev pub moment_of : State → Call → Moment
moment_of s call = later_moment s.point.time call.moment

abbrev pub secs_of : State → Call → ℕ
secs_of s call = (moment_of s call).secs

-- a microsecond later
unfoldable pub next_moment : Moment → Moment
next_moment m = if nat_eq m.usecs 999999 then record { secs = m.secs + 1; usecs = 0 }
    else record { secs = m.secs; usecs = m.usecs + 1 }

-- nothing is later
abbrev pub is_last : Moment → Bool
is_last m = nat_eq m.secs 4294967295 && nat_eq m.usecs 999999

-- The point of the next change of a state, by a clock. Where the log is to start anew, that is made first, with serial
-- 1, at the later of the clock's time and the microsecond behind the last change, and the change has that time too.
unfoldable pub point_after : State → Moment → Bool → Point
point_after s clock due = if due
    then record { sno = 2; time = later_moment clock (next_moment s.point.time) }
    else record { sno = s.point.sno + 1; time = later_moment s.point.time clock }

abbrev pub change_point : State → Call → Point
change_point s call = point_after s call.moment call.due
