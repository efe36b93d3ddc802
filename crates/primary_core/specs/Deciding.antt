-- What a command comes to, before anything is written.
use Rattle.std.specs.Prelude.{◌≡◌, Bool, ◌&&◌, ◌||◌, List, [], Option, Some, None, if◌then◌else◌}
use Rattle.command_plans.specs.declared.planned.Planned.{Planned}
use Rattle.command_plans.specs.declared.planned.Planned.TheVariants as planned
use Rattle.kadm_commands.specs.declared.commands.Command.{Command}
use Rattle.kadm_commands.specs.declared.replies.Reply.{Reply}
use Rattle.kadm_commands.specs.declared.replies.Reply.TheVariants.{Done, MasterAdded, MasterUsed}
use Rattle.kadm_commands.specs.declared.replies.Reply.TheVariants.{MastersPurged, Refused}
use Rattle.performed_plans.specs.Ready.{is_planned}
use Rattle.kdb_base.specs.Moment.{Moment}
use Rattle.kdb_base.specs.declared.moments.Point.{Point}
use Rattle.kdb_base.specs.declared.outcomes.Refusal.TheVariants.{TimeEnd}
use Rattle.kdb_histories.specs.Asks.{Ask}
use Rattle.kdb_histories.specs.Seen.{entry_point, is_due}
use Rattle.kdb_model.specs.Calls.{is_last}
use Rattle.kdb_places.specs.Places.{Place, point_of}
use Rattle.mkey_admin.specs.Plans.{is_master_command, reply_at}
use Rattle.mkey_admin.specs.declared.planned.MasterChange.{MasterChange}
use Rattle.mkey_admin.specs.declared.planned.MasterPlan.{MasterPlan}
use Rattle.mkey_admin.specs.declared.planned.MasterPlan.TheVariants as masters
use Rattle.performed_plans.specs.Changes.{change_places}
use Rattle.primary_core.specs.Opened.{IsDecided, MayMake, Opened, place_of}
use Rattle.primary_core.specs.declared.decided.Decided.{Decided}
use Rattle.primary_core.specs.declared.decided.Decided.TheVariants.{Answer, Change}
use Rattle.primary_core.specs.declared.decided.DecidedChange.{DecidedChange}
use Rattle.princ_rows.specs.declared.entries.Op.{Op}

-- the commands that rows alone decide, and those of master keys
abbrev pub is_judged : Command → Bool
is_judged command = is_planned command || is_master_command command

-- what is answered
abbrev pub reply_of : Decided → Reply
reply_of (Answer reply) = reply
reply_of (Change change reply) = reply

-- the change that is to be made, where there is one
abbrev pub change_of : Decided → Option DecidedChange
change_of (Answer reply) = None
change_of (Change change reply) = Some change

-- the point that the answer to a change tells
abbrev pub point_told : Reply → Option Point
point_told (Done point) = Some point
point_told (MasterAdded point version) = Some point
point_told (MasterUsed point version secs) = Some point
point_told (MastersPurged point rows) = point
point_told other = None

-- the places that are made
abbrev pub places_decided : Moment → Option DecidedChange → Place → List Place
places_decided clock None p = []
places_decided clock (Some change) p = change_places clock change.op p

-- the log is to begin anew for the change, and no later time is left
abbrev pub ends_time : Op → Place → Bool
ends_time op p = is_due op p && is_last (point_of p).time

-- the point of a change, if a time is left
abbrev pub point_for : Moment → Op → Place → Option Point
point_for clock op p = if ends_time op p then None else Some (entry_point clock op p)

abbrev pub decided_at : DecidedChange → (Point → Reply) → Option Point → Decided
decided_at change told None = Answer (Refused TimeEnd)
decided_at change told (Some point) = Change change (told point)

-- A change at the clock's moment: its answer tells its point, and it is refused where no later time is left.
abbrev pub change_decided : Moment → DecidedChange → (Point → Reply) → Place → Decided
change_decided clock change told p = decided_at change told (point_for clock change.op p)

-- the master keys stay
abbrev pub rows_changed : Op → DecidedChange
rows_changed op = record { op = op; masters = None }

-- these are the master keys behind it
abbrev pub masters_changed : MasterChange → DecidedChange
masters_changed c = record { op = c.op; masters = Some c.masters }

-- what a plan comes to
abbrev pub decided_as : Moment → Planned → Place → Decided
decided_as clock (planned.Answer reply) p = Answer reply
decided_as clock (planned.Change op) p = change_decided clock (rows_changed op) Done p

-- what a plan of master keys comes to
abbrev pub masters_decided_as : Moment → MasterPlan → Place → Decided
masters_decided_as clock (masters.Answer reply) p = Answer reply
masters_decided_as clock (masters.Change c) p =
    change_decided clock (masters_changed c) (λ point. reply_at point c.told) p

-- The ask comes to this: a change may be made, and its answer tells its point.
pub record Decides (o : Opened) (ask : Ask) (clock : Moment) (d : Decided) : Type 0 where
  pub is : IsDecided o ask (reply_of d) (change_of d)
  pub may : (change : DecidedChange) (reply : Reply) → d ≡ Change change reply → MayMake o clock change
  pub point : (change : DecidedChange) (reply : Reply) → d ≡ Change change reply
      → point_told reply ≡ Some (entry_point clock change.op (place_of o))
