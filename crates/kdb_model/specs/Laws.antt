-- What the laws of steps speak of.
use Rattle.std.specs.Prelude.{ℕ, ◌≡◌, ◌<◌, ◌^◌, Bool, true, false, length, Some}
use Rattle.kadm_commands.specs.Commands.{IsCommand}
use Rattle.kadm_commands.specs.declared.commands.Command.{Command}
use Rattle.kadm_commands.specs.declared.commands.Command.TheVariants as command
use Rattle.kadm_commands.specs.declared.replies.Reply.{Reply}
use Rattle.kadm_commands.specs.declared.replies.Reply.TheVariants as reply
use Rattle.kdb_base.specs.Moment.{Moment}
use Rattle.kdb_base.specs.declared.moments.Point.{Point}
use Rattle.kdb_model.specs.Calls.{Call}
use Rattle.kdb_plain.specs.States.{IsValidState}
use Rattle.kdb_plain.specs.declared.states.State.{State}

pub record IsMoment (m : Moment) : Type 0 where
  pub secs : m.secs < 2 ^ 32
  pub usecs : m.usecs < 1000000

pub record IsPoint (p : Point) : Type 0 where
  pub sno : p.sno < 2 ^ 32
  pub time : IsMoment p.time

-- A command that a line can give, in a valid state. Where the log does not start anew a serial is left for it.
pub record IsStep (s : State) (call : Call) : Type 0 where
  pub valid : IsValidState s
  pub point : IsPoint s.point
  pub command : IsCommand s.realm call.command
  pub clock : IsMoment call.moment
  pub random : length call.random ≡ 2048
  pub serial : call.due ≡ false → s.point.sno < 4294967295

-- the same call, where the log is to start anew before a change, or is not
abbrev pub told : Bool → Call → Call
told due call = record call { due = due }

-- the state at another point
abbrev pub at_point : Point → State → State
at_point point s = record s { point = point }

-- an answer, were its change made at this point
abbrev pub reply_at : Point → Reply → Reply
reply_at point (reply.Done own) = reply.Done point
reply_at point (reply.MasterAdded own version) = reply.MasterAdded point version
reply_at point (reply.MasterUsed own version secs) = reply.MasterUsed point version secs
reply_at point (reply.MastersPurged (Some own) rows) = reply.MastersPurged (Some point) rows
reply_at point other = other

-- a change of the master keys
abbrev pub is_master_line : Command → Bool
is_master_line (command.AddMaster etype) = true
is_master_line (command.UseMaster c) = true
is_master_line command.PurgeMasters = true
is_master_line other = false
