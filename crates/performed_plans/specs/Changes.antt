-- What is wanted of a place beside what it shows, for a change to be made of it, and the places that are made.
use Rattle.std.specs.Prelude.{ℕ, ◌≡◌, ◌<◌, true, false, List, [], ◌∷◌, length, if◌then◌else◌}
use Rattle.kadm_commands.specs.Commands.{IsCommand}
use Rattle.kadm_commands.specs.declared.commands.Command.{Command}
use Rattle.kdb_base.specs.Moment.{Moment}
use Rattle.kdb_histories.specs.Calls.{HasTimeLeft}
use Rattle.kdb_histories.specs.Seen.{is_due, moment_at, reset_for, reset_point}
use Rattle.kdb_histories.specs.Stages.{ShowsAt}
use Rattle.kdb_model.specs.Calls.{is_last}
use Rattle.kdb_model.specs.Laws.{IsMoment, IsPoint}
use Rattle.kdb_places.specs.Applying.{may_apply}
use Rattle.kdb_places.specs.Places.{Place, committed}
use Rattle.kdb_plain.specs.declared.states.State.{State}
use Rattle.princ_rows.specs.declared.entries.Op.{Op}

-- The place shows the state, the command is one that a line can give, and the change may be made: where the log is to
-- begin anew a later time is left for it, and else a serial.
pub record IsReady (p : Place) (s : State) (cmd : Command) (clock : Moment) (random : List ℕ) (op : Op) : Type 0 where
  pub shows : ShowsAt p s
  pub point : IsPoint s.point
  pub command : IsCommand s.realm cmd
  pub clock_is : IsMoment clock
  pub random_is : length random ≡ 2048
  pub newer : p.format ≡ 2
  pub fits : may_apply op p.rows ≡ true
  pub more : is_due op p ≡ true → is_last s.point.time ≡ false
  pub left : is_due op p ≡ true → HasTimeLeft p
  pub serial : is_due op p ≡ false → s.point.sno < 4294967295

-- the entry's place, and before it that of a log begun anew where that is due
abbrev pub change_places : Moment → Op → Place → List Place
change_places clock op p =
    if is_due op p
    then reset_for clock op p ∷ committed op (reset_point clock p).time (reset_for clock op p) ∷ []
    else committed op (moment_at clock p) p ∷ []
