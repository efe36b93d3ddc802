-- A command that is ready to be judged.
use Rattle.std.specs.Prelude.{◌≡◌, Bool, true, false, List}
use Rattle.kadm_commands.specs.Commands.{IsOwnCommand}
use Rattle.kadm_commands.specs.declared.commands.Command.{Command}
use Rattle.kadm_commands.specs.declared.commands.Command.TheVariants as command
use Rattle.kdb_base.specs.Key.{Key}
use Rattle.princ_plans.specs.Ready.{ready_keys}

-- a command, and the keys of its password
pub record Prepared : Type 0 where
  pub command : Command
  pub keys : List Key

-- the command is one that a line can give, and the keys are its own
pub record IsPrepared (r : Prepared) : Type 0 where
  pub own : IsOwnCommand r.command
  pub keys_are : r.keys ≡ ready_keys r.command

-- all commands but those of master keys and of files
abbrev pub is_planned : Command → Bool
is_planned (command.AddMaster etype) = false
is_planned (command.UseMaster c) = false
is_planned command.ListMasters = false
is_planned command.PurgeMasters = false
is_planned (command.RekeyPrincs glob) = false
is_planned command.Stash = false
is_planned command.Dump = false
is_planned other = true
