use Rattle.kadm_wire.proofs.ReadCommands.{answered_command}
use Rattle.kadm_wire.proofs.laws.reading_gives_commands.Goals as goal

pub returns : goal.returns
returns c = answered_command
