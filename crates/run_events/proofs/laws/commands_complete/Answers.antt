use Rattle.run_events.proofs.Completing.{command_done}
use Rattle.run_events.proofs.laws.commands_complete.Goals as goal

pub returns : goal.returns
returns c = command_done
