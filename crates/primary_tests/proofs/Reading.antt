-- Lines that are read.
use Rattle.std.proofs.Common.{◌≡◌, ℕ, List, Option, Some, None, Result, Ok}
use Rattle.std.specs.Prelude.{IfSome}
use Rattle.kadm_commands.specs.Commands.{IsCommand}
use Rattle.kadm_commands.specs.declared.commands.Command.{Command}
use Rattle.kdb_base.specs.declared.outcomes.Stop.{Stop}

-- a line that says a command says one of the realm
pub read_is : (realm : List ℕ) (said : Option Command) (r : Result (Option Command) Stop) → r ≡ Ok said
    → ((c : Command) → r ≡ Ok (Some c) → IsCommand realm c)
    → IfSome said (IsCommand realm)
read_is realm None r is valid = tt
read_is realm (Some c) r is valid = valid c is
