-- What is planned is none of the master keys.
use Rattle.std.specs.Prelude.{◌≡◌, refl, true, false}
use Rattle.kadm_commands.specs.declared.commands.Command.{Command}
use Rattle.kadm_commands.specs.declared.commands.Command.TheVariants as command
use Rattle.kadm_plan.specs.Ready.{is_planned}
use Rattle.kdb_model.specs.Laws.{is_master_line}

pub no_master_line : (cmd : Command) → is_planned cmd ≡ true → is_master_line cmd ≡ false
no_master_line (command.AddPrinc c) e = refl
no_master_line (command.ModPrinc c) e = refl
no_master_line (command.ChangeKeys c) e = refl
no_master_line (command.RenPrinc c) e = refl
no_master_line (command.DelPrinc name) e = refl
no_master_line (command.GetPrinc name) e = refl
no_master_line (command.ListPrincs glob) e = refl
no_master_line (command.PurgeKeys c) e = refl
no_master_line (command.SetString c) e = refl
no_master_line (command.DelString c) e = refl
no_master_line (command.GetStrings name) e = refl
no_master_line (command.Extract name) e = refl
no_master_line (command.AddPolicy p) e = refl
no_master_line (command.ModPolicy c) e = refl
no_master_line (command.DelPolicy name) e = refl
no_master_line (command.GetPolicy name) e = refl
no_master_line command.ListPolicies e = refl
no_master_line command.GetPrivs e = refl
no_master_line (command.AddMaster etype) e = absurd cc
no_master_line (command.UseMaster c) e = absurd cc
no_master_line command.ListMasters e = refl
no_master_line command.PurgeMasters e = absurd cc
no_master_line (command.RekeyPrincs glob) e = refl
no_master_line command.Stash e = refl
no_master_line command.Dump e = refl
