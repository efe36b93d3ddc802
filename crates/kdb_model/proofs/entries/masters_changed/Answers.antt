use Rattle.std.proofs.Common.{◌≡◌, rules, None, sym}
use Rattle.kdb_model.specs.Asking.{call_in, state_in}
use Rattle.kdb_plain.specs.States.{princ_named}
use Rattle.master_keys.specs.First.{master_name}
use Rattle.kdb_model.proofs.Targets.{no_master}
use Rattle.kdb_model.proofs.entries.masters_changed.Goals as goal

pub returns : goal.returns
returns c = λ few line.
    let gone : princ_named (master_name (state_in c.args.asked.now).realm) (state_in c.args.asked.now).princs ≡ None =
    search rules in
    sym (no_master (state_in c.args.asked.now) (call_in c.args.asked.now) c.args.asked.now.command.now line gone)
