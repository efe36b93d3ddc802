-- The command is `cpw -randkey`, which a line can give.
use Rattle.std.proofs.Common.{◌∙◌}
use Rattle.kadm_keytabs.proofs.Judged.{is_renewal}
use Rattle.kadm_keytabs.proofs.judging.ready_renewal.Goals as goal

pub prepare-requires : goal.prepare-requires
prepare-requires c =
    is_renewal c.args.realm.now c.args.name.now c.args.etypes.now c.in_ok-command.command c.in_ok-command.ensures
    c.requires.name c.requires.etypes

pub returns : goal.returns
returns c = c.in-Ok.ensures.command ∙ c.in_ok-command.ensures
