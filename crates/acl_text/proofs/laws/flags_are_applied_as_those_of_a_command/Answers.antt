use Rattle.acl_text.proofs.LimitsFit.{flags_in_force}
use Rattle.acl_text.proofs.laws.flags_are_applied_as_those_of_a_command.Goals as goal

pub returns : goal.returns
returns c =
    λ words parts limits secs wanted found is short. flags_in_force words parts limits secs wanted found is short
