use Rattle.std.proofs.Common.{arith}
use Rattle.master_keys.specs.Versions.{last_version}
use Rattle.master_keys.proofs.Live.{not_alone}
use Rattle.key_tests.proofs.master_chains.check_purged.Goals as goal

pub purge-requires-clause-newest : goal.purge-requires-clause-newest
purge-requires-clause-newest g c =
    not_alone 1 (last_version c.args.masters.now) (λ e. absurd (omega (arith, e, c.requires.last)))
