use Rattle.std.proofs.Common.{arith}
use Rattle.row_keys.proofs.FormedKeys.{newest_few}
use Rattle.key_tests.proofs.shown_rows.remembered.Goals as goal

pub remembered_sets-requires : goal.remembered_sets-requires
remembered_sets-requires c = omega (arith, newest_few c.args.keys.now)
