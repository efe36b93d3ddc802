use Rattle.std.proofs.Common.{length}
use Rattle.kadm_values.proofs.durations.+read_groups.Given as goal

abbrev pub decreases-read_groups : goal.decreases-read_groups
decreases-read_groups l = length l.units.now
