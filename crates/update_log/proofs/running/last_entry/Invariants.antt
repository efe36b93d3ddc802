use Rattle.std.proofs.Common.{◌≡◌}
use Rattle.std.specs.Prelude.{option_map}
use Rattle.update_log.specs.Runs.{last_upto}
use Rattle.update_log.specs.Scanning.{read_at}
use Rattle.update_log.proofs.running.last_entry.Given as goal

abbrev pub invariant-loop-slot : goal.invariant-loop-slot
invariant-loop-slot l = option_map (λ x. x.now) l.last ≡ last_upto (read_at l.slots) l.slot
