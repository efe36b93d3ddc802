use Rattle.kdb_control.proofs.Emptied.{has_after}
use Rattle.port_tests.proofs.controls.a_database_begins_changes_and_ends.Goals as goal

pub switch-requires-2-clause-now : goal.switch-requires-2-clause-now
switch-requires-2-clause-now g c tells = has_after (c.in_ok-switch.ensures.ok tells) (c.read.ensures.keeps tells)

pub erase-requires : goal.erase-requires
erase-requires g c tells = has_after (c.in_ok-switch-2.ensures.ok tells) (c.read-2.ensures.keeps tells)
