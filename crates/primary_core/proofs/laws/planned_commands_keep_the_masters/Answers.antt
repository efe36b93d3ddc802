use Rattle.primary_core.proofs.Ended.{masters_stay}
use Rattle.primary_core.proofs.laws.planned_commands_keep_the_masters.Goals as goal

pub returns : goal.returns
returns c = masters_stay (record {
  refused = c.refused_command_changes_nothing.ensures;
  reading = c.reading_command_changes_nothing.ensures;
  state = c.accepted_change_takes_effect.ensures.state;
  spares = c.changes_spare_the_own_keys.ensures;
  masters = c.spared_keys_stay.ensures.masters;
})
