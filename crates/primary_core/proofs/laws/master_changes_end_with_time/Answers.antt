use Rattle.primary_core.proofs.Ended.{masters_late}
use Rattle.primary_core.proofs.laws.master_changes_end_with_time.Goals as goal

pub returns : goal.returns
returns c = masters_late (record {
  ended = c.new_log_moves_the_point_alone.ensures.ended;
  refused = c.refused_command_changes_nothing.ensures;
})
