use Rattle.performed_plans.proofs.PerformedMasters.{master_answers, master_changes, masters_behind}
use Rattle.performed_plans.proofs.StepLaws.{StepLaws}
use Rattle.performed_plans.proofs.laws.master_plans_are_performed.Goals as goal

pub returns-clause-answers : goal.returns-clause-answers
returns-clause-answers c = λ p s client access cmd clock random reply. master_answers (record {
  refused = c.new_log_moves_the_point_alone.ensures.refused;
  reading = c.new_log_moves_the_point_alone.ensures.reading;
  entry_told = c.new_log_moves_the_point_alone.ensures.entry;
  accepted = c.new_log_moves_the_point_alone.ensures.accepted;
  valid = c.step_keeps_states_valid.ensures.valid;
  realm = c.step_keeps_states_valid.ensures.realm;
  spares = c.changes_spare_the_own_keys.ensures;
  shown = c.changed_rows_show.ensures.shows;
  ordinary = c.changed_rows_show.ensures.ordinary;
}) p s client access cmd clock random reply

pub returns-clause-changes : goal.returns-clause-changes
returns-clause-changes c = λ p s client access cmd clock random change. master_changes (record {
  refused = c.new_log_moves_the_point_alone.ensures.refused;
  reading = c.new_log_moves_the_point_alone.ensures.reading;
  entry_told = c.new_log_moves_the_point_alone.ensures.entry;
  accepted = c.new_log_moves_the_point_alone.ensures.accepted;
  valid = c.step_keeps_states_valid.ensures.valid;
  realm = c.step_keeps_states_valid.ensures.realm;
  spares = c.changes_spare_the_own_keys.ensures;
  shown = c.changed_rows_show.ensures.shows;
  ordinary = c.changed_rows_show.ensures.ordinary;
}) p s client access cmd clock random change

pub returns-clause-masters : goal.returns-clause-masters
returns-clause-masters c = λ p s client access cmd clock random change. masters_behind (record {
  refused = c.new_log_moves_the_point_alone.ensures.refused;
  reading = c.new_log_moves_the_point_alone.ensures.reading;
  entry_told = c.new_log_moves_the_point_alone.ensures.entry;
  accepted = c.new_log_moves_the_point_alone.ensures.accepted;
  valid = c.step_keeps_states_valid.ensures.valid;
  realm = c.step_keeps_states_valid.ensures.realm;
  spares = c.changes_spare_the_own_keys.ensures;
  shown = c.changed_rows_show.ensures.shows;
  ordinary = c.changed_rows_show.ensures.ordinary;
}) p s client access cmd clock random change
