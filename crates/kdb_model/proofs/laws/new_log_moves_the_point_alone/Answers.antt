use Rattle.kdb_model.proofs.NewLogs.{ended_anew, entry_told, not_ended, reads_both}
use Rattle.kdb_model.proofs.NewLogs.{refused_both, reply_anew, state_anew}
use Rattle.kdb_model.proofs.laws.new_log_moves_the_point_alone.Goals as goal

pub returns-clause-refused : goal.returns-clause-refused
returns-clause-refused c = refused_both

pub returns-clause-reading : goal.returns-clause-reading
returns-clause-reading c = reads_both

pub returns-clause-ended : goal.returns-clause-ended
returns-clause-ended c = ended_anew

pub returns-clause-state : goal.returns-clause-state
returns-clause-state c = state_anew

pub returns-clause-reply : goal.returns-clause-reply
returns-clause-reply c = reply_anew

pub returns-clause-entry : goal.returns-clause-entry
returns-clause-entry c = entry_told

pub returns-clause-accepted : goal.returns-clause-accepted
returns-clause-accepted c = not_ended
