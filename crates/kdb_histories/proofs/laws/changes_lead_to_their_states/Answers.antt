use Rattle.kdb_histories.proofs.Deeds.{deed_leads}
use Rattle.kdb_histories.proofs.laws.changes_lead_to_their_states.Goals as goal

pub returns : goal.returns
returns c = deed_leads
