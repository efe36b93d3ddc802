use Rattle.entry_lengths.proofs.Rekeyings.{now_rekeyed, work_settled}
use Rattle.entry_lengths.proofs.laws.rekeyings_have_their_lengths.Goals as goal

pub returns-clause-rekeyed : goal.returns-clause-rekeyed
returns-clause-rekeyed c = now_rekeyed

pub returns-clause-settled : goal.returns-clause-settled
returns-clause-settled c = work_settled c.principals_have_their_own_spellings.ensures
