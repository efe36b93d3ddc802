use Rattle.primary_rekeying.proofs.Taken.{entry_fits}
use Rattle.primary_rekeying.proofs.taking.active_version.Goals as goal

pub returns-in-Some-clause-known : goal.returns-in-Some-clause-known
returns-in-Some-clause-known c =
    c.active_of.ensures.known
    (entry_fits c.as_slice-2.result.now c.rows.result.now c.rows-2.result.now c.database-database.result.now.rows
    c.in-Some.entry.now c.rows.ensures c.rows-2.ensures c.princs.ensures.rows c.in-Some.ensures)
