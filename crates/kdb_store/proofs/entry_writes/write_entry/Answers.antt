use Rattle.kdb_store.proofs.Entries.{prepared_crash, opened_crash, opened_each}
use Rattle.kdb_store.proofs.entry_writes.write_entry.Goals as goal

pub returns-in-Err-clause-crash : goal.returns-in-Err-clause-crash
returns-in-Err-clause-crash g c tells o is holds change =
    prepared_crash c.args.log.now o _ is holds change (c.write_ready.ensures.crash.told tells)

pub returns-in-Ok-open_prepared-clause-crash : goal.returns-in-Ok-open_prepared-clause-crash
returns-in-Ok-open_prepared-clause-crash g c tells o is holds change =
    opened_crash c.args.log.now o _ c.requires.ready is holds change (c.write_ready.ensures.crash.told tells)
    (c.open_prepared.ensures.crash.told tells)

pub returns-in-Err-open_prepared-clause-crash : goal.returns-in-Err-open_prepared-clause-crash
returns-in-Err-open_prepared-clause-crash g c tells o is holds change =
    opened_crash c.args.log.now o _ c.requires.ready is holds change (c.write_ready.ensures.crash.told tells)
    (c.open_prepared.ensures.crash.told tells)

pub returns-in-Ok-open_prepared-clause-pending : goal.returns-in-Ok-open_prepared-clause-pending
returns-in-Ok-open_prepared-clause-pending g c tells o is holds change =
    opened_each c.args.log.now o _ c.requires.ready is holds change (c.write_ready.ensures.crash.told tells)
    (c.open_prepared.ensures.crash.told tells) (c.in-Ok-open_prepared.ensures.log tells)
