use Rattle.first_rows.proofs.Kept.{history_row}
use Rattle.first_rows.proofs.records.history_record.Goals as goal

pub returns-clause-row : goal.returns-clause-row
returns-clause-row c =
    rw (c.in_ok-entry.ensures, c.in_ok-name.ensures, c.realm-2.ensures.value, c.realm.ensures.value)
    (history_row c.args.spec.now.realm c.realm.ensures.spec.realm c.args.secs c.ranges.secs.fits c.args.master.now
    c.args.random.now
    c.in_ok-items.items.items c.in_ok-items.ensures.shows)
