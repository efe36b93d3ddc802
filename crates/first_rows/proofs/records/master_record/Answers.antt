use Rattle.first_rows.proofs.Kept.{master_row}
use Rattle.first_rows.proofs.records.master_record.Goals as goal

pub returns-clause-row : goal.returns-clause-row
returns-clause-row c =
    master_row c.in_ok-entry.entry c.realm.result.now c.args.key.now c.args.secs
    c.master_confounder-confounder.result.now c.in_ok-entry.masters
    c.in_ok-entry.ensures.entry
    (rw c.realm.ensures.value c.realm.ensures.spec.realm) c.in_ok-entry.ensures.chain c.in_ok-entry.ensures.spelled
