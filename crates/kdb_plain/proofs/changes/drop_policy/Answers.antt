use Rattle.kdb_plain.proofs.ChangedLists.{policies_without}
use Rattle.kdb_plain.proofs.changes.drop_policy.Goals as goal

-- src/changes.rt:69:5
pub of_vec-requires : goal.of_vec-requires
of_vec-requires c = policies_without c.args.name.now c.into_vec-items.result.items c.drop_row.new.items.items
    c.into_vec-items.ensures.policies c.drop_row.ensures
