use Rattle.kdb_plain.proofs.ChangedLists.{princs_without}
use Rattle.kdb_plain.proofs.changes.drop_princ.Goals as goal

-- src/changes.rt:50:5
pub of_vec-requires : goal.of_vec-requires
of_vec-requires c = princs_without c.args.name.now c.into_vec-items.result.items c.drop_row.new.items.items
    c.into_vec-items.ensures.princs c.drop_row.ensures
