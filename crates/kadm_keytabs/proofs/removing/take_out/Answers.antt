use Rattle.kadm_keytabs.proofs.Wholes.{asked_by_count}
use Rattle.kadm_keytabs.proofs.removing.take_out.Goals as goal

pub returns-in-One-clause-asked : goal.returns-in-One-clause-asked
returns-in-One-clause-asked c =
    asked_by_count c.args.name.now c.args.which c.in-One.field-0 c.remove_entries-count.result c.args.list.now
    c.in-One.is c.remove_entries-count.ensures.count
