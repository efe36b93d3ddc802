use Rattle.kdb_plain.proofs.Finds.{found_in}
use Rattle.kdb_plain.specs.States.{princ_named}
use Rattle.kdb_plain.specs.declared.princs.PlainPrinc.{PlainPrinc}
use Rattle.kdb_plain.proofs.lookups.princ_named.Goals as goal

pub returns : goal.returns
unfolding princ_named
returns c =
    found_in (λ (q : PlainPrinc). q.name) (λ q. q.now) c.args.name.now c.args.princs.now c.as_slice.result.now
    c.find_row.result c.as_slice.ensures.value c.as_slice.ensures.princs.order c.find_row.ensures.some
    c.find_row.ensures.none
