use Rattle.std.proofs.Common.{refl}
use Rattle.kdb_plain.proofs.Finds.{found_in}
use Rattle.princ_record.specs.declared.princs.Princ.{Princ}
use Rattle.row_keys.specs.Lookups.{record_named}
use Rattle.row_keys.proofs.lookups.record_named.Goals as goal

pub returns : goal.returns
unfolding record_named
returns c =
    found_in (λ (p : Princ). p.name) (λ p. p.now) c.args.name.now c.args.rows.now.princs c.args.rows.now.princs
    c.princ.result refl c.princs.ensures.rows.princ_order c.princ.ensures.some c.princ.ensures.none
