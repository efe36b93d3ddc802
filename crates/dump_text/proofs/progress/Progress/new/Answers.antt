use Rattle.std.proofs.Common.{sym, subst}
use Rattle.princ_rows.specs.Rows.{AreRows}
use Rattle.dump_text.proofs.Orders.{no_rows}
use Rattle.dump_text.proofs.progress.Progress.new.Goals as goal

pub invariant_of-result : goal.invariant_of-result
invariant_of-result c =
    subst AreRows (λ i. record { princs = sym c.new.ensures.items i; policies = sym c.new-2.ensures.items i }) no_rows
