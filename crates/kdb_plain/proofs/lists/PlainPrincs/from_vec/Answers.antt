use Rattle.std.proofs.Common.{arith}
use Rattle.kdb_plain.specs.declared.princs.PlainPrinc.{PlainPrinc}
use Rattle.princ_rows.proofs.Searches.{tested_order, untested_order}
use Rattle.kdb_plain.proofs.lists.PlainPrincs.from_vec.Goals as goal

pub returns-then-not-are_in_order-clause-none : goal.returns-then-not-are_in_order-clause-none
returns-then-not-are_in_order-clause-none c = λ _ are.
    untested_order (λ (x : PlainPrinc). x.name) c.deref.result.now c.args.items.items c.are_in_order.result
    c.deref.ensures.value c.are_in_order.ensures c.if-not-are_in_order.true are.order

pub invariant_of-result : goal.invariant_of-result
invariant_of-result c = record {
  order = tested_order (λ (x : PlainPrinc). x.name) c.deref.result.now c.args.items.items c.are_in_order.result
      c.deref.ensures.value c.are_in_order.ensures c.if-not-are_in_order.false;
  few = omega (arith, c.len.ensures, c.if-len-gt-MAX_ROWS.false);
}
