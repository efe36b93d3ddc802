use Rattle.std.proofs.Common.{arith}
use Rattle.policy_rules.specs.Rules.{Rules}
use Rattle.princ_record.specs.declared.princs.Princ.{Princ}
use Rattle.princ_rows.proofs.Searches.{tested_order, untested_order}
use Rattle.princ_rows.proofs.rows.Rows.from_vecs.Goals as goal

pub returns-then-not-are_in_order-clause-none : goal.returns-then-not-are_in_order-clause-none
returns-then-not-are_in_order-clause-none c = λ _ rows.
    untested_order (λ (p : Princ). p.name) c.deref.result.now c.args.princs.items c.are_in_order.result
    c.deref.ensures.value c.are_in_order.ensures c.if-not-are_in_order.true rows.princ_order

pub returns-then-not-are_in_order-2-clause-none : goal.returns-then-not-are_in_order-2-clause-none
returns-then-not-are_in_order-2-clause-none c = λ _ rows.
    untested_order (λ (p : Rules). p.name) c.deref-2.result.now c.args.policies.items c.are_in_order-2.result
    c.deref-2.ensures.value c.are_in_order-2.ensures c.if-not-are_in_order-2.true rows.policy_order

pub invariant_of-result : goal.invariant_of-result
invariant_of-result c = record {
  princ_order = tested_order (λ (p : Princ). p.name) c.deref.result.now c.args.princs.items c.are_in_order.result
      c.deref.ensures.value c.are_in_order.ensures c.if-not-are_in_order.false;
  policy_order = tested_order (λ (p : Rules). p.name) c.deref-2.result.now c.args.policies.items c.are_in_order-2.result
      c.deref-2.ensures.value c.are_in_order-2.ensures c.if-not-are_in_order-2.false;
  few = omega (
    arith,
    c.len.ensures,
    c.if-len-gt-MAX_ROWS.false,
    c.len-else-len-gt-MAX_ROWS.ensures,
    c.len-else-len-gt-MAX_ROWS-2.ensures,
    c.if-len.false,
  );
  princs = c.requires.princs;
  policies = c.requires.policies;
}
