use Rattle.std.proofs.Common.{arith, sym, ◌∙◌}
use Rattle.std.proofs.lemmas.Bool.{eqb-true}
use Rattle.princ_record.specs.declared.princs.Princ.{Princ}
use Rattle.dump_text.proofs.Orders.{more_princs, princ_put, test_of_order, test_of_more}
use Rattle.dump_text.proofs.progress.Progress.put_princ.Goals as goal

pub is_behind_last-requires : goal.is_behind_last-requires
is_behind_last-requires c = test_of_order (λ (p : Princ). p.name) c.deref.result.now c.self.inside.princs.items
    c.deref.ensures.value c.self.invariant.princ_order

pub invariant_of-self-2 : goal.invariant_of-self-2
invariant_of-self-2 c =
    more_princs (record { princs = c.self.inside.princs.items; policies = c.self.inside.policies.items }) c.args.princ
    c.push_boxed.new.items.items c.self.invariant c.requires c.in_ok-push_boxed.ensures.ok
    (omega (
      arith,
      c.if-len-ge-MAX_ROWS.false,
      c.len.ensures,
      eqb-true _ _ (sym c.is_empty.ensures ∙ c.if-not-is_empty.false),
    ))
    (test_of_more (λ (p : Princ). p.name) c.deref.result.now c.self.inside.princs.items c.push_boxed.new.items.items
    c.args.princ c.is_behind_last.result c.deref.ensures.value c.is_behind_last.ensures c.if-not-is_behind_last.false
    c.in_ok-push_boxed.ensures.ok)

pub returns : goal.returns
returns c =
    princ_put (record {
      titled = c.self.inside.titled;
      realm = c.self.inside.realm;
      point = c.self.inside.point;
      princs = c.self.inside.princs.items;
      policies = c.self.inside.policies.items;
      ended = c.self.inside.ended;
    })
    c.args.self.now c.args.princ c.push_boxed.new.items.items c.self.view_is
    (omega (arith, eqb-true _ _ (sym c.is_empty.ensures ∙ c.if-not-is_empty.false)))
    (invariant_of-self-2 c) c.in_ok-push_boxed.ensures.ok
