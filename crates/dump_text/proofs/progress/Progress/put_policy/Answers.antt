use Rattle.std.proofs.Common.{arith, ap, length}
use Rattle.dump_text.specs.Judged.{Said}
use Rattle.policy_rules.specs.Rules.{Rules}
use Rattle.dump_text.proofs.Orders.{more_policies, policy_put, test_of_order, test_of_more}
use Rattle.dump_text.proofs.progress.Progress.put_policy.Goals as goal

pub is_behind_last-requires : goal.is_behind_last-requires
is_behind_last-requires c = test_of_order (λ (p : Rules). p.name) c.deref.result.now c.self.inside.policies.items
    c.deref.ensures.value c.self.invariant.policy_order

pub invariant_of-self-2 : goal.invariant_of-self-2
invariant_of-self-2 c =
    more_policies (record { princs = c.self.inside.princs.items; policies = c.self.inside.policies.items })
    c.args.policy c.push_boxed.new.items.items c.self.invariant c.requires c.in_ok-push_boxed.ensures.ok
    (omega (
      arith,
      c.if-count-ge-MAX_ROWS.false,
      c.count.ensures,
      ap (λ (s : Said). length s.princs) c.self.view_is,
      ap (λ (s : Said). length s.policies) c.self.view_is,
    ))
    (test_of_more (λ (p : Rules). p.name) c.deref.result.now c.self.inside.policies.items c.push_boxed.new.items.items
    c.args.policy c.is_behind_last.result c.deref.ensures.value c.is_behind_last.ensures c.if-not-is_behind_last.false
    c.in_ok-push_boxed.ensures.ok)

pub returns : goal.returns
returns c =
    policy_put (record {
      titled = c.self.inside.titled;
      realm = c.self.inside.realm;
      point = c.self.inside.point;
      princs = c.self.inside.princs.items;
      policies = c.self.inside.policies.items;
      ended = c.self.inside.ended;
    })
    c.args.self.now c.args.policy c.push_boxed.new.items.items c.self.view_is
    (invariant_of-self-2 c) c.in_ok-push_boxed.ensures.ok
