use Rattle.std.proofs.Common.{sym, ap, subst, ◌∙◌}
use Rattle.kadm_commands.specs.Commands.{IsCommand}
use Rattle.princ_plans.specs.Ready.{ready_keys}
use Rattle.kadm_plan.proofs.ready.prepare.Goals as goal

pub invariant_of-result : goal.invariant_of-result
invariant_of-result c = record {
  own = record {
    realm = c.args.realm.now;
    is = subst (IsCommand c.args.realm.now) (sym c.in_ok-copied.ensures) c.requires;
  };
  keys_are = c.in_ok-keys.ensures ∙ ap ready_keys (sym c.in_ok-copied.ensures);
}
