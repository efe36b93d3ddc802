use Rattle.std.proofs.Common.{rules}
use Rattle.plan_tests.proofs.OpenedState.{at_first, state_is}
use Rattle.plan_tests.proofs.opening.opened_state.Goals as goal

pub returns : goal.returns
returns c = λ s f. state_is c.args.masters.now c.args.realm.now 1700000000 c.args.rows.now
    (record { sno = 1; time = record { secs = 1700000000; usecs = 0 } }) s
    (record {
      realm = c.in_ok-from_bytes.field-0;
      masters = c.from_vec.result;
      activations = c.in_ok-activations.activations;
      princs = c.in_ok-princs.princs;
      policies = c.in_ok-policies.policies;
      point = record { sno = 1; time = c.new.result };
    }) f
    (search rules) (search rules) c.in_ok-activations.ensures c.in_ok-princs.ensures c.in_ok-policies.ensures
    (at_first c.new.result c.new.ensures)
