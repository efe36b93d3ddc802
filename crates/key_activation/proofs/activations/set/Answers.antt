use Rattle.std.proofs.Common.{◌≡◌, rules, OnOk}
use Rattle.key_activation.specs.Activations.{with_activation}
use Rattle.key_activation.proofs.Single.{numbered_after, own_after, others_after}
use Rattle.key_activation.proofs.activations.set.Goals as goal

pub returns-clause-own : goal.returns-clause-own
returns-clause-own c =
    let is : OnOk c.put-done.result (c.from_vec.result ≡ with_activation c.args.version c.args.secs c.args.list.now) =
    search rules in
    own_after c.put-done.result c.args.version c.args.secs c.args.list.now c.from_vec.result is

pub returns-clause-others : goal.returns-clause-others
returns-clause-others c =
    let is : OnOk c.put-done.result (c.from_vec.result ≡ with_activation c.args.version c.args.secs c.args.list.now) =
    search rules in
    others_after c.put-done.result c.args.version c.args.secs c.args.list.now c.from_vec.result is

pub returns-clause-numbered : goal.returns-clause-numbered
returns-clause-numbered c =
    let is : OnOk c.put-done.result (c.from_vec.result ≡ with_activation c.args.version c.args.secs c.args.list.now) =
    search rules in
    numbered_after c.put-done.result c.args.version c.args.secs c.args.list.now c.from_vec.result is
