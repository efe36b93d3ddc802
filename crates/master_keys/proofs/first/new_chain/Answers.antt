use Rattle.master_keys.proofs.FirstRecord.{first_chain, first_spelled}
use Rattle.master_keys.proofs.RealmPrints.{master_printed, admin_printed}
use Rattle.master_keys.proofs.first.new_chain.Goals as goal

pub returns-clause-chain : goal.returns-clause-chain
returns-clause-chain c =
    let chain =
    first_chain c.args.realm.now c.args.key.now c.args.secs c.args.random.now c.in_ok-entry.ensures.unwraps in
    rw (c.in_ok-entry.ensures.entry, c.in_ok-masters.ensures) chain

pub returns-clause-spelled : goal.returns-clause-spelled
returns-clause-spelled c =
    let spelled = first_spelled c.args.realm.now c.args.key.now
    c.args.secs c.args.random.now c.in_ok-entry.ensures.unwraps (master_printed c.args.realm.now c.requires.realm)
    (admin_printed c.args.realm.now c.requires.realm) c.ranges.secs.fits in
    rw c.in_ok-entry.ensures.entry spelled
