use Rattle.master_keys.proofs.Live.{live_chain_is}
use Rattle.master_keys.proofs.PurgedSpelled.{purged_spelled}
use Rattle.master_keys.proofs.purging.purge.Goals as goal

pub returns-clause-chain : goal.returns-clause-chain
returns-clause-chain c =
    rw (c.purged_record-purged.ensures, c.in_ok-copy.ensures, c.in_ok-live.ensures)
    (live_chain_is c.args.dead.now c.args.entry.now c.args.masters.now c.requires.chain c.requires.newest)

pub returns-clause-spelled : goal.returns-clause-spelled
returns-clause-spelled c f =
    rw (c.purged_record-purged.ensures, c.in_ok-copy.ensures)
    (purged_spelled c.args.dead.now c.args.entry.now c.args.masters.now c.requires.chain c.requires.newest f)
