use Rattle.mkey_admin.proofs.OwnRecord.{entry_row}
use Rattle.mkey_admin.proofs.PurgedMasters.{newest_is_none, purged_comes}
use Rattle.mkey_admin.proofs.purging.purged.Goals as goal

pub purge-requires-clause-newest : goal.purge-requires-clause-newest
purge-requires-clause-newest c =
    newest_is_none c.args.given.now c.args.entry.now c.args.rows c.args.dead.now c.requires.purge

pub put-requires : goal.put-requires
put-requires c = c.in_ok-made.ensures.spelled (entry_row c.args.given.now c.args.entry.now c.requires.entry).fits

pub returns : goal.returns
returns c =
    purged_comes c.args.given.now c.args.entry.now c.args.rows c.args.dead.now c.requires.allowed c.requires.entry
    c.requires.purge c.requires.some
    c.in_ok-made.made c.in_ok-made.masters
    c.in_ok-made.ensures.entry c.in_ok-made.ensures.masters c.in_ok-made.ensures.chain
    (c.in_ok-made.ensures.spelled (entry_row c.args.given.now c.args.entry.now c.requires.entry).fits)
    c.put.result c.put.ensures
