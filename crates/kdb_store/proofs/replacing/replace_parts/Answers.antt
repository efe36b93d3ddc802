use Rattle.kdb_store.proofs.Renewals.{size_in, block_in, at_choice}
use Rattle.kdb_store.proofs.replacing.replace_parts.Goals as goal

pub renew_parts-requires-clause-size : goal.renew_parts-requires-clause-size
renew_parts-requires-clause-size g c =
    let i = c.control.inside in
    size_in i.format i.turn i.image i.log i.stash i.size i.block c.control.invariant

pub renew_parts-requires-clause-block : goal.renew_parts-requires-clause-block
renew_parts-requires-clause-block g c =
    let i = c.control.inside in
    block_in i.format i.turn i.image i.log i.stash i.size i.block c.control.invariant

pub returns-in-Ok-clause-crash : goal.returns-in-Ok-clause-crash
returns-in-Ok-clause-crash g c tells k under =
    at_choice k (record {
      format = c.control.inside.format;
      turn = c.control.inside.turn;
      image = c.control.inside.image;
      log = c.control.inside.log;
      stash = c.control.inside.stash;
      size = c.control.inside.size;
      block = c.control.inside.block;
      base = c.control.inside.base;
    }) c.args.control.now c.args.base c.args.new_realm c.args.new c.control.view_is
    (c.renew_parts.ensures.crash tells k under)

pub returns-in-Err-clause-crash : goal.returns-in-Err-clause-crash
returns-in-Err-clause-crash g c tells k under =
    at_choice k (record {
      format = c.control.inside.format;
      turn = c.control.inside.turn;
      image = c.control.inside.image;
      log = c.control.inside.log;
      stash = c.control.inside.stash;
      size = c.control.inside.size;
      block = c.control.inside.block;
      base = c.control.inside.base;
    }) c.args.control.now c.args.base c.args.new_realm c.args.new c.control.view_is
    (c.renew_parts.ensures.crash tells k under)
