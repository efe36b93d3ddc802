use Rattle.std.proofs.Common.{◌∙◌, ap}
use Rattle.std.specs.VecDeque.{deque_len, deque_capacity}
use Rattle.update_log.specs.Logs.{Journal, newest}
use Rattle.update_log.proofs.Sound.{committed_journal, nothing_prepared}
use Rattle.update_log.proofs.log.Log.take_prepared.Goals as goal

pub invariant_of-self : goal.invariant_of-self
invariant_of-self c =
    let i = c.self.inside in
    let log : Journal = record {
      file = i.file;
      base = i.base;
      size = i.size;
      block = i.block;
      held = i.held.items;
      prepared = i.prepared;
    } in
    let same = c.keep_newest.ensures.items ∙ ap (newest i.size) c.add_prepared.ensures.items in (
      committed_journal log (deque_len i.held) (deque_capacity i.held) c.keep_newest.new.held.items
          c.add_prepared.new.prepared c.self.invariant.0 c.self.invariant.1 same,
      nothing_prepared _ _ _ c.keep_newest.ensures.len c.add_prepared.ensures.prepared,
    )
