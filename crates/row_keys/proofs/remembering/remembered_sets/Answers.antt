use Rattle.std.proofs.Common.{◌-◌}
use Rattle.plain_keys.specs.Keys.{remembered, with_newest}
use Rattle.row_keys.specs.Shows.{ShowsSet}
use Rattle.row_keys.proofs.Sides.{zip_take}
use Rattle.row_keys.proofs.remembering.remembered_sets.Goals as goal

pub returns-clause-shows : goal.returns-clause-shows
unfolding remembered
returns-clause-shows c plain h =
    rw (c.from_vec.ensures, c.truncate.ensures.items, c.from.ensures, c.saturating_sub.ensures)
    (zip_take (ShowsSet c.args.history.now) (c.args.count - 1) c.in_ok-sets.sets.items
    (with_newest c.args.keys.now plain) (c.in_ok-sets.ensures.shows plain h))
