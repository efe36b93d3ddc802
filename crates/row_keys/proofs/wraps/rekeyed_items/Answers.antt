use Rattle.row_keys.specs.Shows.{ShowsItem}
use Rattle.row_keys.proofs.Sides.{zip_append}
use Rattle.row_keys.proofs.wraps.rekeyed_items.Goals as goal

pub returns-clause-shows : goal.returns-clause-shows
returns-clause-shows c =
    rw c.in_ok-append.ensures.items
    (zip_append (ShowsItem c.args.master.now) c.in_ok-items.items.items c.in_ok-others.others.items c.args.fresh.now
    c.args.kept.now c.in_ok-items.ensures.shows c.in_ok-others.ensures.shows)
