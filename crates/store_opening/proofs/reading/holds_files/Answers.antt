use Rattle.std.proofs.Common.{subst}
use Rattle.store_files.specs.Standing.{HasFiles}
use Rattle.store_opening.proofs.Ranges.{has_files}
use Rattle.store_opening.proofs.reading.holds_files.Goals as goal

pub returns : goal.returns
returns c =
    let i = c.control.inside in
    subst HasFiles c.control.view_is
    (has_files i.format i.turn i.image i.log i.stash i.size i.block i.base c.control.invariant)
