use Rattle.std.proofs.Common.{◌≡◌, ◌⊎◌, subst}
use Rattle.kdb_control.specs.Choice.{Choice}
use Rattle.store_opening.proofs.Ranges.{image_either}
use Rattle.store_opening.proofs.recovering.holds_image.Goals as goal

pub returns : goal.returns
returns c =
    let i = c.control.inside in
    subst (λ (now : Choice). (now.image ≡ 1) ⊎ (now.image ≡ 2)) c.control.view_is
    (image_either i.format i.turn i.image i.log i.stash i.size i.block c.control.invariant)
