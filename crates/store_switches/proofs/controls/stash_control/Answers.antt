use Rattle.std.proofs.Common.{◌≡◌, true, ◌∙◌, sym, ap, subst}
use Rattle.kdb_control.specs.Choice.{Choice, is_choice}
use Rattle.kdb_control.specs.Force.{turn_after}
use Rattle.store_switches.proofs.Ranges.{stash_in_ranges, spare_stash}
use Rattle.store_switches.proofs.controls.stash_control.Goals as goal

pub invariant_of-result : goal.invariant_of-result
invariant_of-result c =
    let i = c.now.inside in
    stash_in_ranges i.format i.turn i.image i.log i.stash i.size i.block c.turn_after.result c.spare_stash.result
    c.now.invariant
    (c.turn_after.ensures ∙ ap (λ (x : Choice). turn_after x.turn) (sym c.now.view_is)) c.spare_stash.ensures.low
    c.spare_stash.ensures.high

pub returns-clause-spare : goal.returns-clause-spare
returns-clause-spare c =
    spare_stash c.args.now.now c.spare_stash.result
    (subst (λ (x : Choice). is_choice x ≡ true) c.now.view_is c.now.invariant) c.spare_stash.ensures.low
    (λ e. c.spare_stash.ensures.other (ap (λ (x : Choice). x.stash) c.now.view_is ∙ e))
