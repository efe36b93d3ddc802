use Rattle.std.proofs.Common.{◌≡◌, true, ◌-◌, ◌∙◌, sym, ap, subst}
use Rattle.kdb_control.specs.Choice.{Choice, is_choice}
use Rattle.kdb_control.specs.Force.{turn_after}
use Rattle.store_switches.proofs.Ranges.{reset_in_ranges, spare_log}
use Rattle.store_switches.proofs.controls.reset_control.Goals as goal

pub invariant_of-result : goal.invariant_of-result
invariant_of-result c =
    let i = c.now.inside in
    reset_in_ranges i.format i.turn i.image i.log i.stash i.size i.block c.turn_after.result c.spare_log.result
    c.args.size c.args.block c.now.invariant
    (c.turn_after.ensures ∙ ap (λ (x : Choice). turn_after x.turn) (sym c.now.view_is))
    (c.spare_log.ensures.other ∙ ap (λ (x : Choice). 7 - x.log) (sym c.now.view_is)) c.requires.size c.requires.block

pub returns-clause-spare : goal.returns-clause-spare
returns-clause-spare c =
    spare_log c.args.now.now c.spare_log.result
    (subst (λ (x : Choice). is_choice x ≡ true) c.now.view_is c.now.invariant) c.spare_log.ensures.other
