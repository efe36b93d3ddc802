use Rattle.std.proofs.Common.{◌-◌, ◌∙◌, sym, ap, subst}
use Rattle.kdb_control.specs.Choice.{Choice}
use Rattle.kdb_control.specs.Force.{turn_after}
use Rattle.store_switches.specs.Renewed.{IsRenewal}
use Rattle.store_switches.proofs.Images.{renewed_in_ranges, renewal_of}
use Rattle.store_switches.proofs.renewing.renewed_control.Goals as goal

pub invariant_of-result : goal.invariant_of-result
invariant_of-result c =
    let i = c.now.inside in
    renewed_in_ranges i.format i.turn i.image i.log i.stash i.size i.block c.turn_after.result c.spare_image.result
    c.spare_log.result c.args.size c.args.block c.now.invariant
    (c.turn_after.ensures ∙ ap (λ (x : Choice). turn_after x.turn) (sym c.now.view_is))
    (c.spare_image.ensures.other ∙ ap (λ (x : Choice). 3 - x.image) (sym c.now.view_is))
    (c.spare_log.ensures.other ∙ ap (λ (x : Choice). 7 - x.log) (sym c.now.view_is)) c.requires.size c.requires.block

pub returns-clause-renewal : goal.returns-clause-renewal
returns-clause-renewal c =
    let i = c.now.inside in
    let old : Choice = record {
      format = i.format;
      turn = i.turn;
      image = i.image;
      log = i.log;
      stash = i.stash;
      size = i.size;
      block = i.block;
      base = i.base;
    } in
    let next : Choice = record {
      format = 2;
      turn = c.turn_after.result;
      image = c.spare_image.result;
      log = c.spare_log.result;
      stash = i.stash;
      size = c.args.size;
      block = c.args.block;
      base = c.args.base.now;
    } in
    subst (λ (x : Choice). IsRenewal x next) c.now.view_is
    (renewal_of old c.args.base.now c.args.size c.args.block c.turn_after.result c.spare_image.result c.spare_log.result
    c.now.invariant
    (c.turn_after.ensures ∙ ap (λ (x : Choice). turn_after x.turn) (sym c.now.view_is))
    (c.spare_image.ensures.other ∙ ap (λ (x : Choice). 3 - x.image) (sym c.now.view_is))
    (c.spare_log.ensures.other ∙ ap (λ (x : Choice). 7 - x.log) (sym c.now.view_is))
    c.spare_image.ensures.high c.spare_log.ensures.low c.requires.size.0)
