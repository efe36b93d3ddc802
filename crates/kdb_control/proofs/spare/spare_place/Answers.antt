use Rattle.std.proofs.Common.{◌≡◌, ℕ, ◌≤◌, length, subst, sym, ◌∙◌, ap}
use Rattle.kdb_control.specs.declared.force.Slot.{Slot}
use Rattle.kdb_control.specs.declared.force.Force.TheVariants.{Is}
use Rattle.kdb_control.specs.Moments.{IsPlace, without, spare_at}
use Rattle.kdb_control.proofs.Effects.{spare_place, spare_without, spare_within}
use Rattle.kdb_control.proofs.spare.spare_place.Goals as goal

pub returns-in-Ok-clause-place : goal.returns-in-Ok-clause-place
returns-in-Ok-clause-place g c =
    subst IsPlace (sym c.place_by.ensures.place) (spare_place c.in-Ok.first c.args.now.now.turn)

pub returns-in-Ok-clause-spare : goal.returns-in-Ok-clause-spare
returns-in-Ok-clause-spare g c tells =
    let file = (g.D.Disk.view c.args.disk.now).seen 0 in
    let now = c.args.now.now in
    let is = c.place_by.ensures.place ∙ ap (λ (first : Slot). spare_at first now.turn) (c.in-Ok.ensures.slot tells) in
    subst (λ (at : ℕ). without at file ≡ Is now) (sym is) (spare_without file now (c.requires.now tells))

pub returns-in-Ok-clause-within : goal.returns-in-Ok-clause-within
returns-in-Ok-clause-within g c tells =
    let file = (g.D.Disk.view c.args.disk.now).seen 0 in
    let now = c.args.now.now in
    let is = c.place_by.ensures.place ∙ ap (λ (first : Slot). spare_at first now.turn) (c.in-Ok.ensures.slot tells) in
    subst (λ (at : ℕ). at ≤ length file) (sym is) (spare_within file now (c.requires.now tells))
