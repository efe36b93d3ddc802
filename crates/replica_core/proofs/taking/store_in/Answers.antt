use Rattle.std.proofs.Common.{◌≡◌, Option, Some, sym, subst}
use Rattle.replica_core.specs.Opened.{HasSize, place_in}
use Rattle.replica_core.specs.Taking.{OnHalt, UnlessHalted, stored_in}
use Rattle.replica_core.proofs.Weaker.{stored_part, stored_place}
use Rattle.replica_steps.specs.Bridges.{MayBePart}
use Rattle.replica_steps.specs.Replicas.{place_after}
use Rattle.store_files.specs.Kept.{Kept, place_kept}
use Rattle.replica_core.proofs.taking.store_in.Goals as goal

pub returns-in-Some-clause-place : goal.returns-in-Some-clause-place
returns-in-Some-clause-place g c size sized =
    let r = c.store_all.result in
    let new = c.store_all.new.database in
    subst (λ (o : Option Kept).
    UnlessHalted r (Some (place_kept new) ≡ place_after (place_in o) (stored_in size c.args.updates.now (place_in o))))
    (sym c.in-Some.is)
    (stored_place r c.in-Some.database new size c.args.updates.now
    (subst (HasSize size) c.in-Some.is sized) c.store_all.ensures.place)

pub returns-in-Some-clause-part : goal.returns-in-Some-clause-part
returns-in-Some-clause-part g c size sized =
    let r = c.store_all.result in
    let new = c.store_all.new.database in
    subst (λ (o : Option Kept).
    OnHalt r (MayBePart (place_in o) (stored_in size c.args.updates.now (place_in o)) (Some (place_kept new))))
    (sym c.in-Some.is)
    (stored_part r c.in-Some.database new size c.args.updates.now
    (subst (HasSize size) c.in-Some.is sized) c.store_all.ensures.part)
