use Rattle.std.proofs.Common.{◌≡◌, ℕ, List, refl, sym, ap, subst}
use Rattle.std.specs.Prelude.{option_map, OnOk}
use Rattle.kdb_places.specs.Places.{created}
use Rattle.store_files.specs.Kept.{Kept, IsKept, IsOnDisk, place_kept}
use Rattle.store_opening.specs.Made.{Making, made_choice}
use Rattle.store_opening.specs.Moments.{HasFile}
use Rattle.store_opening.specs.declared.parts.Parts.{Parts}
use Rattle.store_opening.specs.Parts.{kept_of, kept_made}
use Rattle.store_opening.proofs.Making.{is_kept, creates_made, if_ok_at, if_ok_both}
use Rattle.store_opening.proofs.creating.create_parts.Goals as goal

pub make_plan-requires : goal.make_plan-requires
make_plan-requires g c =
    let m : Making = record {
      format = c.args.format;
      realm = c.args.realm.now;
      rows = c.args.rows;
      base = c.args.base;
      size = c.args.size;
      block = c.args.block;
      stash = option_map (λ s. s.now) c.args.stash;
    } in
    record { plan = (m, (c.in-Ok.ensures, refl)) }

pub returns-in-Ok-clause-place : goal.returns-in-Ok-clause-place
returns-in-Ok-clause-place g c =
    let m : Making = record {
      format = c.args.format;
      realm = c.args.realm.now;
      rows = c.args.rows;
      base = c.args.base;
      size = c.args.size;
      block = c.args.block;
      stash = option_map (λ s. s.now) c.args.stash;
    } in
    let cells = c.in-Ok.plan.image.cells in
    if_ok_at (λ (p : Parts). kept_of p ≡ kept_made m cells)
    (λ (p : Parts). place_kept (kept_of p) ≡ created m.realm m.rows m.base m.size m.block m.stash m.format)
    c.make_plan.result (λ p same. ap place_kept same)
    (c.make_plan.ensures.kept m c.in-Ok.ensures)

pub returns-in-Ok-clause-kept : goal.returns-in-Ok-clause-kept
returns-in-Ok-clause-kept g c =
    let m : Making = record {
      format = c.args.format;
      realm = c.args.realm.now;
      rows = c.args.rows;
      base = c.args.base;
      size = c.args.size;
      block = c.args.block;
      stash = option_map (λ s. s.now) c.args.stash;
    } in
    let cells = c.in-Ok.plan.image.cells in
    let plan = c.in-Ok.ensures in
    if_ok_at (λ (p : Parts). kept_of p ≡ kept_made m cells) (λ (p : Parts). IsKept (kept_of p)) c.make_plan.result
    (λ p same. subst IsKept (sym same) (is_kept m c.in-Ok.plan.image plan.made plan.in_order))
    (c.make_plan.ensures.kept m plan)

pub returns-in-Ok-clause-on : goal.returns-in-Ok-clause-on
returns-in-Ok-clause-on g c = λ tells.
    let m : Making = record {
      format = c.args.format;
      realm = c.args.realm.now;
      rows = c.args.rows;
      base = c.args.base;
      size = c.args.size;
      block = c.args.block;
      stash = option_map (λ s. s.now) c.args.stash;
    } in
    let cells = c.in-Ok.plan.image.cells in
    let plan = c.in-Ok.ensures in
    let v = g.D.Disk.view c.make_plan.new.disk in
    if_ok_both (λ (p : Parts). kept_of p ≡ kept_made m cells) (λ (p : Parts). IsOnDisk (kept_of p) v)
    (IsOnDisk (kept_made m cells) v) c.make_plan.result (λ p same on. subst (λ (k : Kept). IsOnDisk k v) (sym same) on)
    (c.make_plan.ensures.kept m plan) (c.make_plan.ensures.on tells m plan refl)

pub returns-in-Ok-clause-moments : goal.returns-in-Ok-clause-moments
returns-in-Ok-clause-moments g c = λ tells.
    let m : Making = record {
      format = c.args.format;
      realm = c.args.realm.now;
      rows = c.args.rows;
      base = c.args.base;
      size = c.args.size;
      block = c.args.block;
      stash = option_map (λ s. s.now) c.args.stash;
    } in
    let plan = c.in-Ok.ensures in
    creates_made m plan.in_order (c.make_plan.ensures.moments tells m plan refl)

pub returns-in-Ok-clause-control : goal.returns-in-Ok-clause-control
returns-in-Ok-clause-control g c =
    let m : Making = record {
      format = c.args.format;
      realm = c.args.realm.now;
      rows = c.args.rows;
      base = c.args.base;
      size = c.args.size;
      block = c.args.block;
      stash = option_map (λ s. s.now) c.args.stash;
    } in
    let cells = c.in-Ok.plan.image.cells in
    if_ok_at (λ (p : Parts). kept_of p ≡ kept_made m cells)
    (λ (p : Parts). p.control ≡ made_choice m) c.make_plan.result (λ p same. ap (λ (k : Kept). k.control) same)
    (c.make_plan.ensures.kept m c.in-Ok.ensures)

pub returns-in-Ok-clause-written : goal.returns-in-Ok-clause-written
returns-in-Ok-clause-written g c = λ tells.
    subst (λ (content : List ℕ). OnOk c.make_plan.result (HasFile 1 content (g.D.Disk.view c.make_plan.new.disk)))
    c.in-Ok.ensures.content (c.make_plan.ensures.written tells)
