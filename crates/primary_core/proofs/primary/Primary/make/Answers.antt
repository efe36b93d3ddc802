use Rattle.std.proofs.Common.{◌≡◌, ◌<◌, true, false, refl, sym, ap, subst, ◌∙◌}
use Rattle.std.specs.Prelude.{OnErr, OnOk}
use Rattle.command_plans.specs.Given.{IsApplied}
use Rattle.iprop_truths.specs.Parts.{IsPart, end_of}
use Rattle.kdb_disk.specs.Frames.{IsCrashSafe}
use Rattle.kdb_histories.specs.Calls.{HasTimeLeft}
use Rattle.kdb_histories.specs.Moves.{IsLeft}
use Rattle.kdb_histories.specs.Seen.{entry_point, is_due}
use Rattle.performed_plans.specs.Changes.{change_places}
use Rattle.primary_core.proofs.Shown.{any_open, any_state}
use Rattle.primary_core.proofs.primary.Primary.make.Goals as goal
use Rattle.primary_core.specs.Opened.{MayMake, Opened, masters_behind, place_of}
use Rattle.store_files.specs.Kept.{IsOnDisk, place_kept}
use Rattle.store_files.specs.Recovery.{LeavesPart}

pub make_change-requires-clause-on : goal.make_change-requires-clause-on
make_change-requires-clause-on g c =
    λ t. subst (λ (x : Opened). IsOnDisk x.kept (g.D.Disk.view c.args.disk.now)) (sym c.self.view_is) (c.requires.on t)

pub make_change-requires-clause-whole : goal.make_change-requires-clause-whole
make_change-requires-clause-whole g c =
    subst (λ (x : Opened). x.kept.broken ≡ false) (sym c.self.view_is) c.requires.whole

pub make_change-requires-clause-format : goal.make_change-requires-clause-format
make_change-requires-clause-format g c = c.self.invariant.newer

pub make_change-requires-clause-applied : goal.make_change-requires-clause-applied
make_change-requires-clause-applied g c =
    subst (λ (x : Opened). IsApplied x.kept.rows c.args.change.op) (sym c.self.view_is) c.requires.may.applied

pub make_change-requires-clause-left : goal.make_change-requires-clause-left
make_change-requires-clause-left g c =
    subst (λ (x : Opened). is_due c.args.change.op (place_of x) ≡ true → HasTimeLeft (place_of x))
    (sym c.self.view_is) c.requires.may.left

pub invariant_of-self : goal.invariant_of-self
invariant_of-self g c =
    any_open (record { later = c.valid_later.ensures.later; point = c.valid_later.ensures.point }) (record {
      kept = c.self.inside.database;
      masters = c.self.inside.masters;
      dumps = c.self.inside.dumps;
      room = c.self.inside.room;
    })
    (record {
      kept = c.make_change.new.database;
      masters = c.make_change.new.masters;
      dumps = c.self.inside.dumps;
      room = c.self.inside.room;
    }) c.args.now c.args.change c.holds_moment.ensures c.self.invariant
    (subst (λ (x : Opened). MayMake x c.args.now c.args.change) (sym c.self.view_is) c.requires.may)
    (subst (λ (x : Opened). 0 < (place_of x).size) (sym c.self.view_is) c.holds_size.ensures) refl refl _
    c.make_change.result
    c.make_change.ensures.masters c.make_change.ensures.masters_stay c.make_change.ensures.place
    c.make_change.ensures.rows c.make_change.ensures.part

pub returns-clause-place : goal.returns-clause-place
returns-clause-place g c =
    subst (λ (x : Opened). OnOk c.make_change.result ((place_kept c.make_change.new.database) ≡ end_of (place_of x)
    (change_places c.args.now c.args.change.op (place_of x)))) c.self.view_is c.make_change.ensures.place

pub returns-clause-masters : goal.returns-clause-masters
returns-clause-masters g c = subst (λ (x : Opened). OnOk c.make_change.result
    (c.make_change.new.masters ≡ masters_behind x c.args.change.masters)) c.self.view_is c.make_change.ensures.masters

pub returns-clause-masters_stay : goal.returns-clause-masters_stay
returns-clause-masters_stay g c =
    subst (λ (x : Opened). OnErr c.make_change.result (c.make_change.new.masters ≡ x.masters)) c.self.view_is
    c.make_change.ensures.masters_stay

pub returns-clause-dumps : goal.returns-clause-dumps
returns-clause-dumps g c = (ap (λ (x : Opened). x.dumps) c.self.view_is, ap (λ (x : Opened). x.room) c.self.view_is)

pub returns-clause-state : goal.returns-clause-state
returns-clause-state g c = λ t left masters.
    any_state _ c.make_change.result (record {
      kept = c.self.inside.database;
      masters = c.self.inside.masters;
      dumps = c.self.inside.dumps;
      room = c.self.inside.room;
    })
    (record {
      kept = c.make_change.new.database;
      masters = c.make_change.new.masters;
      dumps = c.self.inside.dumps;
      room = c.self.inside.room;
    }) c.args.now c.args.change t
    (subst (λ (x : Opened). 0 < (place_of x).size) (sym c.self.view_is) c.holds_size.ensures)
    c.make_change.ensures.masters c.make_change.ensures.place
    (subst (λ (x : Opened). IsLeft (place_of x).realm (entry_point c.args.now c.args.change.op (place_of x))
    c.args.change.op (place_of x).rows t) (sym c.self.view_is) left)
    (masters ∙ sym (ap (λ (x : Opened). masters_behind x c.args.change.masters) c.self.view_is))

pub returns-clause-crash : goal.returns-clause-crash
returns-clause-crash g c = subst (λ (x : Opened). IsCrashSafe g.D.Disk c.args.disk.now c.make_change.new.disk
    (LeavesPart (place_of x) (change_places c.args.now c.args.change.op (place_of x)))) c.self.view_is
    c.make_change.ensures.crash

pub returns-clause-part : goal.returns-clause-part
returns-clause-part g c = subst (λ (x : Opened). OnErr c.make_change.result
    (IsPart (place_of x) (change_places c.args.now c.args.change.op (place_of x))
    (place_kept c.make_change.new.database))) c.self.view_is c.make_change.ensures.part

pub returns-clause-rows : goal.returns-clause-rows
returns-clause-rows g c = subst (λ (x : Opened). OnErr c.make_change.result
    ((place_kept c.make_change.new.database).rows ≡ (place_of x).rows)) c.self.view_is c.make_change.ensures.rows

pub returns-clause-memory_place : goal.returns-clause-memory_place
returns-clause-memory_place g c = λ e. subst (λ (x : Opened). (place_kept c.make_change.new.database) ≡ place_of x)
    c.self.view_is (c.make_change.ensures.memory_place e)
