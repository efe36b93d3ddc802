use Rattle.std.proofs.Common.{◌≡◌, ℕ, List, None, true, refl, sym, ap, subst, ◌∙◌, arith}
use Rattle.std.proofs.lemmas.List.{nil_from_length}
use Rattle.std.proofs.lemmas.List.Elements.{All-tail}
use Rattle.std.specs.List.{All}
use Rattle.iprop_truths.specs.Parts.{IsPart, end_of}
use Rattle.kdb_base.specs.declared.moments.Point.{Point}
use Rattle.kdb_disk.proofs.Runs.{then_on}
use Rattle.kdb_places.specs.Places.{point_of}
use Rattle.princ_rows.specs.Entries.{IsSent}
use Rattle.princ_rows.specs.declared.entries.Entry.{Entry}
use Rattle.replica_core.specs.Taking.{IsStoppedAs, one_updated}
use Rattle.replica_core.proofs.Gaps.{runs_on}
use Rattle.replica_core.proofs.Moments.{nothing_leaves}
use Rattle.replica_core.proofs.Weaker.{halted_by, judged_by, stopped_by}
use Rattle.replica_core.proofs.Ways.{IsOnWay, ended, ends_now, goes_on, leaves_now, part_now, starts, stops_now}
use Rattle.replica_steps.specs.Judging.{all_updated, gap_in, stop_in, stop_or}
use Rattle.store_files.specs.Kept.{place_kept}
use Rattle.store_files.specs.Recovery.{LeavesPart}
use Rattle.replica_core.proofs.updating.store_all.Goals as goal

pub loop-update-init : goal.loop-update-init
loop-update-init g c =
    let p = place_kept c.args.database.now in
    record {
      way = starts p.size c.args.updates.now p;
      sent = c.requires.sent;
      gap = c.requires.gap;
      sized = (refl, refl);
      whole = c.requires.whole;
      on = c.requires.on;
      crash = λ tells. nothing_leaves c.args.database.now (all_updated p.size c.args.updates.now p)
          (g.D.Disk.view c.args.disk.now) (c.requires.on tells);
      same = refl;
      faults = omega arith;
    }

pub store_one-requires-clause-follows : goal.store_one-requires-clause-follows
store_one-requires-clause-follows g c =
    let at = point_of (place_kept c.loop-update.database) in
    (runs_on true at c.in-Some.update.now c.in-Some.later.now
    (subst (λ (l : List Entry). gap_in true at l ≡ None) c.in-Some.ensures.cases.0 c.loop-update.invariant.gap)).0

pub returns-in-Err-clause-stop : goal.returns-in-Err-clause-stop
returns-in-Err-clause-stop g c =
    let p = place_kept c.args.database.now in
    let q = place_kept c.loop-update.database in
    let us = c.args.updates.now in
    let u = c.in-Some.update.now in
    let way =
    subst (λ (l : List Entry). IsOnWay p.size us p l q) c.in-Some.ensures.cases.0 c.loop-update.invariant.way in
    stopped_by c.in-Err.stop (stop_or p.size u.op u.point q (λ x. None)) (stop_in p.size us p)
    (subst (λ (n : ℕ). IsStoppedAs c.in-Err.stop (stop_or n u.op u.point q (λ x. None))) c.loop-update.invariant.sized.0
    c.in-Err.ensures.stop)
    (stops_now p.size us p u c.in-Some.later.now q way)

pub returns-in-Err-clause-place : goal.returns-in-Err-clause-place
returns-in-Err-clause-place g c =
    let p = place_kept c.args.database.now in
    let q = place_kept c.loop-update.database in
    let us = c.args.updates.now in
    let u = c.in-Some.update.now in
    let next = place_kept c.store_one.new.database in
    let way =
    subst (λ (l : List Entry). IsOnWay p.size us p l q) c.in-Some.ensures.cases.0 c.loop-update.invariant.way in
    let same = c.loop-update.invariant.sized.0 in
    judged_by c.in-Err.stop (stop_or p.size u.op u.point q (λ x. None)) c.in-Err.ensures.place
    (subst (λ (n : ℕ). IsStoppedAs c.in-Err.stop (stop_or n u.op u.point q (λ x. None))) same c.in-Err.ensures.stop)
    (λ j stops is. ends_now p.size us p u c.in-Some.later.now q way j next stops
    (is ∙ ap (λ (n : ℕ). end_of q (one_updated n u.op u.point.time q)) same))

pub returns-in-Err-clause-part : goal.returns-in-Err-clause-part
returns-in-Err-clause-part g c =
    let p = place_kept c.args.database.now in
    let q = place_kept c.loop-update.database in
    let us = c.args.updates.now in
    let u = c.in-Some.update.now in
    let next = place_kept c.store_one.new.database in
    let way =
    subst (λ (l : List Entry). IsOnWay p.size us p l q) c.in-Some.ensures.cases.0 c.loop-update.invariant.way in
    halted_by c.in-Err.stop c.in-Err.ensures.part
    (λ is. part_now p.size us p u c.in-Some.later.now q way next
    (subst (λ (n : ℕ). IsPart q (one_updated n u.op u.point.time q) next) c.loop-update.invariant.sized.0 is))

pub returns-in-Err-clause-crash : goal.returns-in-Err-clause-crash
returns-in-Err-clause-crash g c =
    let p = place_kept c.args.database.now in
    let q = place_kept c.loop-update.database in
    let us = c.args.updates.now in
    let u = c.in-Some.update.now in
    let way =
    subst (λ (l : List Entry). IsOnWay p.size us p l q) c.in-Some.ensures.cases.0 c.loop-update.invariant.way in
    record {
      told = λ tells. then_on {P = LeavesPart p (all_updated p.size us p)} (c.loop-update.invariant.crash tells)
          (c.store_one.ensures.crash.told tells)
          (λ files here. leaves_now p.size us p u c.in-Some.later.now q way files
          (subst (λ (n : ℕ). LeavesPart q (one_updated n u.op u.point.time q) files)
          c.loop-update.invariant.sized.0 here));
    }

pub loop-update-preserved : goal.loop-update-preserved
loop-update-preserved g c =
    let p = place_kept c.args.database.now in
    let q = place_kept c.loop-update.database in
    let us = c.args.updates.now in
    let u = c.in-Some.update.now in
    let later = c.in-Some.later.now in
    let next = place_kept c.store_one.new.database in
    let inv = c.loop-update.invariant in
    let is_left = c.in-Some.ensures.cases.0 in
    let way = subst (λ (l : List Entry). IsOnWay p.size us p l q) is_left inv.way in
    let same = inv.sized.0 in
    let on =
    runs_on true (point_of q) u later (subst (λ (l : List Entry). gap_in true (point_of q) l ≡ None) is_left inv.gap) in
    let faults = inv.faults in
    let more = c.store_one.ensures.call.later in
    record {
      way = goes_on p.size us p u later q way next
          (subst (λ (n : ℕ). stop_or n u.op u.point q (λ x. None) ≡ None) same c.in-Ok.ensures.stop)
          (c.in-Ok.ensures.place ∙ ap (λ (n : ℕ). end_of q (one_updated n u.op u.point.time q)) same);
      sent = All-tail IsSent u later (subst (All IsSent) is_left inv.sent);
      gap = subst (λ (at : Point). gap_in true at later ≡ None) (sym c.in-Ok.ensures.point) on.1;
      sized = (c.store_one.ensures.sized.0 ∙ same, c.store_one.ensures.sized.1 ∙ inv.sized.1);
      whole = c.in-Ok.ensures.whole;
      on = λ tells. c.in-Ok.ensures.on tells;
      crash = λ tells.
          then_on {P = LeavesPart p (all_updated p.size us p)} (inv.crash tells) (c.store_one.ensures.crash.told tells)
          (λ files here. leaves_now p.size us p u later q way files
          (subst (λ (n : ℕ). LeavesPart q (one_updated n u.op u.point.time q) files) same here));
      same = c.store_one.ensures.call.same ∙ inv.same;
      faults = omega (arith, faults, more);
    }

pub returns-clause-stop : goal.returns-clause-stop
returns-clause-stop g c =
    let p = place_kept c.args.database.now in
    (ended p.size c.args.updates.now p c.loop-update.left.now
    (place_kept c.loop-update.database) c.loop-update.invariant.way (nil_from_length _ c.in_default.ensures.cases)).0

pub returns-clause-place : goal.returns-clause-place
returns-clause-place g c =
    let p = place_kept c.args.database.now in
    (ended p.size c.args.updates.now p c.loop-update.left.now
    (place_kept c.loop-update.database) c.loop-update.invariant.way (nil_from_length _ c.in_default.ensures.cases)).1
