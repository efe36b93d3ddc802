use Rattle.std.proofs.Common.{List, Err, sym, ap, subst, ◌∙◌}
use Rattle.kdb_base.specs.declared.versions.Master.{Master}
use Rattle.kdb_disk.proofs.Runs.{weaken}
use Rattle.kdb_disk.specs.Moments.{LeavesOnly}
use Rattle.kdb_disk.specs.View.{View}
use Rattle.primary_core.proofs.Recovered.{found_written, halts_having, kept_stays, late_ends, late_having, late_kept}
use Rattle.primary_core.proofs.Recovered.{late_only, late_refused, late_stops, may_be_like, opened_at_ok}
use Rattle.primary_core.proofs.Recovered.{opens_on, opens_to_if, rows_stop, rows_stop_it, stop_same, stopped_only}
use Rattle.primary_core.proofs.primary.Primary.recover.Goals as goal
use Rattle.primary_core.specs.Opened.{Opened}
use Rattle.primary_core.specs.Opening.{RecoversAs}
use Rattle.store_files.specs.Kept.{Kept, place_kept}
use Rattle.store_files.specs.Recovery.{IsLike}

pub returns-in-Err-clause-refused : goal.returns-in-Err-clause-refused
returns-in-Err-clause-refused g c = λ t why e. rows_stop _ c.args.size c.args.now why
    (c.open_rows.ensures.refused t why (c.in-Err.is ∙ ap Err (stop_same _ _ _ e)))

pub returns-in-Err-clause-only_refused : goal.returns-in-Err-clause-only_refused
returns-in-Err-clause-only_refused g c = λ t why cause. stopped_only (Kept × List Master) Opened _ c.args.size
    c.args.now c.in-Err.stop (c.in-Err.ensures.only_refused t) (c.in-Err.ensures.complete t) why cause

pub returns-in-Err-clause-complete : goal.returns-in-Err-clause-complete
returns-in-Err-clause-complete g c =
    λ t f masters is opens left. halts_having c.in-Err.stop masters (c.in-Err.ensures.complete t f masters is opens)

pub returns-in-Err-clause-moments : goal.returns-in-Err-clause-moments
returns-in-Err-clause-moments g c =
    λ t. weaken (c.open_rows.ensures.moments t) (λ f l. may_be_like _ _ c.args.size c.args.now f l)

pub returns-in-Err-clause-refusals : goal.returns-in-Err-clause-refusals
returns-in-Err-clause-refusals g c = λ t why cause. c.open_rows.ensures.moments t

pub returns-in-Err-clause-call : goal.returns-in-Err-clause-call
returns-in-Err-clause-call g c = record {
  same = c.open_rows.ensures.call.same;
  later = c.open_rows.ensures.call.later;
  cause = λ e. c.open_rows.ensures.call.cause (c.in-Err.is ∙ ap Err (stop_same _ _ _ e));
}

pub returns-in-Ok-clause-opens : goal.returns-in-Ok-clause-opens
returns-in-Ok-clause-opens g c = λ t. opens_to_if c.in-Ok.database _ (c.in-Ok.ensures.found t) c.args.size c.args.now
    c.in-Ok.masters c.open_as.result c.in-Ok.ensures.opens c.open_as.ensures.opens

pub returns-in-Ok-clause-refused : goal.returns-in-Ok-clause-refused
returns-in-Ok-clause-refused g c = λ t why e. late_refused c.in-Ok.database _ (c.in-Ok.ensures.found t) c.args.size
    c.args.now c.in-Ok.masters why c.in-Ok.ensures.opens (c.open_as.ensures.refused why e)

pub returns-in-Ok-clause-only_refused : goal.returns-in-Ok-clause-only_refused
returns-in-Ok-clause-only_refused g c =
    λ t why cause. late_only c.in-Ok.database _ (c.in-Ok.ensures.found t) c.args.size c.args.now _ c.open_as.result why
    (late_ends c.in-Ok.database _ (c.in-Ok.ensures.found t) c.args.size c.args.now why (c.in-Ok.ensures.only_refused t)
    cause) (λ o e. (opened_at_ok _ _ _ _ c.open_as.result o e c.open_as.ensures.opens).left) c.open_as.ensures.refused

pub returns-in-Ok-clause-complete : goal.returns-in-Ok-clause-complete
returns-in-Ok-clause-complete g c =
    λ t f masters is opens left. late_having c.in-Ok.database _ (c.in-Ok.ensures.found t) c.args.size
    c.args.now c.open_as.result c.in-Ok.masters masters (c.in-Ok.ensures.complete t f masters is opens) (λ o e.
    (opened_at_ok _ _ _ _ c.open_as.result o e c.open_as.ensures.opens).masters_are) c.open_as.ensures.refused f is left

pub returns-in-Ok-clause-moments : goal.returns-in-Ok-clause-moments
returns-in-Ok-clause-moments g c = λ t. opens_on c.in-Ok.database _ (c.in-Ok.ensures.found t) c.args.size c.args.now
    g.D.Disk.view _ _ _ c.open_as.ensures.late (c.open_rows.ensures.moments t) (c.open_as.ensures.crash.told t)

pub returns-in-Ok-clause-refusals : goal.returns-in-Ok-clause-refusals
returns-in-Ok-clause-refusals g c = λ t why cause.
    subst (λ (x : View). LeavesOnly (g.D.Disk.view c.args.disk.now) x (IsLike (g.D.Disk.view c.args.disk.now)))
    (ap g.D.Disk.view (sym (late_kept _ _ (place_kept c.in-Ok.database) c.args.size c.args.now why
    (late_ends c.in-Ok.database _ (c.in-Ok.ensures.found t) c.args.size c.args.now why
    (c.in-Ok.ensures.only_refused t) cause) c.open_as.ensures.late)))
    (c.open_rows.ensures.moments t)

pub returns-in-Err-clause-refused_stays : goal.returns-in-Err-clause-refused_stays
returns-in-Err-clause-refused_stays g c =
    λ t why e. c.open_rows.ensures.refused_stays t why (c.in-Err.is ∙ ap Err (stop_same _ _ _ e))

pub returns-in-Ok-clause-refused_stays : goal.returns-in-Ok-clause-refused_stays
returns-in-Ok-clause-refused_stays g c = λ t why e.
    subst (λ (x : View). RecoversAs (g.D.Disk.view c.args.disk.now).seen x)
    (ap g.D.Disk.view (sym (late_kept _ _ (place_kept c.in-Ok.database) c.args.size c.args.now why
    (c.open_as.ensures.refused why e) c.open_as.ensures.late)))
    (kept_stays c.in-Ok.database (g.D.Disk.view c.args.disk.now).seen (g.D.Disk.view c.open_rows.new.disk)
    (c.in-Ok.ensures.found t) (c.what_is_kept_is_recovered.ensures _ (c.in-Ok.ensures.on t)))

pub returns-in-Err-clause-stops : goal.returns-in-Err-clause-stops
returns-in-Err-clause-stops g c = rows_stop_it c.args.size c.args.now c.in-Err.stop c.in-Err.ensures.stops

pub returns-in-Ok-clause-stops : goal.returns-in-Ok-clause-stops
returns-in-Ok-clause-stops g c = late_stops (place_kept c.in-Ok.database) c.args.size c.args.now c.open_as.result
    c.open_as.ensures.refused

pub returns-in-Ok-clause-written : goal.returns-in-Ok-clause-written
returns-in-Ok-clause-written g c = λ t. found_written c.in-Ok.database _ (c.in-Ok.ensures.found t) c.args.now
    (g.D.Disk.view c.open_as.new.disk) c.open_as.result (c.open_as.ensures.written t)
