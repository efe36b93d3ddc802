use Rattle.std.proofs.Common.{List, Err, ap, ◌∙◌}
use Rattle.kdb_base.specs.declared.versions.Master.{Master}
use Rattle.primary_core.proofs.Recovered.{kept_refused, kept_stays, masters_stop, not_found_halts, not_found_only}
use Rattle.primary_core.proofs.Recovered.{not_found_refused, opened_only, opened_same}
use Rattle.primary_core.proofs.Recovered.{settled_stays, stop_same, unopened_halts, unopened_only, unopened_stops}
use Rattle.primary_core.proofs.opening.open_rows.Goals as goal
use Rattle.store_files.specs.Kept.{Kept, place_kept}

pub returns-in-Err-clause-refused : goal.returns-in-Err-clause-refused
returns-in-Err-clause-refused g c =
    λ t why e. not_found_refused _ why (c.recover.ensures.refused t why (c.in-Err.is ∙ ap Err (stop_same _ _ _ e)))

pub returns-in-Err-clause-complete : goal.returns-in-Err-clause-complete
returns-in-Err-clause-complete g c = λ t f masters is opens.
    not_found_halts _ c.in-Err.stop (λ why e. c.recover.ensures.refused t why (c.in-Err.is ∙ ap Err e)) f is

pub returns-in-Err-clause-only_refused : goal.returns-in-Err-clause-only_refused
returns-in-Err-clause-only_refused g c = λ t why cause. not_found_only (Kept × List Master) _ c.in-Err.stop
    (λ why e. c.recover.ensures.refused t why (c.in-Err.is ∙ ap Err e)) why cause

pub returns-in-Err-masters_of-clause-refused : goal.returns-in-Err-masters_of-clause-refused
returns-in-Err-masters_of-clause-refused g c = λ t why e. kept_refused c.in-Ok.database _ (c.in-Ok.ensures.found t) why
    (c.masters_of.ensures.refused why (c.in-Err-masters_of.is ∙ ap Err (stop_same _ _ _ e)))

pub returns-in-Err-masters_of-clause-complete : goal.returns-in-Err-masters_of-clause-complete
returns-in-Err-masters_of-clause-complete g c = λ t f masters is opens.
    unopened_halts c.in-Ok.database _ (c.in-Ok.ensures.found t) c.masters_of.result c.masters_of.ensures.complete
    c.masters_of.ensures.only_refused c.in-Err-masters_of.stop c.in-Err-masters_of.is f masters is opens

pub returns-in-Err-masters_of-clause-only_refused : goal.returns-in-Err-masters_of-clause-only_refused
returns-in-Err-masters_of-clause-only_refused g c = λ t why cause.
    unopened_only c.in-Ok.database _ (c.in-Ok.ensures.found t) c.masters_of.result c.masters_of.ensures.complete
    c.masters_of.ensures.only_refused (Kept × List Master) c.in-Err-masters_of.stop c.in-Err-masters_of.is why cause

pub returns-in-Ok-masters_of-clause-complete : goal.returns-in-Ok-masters_of-clause-complete
returns-in-Ok-masters_of-clause-complete g c = λ t f masters is opens.
    opened_same c.in-Ok.database _ (c.in-Ok.ensures.found t) c.masters_of.result c.masters_of.ensures.complete
    c.masters_of.ensures.only_refused c.in-Ok-masters_of.masters c.in-Ok-masters_of.is f masters is opens

pub returns-in-Ok-masters_of-clause-only_refused : goal.returns-in-Ok-masters_of-clause-only_refused
returns-in-Ok-masters_of-clause-only_refused g c = λ t why cause.
    opened_only c.in-Ok.database _ (c.in-Ok.ensures.found t) c.masters_of.result c.masters_of.ensures.complete
    c.masters_of.ensures.only_refused c.in-Ok-masters_of.masters c.in-Ok-masters_of.is why cause

pub returns-in-Err-clause-refused_stays : goal.returns-in-Err-clause-refused_stays
returns-in-Err-clause-refused_stays g c = λ t why e.
    let is = c.in-Err.is ∙ ap Err (stop_same _ _ _ e) in
    settled_stays _ _ (c.recover.ensures.refused_keeps t why is) (c.recover.ensures.refused_settled t why is)

pub returns-in-Err-masters_of-clause-refused_stays : goal.returns-in-Err-masters_of-clause-refused_stays
returns-in-Err-masters_of-clause-refused_stays g c = λ t why e.
    kept_stays c.in-Ok.database (g.D.Disk.view c.args.disk.now).seen (g.D.Disk.view c.recover.new.disk)
    (c.in-Ok.ensures.found t) (c.what_is_kept_is_recovered.ensures _ (c.in-Ok.ensures.on t))

pub returns-in-Err-clause-stops : goal.returns-in-Err-clause-stops
returns-in-Err-clause-stops g c = unopened_stops c.in-Err.stop c.in-Err.ensures.stops

pub returns-in-Err-masters_of-clause-stops : goal.returns-in-Err-masters_of-clause-stops
returns-in-Err-masters_of-clause-stops g c = masters_stop (place_kept c.in-Ok.database) c.in-Ok.database.control.stash
    c.in-Err-masters_of.stop c.masters_of.result c.in-Err-masters_of.is c.masters_of.ensures.refused
