use Rattle.run_events.proofs.Completing.{not_too_long, nothing_refused, one_added, one_ended, one_filtered}
use Rattle.run_events.proofs.Completing.{one_loaded, one_made, one_renewed, run_done, run_ended, text_told}
use Rattle.run_events.proofs.laws.runs_complete.Goals as goal

pub returns-clause-done : goal.returns-clause-done
returns-clause-done g c = λ before after o first last result. run_done before after o
    (g.D.Disk.view c.args.«_before».now) (g.D.Disk.view c.args.«_after».now) first last result

pub returns-clause-unfailed : goal.returns-clause-unfailed
returns-clause-unfailed g c = λ before after o first last result. run_ended before after o
    (g.D.Disk.view c.args.«_before».now) (g.D.Disk.view c.args.«_after».now) first last result

pub returns-clause-lines : goal.returns-clause-lines
returns-clause-lines g c = nothing_refused

pub returns-clause-tells : goal.returns-clause-tells
returns-clause-tells g c = text_told

pub returns-clause-makes : goal.returns-clause-makes
returns-clause-makes g c = one_made

pub returns-clause-ends : goal.returns-clause-ends
returns-clause-ends g c = one_ended

pub returns-clause-loads : goal.returns-clause-loads
returns-clause-loads g c = one_loaded

pub returns-clause-adds : goal.returns-clause-adds
returns-clause-adds g c = one_added

pub returns-clause-renews : goal.returns-clause-renews
returns-clause-renews g c = one_renewed

pub returns-clause-filters : goal.returns-clause-filters
returns-clause-filters g c = one_filtered

pub returns-clause-short : goal.returns-clause-short
returns-clause-short g c = not_too_long
