use Rattle.kprop_runs.proofs.Completing.{done_or_out, rounds_end}
use Rattle.kprop_runs.proofs.laws.runs_complete.Goals as goal

pub returns-clause-done : goal.returns-clause-done
returns-clause-done g c = λ o found w taken told out first last result. done_or_out o found w taken
    (g.D.Disk.view c.args.«_before».now) (g.D.Disk.view c.args.«_after».now) told out first last result

pub returns-clause-short : goal.returns-clause-short
returns-clause-short g c = rounds_end
