use Rattle.kdb_disk.proofs.Runs.{at_end}
use Rattle.run_events.proofs.Ending.{on_end_down}
use Rattle.run_events.proofs.laws.runs_are_events.Goals as goal

pub returns-clause-moments : goal.returns-clause-moments
returns-clause-moments g c = λ s words before after o result files b run left.
    c.runs_come.ensures.any s words before o files b (run.moments.each files left)

pub returns-clause-images : goal.returns-clause-images
returns-clause-images g c = λ s words before after o result files b run image.
    c.runs_come.ensures.any s words before o files b (at_end run.moments files image)

pub returns-clause-rests : goal.returns-clause-rests
returns-clause-rests g c = λ s words before after o result b run.
    record {
      history = b.rests.history;
      each = λ files image. c.runs_come.ensures.any s words before o files b (at_end run.moments files image);
    }

pub returns-clause-ended : goal.returns-clause-ended
returns-clause-ended g c = λ tells s words before after o result end b run same is.
    let now = g.D.Disk.view c.args.«_after».now in
    let read = g.met.D.Disk.reads_as_image c.args.«_after».now tells in
    on_end_down result s (g.D.Disk.view c.args.«_before».now) now after.taken after.draws end b.rests.history same read
    (c.runs_come.ensures.any s words before o now.seen b (at_end run.moments now.seen read)) (run.ended end is)
