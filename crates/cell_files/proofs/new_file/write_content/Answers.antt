use Rattle.std.proofs.Common.{length}
use Rattle.std.proofs.lemmas.Result.{on_ok_weaker}
use Rattle.kdb_disk.proofs.Runs.{started}
use Rattle.kdb_disk.proofs.Differing.{started_differs, wrote_more, differs_run}
use Rattle.cell_files.specs.Building.{text_units}
use Rattle.cell_files.proofs.Units.{begun_long, begun_more}
use Rattle.cell_files.proofs.new_file.write_content.Goals as goal

pub returns-in_err-write_at-clause-moments : goal.returns-in_err-write_at-clause-moments
returns-in_err-write_at-clause-moments g c tells =
    let v = g.D.Disk.view c.args.disk.now in
    wrote_more (started v _ (started_differs c.args.file v)) (c.write_at.ensures.crash tells)
    (c.write_at.ensures.time tells)

pub write_units-requires-clause-begun : goal.write_units-requires-clause-begun
write_units-requires-clause-begun g c tells =
    begun_long c.args.file c.args.first.now (g.D.Disk.view c.args.disk.now).seen
    (g.D.Disk.view c.write_at.new.self).seen (c.requires.empty tells) (c.in_ok-write_at.ensures.seen tells)

pub returns-clause-moments : goal.returns-clause-moments
returns-clause-moments g c tells =
    let v = g.D.Disk.view c.args.disk.now in
    differs_run (wrote_more (started v _ (started_differs c.args.file v)) (c.write_at.ensures.crash tells)
    (c.write_at.ensures.time tells)) (c.write_units.ensures.moments tells)

pub returns-clause-seen : goal.returns-clause-seen
returns-clause-seen g c tells =
    on_ok_weaker c.write_units.result (λ wrote. begun_more c.args.file c.args.first.now
    (text_units (length c.args.first.now) c.args.texts.now) (g.D.Disk.view c.args.disk.now).seen
    (g.D.Disk.view c.write_at.new.self).seen _ (c.in_ok-write_at.ensures.seen tells) wrote)
    (c.write_units.ensures.seen tells)
