use Rattle.std.proofs.Common.{refl, sym, subst, arith}
use Rattle.kdb_disk.proofs.Differing.{started_differs}
use Rattle.kdb_disk.proofs.Runs.{started}
use Rattle.kdb_disk.specs.Moments.{Differs}
use Rattle.kdb_disk.specs.View.{IsAfter}
use Rattle.princ_rows.specs.declared.entries.Logged.{Logged}
use Rattle.update_log.specs.Logs.{marker_of}
use Rattle.update_log.specs.Moments.{IsMarker}
use Rattle.update_log.proofs.log.Log.make.Goals as goal

pub returns-in-Err-clause-crash : goal.returns-in-Err-clause-crash
returns-in-Err-clause-crash g c = record {
  told = λ tells. let old = g.D.Disk.view c.args.disk.now in
      started old (IsAfter (Differs c.args.file) old) (started_differs c.args.file old);
}

pub returns-in-Err-queue_of-clause-crash : goal.returns-in-Err-queue_of-clause-crash
returns-in-Err-queue_of-clause-crash g c = record {
  told = λ tells. let old = g.D.Disk.view c.args.disk.now in
      started old (IsAfter (Differs c.args.file) old) (started_differs c.args.file old);
}

pub returns-in-Ok-write_first-clause-log : goal.returns-in-Ok-write_first-clause-log
returns-in-Ok-write_first-clause-log g c tells =
    let marker : Logged = marker_of c.args.base in
    let written : IsMarker c.args.base c.args.size c.args.block marker c.in-Ok.body.items = record {
      some_size = omega (arith, c.requires.size.0);
      long = c.in-Ok.ensures.long;
      is = refl;
      spelled = c.in-Ok.ensures.spelled;
    } in
    c.in-Ok-write_first.ensures.ok tells c.args.base c.args.size c.args.block marker
    (subst (IsMarker c.args.base c.args.size c.args.block marker) (sym c.deref.ensures.value) written)
