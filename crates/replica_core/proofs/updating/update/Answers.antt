use Rattle.std.proofs.Common.{ap, ◌∙◌}
use Rattle.std.proofs.lemmas.Result.{on_ok_weaker}
use Rattle.kdb_places.specs.Places.{point_of}
use Rattle.replica_core.proofs.Moments.{nothing_leaves}
use Rattle.replica_core.proofs.Ways.{updated_point}
use Rattle.replica_steps.specs.Judging.{updated}
use Rattle.store_files.specs.Kept.{place_kept}
use Rattle.replica_core.proofs.updating.update.Goals as goal

pub returns-in-Err-clause-crash : goal.returns-in-Err-clause-crash
returns-in-Err-clause-crash g c =
    let p = place_kept c.args.database.now in
    record {
      told = λ tells. nothing_leaves c.args.database.now (updated p.size c.args.op.now c.args.time p)
          (g.D.Disk.view c.args.disk.now) (c.requires.on tells);
    }

pub returns-then-fits-clause-point : goal.returns-then-fits-clause-point
returns-then-fits-clause-point g c =
    let p = place_kept c.args.database.now in
    on_ok_weaker c.update_behind.result
    (λ is. ap point_of is ∙ updated_point p.size c.in-Ok.copy c.args.time p c.holds_size.ensures c.holds_size.ensures)
    c.update_behind.ensures.place

pub returns-clause-point : goal.returns-clause-point
returns-clause-point g c =
    let p = place_kept c.args.database.now in
    on_ok_weaker c.update_anew.result
    (λ is. ap point_of is ∙ updated_point p.size c.in-Ok.copy c.args.time p c.holds_size.ensures c.holds_size.ensures)
    c.update_anew.ensures.place
