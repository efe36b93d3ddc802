use Rattle.std.proofs.Common.{subst, sym}
use Rattle.std.specs.Prelude.{Result, OnOk}
use Rattle.kadm_top.proofs.Creating.{made_on}
use Rattle.kadm_top.proofs.making.make_files.Goals as goal
use Rattle.kadm_top.proofs.making.make_files.Goals.{in-Ok, in-Err}
use Rattle.kadm_top.specs.Run.{IsMade}
use Rattle.kdb_base.specs.declared.outcomes.Stop.{Stop}

pub returns-clause-made : goal.returns-clause-made
returns-clause-made g c = λ tells. elim c.match-create.branch [
  | in-Ok w ↦ subst (λ (r : Result (Unit {0}) Stop). OnOk r
      (IsMade c.args.spec.now c.args.moment c.args.random.now (g.D.Disk.view c.create.new.disk))) (sym w.result-is)
      (made_on _ c.args.spec.now c.args.moment c.args.random.now (w.in-Ok.ensures.on tells)
      (w.what_is_kept_is_recovered.ensures _ (w.in-Ok.ensures.on tells)) w.in-Ok.ensures.place w.in-Ok.ensures.control
      (w.in-Ok.ensures.written tells))
  | in-Err w ↦ subst (λ (r : Result (Unit {0}) Stop). OnOk r
      (IsMade c.args.spec.now c.args.moment c.args.random.now (g.D.Disk.view c.create.new.disk))) (sym w.result-is) tt
]
