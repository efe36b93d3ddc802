use Rattle.std.proofs.Common.{refl, sym, ap, subst, arith}
use Rattle.std.proofs.lemmas.Result.{on_ok_weaker}
use Rattle.princ_rows.specs.declared.entries.Logged.{Logged}
use Rattle.update_log.specs.Logs.{Journal, marker_of, begun}
use Rattle.update_log.specs.Moments.{IsMarker, HasLog}
use Rattle.update_log.proofs.making.NewLog.write.Goals as goal

pub returns-clause-log : goal.returns-clause-log
returns-clause-log g c tells =
    let n = c.self.inside in
    let marker : Logged = marker_of n.base in
    let written : IsMarker n.base n.size n.block marker n.body.items = record {
      some_size = omega (arith, c.self.invariant.some_size.0);
      long = c.self.invariant.long;
      is = refl;
      spelled = c.self.invariant.spelled;
    } in
    on_ok_weaker c.write_first.result
    (λ log. subst (λ (j : Journal). HasLog j (g.D.Disk.view c.write_first.new.disk)) c.self.view_is log)
    (c.write_first.ensures.ok tells n.base n.size n.block marker
    (subst (IsMarker n.base n.size n.block marker) (sym c.deref.ensures.value) written))
