use Rattle.std.proofs.Common.{◌≡◌, ◌-◌, ◌+◌, ◌∙◌, ap, subst, arith}
use Rattle.std.specs.Prelude.{IfSome, Contains}
use Rattle.princ_rows.specs.declared.entries.Logged.{Logged}
use Rattle.update_log.specs.Logs.{Journal}
use Rattle.update_log.proofs.Spelled.{found}
use Rattle.update_log.proofs.log.Log.find.Goals as goal

pub returns-clause-some : goal.returns-clause-some
returns-clause-some c =
    let log = c.self.invariant.0 in
    let held = c.self.inside.held.items in
    let first = c.index.result in
    let here : first.now.entry.point.sno ≡ log.first + 0 =
    ap (λ (e : Logged). e.entry.point.sno) c.index.ensures ∙ log.run.serials 0 first.now log.some in
    let at : c.args.sno ≡ log.first + (c.args.sno - first.now.entry.point.sno) =
    omega (arith, here, c.if-sno-first.false) in
    subst (λ (j : Journal). IfSome c.get.result (λ e. Contains j.held e.now × (e.now.entry.point.sno ≡ c.args.sno)))
    c.self.view_is
    (found held log.first (c.args.sno - first.now.entry.point.sno) c.args.sno c.get.result c.get.ensures.item
    log.run.serials at)
