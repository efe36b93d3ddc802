use Rattle.std.proofs.Common.{◌<◌, sym, subst, arith}
use Rattle.kdb_base.specs.declared.moments.Point.{Point}
use Rattle.princ_rows.specs.declared.entries.Logged.{Logged}
use Rattle.update_log.specs.Logs.{marker_of}
use Rattle.kdb_store.proofs.committing.next_in.Goals as goal

pub overflow_add-result : goal.overflow_add-result
overflow_add-result c =
    let d : Logged = marker_of c.held-last.result.1 in
    let below = subst (λ (q : Point). q.sno < 4294967295) (sym (c.held-last.ensures.last d)) (c.requires d) in
    omega (arith, below)
