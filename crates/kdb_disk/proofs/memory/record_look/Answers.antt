use Rattle.std.proofs.Common.{List, sym, subst}
use mathlib.Core.Logic.{inl, inr}
use Rattle.kdb_disk.specs.declared.record.Call.{Call}
use Rattle.kdb_disk.specs.View.{Looks}
use Rattle.kdb_disk.specs.Memory.{view_of, IsKept}
use Rattle.kdb_disk.proofs.Records.{look_looks, looks_same}
use Rattle.kdb_disk.proofs.Kept.{either, kept_looked}
use Rattle.kdb_disk.proofs.memory.record_look.Goals as goal

pub returns-clause-looks : goal.returns-clause-looks
returns-clause-looks c start =
    let old = c.args.calls.now.items in
    either c.record.result c.record.ensures.call c.record.ensures.same
    (λ is. subst (λ (calls : List Call). Looks (view_of start old) (view_of start calls)) (sym is)
    (look_looks start old))
    (λ is. subst (λ (calls : List Call). Looks (view_of start old) (view_of start calls)) (sym is)
    (looks_same (view_of start old)))

pub returns-clause-kept : goal.returns-clause-kept
returns-clause-kept c start files kept =
    let old = c.args.calls.now.items in
    either c.record.result c.record.ensures.call c.record.ensures.same
    (λ is. subst (IsKept start files) (sym is) (kept_looked start files old kept))
    (λ is. subst (IsKept start files) (sym is) kept)

pub returns-clause-at_most : goal.returns-clause-at_most
returns-clause-at_most c =
    either c.record.result c.record.ensures.call c.record.ensures.same (λ is. inl is) (λ is. inr is)
