use Rattle.std.proofs.Common.{subst, sym}
use Rattle.kdb_base.specs.Key.{Key}
use Rattle.master_keys.specs.Wrapping.{Unwraps}
use Rattle.master_keys.proofs.Chains.{same_blob}
use Rattle.master_keys.proofs.Errors.{handed_on_err}
use Rattle.master_keys.proofs.OtherKeys.{not_other, not_same}
use Rattle.master_keys.proofs.judging.check_aux.Goals as goal

pub returns-in_err-opened-clause-only : goal.returns-in_err-opened-clause-only
returns-in_err-opened-clause-only c a =
    handed_on_err c.from_residual.result _ c.from_residual.ensures.1
    (c.in_err-opened.ensures.only c.args.newest.now (rw c.new.ensures (same_blob _ _ c.as_slice.ensures a.unwraps)))

pub returns-then-ne-clause-only : goal.returns-then-ne-clause-only
returns-then-ne-clause-only c a =
    absurd (not_same c.in_ok-opened.opened c.args.newest.now c.ne.result c.ne.ensures c.if-ne.true
    (c.in_ok-opened.ensures.only c.args.newest.now (rw c.new.ensures (same_blob _ _ c.as_slice.ensures a.unwraps))))

pub returns-clause-ok : goal.returns-clause-ok
returns-clause-ok c =
    let same = not_other c.in_ok-opened.opened c.args.newest.now c.ne.result c.ne.ensures c.if-ne.false in
    record {
      version = c.if-aux-older.false;
      unwraps = subst (λ (k : Key). Unwraps c.args.older.now.key c.args.aux.now.etype c.args.aux.now.wrapped k) same
          (subst (λ (m : Key). Unwraps m c.args.aux.now.etype c.args.aux.now.wrapped c.in_ok-opened.opened)
          c.new.ensures (same_blob _ _ (sym c.as_slice.ensures) c.in_ok-opened.ensures.ok));
    }
