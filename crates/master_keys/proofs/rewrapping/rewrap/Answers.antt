use Rattle.std.proofs.Common.{subst, sym}
use Rattle.std.specs.List.{All}
use Rattle.kdb_base.specs.Key.{Key}
use Rattle.master_keys.specs.Rewrapping.{HoldNotAll, HoldsOne}
use Rattle.master_keys.proofs.rewrapping.rewrap.Goals as goal

pub returns-clause-complete : goal.returns-clause-complete
returns-clause-complete c all = c.rewrap_by.ensures.complete
    (subst (λ (k : Key). All (HoldsOne k) c.args.princ.now.keys) (sym c.new-old.ensures) all)

pub returns-clause-wrong : goal.returns-clause-wrong
returns-clause-wrong c e =
    subst (λ (k : Key). HoldNotAll k c.args.princ.now.keys) c.new-old.ensures (c.rewrap_by.ensures.wrong e)
