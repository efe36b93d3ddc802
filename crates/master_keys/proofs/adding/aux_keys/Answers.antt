use Rattle.std.proofs.Common.{subst}
use Rattle.std.specs.List.{AllZip}
use Rattle.std.proofs.lemmas.List.{take_all}
use Rattle.master_keys.specs.Chain.{IsAuxOf}
use Rattle.master_keys.proofs.Added.{aux_keys_all, aux_keys_more}
use Rattle.master_keys.proofs.Rewrapped.{zip_more_right}
use Rattle.master_keys.proofs.adding.aux_keys.Goals as goal

pub loop-at-preserved : goal.loop-at-preserved
loop-at-preserved c =
    let confounder = c.confounder-confounder.ensures in
    record {
      keys = aux_keys_more c.args.key.now c.args.random.now c.args.place c.args.masters.now c.loop-at.at
          c.index-masters-at.result c.in_ok-aux.aux c.loop-at.list.items _ _
          c.loop-at-test.true c.index-masters-at.is
          (rw confounder at c.in_ok-aux.ensures.aux) c.in_ok-push.ensures.items c.loop-at.invariant.keys;
      are = rw c.in_ok-push.ensures.items
          (zip_more_right (IsAuxOf c.args.key.now) c.loop-at.list.items c.args.masters.now c.loop-at.at
          c.in_ok-aux.aux c.index-masters-at.result c.loop-at-test.true c.index-masters-at.is c.loop-at.invariant.are
          c.in_ok-aux.ensures.is);
    }

pub returns-clause-keys : goal.returns-clause-keys
returns-clause-keys c =
    aux_keys_all c.args.key.now c.args.random.now c.args.place c.args.masters.now c.loop-at.at c.loop-at.list.items _
    c.loop-at-test.false c.loop-at.invariant.keys

pub returns-clause-are : goal.returns-clause-are
returns-clause-are c =
    subst (λ masters. AllZip (IsAuxOf c.args.key.now) c.loop-at.list.items masters)
    (take_all c.loop-at.at c.args.masters.now c.loop-at-test.false) c.loop-at.invariant.are
