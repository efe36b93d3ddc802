use Rattle.std.proofs.Common.{List, subst, sym}
use Rattle.std.specs.List.{All}
use Rattle.master_keys.specs.Rewrapping.{HoldsOne}
use Rattle.princ_keys.specs.declared.keys.KeyItem.{KeyItem}
use Rattle.row_keys.proofs.Judgements.{keys_under}
use Rattle.row_keys.proofs.sound.keys_open.Goals as goal

pub returns-in-Some-clause-yes : goal.returns-in-Some-clause-yes
returns-in-Some-clause-yes c e = record {
  master = c.in-Some.master.now;
  named = sym c.in-Some.ensures;
  keys = subst (λ (ks : List KeyItem). All (HoldsOne c.in-Some.master.now) ks) c.as_slice.ensures
      (c.items_open.ensures.yes e);
}

pub returns-in-Some-clause-no : goal.returns-in-Some-clause-no
returns-in-Some-clause-no c e o =
    c.items_open.ensures.no e
    (subst (λ (ks : List KeyItem). All (HoldsOne c.in-Some.master.now) ks) (sym c.as_slice.ensures)
    (keys_under c.args.ring.now c.args.princ.now c.in-Some.master.now (sym c.in-Some.ensures) o))
