use Rattle.std.proofs.Common.{rules, sym, subst}
use Rattle.princ_record.specs.declared.princs.Princ.{Princ}
use Rattle.rekey_work.specs.Works.{IsTaking}
use Rattle.rekey_work.proofs.ItemLemmas.{taking_of}
use Rattle.rekey_work.proofs.taking.take.Goals as goal

pub new-requires : goal.new-requires
new-requires c = subst (λ (p : Princ). IsTaking (record {
  princ = p;
  version = c.args.active;
  old = c.in-Some-Some.old;
  fresh = c.in-Some-Some.fresh;
})) (sym c.in_ok-princ.ensures)
    (taking_of c.args.masters.now c.args.princ.now c.args.active c.in-Some-Some.old c.in-Some-Some.fresh
    c.requires.spelled c.requires.ordinary c.requires.few c.requires.opened
    c.requires.numbered c.if-active-princ.false (search rules))
