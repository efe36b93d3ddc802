use Rattle.std.proofs.lemmas.Result.{on_ok_weaker}
use Rattle.store_switches.proofs.Ended.{erased_all, nothing_recovers}
use Rattle.store_switches.proofs.ending.end_chosen.Goals as goal

pub returns-clause-none : goal.returns-clause-none
returns-clause-none g c tells = on_ok_weaker c.erase.result nothing_recovers (c.erase.ensures.nothing tells)

pub returns-clause-crash : goal.returns-clause-crash
returns-clause-crash g c = record {
  told = λ tells. erased_all c.args.control.now c.holds_files.ensures.image c.holds_files.ensures.log (c.requires tells)
      (c.erase.ensures.crash.told tells);
}
