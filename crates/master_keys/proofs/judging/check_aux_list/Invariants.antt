use Rattle.std.proofs.Common.{drop}
use Rattle.std.specs.List.{AllZip}
use Rattle.master_keys.specs.Chain.{IsAuxOf}
use Rattle.master_keys.proofs.judging.check_aux_list.Given as goal

abbrev pub invariant-loop-aux : goal.invariant-loop-aux
invariant-loop-aux l = record {
  ok : AllZip (IsAuxOf l.newest) (drop l.aux-index l.list) l.left → AllZip (IsAuxOf l.newest) l.list l.older;
  only : AllZip (IsAuxOf l.newest) l.list l.older → AllZip (IsAuxOf l.newest) (drop l.aux-index l.list) l.left;
}
