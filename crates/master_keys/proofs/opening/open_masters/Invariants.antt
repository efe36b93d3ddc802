use Rattle.std.proofs.Common.{◌≡◌, List, take}
use Rattle.std.specs.List.{AllZip}
use Rattle.kdb_base.specs.declared.versions.Master.{Master}
use Rattle.master_keys.specs.Chain.{IsKeyOf}
use Rattle.master_keys.proofs.opening.open_masters.Given as goal

abbrev pub invariant-loop-item : goal.invariant-loop-item
invariant-loop-item l = record {
  ok : AllZip (IsKeyOf l.newest) (take l.item-index l.keys) l.masters.items;
  only : (all : List Master) → AllZip (IsKeyOf l.newest) l.keys all → take l.item-index all ≡ l.masters.items;
}
