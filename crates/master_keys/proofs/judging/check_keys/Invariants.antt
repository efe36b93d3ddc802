use Rattle.std.proofs.Common.{drop, reverse}
use Rattle.std.specs.List.{AllZip}
use Rattle.master_keys.specs.Chain.{IsKeyOf}
use Rattle.master_keys.proofs.judging.check_keys.Given as goal

abbrev pub invariant-loop-item : goal.invariant-loop-item
invariant-loop-item l = record {
  ok : AllZip (IsKeyOf l.newest) (drop l.item-index l.keys) (reverse l.left)
      → AllZip (IsKeyOf l.newest) l.keys (reverse l.masters);
  only : AllZip (IsKeyOf l.newest) l.keys (reverse l.masters)
      → AllZip (IsKeyOf l.newest) (drop l.item-index l.keys) (reverse l.left);
}
