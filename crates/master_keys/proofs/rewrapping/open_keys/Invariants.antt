use Rattle.std.proofs.Common.{◌≡◌, List, take}
use Rattle.std.specs.List.{AllZip}
use Rattle.kdb_base.specs.Key.{Key}
use Rattle.master_keys.specs.Rewrapping.{Holds}
use Rattle.master_keys.proofs.rewrapping.open_keys.Given as goal

abbrev pub invariant-loop-item : goal.invariant-loop-item
invariant-loop-item l = record {
  ok : AllZip (Holds l.master) (take l.item-index l.items) l.keys.items;
  only : (all : List Key) → AllZip (Holds l.master) l.items all → take l.item-index all ≡ l.keys.items;
}
