use Rattle.std.proofs.Common.{◌≡◌, ◌+◌, ◌++◌, drop, take}
use Rattle.std.specs.List.{AllZip}
use Rattle.master_keys.specs.Rewrapping.{Holds, with_keys}
use Rattle.master_keys.proofs.rewrapping.wrap_items.Given as goal

abbrev pub invariant-loop-at : goal.invariant-loop-at
invariant-loop-at l = record {
  items : l.out.items ++ with_keys l.master l.random (l.place + l.at) (drop l.at l.items) (drop l.at l.keys)
      ≡ with_keys l.master l.random l.place l.items l.keys;
  holds : AllZip (Holds l.master) l.out.items (take l.at l.keys);
}
