use Rattle.std.proofs.Common.{◌≡◌, ◌+◌, ◌++◌, drop, take}
use Rattle.std.specs.List.{AllZip}
use Rattle.master_keys.specs.Adding.{aux_keys}
use Rattle.master_keys.specs.Chain.{IsAuxOf}
use Rattle.master_keys.proofs.adding.aux_keys.Given as goal

abbrev pub invariant-loop-at : goal.invariant-loop-at
invariant-loop-at l = record {
  keys : l.list.items ++ aux_keys l.key l.random (l.place + l.at) (drop l.at l.masters)
      ≡ aux_keys l.key l.random l.place l.masters;
  are : AllZip (IsAuxOf l.key) l.list.items (take l.at l.masters);
}
