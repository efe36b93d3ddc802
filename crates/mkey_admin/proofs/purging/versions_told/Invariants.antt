use Rattle.std.proofs.Common.{◌≡◌, map, take}
use Rattle.mkey_admin.specs.Plans.{grounds_of}
use Rattle.mkey_admin.specs.Told.{version_told}
use Rattle.mkey_admin.proofs.purging.versions_told.Given as goal

-- the versions of before are told
abbrev pub invariant-loop-at : goal.invariant-loop-at
invariant-loop-at l = l.rows.items ≡ map (version_told (grounds_of l.fn.given l.fn.activations)) (take l.at l.masters)
