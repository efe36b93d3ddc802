use Rattle.std.proofs.Common.{◌≡◌, take}
use Rattle.mkey_admin.specs.Told.{counts_of}
use Rattle.mkey_admin.proofs.counting.counts_of.Given as goal

-- the records of before are counted
abbrev pub invariant-loop-row : goal.invariant-loop-row
invariant-loop-row l =
    l.counts.items ≡ counts_of l.fn.given.realm.now (take l.row-index l.fn.given.rows.now.princs) l.fn.given.masters.now
