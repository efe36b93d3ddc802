use Rattle.std.proofs.Common.{◌≡◌, ◌+◌, ◌-◌, ◌*◌, ◌^◌, ◌≤◌, length, take, drop}
use Rattle.krb_profile.specs.Bytes.{number}
use Rattle.krb_profile.proofs.folding.add.Given as goal

-- the bytes from here on are the sum of both, less what is carried; those before are as they were
abbrev pub invariant-loop-i : goal.invariant-loop-i
invariant-loop-i l = (number (drop l.i l.sum) + 2 ^ (8 * (length l.sum - l.i)) * l.carry
    ≡ number (drop l.i l.fn.sum) + number (drop l.i l.addend) + l.carried)
    × (take l.i l.sum ≡ take l.i l.fn.sum)
    × (l.carry ≤ 1)
