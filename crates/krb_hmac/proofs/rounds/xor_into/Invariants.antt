use Rattle.std.proofs.Common.{◌≡◌, ◌++◌, length, take, drop}
use Rattle.krb_hmac.specs.Pbkdf2.{xor_bytes}
use Rattle.krb_hmac.proofs.rounds.xor_into.Given as goal

-- the bytes done, and what is left of both, make the whole
abbrev pub invariant-loop-i : goal.invariant-loop-i
invariant-loop-i g l = (length l.sum ≡ g.row.N)
    × (take l.i l.sum ++ xor_bytes (drop l.i l.sum) (drop l.i l.addend) ≡ xor_bytes l.fn.sum l.addend)
