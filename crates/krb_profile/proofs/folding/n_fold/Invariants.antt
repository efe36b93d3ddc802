use Rattle.std.proofs.Common.{◌≡◌, ◌+◌, ◌-◌, ◌*◌, ◌^◌, ◌≤◌}
use Rattle.krb_profile.specs.Bytes.{number}
use Rattle.krb_profile.specs.NFold.{residue, sum_of_pieces}
use Rattle.krb_profile.proofs.folding.n_fold.Given as goal

-- the bytes and the carry are the residue of the pieces so far
abbrev pub invariant-loop-i : goal.invariant-loop-i
invariant-loop-i l = (number l.into + l.carry ≡ residue (2 ^ (8 * l.len) - 1) (sum_of_pieces l.text l.len l.i))
    × (l.carry ≤ 1)
