use Rattle.std.proofs.Common.{◌≡◌, ℕ, ◌+◌, ◌-◌, ◌*◌, ◌<◌, ◌≤◌, List, ◌++◌, length, take}
use Rattle.krb_hmac.specs.Hmac.{hmac_by}
use Rattle.krb_hmac.specs.States.{IsKeyed}
use Rattle.krb_hmac.specs.Pbkdf2.{blocks}
use Rattle.krb_hmac.proofs.rounds.pbkdf2_by.Given as goal

-- the text begins with the blocks so far, as far as there is room for them
abbrev pub invariant-loop-start : goal.invariant-loop-start
invariant-loop-start g l = (length l.into ≡ length l.fn.into) × (l.number ≤ l.start) × (l.start ≡ l.number * g.row.N)
    × (l.start < length l.into + g.row.N)
    × ((password : List ℕ) → IsKeyed g.H.BlockHash.holds g.H.BlockHash.hash g.H.BlockHash.block l.keyed password →
    take l.start l.into ≡ take (length l.into)
    (blocks (hmac_by g.H.BlockHash.hash g.H.BlockHash.block password) (l.prefix ++ l.salt) l.count l.number))

abbrev pub decreases-loop-start : goal.decreases-loop-start
decreases-loop-start g l = length l.into - l.start
