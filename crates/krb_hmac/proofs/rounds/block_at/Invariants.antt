use Rattle.std.proofs.Common.{◌≡◌, ℕ, ◌-◌, List}
use Rattle.std.specs.List.{fold}
use Rattle.krb_hmac.specs.Hmac.{hmac_by}
use Rattle.krb_hmac.specs.States.{IsKeyed}
use Rattle.krb_hmac.specs.Pbkdf2.{chain, xor_bytes}
use Rattle.krb_hmac.proofs.rounds.block_at.Given as goal

-- the sum so far, with the rounds to come, is the whole sum
abbrev pub invariant-loop : goal.invariant-loop
invariant-loop g l =
    let hash = g.H.BlockHash in
    (password : List ℕ) → IsKeyed hash.holds hash.hash hash.block l.keyed password →
    fold xor_bytes l.sum (chain (hmac_by hash.hash hash.block password) l.last (l.count - l.counter))
    ≡ fold xor_bytes l.initial.sum (chain (hmac_by hash.hash hash.block password) l.initial.last (l.count - 1))
