-- Blocks, told in 64 bits.
use Rattle.std.proofs.Common.{◌≡◌, ℕ, ◌+◌, ◌*◌, ◌/◌, ◌≤◌, arith}
use Rattle.std.proofs.lemmas.Bool.{le-leb}
use Rattle.entry_lengths.specs.Resets.{block_over}
use Rattle.kdb_plain.specs.Lengths.{in_64_bits}

-- an entry that does not fit
pub longer_block : (block len n : ℕ) → len ≡ in_64_bits n → block ≤ len
    → in_64_bits ((len / 2048 + 1) * 2048) ≡ in_64_bits (block_over block n)
longer_block block len n is le = rw (le-leb block n (omega (arith, is, le))) (omega (arith, is))
