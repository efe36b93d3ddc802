-- Lemmas on the sum of the pieces.
use Rattle.std.proofs.Common.{◌≡◌, ℕ, zero, suc, ◌+◌, ◌-◌, ◌*◌, ◌/◌, ◌^◌, ◌<◌, ◌≤◌}
use Rattle.std.proofs.Common.{sym, inl, inr, List, length, get_or, add-one, arith}
use Rattle.std.specs.Int.{bytes_high_first}
use Rattle.std.proofs.lemmas.Bool.{cases_lt}
use Rattle.std.proofs.lemmas.Nat.{pow_pos}
use Rattle.krb_profile.specs.Bytes.{number}
use Rattle.krb_profile.specs.NFold.{number_of, copied_bit, sum_of_pieces, residue, least_common_multiple, n_folded}
use Rattle.krb_profile.proofs.Numbers.{number-lt, weight-suc, bytes_high_first-number}
use Rattle.krb_profile.proofs.Bits.{number_of-lt}
use Rattle.krb_profile.proofs.Cyclic.{copied_bit-lt}
use Rattle.krb_profile.proofs.Residues.{residue-add, residue-le}

-- n bytes hold 255 at least
pub weight-large : (n : ℕ) → 1 ≤ n → 256 ≤ 2 ^ (8 * n)
weight-large zero some = absurd (omega arith)
weight-large (suc n) some =
    let positive = pow_pos (8 * n) in
    rw (weight-suc n) (omega (arith, positive))

-- what the sum holds, with the carry, after one more piece
pub one_more_piece : (text old new piece : List ℕ) (n many carry result : ℕ) → 1 ≤ n →
    length new ≡ n → ((k : ℕ) → get_or new k 0 < 256) →
    number piece ≡ number_of (copied_bit text) (8 * (many * n)) (8 * n) → result ≤ 1 →
    number old + carry ≡ residue (2 ^ (8 * n) - 1) (sum_of_pieces text n many) →
    number new + 2 ^ (8 * n) * result ≡ number old + number piece + carry →
    number new + result ≡ residue (2 ^ (8 * n) - 1) (sum_of_pieces text n (many + 1))
unfolding sum_of_pieces
one_more_piece text old new piece n many carry result some new_len new_bytes is_piece small so_far total =
    let large = weight-large n some in
    let m = 2 ^ (8 * n) - 1 in
    let new_below : number new < 2 ^ (8 * n) = rw new_len at (number-lt new new_bytes) in
    let piece_below : number piece < 2 ^ (8 * n) =
    rw is_piece (number_of-lt (copied_bit text) (8 * (many * n)) (8 * n) (copied_bit-lt text)) in
    let carried : number new + (m + 1) * result ≡ residue m (sum_of_pieces text n many) + number piece =
    let all : m + 1 ≡ 2 ^ (8 * n) = omega arith in
    rw all (omega (arith, so_far, total)) in
    let added = residue-add m (sum_of_pieces text n many) (number piece) (number new) result
    (omega arith) (omega arith) (omega arith) small carried in
    rw (add-one many, ← is_piece) added

-- with nothing more to add, the bytes are the n-fold
pub last_carry : (text old new : List ℕ) (n many carry result : ℕ) → 1 ≤ n → length new ≡ n
    → ((k : ℕ) → get_or new k 0 < 256) →
    many ≡ least_common_multiple (length text) n / n → result ≤ 1 →
    number old + carry ≡ residue (2 ^ (8 * n) - 1) (sum_of_pieces text n many) →
    number new + 2 ^ (8 * n) * result ≡ number old + 0 + carry →
    new ≡ n_folded text n
unfolding n_folded
last_carry text old new n many carry result some new_len new_bytes all small so_far total =
    let large = weight-large n some in
    let few = residue-le (2 ^ (8 * n) - 1) (sum_of_pieces text n many) (omega arith) in
    let folded : number new ≡ residue (2 ^ (8 * n) - 1) (sum_of_pieces text n many) = elim (cases_lt result 1) [
      | inl none ↦
          let is_none : result ≡ 0 = omega arith in
          let same = rw is_none at total in
          omega (arith, same, so_far)
      | inr one ↦
          let is_one : result ≡ 1 = omega arith in
          let same = rw is_one at total in
          absurd (omega (arith, same, so_far, few, large))
    ] in
    let alone : 0 * 2 ^ (8 * length new) + number new ≡ number new = omega arith in
    let bytes : bytes_high_first (length new) (number new) ≡ new =
    rw alone at (bytes_high_first-number new 0 new_bytes) in
    rw (← all, ← folded) (sym (rw new_len at bytes))
