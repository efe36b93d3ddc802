-- Attributes of which only bits of flags stand.
use Rattle.std.proofs.Common.{◌≡◌, ℕ, ◌^◌, ◌<◌, ◌≤◌, true, min, max, sym, ap, ◌∙◌, arith}
use Rattle.std.specs.Prelude.{bit_and, bit_or}
use Rattle.std.specs.Int.{bit_at}
use Rattle.std.proofs.lemmas.Bool.{eqb-true, eq-eqb}
use Rattle.std.proofs.lemmas.Nat.{and_le_r}
use Rattle.std.proofs.lemmas.Nat.Bits.{bit_at_and, bit_at_or, same_from_bits}
use Rattle.princ_record.specs.Princs.{are_attributes, known_bits}

-- each bit of a number that a mask leaves as it is
masked : (a k i : ℕ) → bit_and a k ≡ a → min (bit_at a i) (bit_at k i) ≡ bit_at a i
masked a k i e = sym (bit_at_and a k i) ∙ ap (λ (n : ℕ). bit_at n i) e

both_masked : (a b k : ℕ) → min a k ≡ a → min b k ≡ b → min (max a b) k ≡ max a b
both_masked a b k x y = omega arith

one_masked : (a n k : ℕ) → min a k ≡ a → min (min a n) k ≡ min a n
one_masked a n k x = omega arith

or_masked : (a b k : ℕ) → bit_and a k ≡ a → bit_and b k ≡ b → bit_and (bit_or a b) k ≡ bit_or a b
or_masked a b k x y = same_from_bits _ _ (λ i.
    bit_at_and (bit_or a b) k i
    ∙ ap (λ (n : ℕ). min n (bit_at k i)) (bit_at_or a b i)
    ∙ both_masked (bit_at a i) (bit_at b i) (bit_at k i) (masked a k i x) (masked b k i y)
    ∙ sym (bit_at_or a b i))

and_masked : (a n k : ℕ) → bit_and a k ≡ a → bit_and (bit_and a n) k ≡ bit_and a n
and_masked a n k x = same_from_bits _ _ (λ i.
    bit_at_and (bit_and a n) k i
    ∙ ap (λ (m : ℕ). min m (bit_at k i)) (bit_at_and a n i)
    ∙ one_masked (bit_at a i) (bit_at n i) (bit_at k i) (masked a k i x)
    ∙ sym (bit_at_and a n i))

known : (n : ℕ) → are_attributes n ≡ true → bit_and n known_bits ≡ n
unfolding are_attributes
known n e = eqb-true (bit_and n known_bits) n e

are_known : (n : ℕ) → bit_and n known_bits ≡ n → are_attributes n ≡ true
unfolding are_attributes
are_known n e = eq-eqb (bit_and n known_bits) n e

pub attributes_short : (n : ℕ) → are_attributes n ≡ true → n < 2 ^ 32
attributes_short n e =
    let is : bit_and n known_bits ≡ n = known n e in
    let le : bit_and n known_bits ≤ known_bits = and_le_r n known_bits in
    omega arith

pub either_known : (a b : ℕ) → are_attributes a ≡ true → are_attributes b ≡ true → are_attributes (bit_or a b) ≡ true
either_known a b e f = are_known (bit_or a b) (or_masked a b known_bits (known a e) (known b f))

pub part_known : (a n : ℕ) → are_attributes a ≡ true → are_attributes (bit_and a n) ≡ true
part_known a n e = are_known (bit_and a n) (and_masked a n known_bits (known a e))
