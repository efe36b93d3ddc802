-- Flags that are put in force by the bits that they force on, and those that they force off.
use Rattle.std.proofs.Common.{◌≡◌, ℕ, ◌-◌, ◌^◌, ◌<◌, ◌≤◌, min, max, Bool, true, false}
use Rattle.std.proofs.Common.{List, [], ◌∷◌, ◌⊎◌, inl, inr, sym, ap, ◌∙◌, fold, arith}
use Rattle.std.specs.Prelude.{bit_and, bit_or, if◌then◌else◌}
use Rattle.std.specs.Int.{bit_at, bit_not}
use Rattle.std.specs.Int.Width.{w32}
use Rattle.std.proofs.lemmas.Bool.{cases_lt}
use Rattle.std.proofs.lemmas.Nat.Bits.{bit_at-lt, bit_at-zero, bit_at_above, bit_at_and}
use Rattle.std.proofs.lemmas.Nat.Bits.{bit_at_not, bit_at_ones, bit_at_or, same_from_bits}
use Rattle.kadm_values.specs.Flags.{with_flag, with_flags}
use Rattle.kadm_values.specs.declared.flags.FlagChange.{FlagChange}

-- ---- what a flag makes of a bit, by what it makes of the bit where none stands and where all stand

set_between : (a s c x b : ℕ) → x ≡ min (max a s) c → max x b ≡ min (max a (max s b)) (max c b)
set_between a s c x b e = omega arith

cleared_between : (a s c x b : ℕ) → x ≡ min (max a s) c → min x b ≡ min (max a (min s b)) (min c b)
cleared_between a s c x b e = omega arith

abbrev Between : ℕ → ℕ → ℕ → ℕ → ℕ → Type 0
Between a s c x i = bit_at x i ≡ min (max (bit_at a i) (bit_at s i)) (bit_at c i)

abbrev changed : Bool → ℕ → ℕ → ℕ
changed set n bit = if set then bit_or n bit else bit_and n (bit_not w32 bit)

one_between : (set : Bool) (a s c x bit i : ℕ) → Between a s c x i
    → Between a (changed set s bit) (changed set c bit) (changed set x bit) i
one_between true a s c x bit i e =
    rw (bit_at_or x bit i, bit_at_or s bit i, bit_at_or c bit i)
    (set_between (bit_at a i) (bit_at s i) (bit_at c i) (bit_at x i) (bit_at bit i) e)
one_between false a s c x bit i e =
    rw (bit_at_and x (bit_not w32 bit) i, bit_at_and s (bit_not w32 bit) i, bit_at_and c (bit_not w32 bit) i)
    (cleared_between (bit_at a i) (bit_at s i) (bit_at c i) (bit_at x i) (bit_at (bit_not w32 bit) i) e)

all_between : (a s c x i : ℕ) (changes : List FlagChange) → Between a s c x i
    → Between a (fold with_flag s changes) (fold with_flag c changes) (fold with_flag x changes) i
all_between a s c x i [] e = e
all_between a s c x i (change ∷ changes) e =
    all_between a (with_flag s change) (with_flag c change) (with_flag x change) i changes
    (one_between change.set a s c x change.bit i e)

-- ---- at the start

stays : (x s c : ℕ) → s ≡ 0 → c ≡ 1 → x < 2 → x ≡ min (max x s) c
stays x s c none all small = omega arith

absent : (x s c : ℕ) → s ≡ 0 → x ≡ 0 → x ≡ min (max x s) c
absent x s c none zeros = omega arith

begun_at : (a i : ℕ) → a < 2 ^ 32 → (i < 32) ⊎ (32 ≤ i) → Between a 0 4294967295 a i
begun_at a i short (inl low) =
    stays (bit_at a i) (bit_at 0 i) (bit_at 4294967295 i) (bit_at-zero i) (bit_at_ones 32 i low) (bit_at-lt a i)
begun_at a i short (inr high) =
    absent (bit_at a i) (bit_at 0 i) (bit_at 4294967295 i) (bit_at-zero i) (bit_at_above a 32 i short high)

flags_between : (a i : ℕ) (changes : List FlagChange) → a < 2 ^ 32
    → Between a (with_flags 0 changes) (with_flags 4294967295 changes) (with_flags a changes) i
unfolding with_flags
flags_between a i changes short = all_between a 0 4294967295 a i changes (begun_at a i short (cases_lt i 32))

-- ---- all flags

-- flags add to any bits what they leave of none, and take from them what they take of all
pub flags_by_bits : (a : ℕ) (changes : List FlagChange) → a < 2 ^ 32
    → bit_and (bit_or a (with_flags 0 changes)) (with_flags 4294967295 changes) ≡ with_flags a changes
flags_by_bits a changes short = same_from_bits _ _ (λ i.
    bit_at_and (bit_or a (with_flags 0 changes)) (with_flags 4294967295 changes) i
    ∙ ap (λ (n : ℕ). min n (bit_at (with_flags 4294967295 changes) i)) (bit_at_or a (with_flags 0 changes) i)
    ∙ sym (flags_between a i changes short))

opposed : (b c : ℕ) → c ≡ 1 - b → b < 2 → min b c ≡ 0
opposed b c e small = omega arith

one_empty : (b c : ℕ) → b ≡ 0 → min b c ≡ 0
one_empty b c e = omega arith

other_empty : (b c : ℕ) → c ≡ 0 → min b c ≡ 0
other_empty b c e = omega arith

with_not : (n i : ℕ) → (n < 2 ^ 32) ⊎ (2 ^ 32 ≤ n) → (i < 32) ⊎ (32 ≤ i)
    → min (bit_at n i) (bit_at (bit_not w32 n) i) ≡ 0
with_not n i (inl short) (inl low) =
    opposed (bit_at n i) (bit_at (bit_not w32 n) i) (bit_at_not w32 n i short low) (bit_at-lt n i)
with_not n i (inl short) (inr high) = one_empty (bit_at n i) (bit_at (bit_not w32 n) i) (bit_at_above n 32 i short high)
with_not n i (inr long) place =
    let none : bit_not w32 n ≡ 0 = omega arith in
    other_empty (bit_at n i) (bit_at (bit_not w32 n) i) (ap (λ (m : ℕ). bit_at m i) none ∙ bit_at-zero i)

part_apart : (z s c n : ℕ) → s ≡ min (max z s) c → min c n ≡ 0 → min s n ≡ 0
part_apart z s c n part none = omega arith

-- no bit is forced both on and off
pub flags_apart : (changes : List FlagChange)
    → bit_and (with_flags 0 changes) (bit_not w32 (with_flags 4294967295 changes)) ≡ 0
flags_apart changes = same_from_bits _ _ (λ i.
    bit_at_and (with_flags 0 changes) (bit_not w32 (with_flags 4294967295 changes)) i
    ∙ part_apart (bit_at 0 i) (bit_at (with_flags 0 changes) i) (bit_at (with_flags 4294967295 changes) i)
    (bit_at (bit_not w32 (with_flags 4294967295 changes)) i) (flags_between 0 i changes (omega arith))
    (with_not (with_flags 4294967295 changes) i (cases_lt (with_flags 4294967295 changes) (2 ^ 32)) (cases_lt i 32))
    ∙ sym (bit_at-zero i))
