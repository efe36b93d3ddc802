-- Sums of lists of bytes, and lists whose numbers are bytes.
use Rattle.std.proofs.Common.{◌≡◌, ℕ, zero, suc, ◌<◌, ◌∷◌, ◌++◌, [], List, length, take}
use Rattle.std.proofs.Common.{drop, slice_index, bit_xor, lit<, refl, ap₂, ap, ◌∙◌, arith}
use Rattle.std.specs.List.{AllByRecursion}
use Rattle.std.specs.Int.Bits.{xor_zero_r, xor_self}
use lib.Bits.{xor_assoc}
use Rattle.std.proofs.lemmas.Nat.{xor_of_8, xor_comm}
use Rattle.aes_cts.specs.Cipher.{add_bytes}

pub length-add_bytes : (xs ys : List ℕ) → length xs ≡ length ys → length (add_bytes xs ys) ≡ length ys
unfolding add_bytes
length-add_bytes [] [] h = refl
length-add_bytes [] (y ∷ ys) h = absurd (omega arith)
length-add_bytes (x ∷ xs) [] h = absurd (omega arith)
length-add_bytes (x ∷ xs) (y ∷ ys) h = ap suc (length-add_bytes xs ys (omega arith))

pub slice_index-add_bytes : (xs ys : List ℕ) → length xs ≡ length ys → (i : ℕ)
    → slice_index (add_bytes xs ys) i ≡ bit_xor (slice_index xs i) (slice_index ys i)
unfolding add_bytes
slice_index-add_bytes [] [] h i = refl
slice_index-add_bytes [] (y ∷ ys) h i = absurd (omega arith)
slice_index-add_bytes (x ∷ xs) [] h i = absurd (omega arith)
slice_index-add_bytes (x ∷ xs) (y ∷ ys) h zero = refl
slice_index-add_bytes (x ∷ xs) (y ∷ ys) h (suc i) = slice_index-add_bytes xs ys (omega arith) i

pub add_bytes-lt : (xs ys : List ℕ) → length xs ≡ length ys → ((i : ℕ) → slice_index xs i < 256)
    → ((i : ℕ) → slice_index ys i < 256)
    → (i : ℕ) → slice_index (add_bytes xs ys) i < 256
add_bytes-lt xs ys h bx by i = rw (slice_index-add_bytes xs ys h i) (xor_of_8 _ _ (bx i) (by i))

-- to add a list twice changes nothing
xor_twice : (a b : ℕ) → bit_xor (bit_xor a b) b ≡ a
xor_twice a b = xor_assoc a b b ∙ ap (bit_xor a) (xor_self b) ∙ xor_zero_r a

pub add_twice : (xs ys : List ℕ) → length xs ≡ length ys → add_bytes (add_bytes xs ys) ys ≡ xs
unfolding add_bytes
add_twice [] [] h = refl
add_twice [] (y ∷ ys) h = absurd (omega arith)
add_twice (x ∷ xs) [] h = absurd (omega arith)
add_twice (x ∷ xs) (y ∷ ys) h = ap₂ (λ (p : ℕ) (q : List ℕ). p ∷ q) (xor_twice x y) (add_twice xs ys (omega arith))

pub add_comm_bytes : (xs ys : List ℕ) → add_bytes xs ys ≡ add_bytes ys xs
unfolding add_bytes
add_comm_bytes [] [] = refl
add_comm_bytes [] (y ∷ ys) = refl
add_comm_bytes (x ∷ xs) [] = refl
add_comm_bytes (x ∷ xs) (y ∷ ys) = ap₂ (λ (p : ℕ) (q : List ℕ). p ∷ q) (xor_comm x y) (add_comm_bytes xs ys)

-- every number of a list is a byte
abbrev pub AreBytes : List ℕ → Type 0
AreBytes xs = AllByRecursion (λ (x : ℕ). x < 256) xs

pub byte_at_place : (xs : List ℕ) → AreBytes xs → (i : ℕ) → slice_index xs i < 256
byte_at_place [] h i = lit< tt
byte_at_place (x ∷ xs) h zero = h.0
byte_at_place (x ∷ xs) h (suc i) = byte_at_place xs h.1 i

pub AreBytes-from_places : (xs : List ℕ) → ((i : ℕ) → slice_index xs i < 256) → AreBytes xs
AreBytes-from_places [] h = tt
AreBytes-from_places (x ∷ xs) h = (h 0, AreBytes-from_places xs (λ i. h (suc i)))

pub AreBytes-append : (xs ys : List ℕ) → AreBytes xs → AreBytes ys → AreBytes (xs ++ ys)
AreBytes-append [] ys h k = k
AreBytes-append (x ∷ xs) ys h k = (h.0, AreBytes-append xs ys h.1 k)

pub AreBytes-add : (xs ys : List ℕ) → AreBytes xs → AreBytes ys → AreBytes (add_bytes xs ys)
unfolding add_bytes
AreBytes-add [] [] h k = tt
AreBytes-add [] (y ∷ ys) h k = tt
AreBytes-add (x ∷ xs) [] h k = tt
AreBytes-add (x ∷ xs) (y ∷ ys) h k = (xor_of_8 x y h.0 k.0, AreBytes-add xs ys h.1 k.1)

pub AreBytes-take : (n : ℕ) (xs : List ℕ) → AreBytes xs → AreBytes (take n xs)
AreBytes-take zero xs h = tt
AreBytes-take (suc n) [] h = tt
AreBytes-take (suc n) (x ∷ xs) h = (h.0, AreBytes-take n xs h.1)

pub AreBytes-drop : (n : ℕ) (xs : List ℕ) → AreBytes xs → AreBytes (drop n xs)
AreBytes-drop zero xs h = h
AreBytes-drop (suc n) [] h = tt
AreBytes-drop (suc n) (x ∷ xs) h = AreBytes-drop n xs h.1
