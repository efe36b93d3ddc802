-- Numbers as bytes: the bytes of the number that bytes spell are those bytes.
use Rattle.std.proofs.Common.{◌≡◌, ℕ, zero, suc, ◌+◌, ◌*◌, ◌/◌, ◌^◌, ◌<◌, ◌≤◌, List, []}
use Rattle.std.proofs.Common.{◌∷◌, length, take, refl, sym, ap, ◌∙◌, arith, inl, inr}
use Rattle.std.proofs.Math.Nat.{add-mul, mod-eq_of_lt, mod-lt, mul-le-mul_right}
use Rattle.std.proofs.lemmas.Bool.{cases_lt}
use Rattle.std.proofs.lemmas.List.{append-nil, length-take}
use Rattle.std.specs.Int.{byte_at, bytes_high_first, bytes_low_first}
use Rattle.byteorder.specs.Endian.{big_from, big_number, little_from, little_number}
use Rattle.byteorder.specs.Numbers.{big_from-cons, big_from-lt, big_from-take, big_number-reads_back}
use Rattle.byteorder.specs.Numbers.{length-bytes_high_first, little_from-cons, little_from-lt}
use Rattle.byteorder.specs.Numbers.{little_from-take, little_number-reads_back, length-bytes_low_first}
use Rattle.kdb_format.specs.Spellings.{big, little}
use Rattle.kdb_format.specs.Fields.{IsBytes, IsBytes-take}

IsBytes-tail : (b : ℕ) (bytes : List ℕ) → IsBytes (b ∷ bytes) → IsBytes bytes
IsBytes-tail b bytes h i = h (suc i)

IsBytes-cons : (b : ℕ) (bytes : List ℕ) → b < 256 → IsBytes bytes → IsBytes (b ∷ bytes)
IsBytes-cons b bytes lt h zero = lt
IsBytes-cons b bytes lt h (suc i) = h i

IsBytes-nil : IsBytes []
IsBytes-nil i = omega arith

byte_at-lt : (i x : ℕ) → byte_at i x < 256
byte_at-lt zero x = mod-lt x (omega arith)
byte_at-lt (suc i) x = mod-lt (x / 256 ^ suc i) (omega arith)

high_first-bytes : (n x : ℕ) → IsBytes (bytes_high_first n x)
high_first-bytes zero x = IsBytes-nil
high_first-bytes (suc n) x = IsBytes-cons (byte_at n x) (bytes_high_first n x) (byte_at-lt n x) (high_first-bytes n x)

low_first-bytes : (i n x : ℕ) → IsBytes (bytes_low_first i n x)
low_first-bytes i zero x = IsBytes-nil
low_first-bytes i (suc n) x =
    IsBytes-cons (byte_at i x) (bytes_low_first (suc i) n x) (byte_at-lt i x) (low_first-bytes (suc i) n x)

pub big-bytes : (n x : ℕ) → IsBytes (big n x)
unfolding big
big-bytes n x = high_first-bytes n x

pub little-bytes : (n x : ℕ) → IsBytes (little n x)
unfolding little
little-bytes n x = low_first-bytes 0 n x

-- a number has as many bytes as asked for
pub length-big : (n x : ℕ) → length (big n x) ≡ n
unfolding big
length-big n x = length-bytes_high_first n x

pub length-little : (n x : ℕ) → length (little n x) ≡ n
unfolding little
length-little n x = length-bytes_low_first 0 n x

-- a number below 256 is its one byte
pub big-byte : (x : ℕ) → x < 256 → big 1 x ≡ x ∷ []
unfolding big
big-byte x lt = ap (λ (b : ℕ). b ∷ []) (mod-eq_of_lt lt)

-- a number is read from its bytes
pub big_number-big : (n x : ℕ) → x < 256 ^ n → big_number n (big n x) ≡ x
unfolding big
big_number-big n x lt = ap (big_from 0 n) (sym (append-nil (bytes_high_first n x))) ∙ big_number-reads_back n x [] lt

pub little_number-little : (n x : ℕ) → x < 256 ^ n → little_number n (little n x) ≡ x
unfolding little
little_number-little n x lt =
    ap (little_from 0 n) (sym (append-nil (bytes_low_first 0 n x))) ∙ little_number-reads_back n x [] lt

-- the high digit of a number is not the lower one
not_lower : (a b p r s : ℕ) → r < p → a * p + r ≡ b * p + s → a < b → ⊥
not_lower a b p r s r-lt e lt =
    let le : (a + 1) * p ≤ b * p = mul-le-mul_right p (omega arith) in
    let expand : (a + 1) * p ≡ a * p + 1 * p = add-mul a 1 p in
    absurd (omega arith)

same_digit : (a b p r s : ℕ) → r < p → s < p → a * p + r ≡ b * p + s → (a ≡ b) × (r ≡ s)
same_digit a b p r s r-lt s-lt e =
    elim (cases_lt a b) [
      | inl lt ↦ absurd (not_lower a b p r s r-lt e lt)
      | inr le ↦
          elim (cases_lt b a) [
            | inl lt ↦ absurd (not_lower b a p s r s-lt (sym e) lt)
            | inr ge ↦ let same : a ≡ b =
                omega arith in (same, let f : a * p ≡ b * p = ap (λ (x : ℕ). x * p) same in omega arith)
          ]
    ]

-- bytes of one length that spell one number are the same
big_same : (n : ℕ) (xs ys : List ℕ) → IsBytes xs → IsBytes ys → length xs ≡ n → length ys ≡ n
    → big_from 0 n xs ≡ big_from 0 n ys → xs ≡ ys
big_same zero [] [] bx by lx ly e = refl
big_same zero [] (y ∷ ys) bx by lx ly e = absurd (omega arith)
big_same zero (x ∷ xs) ys bx by lx ly e = absurd (omega arith)
big_same (suc n) [] ys bx by lx ly e = absurd (omega arith)
big_same (suc n) (x ∷ xs) [] bx by lx ly e = absurd (omega arith)
big_same (suc n) (x ∷ xs) (y ∷ ys) bx by lx ly e =
    let tx = IsBytes-tail x xs bx in
    let ty = IsBytes-tail y ys by in
    let e' : x * 256 ^ n + big_from 0 n xs ≡ y * 256 ^ n + big_from 0 n ys =
    ap (λ (r : ℕ). x * 256 ^ n + r) (sym (big_from-cons 0 n x xs)) ∙ e
    ∙ ap (λ (r : ℕ). y * 256 ^ n + r) (big_from-cons 0 n y ys) in
    let d =
    same_digit x y (256 ^ n) (big_from 0 n xs) (big_from 0 n ys) (big_from-lt 0 n xs tx) (big_from-lt 0 n ys ty) e' in
    let tails = big_same n xs ys tx ty (omega arith) (omega arith) d.1 in
    rw (d.0, tails) refl

little_same : (n : ℕ) (xs ys : List ℕ) → IsBytes xs → IsBytes ys → length xs ≡ n → length ys ≡ n
    → little_from 0 n xs ≡ little_from 0 n ys → xs ≡ ys
little_same zero [] [] bx by lx ly e = refl
little_same zero [] (y ∷ ys) bx by lx ly e = absurd (omega arith)
little_same zero (x ∷ xs) ys bx by lx ly e = absurd (omega arith)
little_same (suc n) [] ys bx by lx ly e = absurd (omega arith)
little_same (suc n) (x ∷ xs) [] bx by lx ly e = absurd (omega arith)
little_same (suc n) (x ∷ xs) (y ∷ ys) bx by lx ly e =
    let tx = IsBytes-tail x xs bx in
    let ty = IsBytes-tail y ys by in
    let bx0 : x < 256 = bx 0 in
    let by0 : y < 256 = by 0 in
    let e' : x + 256 * little_from 0 n xs ≡ y + 256 * little_from 0 n ys =
    ap (λ (r : ℕ). x + 256 * r) (sym (little_from-cons 0 n x xs)) ∙ e
    ∙ ap (λ (r : ℕ). y + 256 * r) (little_from-cons 0 n y ys) in
    let head : x ≡ y = omega arith in
    let low : little_from 0 n xs ≡ little_from 0 n ys = omega arith in
    let tails = little_same n xs ys tx ty (omega arith) (omega arith) low in
    rw (head, tails) refl

-- the bytes of the number that the first n bytes spell are those bytes
pub big-big_number : (n : ℕ) (bytes : List ℕ) → IsBytes bytes → n ≤ length bytes
    → big n (big_number n bytes) ≡ take n bytes
big-big_number n bytes fits le =
    let x = big_number n bytes in
    let back : big_from 0 n (big n x) ≡ x = big_number-big n x (big_from-lt 0 n bytes fits) in
    let front : big_from 0 n (take n bytes) ≡ x = big_from-take 0 n n bytes (omega arith) in
    big_same n (big n x) (take n bytes) (big-bytes n x) (IsBytes-take n bytes fits) (length-big n x)
    (omega (arith, length-take n bytes)) (back ∙ sym front)

pub little-little_number : (n : ℕ) (bytes : List ℕ) → IsBytes bytes → n ≤ length bytes
    → little n (little_number n bytes) ≡ take n bytes
little-little_number n bytes fits le =
    let x = little_number n bytes in
    let back : little_from 0 n (little n x) ≡ x = little_number-little n x (little_from-lt 0 n bytes fits) in
    let front : little_from 0 n (take n bytes) ≡ x = little_from-take 0 n n bytes (omega arith) in
    little_same n (little n x) (take n bytes) (little-bytes n x) (IsBytes-take n bytes fits) (length-little n x)
    (omega (arith, length-take n bytes)) (back ∙ sym front)
