-- Lemmas on bytes as a number.
use Rattle.std.proofs.Common.{◌≡◌, ℕ, zero, suc, ◌+◌, ◌-◌, ◌*◌, ◌/◌, ◌%◌, ◌^◌, ◌<◌, ◌≤◌, ◌∙◌, ap, sym, refl}
use Rattle.std.proofs.Common.{List, [], ◌∷◌, length, get_or, set, take, drop, replicate, lit<, arith}
use Rattle.std.specs.Int.{bytes_high_first, byte_at}
use Rattle.std.proofs.Math.Nat.{pow-suc, mul-le-mul_right}
use Rattle.std.proofs.lemmas.Nat.{pow-add, div-mul-add, mod-mul-add}
use Rattle.std.proofs.lemmas.List.{drop_more, drop-set-lt, length-drop, length-set}
use Rattle.std.proofs.lemmas.List.{get_or-set_same, get_or-take, drop_all}
use Rattle.krb_profile.specs.Bytes.{number}
use Rattle.krb_profile.specs.NFold.{number_of}
use Rattle.krb_profile.proofs.Bits.{number_of-split}

-- the weight of one byte more
pub weight-suc : (n : ℕ) → 2 ^ (8 * suc n) ≡ 2 ^ (8 * n) * 256
weight-suc n =
    let place : 8 * suc n ≡ 8 * n + 8 = omega arith in
    ap (λ (e : ℕ). 2 ^ e) place ∙ pow-add 2 (8 * n) 8

-- weights are powers of 256
pub pow-256 : (n : ℕ) → 256 ^ n ≡ 2 ^ (8 * n)
pow-256 zero = refl
pow-256 (suc n) = pow-suc 256 n ∙ ap (λ (p : ℕ). p * 256) (pow-256 n) ∙ sym (weight-suc n)

-- a number is below the weight of the byte before it
pub number-lt : (xs : List ℕ) → ((k : ℕ) → get_or xs k 0 < 256) → number xs < 2 ^ (8 * length xs)
unfolding number
number-lt [] bytes = lit< tt
number-lt (x ∷ xs) bytes =
    let rest = number-lt xs (λ k. bytes (suc k)) in
    let first : x ≤ 255 = omega (arith, bytes 0) in
    let most = mul-le-mul_right (2 ^ (8 * length xs)) first in
    rw (weight-suc (length xs)) (omega (arith, rest, most))

-- bytes that are each the number of eight bits are the number of all the bits
pub number-bits : (f : ℕ → ℕ) (xs : List ℕ) (start : ℕ) →
    ((k : ℕ) → k < length xs → get_or xs k 0 ≡ number_of f (8 * (start + k)) 8) →
    number xs ≡ number_of f (8 * start) (8 * length xs)
unfolding number number_of
number-bits f [] start bytes = refl
number-bits f (x ∷ xs) start bytes =
    let rest = number-bits f xs (suc start) (λ k below.
    let place : suc start + k ≡ start + suc k = omega arith in
    bytes (suc k) (omega arith) ∙ ap (λ (p : ℕ). number_of f (8 * p) 8) (sym place)) in
    let here : start + 0 ≡ start = omega arith in
    let first : x ≡ number_of f (8 * start) 8 = bytes 0 (omega arith) ∙ ap (λ (p : ℕ). number_of f (8 * p) 8) here in
    let many : 8 * suc (length xs) ≡ 8 + 8 * length xs = omega arith in
    let after : 8 * suc start ≡ 8 * start + 8 = omega arith in
    let tail : number xs ≡ number_of f (8 * start + 8) (8 * length xs) =
    rest ∙ ap (λ (p : ℕ). number_of f p (8 * length xs)) after in
    rw (many, number_of-split f (8 * start) 8 (8 * length xs), ← first, ← tail) refl

-- the place of a byte by its weight
pub byte_at-weight : (k n : ℕ) → byte_at k n ≡ n / 2 ^ (8 * k) % 256
byte_at-weight zero n = omega arith
byte_at-weight (suc k) n = ap (λ (p : ℕ). n / p % 256) (pow-256 (suc k))

-- the lowest bytes of a number that ends in these bytes
pub bytes_high_first-number : (xs : List ℕ) (above : ℕ) → ((k : ℕ) → get_or xs k 0 < 256) →
    bytes_high_first (length xs) (above * 2 ^ (8 * length xs) + number xs) ≡ xs
unfolding number
bytes_high_first-number [] above bytes = refl
bytes_high_first-number (x ∷ xs) above bytes =
    let tail_bytes : (k : ℕ) → get_or xs k 0 < 256 = λ k. bytes (suc k) in
    let weight = 2 ^ (8 * length xs) in
    let low = number-lt xs tail_bytes in
    let whole : above * 2 ^ (8 * suc (length xs)) + (x * weight + number xs) ≡ (above * 256 + x) * weight + number xs
    = rw (weight-suc (length xs)) (omega arith) in
    let first : byte_at (length xs) ((above * 256 + x) * weight + number xs) ≡ x
    = byte_at-weight (length xs) _ ∙ ap (λ (q : ℕ). q % 256) (div-mul-add (above * 256 + x) weight (number xs) low)
    ∙ mod-mul-add above 256 x (bytes 0) in
    rw (whole, first, bytes_high_first-number xs (above * 256 + x) tail_bytes) refl

-- one byte of a sum, with the carry from behind it
pub one_byte_added : (p x y c q r v old addend carried : ℕ) → x + y + c ≡ 256 * q + r
    → v + p * c ≡ old + addend + carried →
    r * p + v + p * 256 * q ≡ (x * p + old) + (y * p + addend) + carried
one_byte_added p x y c q r v old addend carried total so_far =
    let scaled = ap (λ (z : ℕ). p * z) total in
    omega (arith, scaled, so_far)

-- the bytes from one place on, with the first of them apart
pub number-drop : (xs : List ℕ) (j i m : ℕ) → j + 1 ≡ i → length xs ≡ i + m →
    number (drop j xs) ≡ get_or xs j 0 * 2 ^ (8 * m) + number (drop i xs)
unfolding number
number-drop xs j i m next long =
    let left : length (drop i xs) ≡ m = omega (arith, length-drop i xs, long) in
    let inside : j < length xs = omega (arith, long, next) in
    rw (drop_more xs j 0 inside, next, left) refl

-- one byte of a sum, with the carry from behind it, in a list that is added in place
pub one_more_added : (sum old addend : List ℕ) (i x y carry carried : ℕ) →
    length sum ≡ length old → length addend ≡ length old → 0 < i → i ≤ length old →
    x ≡ get_or sum (i - 1) 0 → y ≡ get_or addend (i - 1) 0 → take i sum ≡ take i old →
    number (drop i sum) + 2 ^ (8 * (length sum - i)) * carry ≡ number (drop i old) + number (drop i addend) + carried →
    number (drop (i - 1) (set sum (i - 1) ((x + y + carry) % 256)))
    + 2 ^ (8 * (length (set sum (i - 1) ((x + y + carry) % 256)) - (i - 1))) * ((x + y + carry) / 256)
    ≡ number (drop (i - 1) old) + number (drop (i - 1) addend) + carried
one_more_added sum old addend i x y carry carried same_sum same_addend some inside is_x is_y front so_far =
    let j = i - 1 in
    let m = length old - i in
    let q = (x + y + carry) / 256 in
    let r = (x + y + carry) % 256 in
    let written = set sum j r in
    let next : j + 1 ≡ i = omega arith in
    let at : j < i = omega arith in
    let in_sum : j < length sum = omega arith in
    let same : x ≡ get_or old j 0 =
    is_x ∙ sym (get_or-take i sum j 0 at) ∙ ap (λ (xs : List ℕ). get_or xs j 0) front ∙ get_or-take i old j 0 at in
    let of_old : number (drop j old) ≡ x * 2 ^ (8 * m) + number (drop i old) =
    rw same (number-drop old j i m next (omega arith)) in
    let of_addend : number (drop j addend) ≡ y * 2 ^ (8 * m) + number (drop i addend) =
    rw is_y (number-drop addend j i m next (omega arith)) in
    let long : length written ≡ i + m = omega (arith, length-set sum j r) in
    let of_sum : number (drop j written) ≡ r * 2 ^ (8 * m) + number (drop i sum) =
    number-drop written j i m next long
    ∙ rw (get_or-set_same sum j r 0 in_sum, drop-set-lt i sum j r at) refl in
    let before : length written - j ≡ suc m = omega (arith, length-set sum j r) in
    let weight : 2 ^ (8 * (length written - j)) ≡ 2 ^ (8 * m) * 256 = rw before (weight-suc m) in
    let behind : length sum - i ≡ m = omega arith in
    let known : number (drop i sum) + 2 ^ (8 * m) * carry ≡ number (drop i old) + number (drop i addend) + carried =
    rw behind at so_far in
    let total : x + y + carry ≡ 256 * q + r = omega arith in
    rw (of_sum, of_old, of_addend, weight)
    (one_byte_added (2 ^ (8 * m)) x y carry q r (number (drop i sum)) (number (drop i old))
    (number (drop i addend)) carried total known)

-- at the end of two lists there is nothing but the carry
pub nothing_added : (sum addend : List ℕ) (carried : ℕ) → length addend ≡ length sum →
    number (drop (length sum) sum) + 2 ^ (8 * (length sum - length sum)) * carried
    ≡ number (drop (length sum) sum) + number (drop (length sum) addend) + carried
unfolding number
nothing_added sum addend carried same =
    let none : length sum - length sum ≡ 0 = omega arith in
    let end : length addend ≤ length sum = omega arith in
    rw (drop_all (length sum) addend end, none) (omega arith)

-- at their fronts all is added
pub all_added : (sum old addend : List ℕ) (i carry carried : ℕ) → length sum ≡ length old → i ≤ 0 →
    number (drop i sum) + 2 ^ (8 * (length sum - i)) * carry ≡ number (drop i old) + number (drop i addend) + carried →
    number sum + 2 ^ (8 * length old) * carry ≡ number old + number addend + carried
all_added sum old addend i carry carried same end so_far =
    let front : i ≡ 0 = omega arith in
    let all : length sum - i ≡ length old = omega arith in
    rw (all, front) at so_far

-- zeros are the number 0
pub number-zeros : (n : ℕ) → number (replicate n 0) ≡ 0
unfolding number
number-zeros zero = refl
number-zeros (suc n) = rw (number-zeros n) (omega arith)
