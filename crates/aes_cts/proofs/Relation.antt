-- The pass over a text gives the blocks of CBC with the last two exchanged.
use Rattle.std.proofs.Common.{◌≡◌, ℕ, zero, suc, ◌+◌, ◌-◌, ◌*◌, ◌/◌, ◌%◌, ◌≤◌, ◌∷◌, ◌++◌, [], List, false}
use Rattle.std.proofs.Common.{nat_eq, length, take, drop, replicate, inl, inr, refl, ap₂, ap, sym, ◌∙◌, arith}
use Rattle.std.proofs.lemmas.Bool.{ne_eqb, cases_eq}
use Rattle.std.proofs.lemmas.List.{append-nil, take_all, length-append, length-drop, length-take-le}
use Rattle.std.proofs.lemmas.List.{length-replicate, take-append-le, drop-append-le}
use Rattle.aes_cts.specs.Cipher.{add_bytes}
use Rattle.aes_cts.specs.Stealing.{padded, blocks, chained, exchanged, joined, stolen}
use Rattle.aes_cts.specs.Steps.{blocks_before_end, steal_end, steal}

take_past : (n : ℕ) (c rest : List ℕ) → length c ≡ 16 → 16 ≤ n → take n (c ++ rest) ≡ c ++ take (n - 16) rest
take_past n c rest len low = past (length c) c n refl (omega arith) ∙ ap (λ (k : ℕ). c ++ take (n - k) rest) len
  where
    past : (k : ℕ) (c : List ℕ) (n : ℕ) → length c ≡ k → k ≤ n → take n (c ++ rest) ≡ c ++ take (n - k) rest
    past k [] n l le = let e : n - k ≡ n = omega arith in rw e refl
    past k (x ∷ xs) zero l le = absurd (omega arith)
    past zero (x ∷ xs) (suc n) l le = absurd (omega arith)
    past (suc k) (x ∷ xs) (suc n) l le =
        let e : suc n - suc k ≡ n - k = omega arith in
        rw e (ap (λ (t : List ℕ). x ∷ t) (past k xs n (omega arith) (omega arith)))

-- one block
stolen_whole : (e : List ℕ → List ℕ) → ((b : List ℕ) → length (e b) ≡ 16) → (vector text : List ℕ) → length text ≡ 16
    → stolen e vector text ≡ steal_end e vector text
unfolding stolen padded blocks chained exchanged joined steal_end
stolen_whole e long vector text len =
    rw (
      len,
      append-nil text,
      take_all 16 text (omega arith),
      append-nil (e (add_bytes text vector)),
      take_all 16 (e (add_bytes text vector)) (omega (arith, long (add_bytes text vector))),
    ) refl

-- two blocks
stolen_end : (e : List ℕ → List ℕ) → ((b : List ℕ) → length (e b) ≡ 16) → (vector text : List ℕ) → 17 ≤ length text
    → length text ≤ 32
    → stolen e vector text ≡ steal_end e vector text
unfolding stolen padded blocks chained exchanged joined steal_end
stolen_end e long vector text low high =
    let n = length text in
    let two : (n + 15) / 16 ≡ 2 = omega arith in
    let zeros : (16 - n % 16) % 16 ≡ 16 - (n - 16) = omega arith in
    let f : nat_eq n 16 ≡ false = ne_eqb _ _ (λ h. omega arith) in
    let padding : List ℕ = replicate (16 - (n - 16)) 0 in
    let front : take 16 (text ++ padding) ≡ take 16 text = take-append-le 16 text padding (omega arith) in
    let behind : drop 16 (text ++ padding) ≡ drop 16 text ++ padding = drop-append-le 16 text padding (omega arith) in
    let len : length (drop 16 text ++ padding) ≡ 16 =
    length-append (drop 16 text) padding
    ∙ ap₂ (λ (x y : ℕ). x + y) (length-drop 16 text) (length-replicate (16 - (n - 16)) 0) ∙ omega arith in
    let whole : take 16 (drop 16 text ++ padding) ≡ drop 16 text ++ padding =
    take_all 16 (drop 16 text ++ padding) (omega arith) in
    let held = e (add_bytes (take 16 text) vector) in
    let last = e (add_bytes (drop 16 text ++ padding) held) in
    rw (two, zeros, f, front, behind, whole, append-nil held) (take_past n last held (long _) (omega arith))

-- the bytes of n blocks of a text
pass : (List ℕ → List ℕ) → List ℕ → ℕ → List ℕ → List ℕ
pass e vector n text = joined (exchanged (chained e vector (blocks n text)))

-- the first of three blocks or more
pass_first : (e : List ℕ → List ℕ) (vector text : List ℕ) (m : ℕ)
    → pass e vector (suc (suc (suc m))) text
    ≡ e (add_bytes (take 16 text) vector) ++ pass e (e (add_bytes (take 16 text) vector)) (suc (suc m)) (drop 16 text)
unfolding pass blocks chained exchanged joined
pass_first e vector text m = refl

drop-padded : (text : List ℕ) → 16 ≤ length text → drop 16 (padded text) ≡ padded (drop 16 text)
unfolding padded
drop-padded text low =
    let n = length text in
    let len : length (drop 16 text) ≡ n - 16 = length-drop 16 text in
    let zeros : (16 - n % 16) % 16 ≡ (16 - length (drop 16 text) % 16) % 16 = omega arith in
    drop-append-le 16 text (replicate ((16 - n % 16) % 16) 0) low ∙ ap (λ (z : ℕ). drop 16 text ++ replicate z 0) zeros

take-padded : (text : List ℕ) → 16 ≤ length text → take 16 (padded text) ≡ take 16 text
unfolding padded
take-padded text low = take-append-le 16 text (replicate ((16 - length text % 16) % 16) 0) low

stolen_step : (e : List ℕ → List ℕ) → ((b : List ℕ) → length (e b) ≡ 16) → (vector text : List ℕ) → 33 ≤ length text
    → stolen e vector text ≡ e (add_bytes (take 16 text) vector)
    ++ stolen e (e (add_bytes (take 16 text) vector)) (drop 16 text)
unfolding stolen pass
stolen_step e long vector text low =
    let n = length text in
    let m = (n + 15) / 16 - 3 in
    let p = padded text in
    let q = drop 16 p in
    let c = e (add_bytes (take 16 p) vector) in
    let d = e (add_bytes (take 16 text) vector) in
    let len : length (drop 16 text) ≡ n - 16 = length-drop 16 text in
    let three : (n + 15) / 16 ≡ suc (suc (suc m)) = omega arith in
    let two : suc (suc m) ≡ (length (drop 16 text) + 15) / 16 = omega arith in
    let first : c ≡ d = ap (λ (x : List ℕ). e (add_bytes x vector)) (take-padded text (omega arith)) in
    ap (λ (k : ℕ). take n (pass e vector k p)) three
    ∙ ap (take n) (pass_first e vector p m)
    ∙ take_past n c (pass e c (suc (suc m)) q) (long (add_bytes (take 16 p) vector)) (omega arith)
    ∙ ap (λ (x : List ℕ). x ++ take (n - 16) (pass e x (suc (suc m)) q)) first
    ∙ ap (λ (k : ℕ). d ++ take (n - 16) (pass e d k q)) two
    ∙ ap (λ (x : List ℕ). d ++ take (n - 16) (pass e d ((length (drop 16 text) + 15) / 16) x))
    (drop-padded text (omega arith))
    ∙ ap (λ (k : ℕ). d ++ take k (pass e d ((length (drop 16 text) + 15) / 16) (padded (drop 16 text)))) (sym len)

stolen_is : (e : List ℕ → List ℕ) → ((b : List ℕ) → length (e b) ≡ 16) → (n : ℕ) (vector text : List ℕ)
    → 16 * n + 17 ≤ length text → length text ≤ 16 * n + 32 → stolen e vector text ≡ steal n e vector text
unfolding steal
stolen_is e long zero vector text low high = stolen_end e long vector text (omega arith) (omega arith)
stolen_is e long (suc n) vector text low high =
    let len : length (drop 16 text) ≡ length text - 16 = length-drop 16 text in
    stolen_step e long vector text (omega arith)
    ∙ ap (λ (t : List ℕ). e (add_bytes (take 16 text) vector) ++ t)
    (stolen_is e long n (e (add_bytes (take 16 text) vector)) (drop 16 text) (omega arith) (omega arith))

pub stolen_pass : (e : List ℕ → List ℕ) → ((b : List ℕ) → length (e b) ≡ 16) → (vector text : List ℕ) → 16 ≤ length text
    → stolen e vector text ≡ steal (blocks_before_end (length text)) e vector text
unfolding blocks_before_end steal
stolen_pass e long vector text low = elim (cases_eq (length text) 16) [
  | inl whole ↦ let n : (length text - 17) / 16 ≡ 0 = omega arith in rw n (stolen_whole e long vector text whole)
  | inr more ↦ stolen_is e long ((length text - 17) / 16) vector text (omega arith) (omega arith)
]

-- a cipher text is as long as its text
length_blocks : (n : ℕ) (text : List ℕ) → length (blocks n text) ≡ n
unfolding blocks
length_blocks zero text = refl
length_blocks (suc n) text = ap suc (length_blocks n (drop 16 text))

-- every block has 16 bytes
Whole : List (List ℕ) → Type 0
Whole [] = Unit {0}
Whole (b ∷ bs) = (length b ≡ 16) × Whole bs

chained_whole : (e : List ℕ → List ℕ) → ((b : List ℕ) → length (e b) ≡ 16) → (vector : List ℕ) (bs : List (List ℕ))
    → Whole (chained e vector bs)
unfolding chained Whole
chained_whole e long vector [] = tt
chained_whole e long vector (b ∷ bs) = (long (add_bytes b vector), chained_whole e long (e (add_bytes b vector)) bs)

length_chained : (e : List ℕ → List ℕ) (vector : List ℕ) (bs : List (List ℕ)) → length (chained e vector bs) ≡ length bs
unfolding chained
length_chained e vector [] = refl
length_chained e vector (b ∷ bs) = ap suc (length_chained e (e (add_bytes b vector)) bs)

length_exchanged : (bs : List (List ℕ)) → Whole bs → length (joined (exchanged bs)) ≡ 16 * length bs
unfolding exchanged joined Whole
length_exchanged [] w = refl
length_exchanged (a ∷ []) w = length-append a [] ∙ omega (arith, w.0)
length_exchanged (a ∷ b ∷ []) w =
    length-append b (a ++ []) ∙ ap (λ (x : ℕ). length b + x) (length-append a []) ∙ omega (arith, w.0, w.1.0)
length_exchanged (a ∷ b ∷ c ∷ bs) w =
    length-append a (joined (exchanged (b ∷ c ∷ bs))) ∙ ap (λ (x : ℕ). length a + x) (length_exchanged (b ∷ c ∷ bs) w.1)
    ∙ omega (arith, w.0)

pub length-stolen : (e : List ℕ → List ℕ) → ((b : List ℕ) → length (e b) ≡ 16) → (vector text : List ℕ)
    → length (stolen e vector text) ≡ length text
unfolding stolen
length-stolen e long vector text =
    let n = length text in
    let bs = blocks ((n + 15) / 16) (padded text) in
    let all : length (joined (exchanged (chained e vector bs))) ≡ 16 * ((n + 15) / 16) =
    length_exchanged (chained e vector bs) (chained_whole e long vector bs)
    ∙ ap (λ (x : ℕ). 16 * x) (length_chained e vector bs ∙ length_blocks ((n + 15) / 16) (padded text)) in
    length-take-le n (joined (exchanged (chained e vector bs))) (omega arith)
