-- Ciphertext stealing and its inverse undo each other, and both forms of stealing are one.
use Rattle.std.proofs.Common.{◌≡◌, ℕ, zero, suc, ◌+◌, ◌-◌, ◌*◌, ◌≤◌, ◌∷◌, ◌++◌, [], List, false, nat_eq, length}
use Rattle.std.proofs.Common.{take, drop, replicate, inl, inr, refl, ap₂, ap, sym, subst, ◌∙◌, arith, lit<}
use Rattle.std.specs.Int.Bits.{xor_self}
use Rattle.std.proofs.lemmas.Bool.{ne_eqb, cases_eq}
use Rattle.std.proofs.lemmas.List.{take_at, drop_at, take-append-drop, length-append}
use Rattle.std.proofs.lemmas.List.{length-drop, length-take-le, length-replicate}
use Rattle.aes_cts.specs.Cipher.{add_bytes}
use Rattle.aes_cts.specs.Steps.{steal_end, steal, return_end, return}
use Rattle.aes_cts.proofs.Inversion.{IsBlock, block_add, add_twice_block}
use Rattle.aes_cts.proofs.Sums.{AreBytes, AreBytes-take, AreBytes-drop, AreBytes-append}

-- two maps of blocks that undo each other
pub record AreInverse (e d : List ℕ → List ℕ) : Type 0 where
  pub to_block : (b : List ℕ) → IsBlock b → IsBlock (e b)
  pub from_block : (b : List ℕ) → IsBlock b → IsBlock (d b)
  pub there : (b : List ℕ) → IsBlock b → e (d b) ≡ b
  pub back : (b : List ℕ) → IsBlock b → d (e b) ≡ b

-- sums of parts
add-append : (a b c d : List ℕ) → length a ≡ length c → add_bytes (a ++ b) (c ++ d) ≡ add_bytes a c ++ add_bytes b d
unfolding add_bytes
add-append [] b [] d h = refl
add-append [] b (y ∷ ys) d h = absurd (omega arith)
add-append (x ∷ xs) b [] d h = absurd (omega arith)
add-append (x ∷ xs) b (y ∷ ys) d h =
    ap (λ (l : List ℕ). add_bytes (x ∷ []) (y ∷ []) ++ l) (add-append xs b ys d (omega arith))

take-add : (n : ℕ) (a b : List ℕ) → take n (add_bytes a b) ≡ add_bytes (take n a) (take n b)
unfolding add_bytes
take-add zero a b = refl
take-add (suc n) [] b = refl
take-add (suc n) (x ∷ xs) [] = refl
take-add (suc n) (x ∷ xs) (y ∷ ys) = ap (λ (l : List ℕ). add_bytes (x ∷ []) (y ∷ []) ++ l) (take-add n xs ys)

drop-add : (n : ℕ) (a b : List ℕ) → length a ≡ length b → drop n (add_bytes a b) ≡ add_bytes (drop n a) (drop n b)
unfolding add_bytes
drop-add zero a b h = refl
drop-add (suc n) [] [] h = refl
drop-add (suc n) [] (y ∷ ys) h = absurd (omega arith)
drop-add (suc n) (x ∷ xs) [] h = absurd (omega arith)
drop-add (suc n) (x ∷ xs) (y ∷ ys) h = drop-add n xs ys (omega arith)

add_self : (a : List ℕ) → add_bytes a a ≡ replicate (length a) 0
unfolding add_bytes
add_self [] = refl
add_self (x ∷ xs) = ap₂ (λ (p : ℕ) (q : List ℕ). p ∷ q) (xor_self x) (add_self xs)

add_zeros : (a : List ℕ) → add_bytes (replicate (length a) 0) a ≡ a
unfolding add_bytes
add_zeros [] = refl
add_zeros (x ∷ xs) = ap (λ (l : List ℕ). x ∷ l) (add_zeros xs)

AreBytes-zeros : (n : ℕ) → AreBytes (replicate n 0)
AreBytes-zeros zero = tt
AreBytes-zeros (suc n) = (lit< tt, AreBytes-zeros n)

pub block_of_zeros : IsBlock (replicate 16 0)
block_of_zeros = record { whole = refl; bytes = AreBytes-zeros 16 }

block_front : (text : List ℕ) → 16 ≤ length text → AreBytes text → IsBlock (take 16 text)
block_front text low bytes = record { whole = length-take-le 16 text low; bytes = AreBytes-take 16 text bytes }

block_whole : (text : List ℕ) → length text ≡ 16 → AreBytes text → IsBlock text
block_whole text len bytes = record { whole = len; bytes = bytes }

-- the end, by its two parts
steal_end_is : (e : List ℕ → List ℕ) (vector first tail held : List ℕ) → length first ≡ 16 → 1 ≤ length tail
    → held ≡ e (add_bytes first vector)
    → steal_end e vector (first ++ tail) ≡ e (add_bytes (tail ++ replicate (16 - length tail) 0) held)
    ++ take (length tail) held
unfolding steal_end
steal_end_is e vector first tail held len low h =
    let n : length (first ++ tail) ≡ 16 + length tail =
    length-append first tail ∙ ap (λ (x : ℕ). x + length tail) len in
    let f : nat_eq (16 + length tail) 16 ≡ false = ne_eqb _ _ (λ x. omega arith) in
    let g : 16 + length tail - 16 ≡ length tail = omega arith in
    rw (n, f, g, take_at first tail 16 len, drop_at first tail 16 len, h) refl

return_end_is : (d : List ℕ → List ℕ) (vector first tail opened held : List ℕ) → length first ≡ 16 → 1 ≤ length tail
    → opened ≡ d first → held ≡ tail ++ drop (length tail) opened
    → return_end d vector (first ++ tail) ≡ add_bytes (d held) vector ++ take (length tail) (add_bytes opened held)
unfolding return_end
return_end_is d vector first tail opened held len low o h =
    let n : length (first ++ tail) ≡ 16 + length tail =
    length-append first tail ∙ ap (λ (x : ℕ). x + length tail) len in
    let f : nat_eq (16 + length tail) 16 ≡ false = ne_eqb _ _ (λ x. omega arith) in
    let g : 16 + length tail - 16 ≡ length tail = omega arith in
    rw (n, f, g, take_at first tail 16 len, drop_at first tail 16 len, ← o, ← h) refl

-- a block whose front is `tail` and whose rest is that of `opened`, added to `opened`, is 0 behind the front
completed_sum : (opened tail : List ℕ) → IsBlock opened → length tail ≤ 16
    → take (length tail) (add_bytes opened (tail ++ drop (length tail) opened)) ++ replicate (16 - length tail) 0
    ≡ add_bytes opened (tail ++ drop (length tail) opened)
completed_sum opened tail h le =
    let n = length tail in
    let sum = add_bytes opened (tail ++ drop n opened) in
    let rest : length (drop n opened) ≡ 16 - n = length-drop n opened ∙ ap (λ (x : ℕ). x - n) h.whole in
    let same : length opened ≡ length (tail ++ drop n opened) =
    h.whole ∙ sym (length-append tail (drop n opened) ∙ ap (λ (x : ℕ). n + x) rest ∙ omega arith) in
    let behind : drop n sum ≡ replicate (16 - n) 0 =
    drop-add n opened (tail ++ drop n opened) same
    ∙ ap (add_bytes (drop n opened)) (drop_at tail (drop n opened) n refl)
    ∙ add_self (drop n opened) ∙ ap (λ (x : ℕ). replicate x 0) rest in
    rw (← behind) (take-append-drop n sum)

block_completed : (opened tail : List ℕ) → IsBlock opened → length tail ≤ 16 → AreBytes tail
    → IsBlock (tail ++ drop (length tail) opened)
block_completed opened tail h le bytes = record {
  whole = length-append tail (drop (length tail) opened) ∙ ap (λ (x : ℕ). length tail + x)
      (length-drop (length tail) opened ∙ ap (λ (x : ℕ). x - length tail) h.whole) ∙ omega arith;
  bytes = AreBytes-append tail _ bytes (AreBytes-drop (length tail) opened h.bytes);
}

-- stealing after its inverse, at the end
steal_return_short : (e d : List ℕ → List ℕ) → AreInverse e d → (vector first tail : List ℕ) → IsBlock vector
    → IsBlock first
    → 1 ≤ length tail → length tail ≤ 16 → AreBytes tail
    → steal_end e vector (return_end d vector (first ++ tail)) ≡ first ++ tail
steal_return_short e d i vector first tail hv hf low high bytes =
    let opened = d first in
    let ho = i.from_block first hf in
    let held = tail ++ drop (length tail) opened in
    let hh = block_completed opened tail ho high bytes in
    let plain = add_bytes (d held) vector in
    let hp = block_add (d held) vector (i.from_block held hh) hv in
    let rest = take (length tail) (add_bytes opened held) in
    let lr : length rest ≡ length tail =
    length-take-le (length tail) (add_bytes opened held) (omega (arith, (block_add opened held ho hh).whole)) in
    let r : return_end d vector (first ++ tail) ≡ plain ++ rest =
    return_end_is d vector first tail opened held hf.whole low refl refl in
    let back : held ≡ e (add_bytes plain vector) =
    sym (ap e (add_twice_block (d held) vector (i.from_block held hh) hv) ∙ i.there held hh) in
    let s : steal_end e vector (plain ++ rest) ≡ e (add_bytes (rest ++ replicate (16 - length rest) 0) held)
    ++ take (length rest) held =
    steal_end_is e vector plain rest held hp.whole (omega arith) back in
    let first_is : e (add_bytes (rest ++ replicate (16 - length tail) 0) held) ≡ first =
    ap (λ (x : List ℕ). e (add_bytes x held)) (completed_sum opened tail ho high)
    ∙ ap e (add_twice_block opened held ho hh) ∙ i.there first hf in
    let s' = rw (lr, first_is, take_at tail (drop (length tail) opened) (length tail) refl) at s in
    ap (steal_end e vector) r ∙ s'

steal_return_whole : (e d : List ℕ → List ℕ) → AreInverse e d → (vector text : List ℕ) → IsBlock vector → IsBlock text
    → steal_end e vector (return_end d vector text) ≡ text
unfolding steal_end return_end
steal_return_whole e d i vector text hv ht =
    let n : length (add_bytes (d text) vector) ≡ 16 = (block_add (d text) vector (i.from_block text ht) hv).whole in
    rw (ht.whole, n, add_twice_block (d text) vector (i.from_block text ht) hv) (i.there text ht)

steal_return_end : (e d : List ℕ → List ℕ) → AreInverse e d → (vector text : List ℕ) → IsBlock vector → AreBytes text
    → 16 ≤ length text → length text ≤ 32 → steal_end e vector (return_end d vector text) ≡ text
steal_return_end e d i vector text hv bytes low high = elim (cases_eq (length text) 16) [
  | inl whole ↦ steal_return_whole e d i vector text hv (block_whole text whole bytes)
  | inr more ↦
      let split : take 16 text ++ drop 16 text ≡ text = take-append-drop 16 text in
      let n : length (drop 16 text) ≡ length text - 16 = length-drop 16 text in
      subst (λ (t : List ℕ). steal_end e vector (return_end d vector t) ≡ t) split
      (steal_return_short e d i vector (take 16 text) (drop 16 text) hv (block_front text low bytes) (omega arith)
      (omega arith) (AreBytes-drop 16 text bytes))
]

-- and its inverse after stealing
return_steal_short : (e d : List ℕ → List ℕ) → AreInverse e d → (vector first tail : List ℕ) → IsBlock vector
    → IsBlock first
    → 1 ≤ length tail → length tail ≤ 16 → AreBytes tail
    → return_end d vector (steal_end e vector (first ++ tail)) ≡ first ++ tail
return_steal_short e d i vector first tail hv hf low high bytes =
    let n = length tail in
    let hs = block_add first vector hf hv in
    let held = e (add_bytes first vector) in
    let hh = i.to_block (add_bytes first vector) hs in
    let padding : List ℕ = replicate (16 - n) 0 in
    let hp : IsBlock (tail ++ padding) = record {
      whole = length-append tail padding ∙ ap (λ (x : ℕ). n + x) (length-replicate (16 - n) 0) ∙ omega arith;
      bytes = AreBytes-append tail padding bytes (AreBytes-zeros (16 - n));
    } in
    let opened = add_bytes (tail ++ padding) held in
    let ho = block_add (tail ++ padding) held hp hh in
    let last = e opened in
    let hl = i.to_block opened ho in
    let front = take n held in
    let lf : length front ≡ n = length-take-le n held (omega (arith, hh.whole)) in
    let s : steal_end e vector (first ++ tail) ≡ last ++ front =
    steal_end_is e vector first tail held hf.whole low refl in
    let rest : length (drop n held) ≡ 16 - n = length-drop n held ∙ ap (λ (x : ℕ). x - n) hh.whole in
    let behind : drop n opened ≡ drop n held =
    drop-add n (tail ++ padding) held (hp.whole ∙ sym hh.whole)
    ∙ ap (λ (x : List ℕ). add_bytes x (drop n held))
    (drop_at tail padding n refl ∙ ap (λ (x : ℕ). replicate x 0) (sym rest))
    ∙ add_zeros (drop n held) in
    let held_is : held ≡ front ++ drop (length front) opened =
    sym (ap (λ (x : ℕ). front ++ drop x opened) lf ∙ ap (λ (x : List ℕ). front ++ x) behind
    ∙ take-append-drop n held) in
    let r : return_end d vector (last ++ front)
    ≡ add_bytes (d held) vector ++ take (length front) (add_bytes opened held) =
    return_end_is d vector last front opened held hl.whole (omega arith) (sym (i.back opened ho)) held_is in
    let first_is : add_bytes (d held) vector ≡ first =
    ap (λ (x : List ℕ). add_bytes x vector) (i.back (add_bytes first vector) hs) ∙ add_twice_block first vector hf hv in
    let tail_is : take n (add_bytes opened held) ≡ tail =
    ap (take n) (add_twice_block (tail ++ padding) held hp hh) ∙ take_at tail padding n refl in
    let r' = rw (lf, first_is, tail_is) at r in
    ap (return_end d vector) s ∙ r'

return_steal_whole : (e d : List ℕ → List ℕ) → AreInverse e d → (vector text : List ℕ) → IsBlock vector → IsBlock text
    → return_end d vector (steal_end e vector text) ≡ text
unfolding steal_end return_end
return_steal_whole e d i vector text hv ht =
    let hs = block_add text vector ht hv in
    let n : length (e (add_bytes text vector)) ≡ 16 = (i.to_block (add_bytes text vector) hs).whole in
    rw (ht.whole, n, i.back (add_bytes text vector) hs) (add_twice_block text vector ht hv)

return_steal_end : (e d : List ℕ → List ℕ) → AreInverse e d → (vector text : List ℕ) → IsBlock vector → AreBytes text
    → 16 ≤ length text → length text ≤ 32 → return_end d vector (steal_end e vector text) ≡ text
return_steal_end e d i vector text hv bytes low high = elim (cases_eq (length text) 16) [
  | inl whole ↦ return_steal_whole e d i vector text hv (block_whole text whole bytes)
  | inr more ↦
      let split : take 16 text ++ drop 16 text ≡ text = take-append-drop 16 text in
      let n : length (drop 16 text) ≡ length text - 16 = length-drop 16 text in
      subst (λ (t : List ℕ). return_end d vector (steal_end e vector t) ≡ t) split
      (return_steal_short e d i vector (take 16 text) (drop 16 text) hv (block_front text low bytes) (omega arith)
      (omega arith) (AreBytes-drop 16 text bytes))
]

-- over the whole text, of n blocks and an end
pub steal_return : (e d : List ℕ → List ℕ) → AreInverse e d → (n : ℕ) (vector text : List ℕ) → IsBlock vector
    → AreBytes text
    → 16 * n + 16 ≤ length text → length text ≤ 16 * n + 32 → steal n e vector (return n d vector text) ≡ text
unfolding steal return
steal_return e d i zero vector text hv bytes low high =
    steal_return_end e d i vector text hv bytes (omega arith) (omega arith)
steal_return e d i (suc n) vector text hv bytes low high =
    let first = take 16 text in
    let hf = block_front text (omega arith) bytes in
    let plain = add_bytes (d first) vector in
    let hd = i.from_block first hf in
    let hp = block_add (d first) vector hd hv in
    let more = return n d first (drop 16 text) in
    let len : length (drop 16 text) ≡ length text - 16 = length-drop 16 text in
    let again =
    steal_return e d i n first (drop 16 text) hf (AreBytes-drop 16 text bytes) (omega arith) (omega arith) in
    let back : e (add_bytes plain vector) ≡ first = ap e (add_twice_block (d first) vector hd hv) ∙ i.there first hf in
    rw (take_at plain more 16 hp.whole, drop_at plain more 16 hp.whole, back, again) (take-append-drop 16 text)

pub return_steal : (e d : List ℕ → List ℕ) → AreInverse e d → (n : ℕ) (vector text : List ℕ) → IsBlock vector
    → AreBytes text
    → 16 * n + 16 ≤ length text → length text ≤ 16 * n + 32 → return n d vector (steal n e vector text) ≡ text
unfolding steal return
return_steal e d i zero vector text hv bytes low high =
    return_steal_end e d i vector text hv bytes (omega arith) (omega arith)
return_steal e d i (suc n) vector text hv bytes low high =
    let first = take 16 text in
    let hf = block_front text (omega arith) bytes in
    let hs = block_add first vector hf hv in
    let block = e (add_bytes first vector) in
    let hb = i.to_block (add_bytes first vector) hs in
    let more = steal n e block (drop 16 text) in
    let len : length (drop 16 text) ≡ length text - 16 = length-drop 16 text in
    let again =
    return_steal e d i n block (drop 16 text) hb (AreBytes-drop 16 text bytes) (omega arith) (omega arith) in
    let back : add_bytes (d block) vector ≡ first =
    ap (λ (x : List ℕ). add_bytes x vector) (i.back (add_bytes first vector) hs) ∙ add_twice_block first vector hf hv in
    rw (take_at block more 16 hb.whole, drop_at block more 16 hb.whole, back, again) (take-append-drop 16 text)
