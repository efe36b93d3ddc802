-- The pass over a text: a turn of its loop, and its end.
use Rattle.std.proofs.Common.{◌≡◌, ℕ, suc, ◌+◌, ◌-◌, ◌*◌, ◌<◌, ◌≤◌, ◌∷◌, ◌++◌, [], List, false}
use Rattle.std.proofs.Common.{nat_eq, length, take, drop, replicate, refl, ap, sym, ◌∙◌, arith}
use Rattle.std.proofs.lemmas.Bool.{ne_eqb}
use Rattle.std.proofs.lemmas.List.{append_assoc, append-nil, take_at, drop_at, drop_all, take_all}
use Rattle.std.proofs.lemmas.List.{take_rest, drop-drop, length-append, length-drop, length-take-le}
use Rattle.std.proofs.lemmas.Slice.{take-put_mid, drop-put_mid}
use borrow.Rule.Slice.PartMut.{put_mid}
use Rattle.aes_cts.specs.Cipher.{add_bytes}
use Rattle.aes_cts.specs.Words.{word_bytes, block_of}
use Rattle.aes_cts.specs.Steps.{steal_end, steal, return_end, return}

-- the text after a write over its end
written_end : (text block tail rest : List ℕ) → 16 ≤ length text → length block ≡ 16
    → tail ≡ take (length (take (length (block ++ drop 16 text) - 16) (drop 16 (block ++ drop 16 text)))) rest
    → put_mid 16 (length (block ++ drop 16 text) - 16) (block ++ drop 16 text) tail
    ≡ block ++ take (length text - 16) rest
written_end text block tail rest low b t =
    let more : length (drop 16 text) ≡ length text - 16 = length-drop 16 text in
    let all : length (block ++ drop 16 text) - 16 ≡ length text - 16 =
    ap (λ (n : ℕ). n - 16) (length-append block (drop 16 text)) ∙ omega arith in
    let behind : drop 16 (block ++ drop 16 text) ≡ drop 16 text = drop_at block (drop 16 text) 16 b in
    let whole : take (length text - 16) (drop 16 text) ≡ drop 16 text = take_rest text 16 in
    let none : drop (length text - 16) (drop 16 text) ≡ [] = drop_all (length text - 16) (drop 16 text) (omega arith) in
    let tail' : tail ≡ take (length text - 16) rest = rw (all, behind, whole, more) at t in
    rw (all, take_at block (drop 16 text) 16 b, behind, none, append-nil tail, tail') refl

-- the block made of the tail
tail_block : (text rest : List ℕ) → take (length text - 16) (drop 16 text) ++ rest ≡ drop 16 text ++ rest
tail_block text rest = ap (λ (l : List ℕ). l ++ rest) (take_rest text 16)

pub steal_end_whole : (encrypt : List ℕ → List ℕ) (vector text new : List ℕ) → length text ≡ 16
    → new ≡ encrypt (add_bytes (take 16 text) vector) → new ≡ steal_end encrypt vector text
unfolding steal_end
steal_end_whole encrypt vector text new len e =
    let all : take 16 text ≡ text = take_all 16 text (omega arith) in
    let e' = rw all at e in
    rw len e'

pub steal_end_short : (encrypt : List ℕ → List ℕ) (vector text held padded block tail : List ℕ) → (length text ≡ 16 → ⊥)
    → 16 ≤ length text
    → held ≡ encrypt (add_bytes (take 16 text) vector)
    → padded ≡ take (length text - 16) (drop 16 text)
    ++ replicate (16 - length (take (length text - 16) (drop 16 text))) 0
    → block ≡ encrypt (add_bytes padded held) → length block ≡ 16
    → tail ≡ take (length (take (length (block ++ drop 16 text) - 16) (drop 16 (block ++ drop 16 text)))) held
    → put_mid 16 (length (block ++ drop 16 text) - 16) (block ++ drop 16 text) tail ≡ steal_end encrypt vector text
unfolding steal_end
steal_end_short encrypt vector text held padded block tail short low h p b len t =
    let f : nat_eq (length text) 16 ≡ false = ne_eqb _ _ short in
    let p' : padded ≡ drop 16 text ++ replicate (16 - (length text - 16)) 0 =
    rw (take_rest text 16, length-drop 16 text) at p in
    rw (f, ← h, ← p', ← b) (written_end text block tail held low len t)

pub return_end_whole : (decrypt : List ℕ → List ℕ) (vector text new : List ℕ) → length text ≡ 16
    → new ≡ add_bytes (decrypt (take 16 text)) vector → new ≡ return_end decrypt vector text
unfolding return_end
return_end_whole decrypt vector text new len e =
    let all : take 16 text ≡ text = take_all 16 text (omega arith) in
    let e' = rw all at e in
    rw len e'

pub return_end_short : (decrypt : List ℕ → List ℕ) (vector text opened held block last tail : List ℕ)
    → (length text ≡ 16 → ⊥) → 16 ≤ length text
    → opened ≡ decrypt (take 16 text)
    → held ≡ take (length text - 16) (drop 16 text) ++ drop (length (take (length text - 16) (drop 16 text))) opened
    → block ≡ add_bytes (decrypt held) vector → length block ≡ 16
    → last ≡ add_bytes opened held
    → tail ≡ take (length (take (length (block ++ drop 16 text) - 16) (drop 16 (block ++ drop 16 text)))) last
    → put_mid 16 (length (block ++ drop 16 text) - 16) (block ++ drop 16 text) tail ≡ return_end decrypt vector text
unfolding return_end
return_end_short decrypt vector text opened held block last tail short low o h b len l t =
    let f : nat_eq (length text) 16 ≡ false = ne_eqb _ _ short in
    let h' : held ≡ drop 16 text ++ drop (length text - 16) opened = rw (take_rest text 16, length-drop 16 text) at h in
    rw (f, ← o, ← h', ← b, ← l) (written_end text block tail last low len t)

-- the pass begins from a vector of zeros
pub steal_first : (encrypt : List ℕ → List ℕ) (text : List ℕ) (n : ℕ)
    → steal (n - 0) encrypt (block_of (0 ∷ 0 ∷ 0 ∷ 0 ∷ [])) text ≡ steal n encrypt (replicate 16 0) text
unfolding block_of word_bytes
steal_first encrypt text n = let e : n - 0 ≡ n = omega arith in rw e refl

pub return_first : (decrypt : List ℕ → List ℕ) (text : List ℕ) (n : ℕ)
    → return (n - 0) decrypt (block_of (0 ∷ 0 ∷ 0 ∷ 0 ∷ [])) text ≡ return n decrypt (replicate 16 0) text
unfolding block_of word_bytes
return_first decrypt text n = let e : n - 0 ≡ n = omega arith in rw e refl

-- block i of a text
pub length_block : (i k : ℕ) (text : List ℕ) → k ≡ 16 → 16 * i + 16 ≤ length text
    → length (take k (drop (16 * i) text)) ≡ 16
length_block i k text e le = rw e (length-take-le 16 (drop (16 * i) text) (omega (arith, length-drop (16 * i) text)))

-- after a write over block i of a text
written_front : (i k : ℕ) (text block : List ℕ) → k ≡ 16 → 16 * i + 16 ≤ length text → length block ≡ 16
    → take (16 * (i + 1)) (put_mid (16 * i) k text block) ≡ take (16 * i) text ++ block
written_front i k text block e le len =
    let f : 16 * (i + 1) ≡ 16 * i + length block = omega arith in
    take-put_mid (16 * i) k text block _ f (omega arith)

written_rest : (i k : ℕ) (text block : List ℕ) → k ≡ 16 → 16 * i + 16 ≤ length text → length block ≡ 16
    → drop (16 * (i + 1)) (put_mid (16 * i) k text block) ≡ drop 16 (drop (16 * i) text)
written_rest i k text block e le len =
    let f : 16 * (i + 1) ≡ 16 * i + 16 = omega arith in
    drop-put_mid (16 * i) k text block (16 * (i + 1)) (omega arith) (omega arith) (omega arith)
    ∙ ap (λ (n : ℕ). drop n text) f ∙ sym (drop-drop 16 (16 * i) text)

pub steal_step : (encrypt : List ℕ → List ℕ) (vector text block next answer : List ℕ) (n i k : ℕ) → i < n → k ≡ 16
    → 16 * i + 16 ≤ length text → length block ≡ 16
    → block ≡ encrypt (add_bytes (take k (drop (16 * i) text)) vector) → next ≡ block
    → take (16 * i) text ++ steal (n - i) encrypt vector (drop (16 * i) text) ≡ answer
    → take (16 * (i + 1)) (put_mid (16 * i) k text block)
    ++ steal (n - (i + 1)) encrypt next (drop (16 * (i + 1)) (put_mid (16 * i) k text block)) ≡ answer
unfolding steal
steal_step encrypt vector text block next answer n i k lt e le len b v was =
    let m : n - i ≡ suc (n - (i + 1)) = omega arith in
    let b' : block ≡ encrypt (add_bytes (take 16 (drop (16 * i) text)) vector) = rw e at b in
    let was' = rw m at was in
    rw (
      written_front i k text block e le len,
      written_rest i k text block e le len,
      v,
      append_assoc (take (16 * i) text) block (steal (n - (i + 1)) encrypt block (drop 16 (drop (16 * i) text))),
    )
    (rw (← b') at was')

pub return_step : (decrypt : List ℕ → List ℕ) (vector text block next answer : List ℕ) (n i k : ℕ) → i < n → k ≡ 16
    → 16 * i + 16 ≤ length text → length block ≡ 16
    → block ≡ add_bytes (decrypt (take k (drop (16 * i) text))) vector → next ≡ take k (drop (16 * i) text)
    → take (16 * i) text ++ return (n - i) decrypt vector (drop (16 * i) text) ≡ answer
    → take (16 * (i + 1)) (put_mid (16 * i) k text block)
    ++ return (n - (i + 1)) decrypt next (drop (16 * (i + 1)) (put_mid (16 * i) k text block)) ≡ answer
unfolding return
return_step decrypt vector text block next answer n i k lt e le len b v was =
    let m : n - i ≡ suc (n - (i + 1)) = omega arith in
    let b' : block ≡ add_bytes (decrypt (take 16 (drop (16 * i) text))) vector = rw e at b in
    let v' : next ≡ take 16 (drop (16 * i) text) = rw e at v in
    let was' = rw m at was in
    rw (
      written_front i k text block e le len,
      written_rest i k text block e le len,
      v',
      append_assoc (take (16 * i) text) block
          (return (n - (i + 1)) decrypt (take 16 (drop (16 * i) text)) (drop 16 (drop (16 * i) text))),
    )
    (rw (← b') at was')

-- the pass ends with the last 16 to 32 bytes
written_last : (n : ℕ) (text end : List ℕ) → put_mid n (length text - n) text end ≡ take n text ++ end
written_last n text end =
    let none : drop (length text - n) (drop n text) ≡ [] =
    drop_all (length text - n) (drop n text) (omega (arith, length-drop n text)) in
    rw (none, append-nil end) refl

pub steal_last : (encrypt : List ℕ → List ℕ) (vector text end answer : List ℕ) (n i : ℕ) → i ≡ n
    → end ≡ steal_end encrypt vector (take (length text - 16 * n) (drop (16 * n) text))
    → take (16 * i) text ++ steal (n - i) encrypt vector (drop (16 * i) text) ≡ answer
    → put_mid (16 * n) (length text - 16 * n) text end ≡ answer
unfolding steal
steal_last encrypt vector text end answer n i same e was =
    let z : n - n ≡ 0 = omega arith in
    let was' = rw (same, z) at was in
    let e' = rw (take_rest text (16 * n)) at e in
    rw (written_last (16 * n) text end, e') was'

pub return_last : (decrypt : List ℕ → List ℕ) (vector text end answer : List ℕ) (n i : ℕ) → i ≡ n
    → end ≡ return_end decrypt vector (take (length text - 16 * n) (drop (16 * n) text))
    → take (16 * i) text ++ return (n - i) decrypt vector (drop (16 * i) text) ≡ answer
    → put_mid (16 * n) (length text - 16 * n) text end ≡ answer
unfolding return
return_last decrypt vector text end answer n i same e was =
    let z : n - n ≡ 0 = omega arith in
    let was' = rw (same, z) at was in
    let e' = rw (take_rest text (16 * n)) at e in
    rw (written_last (16 * n) text end, e') was'
