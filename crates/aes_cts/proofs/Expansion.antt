-- The key expansion a round key at a time, and the round keys of decryption.
use Rattle.std.proofs.Common.{◌≡◌, ℕ, zero, suc, ◌+◌, ◌-◌, ◌*◌, ◌/◌, ◌%◌, ◌<◌, ◌≤◌, ◌∷◌, ◌++◌, []}
use Rattle.std.proofs.Common.{List, true, false, nat_eq, length, take, drop, set, slice_index}
use Rattle.std.proofs.Common.{slice_index_or, bit_xor, lit≤, inl, inr, refl, ap, sym, ◌∙◌, arith}
use Rattle.std.proofs.lemmas.Bool.{agree_below, agree_below_at, ne_eqb, eq-eqb, cases_lt}
use Rattle.std.proofs.lemmas.List.{drop-drop, append_assoc, drop_at, take-append-le, drop-append-le, take-take}
use Rattle.std.proofs.lemmas.List.{drop-take, length-append, length-drop, length-take-le, take_all, get_or-take}
use Rattle.std.proofs.lemmas.List.{get_or-set_same, get_or-set_other, take_more_set, get_or_default}
use Rattle.aes_cts.specs.declared.schedule.TheConstants.{ROUND_CONSTANTS}
use Rattle.aes_cts.specs.Field.{times_x, times_power}
use Rattle.aes_cts.specs.Cipher.{add_bytes, sub_bytes, rot_word, round_constant, turned, next_word}
use Rattle.aes_cts.specs.Cipher.{expand, round_key, rounds_of, expanded, cipher_by, cipher}
use Rattle.aes_cts.specs.Inverse.{unmix_columns, uncipher_by}
use Rattle.aes_cts.specs.Words.{word_bytes, block_of, schedule_bytes, chained_words, undo_key, AreSchedules}
use Rattle.aes_cts.proofs.Entries.{same_bytes, same_bytes-true}
use Rattle.aes_cts.proofs.Words.{four_joined, word_of_xor}
use Rattle.aes_cts.proofs.Sums.{length-add_bytes, AreBytes, AreBytes-append}
use Rattle.aes_cts.proofs.Inversion.{IsBlock, IsUndone, cipher_uncipher, uncipher_cipher}
use Rattle.aes_cts.proofs.Keys.{schedule_key}

constants_test : agree_below (λ i. same_bytes (word_bytes (slice_index ROUND_CONSTANTS i)) (round_constant (i + 1)))
    (λ _. true) 10 ≡ true
unfolding times_x times_power round_constant same_bytes word_bytes
constants_test = refl

pub constant_at : (j : ℕ) → 1 ≤ j → j ≤ 10 → word_bytes (slice_index ROUND_CONSTANTS (j - 1)) ≡ round_constant j
constant_at j low high =
    let e : j - 1 + 1 ≡ j = omega arith in
    let f = same_bytes-true _ _
    (agree_below_at (λ (i : ℕ). same_bytes (word_bytes (slice_index ROUND_CONSTANTS i)) (round_constant (i + 1)))
    (λ (i : ℕ). true) 10 (j - 1) constants_test (omega arith)) in
    rw e at f

-- the first word of a round key, where the key's length divides its place
pub turned_start : (stride index : ℕ) (last : List ℕ) → 1 ≤ stride → stride ≤ 2 → index % stride ≡ 0
    → turned (4 * stride) (4 * index) last ≡ add_bytes (sub_bytes (rot_word last)) (round_constant (index / stride))
unfolding turned
turned_start zero index last low high e = absurd (omega arith)
turned_start (suc zero) index last low high e =
    let f : (4 * index) % 4 ≡ 0 = omega arith in
    let g : (4 * index) / 4 ≡ index / 1 = omega arith in
    rw (f, g) refl
turned_start (suc (suc zero)) index last low high e =
    let f : (4 * index) % 8 ≡ 0 = omega arith in
    let g : (4 * index) / 8 ≡ index / 2 = omega arith in
    rw (f, g) refl
turned_start (suc (suc (suc n))) index last low high e = absurd (omega arith)

-- the first word of a round key half a key later
pub turned_half : (stride index : ℕ) (last : List ℕ) → 1 ≤ stride → stride ≤ 2 → (index % stride ≡ 0 → ⊥)
    → turned (4 * stride) (4 * index) last ≡ sub_bytes last
unfolding turned
turned_half zero index last low high e = absurd (omega arith)
turned_half (suc zero) index last low high e = absurd (e (omega arith))
turned_half (suc (suc zero)) index last low high e =
    let f : (4 * index) % 8 ≡ 4 = omega arith in
    rw f refl
turned_half (suc (suc (suc n))) index last low high e = absurd (omega arith)

-- the other words take the word before as it is
turned_other : (stride index j : ℕ) (last : List ℕ) → 1 ≤ stride → stride ≤ 2 → 1 ≤ j → j ≤ 3
    → turned (4 * stride) (4 * index + j) last ≡ last
unfolding turned
turned_other zero index j last low high lo hi = absurd (omega arith)
turned_other (suc zero) index j last low high lo hi =
    let f : nat_eq ((4 * index + j) % 4) 0 ≡ false = ne_eqb _ _ (λ e. omega arith) in
    rw f refl
turned_other (suc (suc zero)) index j last low high lo hi =
    let f : nat_eq ((4 * index + j) % 8) 0 ≡ false = ne_eqb _ _ (λ e. omega arith) in
    let g : nat_eq ((4 * index + j) % 8) 4 ≡ false = ne_eqb _ _ (λ e. omega arith) in
    rw (f, g) refl
turned_other (suc (suc (suc n))) index j last low high lo hi = absurd (omega arith)

-- a part of a list, with more behind it
part_before : (k : ℕ) (xs ys : List ℕ) → k + 4 ≤ length xs → take 4 (drop k (xs ++ ys)) ≡ take 4 (drop k xs)
part_before k xs ys le =
    rw (drop-append-le k xs ys (omega arith), take-append-le 4 (drop k xs) ys (omega (arith, length-drop k xs))) refl

-- a part of a part
part_within : (k a : ℕ) (xs : List ℕ) → a + 4 ≤ 16 → take 4 (drop a (take 16 (drop k xs))) ≡ take 4 (drop (k + a) xs)
part_within k a xs le =
    let e : 16 ≡ a + (16 - a) = omega arith in
    let f = drop-take a (16 - a) (drop k xs) in
    let g = rw (← e) at f in
    rw (g, take-take 4 (16 - a) (drop a (drop k xs)) (omega arith), drop-drop a k xs) refl

-- the first word of the next round key
word_first : (stride index : ℕ) (e : List ℕ) → 1 ≤ stride → stride ≤ 2 → stride ≤ index → length e ≡ 16 * index
    → next_word (4 * stride) e
    ≡ add_bytes (take 4 (drop (16 * (index - stride)) e)) (turned (4 * stride) (4 * index) (drop (16 * index - 4) e))
unfolding next_word
word_first stride index e low high le len =
    let p : 16 * index - 4 * (4 * stride) ≡ 16 * (index - stride) = omega arith in
    let q : 16 * index / 4 ≡ 4 * index = omega arith in
    rw (len, p, q) refl

-- word j of the next round key, from the word before it
word_more : (stride index j : ℕ) (e more last : List ℕ) → 1 ≤ stride → stride ≤ 2 → stride ≤ index
    → length e ≡ 16 * index
    → 1 ≤ j → j ≤ 3 → length more + 4 ≡ 4 * j → length last ≡ 4
    → next_word (4 * stride) (e ++ (more ++ last)) ≡ add_bytes (take 4 (drop (16 * (index - stride) + 4 * j) e)) last
unfolding next_word
word_more stride index j e more last low high le len lo hi m l =
    let n : length (e ++ (more ++ last)) ≡ 16 * index + 4 * j = simp length-append (omega arith) in
    let p : 16 * index + 4 * j - 4 * (4 * stride) ≡ 16 * (index - stride) + 4 * j = omega arith in
    let q : (16 * index + 4 * j) / 4 ≡ 4 * index + j = omega arith in
    let before : length (e ++ more) ≡ 16 * index + 4 * j - 4 = simp length-append (omega arith) in
    let a : drop (16 * index + 4 * j - 4) (e ++ (more ++ last)) ≡ last =
    rw (← append_assoc e more last) (drop_at (e ++ more) last _ before) in
    rw (
      n,
      p,
      q,
      a,
      part_before (16 * (index - stride) + 4 * j) e (more ++ last) (omega arith),
      turned_other stride index j last low high lo hi,
    ) refl

-- the next round key on words
pub next_key_of : (back : List ℕ) (t : ℕ)
    → block_of (bit_xor (slice_index back 0) t
    ∷ bit_xor (slice_index back 1) (bit_xor (slice_index back 0) t)
    ∷ bit_xor (slice_index back 2) (bit_xor (slice_index back 1) (bit_xor (slice_index back 0) t))
    ∷ bit_xor (slice_index back 3)
    (bit_xor (slice_index back 2) (bit_xor (slice_index back 1) (bit_xor (slice_index back 0) t)))
    ∷ [])
    ≡ chained_words (block_of back) (word_bytes t)
unfolding block_of chained_words word_bytes add_bytes
next_key_of back t =
    let i = slice_index back 0 in
    let j = slice_index back 1 in
    let k = slice_index back 2 in
    let l = slice_index back 3 in
    let a = word_of_xor i t in
    let b = word_of_xor j (bit_xor i t) ∙ ap (add_bytes (word_bytes j)) a in
    let c = word_of_xor k (bit_xor j (bit_xor i t)) ∙ ap (add_bytes (word_bytes k)) b in
    let d = word_of_xor l (bit_xor k (bit_xor j (bit_xor i t))) ∙ ap (add_bytes (word_bytes l)) c in
    four_joined a b c d

schedule_push : (ks : List (List ℕ)) (k : List ℕ) → schedule_bytes (ks ++ k ∷ []) ≡ schedule_bytes ks ++ block_of k
unfolding schedule_bytes block_of word_bytes
schedule_push [] k = refl
schedule_push (x ∷ ks) k = ap (λ (l : List ℕ). block_of x ++ l) (schedule_push ks k)

pub length-block_of : (s : List ℕ) → length (block_of s) ≡ 16
unfolding block_of word_bytes
length-block_of s = refl

length-word_bytes : (n : ℕ) → length (word_bytes n) ≡ 4
unfolding word_bytes
length-word_bytes n = refl

pub length-schedule_bytes : (ks : List (List ℕ)) → length (schedule_bytes ks) ≡ 16 * length ks
unfolding schedule_bytes
length-schedule_bytes [] = refl
length-schedule_bytes (k ∷ ks) =
    let h = length-schedule_bytes ks in
    rw (length-append (block_of k) (schedule_bytes ks), length-block_of k, h) (omega arith)

last_of : (e key : List ℕ) (r : ℕ) → round_key e r ≡ block_of key
    → drop 12 (take 16 (drop (16 * r) e)) ≡ word_bytes (slice_index key 3)
unfolding round_key block_of word_bytes
last_of e key r h = ap (λ (l : List ℕ). drop 12 l) h

-- the last word of the round keys so far
last_word : (ks : List (List ℕ)) (d : List ℕ) (index : ℕ) → length ks ≡ index → 1 ≤ index
    → drop (16 * index - 4) (schedule_bytes ks) ≡ word_bytes (slice_index (slice_index_or ks (index - 1) d) 3)
last_word ks d index len low =
    let whole : take 16 (drop (16 * (index - 1)) (schedule_bytes ks)) ≡ drop (16 * (index - 1)) (schedule_bytes ks) =
    take_all 16 (drop (16 * (index - 1)) (schedule_bytes ks))
    (omega (arith, length-drop (16 * (index - 1)) (schedule_bytes ks), length-schedule_bytes ks)) in
    let split : 16 * index - 4 ≡ 16 * (index - 1) + 12 = omega arith in
    rw (split, ← drop-drop 12 (16 * (index - 1)) (schedule_bytes ks), ← whole)
    (last_of (schedule_bytes ks) (slice_index_or ks (index - 1) d) (index - 1)
    (schedule_key ks (index - 1) d (omega arith)))

-- the bytes of the key so far, and its next word
unfoldable grown : ℕ → List ℕ → List ℕ
grown n e = e ++ next_word n e

length_part : (k : ℕ) (e : List ℕ) → k + 4 ≤ length e → length (take 4 (drop k e)) ≡ 4
length_part k e le = length-take-le 4 (drop k e) (omega (arith, length-drop k e))

length_sum : (k : ℕ) (e w : List ℕ) → k + 4 ≤ length e → length w ≡ 4 → length (add_bytes (take 4 (drop k e)) w) ≡ 4
length_sum k e w le l = length-add_bytes (take 4 (drop k e)) w (length_part k e le ∙ sym l) ∙ l

chained_parts : (e word : List ℕ) (r : ℕ) → chained_words (round_key e r) word
    ≡ (let a = add_bytes (take 4 (drop (16 * r) e)) word in
    let b = add_bytes (take 4 (drop (16 * r + 4) e)) a in
    let c = add_bytes (take 4 (drop (16 * r + 8) e)) b in
    let d = add_bytes (take 4 (drop (16 * r + 12) e)) c in
    a ++ (b ++ (c ++ d)))
unfolding chained_words round_key
chained_parts e word r =
    rw (
      take-take 4 16 (drop (16 * r) e) (lit≤ tt),
      part_within (16 * r) 4 e (lit≤ tt),
      part_within (16 * r) 8 e (lit≤ tt),
      part_within (16 * r) 12 e (lit≤ tt),
    ) refl

four_grown : (stride index : ℕ) (e word : List ℕ) → 1 ≤ stride → stride ≤ 2 → stride ≤ index → length e ≡ 16 * index
    → length word ≡ 4 → word ≡ turned (4 * stride) (4 * index) (drop (16 * index - 4) e)
    → grown (4 * stride) (grown (4 * stride) (grown (4 * stride) (grown (4 * stride) e)))
    ≡ e ++ chained_words (round_key e (index - stride)) word
unfolding grown
four_grown stride index e word low high le len l turn =
    let k = 16 * (index - stride) in
    let a = add_bytes (take 4 (drop k e)) word in
    let b = add_bytes (take 4 (drop (k + 4) e)) a in
    let c = add_bytes (take 4 (drop (k + 8) e)) b in
    let d = add_bytes (take 4 (drop (k + 12) e)) c in
    let la : length a ≡ 4 = length_sum k e word (omega arith) l in
    let lb : length b ≡ 4 = length_sum (k + 4) e a (omega arith) la in
    let lc : length c ≡ 4 = length_sum (k + 8) e b (omega arith) lb in
    let wa : next_word (4 * stride) e ≡ a =
    word_first stride index e low high le len ∙ ap (add_bytes (take 4 (drop k e))) (sym turn) in
    let wb : next_word (4 * stride) (e ++ a) ≡ b =
    word_more stride index 1 e [] a low high le len (lit≤ tt) (lit≤ tt) refl la in
    let wc : next_word (4 * stride) (e ++ (a ++ b)) ≡ c =
    word_more stride index 2 e a b low high le len (lit≤ tt) (lit≤ tt) (omega arith) lb in
    let wd : next_word (4 * stride) (e ++ (a ++ b ++ c)) ≡ d =
    word_more stride index 3 e (a ++ b) c low high le len (lit≤ tt) (lit≤ tt) (simp length-append (omega arith)) lc in
    rw (wa, wb, append_assoc e a b, wc, append_assoc e (a ++ b) c, wd, chained_parts e word (index - stride))
    (simp append_assoc)

-- four words at once: the round key after those of `ks`
pub expand_key : (stride index : ℕ) (ks : List (List ℕ)) (d : List ℕ) (t : ℕ) (next key : List ℕ)
    → 1 ≤ stride → stride ≤ 2 → stride ≤ index → length ks ≡ index
    → schedule_bytes ks ≡ expand (4 * stride) key (4 * (index - stride))
    → word_bytes t ≡ turned (4 * stride) (4 * index) (word_bytes (slice_index (slice_index_or ks (index - 1) d) 3))
    → block_of next ≡ chained_words (block_of (slice_index_or ks (index - stride) d)) (word_bytes t)
    → schedule_bytes (ks ++ next ∷ []) ≡ expand (4 * stride) key (4 * (index + 1 - stride))
unfolding expand grown
expand_key stride index ks d t next key low high le len was turn made =
    let elen : length (schedule_bytes ks) ≡ 16 * index = length-schedule_bytes ks ∙ ap (λ (x : ℕ). 16 * x) len in
    let turn' : word_bytes t ≡ turned (4 * stride) (4 * index) (drop (16 * index - 4) (schedule_bytes ks)) =
    turn ∙ ap (turned (4 * stride) (4 * index)) (sym (last_word ks d index len (omega arith))) in
    let grow =
    four_grown stride index (schedule_bytes ks) (word_bytes t) low high le elen (length-word_bytes t) turn' in
    let more : 4 * (index + 1 - stride) ≡ suc (suc (suc (suc (4 * (index - stride))))) = omega arith in
    rw (schedule_push ks next, more, ← was, made, ← schedule_key ks (index - stride) d (omega arith)) (sym grow)

pub expand_first : (n stride : ℕ) (key : List ℕ) → key ≡ expand n key (4 * (stride - stride))
unfolding expand
expand_first n stride key = let e : 4 * (stride - stride) ≡ 0 = omega arith in rw e refl

-- a turn of the loop over the round keys
pub expand_step : (stride index : ℕ) (keys : List (List ℕ)) (d : List ℕ) (t : ℕ) (next key : List ℕ)
    → 1 ≤ stride → stride ≤ 2 → stride ≤ index → index < length keys
    → schedule_bytes (take index keys) ≡ expand (4 * stride) key (4 * (index - stride))
    → word_bytes t ≡ turned (4 * stride) (4 * index) (word_bytes (slice_index (slice_index_or keys (index - 1) d) 3))
    → block_of next ≡ chained_words (block_of (slice_index_or keys (index - stride) d)) (word_bytes t)
    → schedule_bytes (take (index + 1) (set keys index next)) ≡ expand (4 * stride) key (4 * (index + 1 - stride))
expand_step stride index keys d t next key low high le lt was turn made =
    let e : slice_index_or (take index keys) (index - 1) d ≡ slice_index_or keys (index - 1) d =
    get_or-take index keys (index - 1) d (omega arith) in
    let f : slice_index_or (take index keys) (index - stride) d ≡ slice_index_or keys (index - stride) d =
    get_or-take index keys (index - stride) d (omega arith) in
    rw (take_more_set keys index next lt)
    (expand_key stride index (take index keys) d t next key low high le (length-take-le index keys (omega arith)) was
    (rw e turn) (rw f made))

-- the round keys of decryption, the first, the inner ones and the last
pub undo_key_first : (keys : List (List ℕ)) (n : ℕ) (d key : List ℕ) → length keys ≡ n → 1 ≤ n
    → block_of key ≡ block_of (slice_index_or keys (n - 1) d) → block_of key ≡ undo_key keys 0
unfolding undo_key
undo_key_first keys n d key len low e =
    let z : length keys - 1 - 0 ≡ n - 1 = omega arith in
    rw z (e ∙ ap block_of (get_or_default keys (n - 1) d [] (omega arith)))

pub undo_key_inner : (keys : List (List ℕ)) (n i : ℕ) (d key : List ℕ) → length keys ≡ n → 1 ≤ i → i + 1 < n
    → block_of key ≡ unmix_columns (block_of (slice_index_or keys (n - 1 - i) d)) → block_of key ≡ undo_key keys i
unfolding undo_key
undo_key_inner keys n i d key len low high e =
    let p : nat_eq i 0 ≡ false = ne_eqb _ _ (λ h. omega arith) in
    let q : nat_eq (i + 1) n ≡ false = ne_eqb _ _ (λ h. omega arith) in
    rw (len, p, q)
    (e ∙ ap (λ (k : List ℕ). unmix_columns (block_of k)) (get_or_default keys (n - 1 - i) d [] (omega arith)))

pub undo_key_last : (keys : List (List ℕ)) (n : ℕ) (d key : List ℕ) → length keys ≡ n → 2 ≤ n
    → block_of key ≡ block_of (slice_index_or keys 0 d) → block_of key ≡ undo_key keys (n - 1)
unfolding undo_key
undo_key_last keys n d key len low e =
    let p : nat_eq (n - 1) 0 ≡ false = ne_eqb _ _ (λ h. omega arith) in
    let q : nat_eq (n - 1 + 1) n ≡ true = eq-eqb _ _ (omega arith) in
    let z : n - 1 - (n - 1) ≡ 0 = omega arith in
    rw (len, p, q, z) (e ∙ ap block_of (get_or_default keys 0 d [] (omega arith)))

-- one more of them is written
pub undo_more : (keys undo : List (List ℕ)) (i : ℕ) (next : List ℕ) → length undo ≡ length keys → i < length keys
    → block_of next ≡ undo_key keys i
    → ((r : ℕ) → r < i → block_of (slice_index_or undo r []) ≡ undo_key keys r)
    → (r : ℕ) → r < i + 1 → block_of (slice_index_or (set undo i next) r []) ≡ undo_key keys r
undo_more keys undo i next len lt here before r below = elim (cases_lt r i) [
  | inl less ↦ ap block_of (get_or-set_other undo i r next [] (λ h. omega arith)) ∙ before r less
  | inr more ↦
      let e : i ≡ r = omega arith in
      rw (← e) (ap block_of (get_or-set_same undo i next [] (omega arith)) ∙ here)
]

-- the cipher by a key's schedule is the cipher by the key
pub cipher_of : (stride : ℕ) (keys undo : List (List ℕ)) (key block : List ℕ) → 1 ≤ stride
    → AreSchedules stride keys undo
    → schedule_bytes (take stride keys) ≡ key
    → cipher_by (schedule_bytes keys) (4 * stride + 6) block ≡ cipher key block
unfolding cipher expanded rounds_of
cipher_of stride keys undo key block low held is =
    let n : length key ≡ 16 * stride =
    ap length (sym is) ∙ length-schedule_bytes (take stride keys)
    ∙ ap (λ (x : ℕ). 16 * x) (length-take-le stride keys (omega (arith, held.0))) in
    let e : length key / 4 ≡ 4 * stride = omega arith in
    let m : 4 * (4 * stride + 6 + 1) - 4 * stride ≡ 4 * (4 * stride + 7 - stride) = omega arith in
    rw (e, m, held.1, is) refl

undo_first_is : (keys : List (List ℕ)) (n : ℕ) → length keys ≡ n + 1
    → undo_key keys 0 ≡ block_of (slice_index_or keys n [])
unfolding undo_key
undo_first_is keys n len = let z : length keys - 1 - 0 ≡ n = omega arith in rw z refl

undo_inner_is : (keys : List (List ℕ)) (n r : ℕ) → length keys ≡ n + 1 → 1 ≤ r → r < n
    → undo_key keys r ≡ unmix_columns (block_of (slice_index_or keys (n - r) []))
unfolding undo_key
undo_inner_is keys n r len low lt =
    let p : nat_eq r 0 ≡ false = ne_eqb _ _ (λ h. omega arith) in
    let q : nat_eq (r + 1) (n + 1) ≡ false = ne_eqb _ _ (λ h. omega arith) in
    let z : n + 1 - 1 - r ≡ n - r = omega arith in
    rw (len, p, q, z) refl

undo_last_is : (keys : List (List ℕ)) (n : ℕ) → length keys ≡ n + 1 → 1 ≤ n
    → undo_key keys n ≡ block_of (slice_index_or keys 0 [])
unfolding undo_key
undo_last_is keys n len low =
    let p : nat_eq n 0 ≡ false = ne_eqb _ _ (λ h. omega arith) in
    let q : nat_eq (n + 1) (n + 1) ≡ true = eq-eqb _ _ refl in
    let z : n + 1 - 1 - n ≡ 0 = omega arith in
    rw (len, p, q, z) refl

AreBytes-word : (n : ℕ) → AreBytes (word_bytes n)
unfolding word_bytes
AreBytes-word n = (omega arith, (omega arith, (omega arith, (omega arith, tt))))

pub block_block_of : (s : List ℕ) → IsBlock (block_of s)
unfolding block_of
block_block_of s = record {
  whole = length-block_of s;
  bytes = AreBytes-append _ _ (AreBytes-word _)
      (AreBytes-append _ _ (AreBytes-word _) (AreBytes-append _ _ (AreBytes-word _) (AreBytes-word _)));
}

-- the schedules of a key undo each other
pub undone_of : (stride : ℕ) (keys undo : List (List ℕ)) → AreSchedules stride keys undo
    → IsUndone (schedule_bytes keys) (schedule_bytes undo) (4 * stride + 6)
undone_of stride keys undo held =
    let n = 4 * stride + 6 in
    let len : length keys ≡ n + 1 = omega (arith, held.0) in
    let undo_is : (r : ℕ) → r < length keys → block_of (slice_index_or undo r []) ≡ undo_key keys r = held.2.1 in
    let ulen : length undo ≡ n + 1 = held.2.0 ∙ len in
    record {
      some = omega arith;
      blocks = λ r le. rw (schedule_key keys r [] (omega arith)) (block_block_of (slice_index_or keys r []));
      first = schedule_key undo 0 [] (omega arith) ∙ undo_is 0 (omega arith) ∙ undo_first_is keys n len
          ∙ sym (schedule_key keys n [] (omega arith));
      last = schedule_key undo n [] (omega arith) ∙ undo_is n (omega arith) ∙ undo_last_is keys n len (omega arith)
          ∙ sym (schedule_key keys 0 [] (omega arith));
      inner = λ r low lt.
          schedule_key undo r [] (omega arith) ∙ undo_is r (omega arith) ∙ undo_inner_is keys n r len low lt
          ∙ ap unmix_columns (sym (schedule_key keys (n - r) [] (omega arith)));
    }

-- what the words of decryption give is the one block whose encryption was given
pub decrypted_is : (stride : ℕ) (keys undo : List (List ℕ)) (key block plain : List ℕ) → 1 ≤ stride
    → AreSchedules stride keys undo
    → schedule_bytes (take stride keys) ≡ key → IsBlock block
    → plain ≡ uncipher_by (schedule_bytes undo) (4 * stride + 6) block
    → cipher key plain ≡ block
decrypted_is stride keys undo key block plain low held is h e =
    ap (cipher key) e
    ∙ sym (cipher_of stride keys undo key (uncipher_by (schedule_bytes undo) (4 * stride + 6) block) low held is)
    ∙ cipher_uncipher (schedule_bytes keys) (schedule_bytes undo) (4 * stride + 6)
    (undone_of stride keys undo held) block h

pub decrypted_only : (stride : ℕ) (keys undo : List (List ℕ)) (key block plain other : List ℕ) → 1 ≤ stride
    → AreSchedules stride keys undo
    → schedule_bytes (take stride keys) ≡ key → plain ≡ uncipher_by (schedule_bytes undo) (4 * stride + 6) block
    → IsBlock other → cipher key other ≡ block → other ≡ plain
decrypted_only stride keys undo key block plain other low held is e h f =
    sym (uncipher_cipher (schedule_bytes keys) (schedule_bytes undo) (4 * stride + 6)
    (undone_of stride keys undo held) other h)
    ∙ ap (uncipher_by (schedule_bytes undo) (4 * stride + 6)) (cipher_of stride keys undo key other low held is ∙ f)
    ∙ sym e
