-- A key's cipher has an inverse, at every key of 16 or 32 bytes, and so a cipher text is that of one text.
use Rattle.std.proofs.Common.{◌≡◌, ℕ, zero, suc, ◌+◌, ◌-◌, ◌*◌, ◌/◌, ◌%◌, ◌<◌, ◌≤◌, ◌⊎◌, true}
use Rattle.std.proofs.Common.{false, List, [], ◌++◌, nat_eq, nat_lt, ◌&&◌, length, take, drop}
use Rattle.std.proofs.Common.{replicate, inl, inr, refl, ap, sym, ◌∙◌, lit<, arith}
use Rattle.std.specs.Prelude.{if◌then◌else◌}
use Rattle.std.proofs.lemmas.Bool.{cond_both, ne_eqb, eq-eqb}
use Rattle.std.proofs.lemmas.List.{take_at, drop_at, drop-drop, length-take-le, length-drop}
use Rattle.aes_cts.specs.Cipher.{sub_bytes, rot_word, round_constant, turned, next_word}
use Rattle.aes_cts.specs.Cipher.{expand, rounds_of, expanded, round_key, cipher}
use Rattle.aes_cts.specs.Inverse.{unmix_columns, uncipher_by}
use Rattle.aes_cts.specs.Stealing.{cts}
use Rattle.aes_cts.specs.Steps.{blocks_before_end, steal, return}
use Rattle.aes_cts.proofs.Field.{times_power-lt}
use Rattle.aes_cts.proofs.Sums.{AreBytes, AreBytes-add, AreBytes-append, AreBytes-take, AreBytes-drop}
use Rattle.aes_cts.proofs.Inversion.{IsBlock, IsUndone, sub-lt, block_unmix, block_cipher}
use Rattle.aes_cts.proofs.Inversion.{block_uncipher, cipher_uncipher, uncipher_cipher}
use Rattle.aes_cts.proofs.Lengths.{length-expand, length-cipher_at, length-cts_at}
use Rattle.aes_cts.proofs.Relation.{stolen_pass}
use Rattle.aes_cts.proofs.Returning.{AreInverse, block_of_zeros, return_steal}
use Rattle.aes_cts.proofs.Keyed.{before_low, before_high}

-- the words of an expanded key are bytes
AreBytes-sub : (w : List ℕ) → AreBytes w → AreBytes (sub_bytes w)
unfolding sub_bytes
AreBytes-sub w h = sub-lt w h

AreBytes-rot : (w : List ℕ) → AreBytes w → AreBytes (rot_word w)
unfolding rot_word
AreBytes-rot w h = AreBytes-append _ _ (AreBytes-drop 1 w h) (AreBytes-take 1 w h)

AreBytes-constant : (j : ℕ) → AreBytes (round_constant j)
unfolding round_constant
AreBytes-constant j = (times_power-lt (j - 1) 1 (lit< tt), (lit< tt, (lit< tt, (lit< tt, tt))))

AreBytes-turned : (n i : ℕ) (w : List ℕ) → AreBytes w → AreBytes (turned n i w)
unfolding turned
AreBytes-turned n i w h =
    let bytes = λ (l : List ℕ). AreBytes l in
    cond_both (nat_eq (i % n) 0) _ _ bytes
    (λ e. AreBytes-add _ _ (AreBytes-sub _ (AreBytes-rot w h)) (AreBytes-constant (i / n)))
    (λ e. cond_both (nat_lt 6 n && nat_eq (i % n) 4) (sub_bytes w) w bytes (λ f. AreBytes-sub w h) (λ f. h))

AreBytes-expand : (n : ℕ) (key : List ℕ) (more : ℕ) → AreBytes key → AreBytes (expand n key more)
unfolding expand next_word
AreBytes-expand n key zero h = h
AreBytes-expand n key (suc more) h =
    let before = AreBytes-expand n key more h in
    AreBytes-append _ _ before
    (AreBytes-add _ _ (AreBytes-take 4 _ (AreBytes-drop _ (expand n key more) before))
    (AreBytes-turned n _ _ (AreBytes-drop _ (expand n key more) before)))

-- the round keys that undo others, and blocks one after another
undoing : List ℕ → ℕ → ℕ → List ℕ
undoing keys n r =
    if nat_eq r 0 then round_key keys n
    else if nat_eq r n then round_key keys 0
    else unmix_columns (round_key keys (n - r))

flat : (ℕ → List ℕ) → ℕ → ℕ → List ℕ
flat f start zero = []
flat f start (suc many) = f start ++ flat f (suc start) many

flat_at : (f : ℕ → List ℕ) (start many r : ℕ) → ((k : ℕ) → k < start + many → length (f k) ≡ 16) → r < many
    → round_key (flat f start many) r ≡ f (start + r)
unfolding round_key flat
flat_at f start zero r each lt = absurd (omega arith)
flat_at f start (suc many) zero each lt =
    let here : start ≡ start + 0 = omega arith in
    take_at (f start) (flat f (suc start) many) 16 (each start (omega arith)) ∙ ap f here
flat_at f start (suc many) (suc r) each lt =
    let place : 16 * suc r ≡ 16 + 16 * r = omega arith in
    let next : suc start + r ≡ start + suc r = omega arith in
    let all = f start ++ flat f (suc start) many in
    let rest : drop (16 * suc r) all ≡ drop (16 * r) (flat f (suc start) many) =
    ap (λ (k : ℕ). drop k all) place ∙ sym (drop-drop (16 * r) 16 all)
    ∙ ap (drop (16 * r)) (drop_at (f start) (flat f (suc start) many) 16 (each start (omega arith))) in
    ap (take 16) rest
    ∙ flat_at f (suc start) many r (λ k below. each k (omega (arith, below))) (omega arith) ∙ ap f next

module _ (keys : List ℕ) (n : ℕ) (some : 1 ≤ n) (blocks : (r : ℕ) → r ≤ n → IsBlock (round_key keys r)) where
  block_undoing : (r : ℕ) → r < 0 + (n + 1) → length (undoing keys n r) ≡ 16
  unfolding undoing
  block_undoing r below =
      let whole = λ (l : List ℕ). length l ≡ 16 in
      cond_both (nat_eq r 0) _ _ whole (λ e. (blocks n (omega arith)).whole)
      (λ e. cond_both (nat_eq r n) _ _ whole (λ f. (blocks 0 (omega arith)).whole)
      (λ f. (block_unmix (round_key keys (n - r)) (blocks (n - r) (omega arith))).whole))

  place : (r : ℕ) → r < n + 1 → round_key (flat (undoing keys n) 0 (n + 1)) r ≡ undoing keys n r
  place r below =
      let same : 0 + r ≡ r = omega arith in
      flat_at (undoing keys n) 0 (n + 1) r block_undoing below ∙ ap (undoing keys n) same

  undone_by : IsUndone keys (flat (undoing keys n) 0 (n + 1)) n
  unfolding undoing
  undone_by =
      record {
        some = some;
        blocks = blocks;
        first = place 0 (omega arith);
        last =
            let zero_not : nat_eq n 0 ≡ false = ne_eqb n 0 (λ h. omega (arith, h, some)) in
            let same : nat_eq n n ≡ true = eq-eqb n n refl in
            let is : undoing keys n n ≡ round_key keys 0 = rw (zero_not, same) refl in
            place n (omega arith) ∙ is;
        inner = λ r low lt.
            let zero_not : nat_eq r 0 ≡ false = ne_eqb r 0 (λ h. omega (arith, h, low)) in
            let other : nat_eq r n ≡ false = ne_eqb r n (λ h. omega (arith, h, lt)) in
            let is : undoing keys n r ≡ unmix_columns (round_key keys (n - r)) = rw (zero_not, other) refl in
            place r (omega (arith, lt)) ∙ is;
      }

some_rounds : (key : List ℕ) → 1 ≤ rounds_of key
unfolding rounds_of
some_rounds key = omega arith

module _ (key : List ℕ) (long : (length key ≡ 16) ⊎ (length key ≡ 32)) (bytes : AreBytes key) where
  schedule_blocks : (r : ℕ) → r ≤ rounds_of key → IsBlock (round_key (expanded key) r)
  unfolding round_key expanded rounds_of
  schedule_blocks r le =
      let four : length key ≡ 4 * (length key / 4) = elim long [ inl e ↦ omega arith | inr e ↦ omega arith ] in
      let some : 1 ≤ length key / 4 = elim long [ inl e ↦ omega arith | inr e ↦ omega arith ] in
      let more = 4 * (length key / 4 + 6 + 1) - length key / 4 in
      let all = expand (length key / 4) key more in
      let len = length-expand (length key / 4) key more some four in
      let inside : 16 * r + 16 ≤ length all = elim long [ inl e ↦ omega (arith, len) | inr e ↦ omega (arith, len) ] in
      record {
        whole = length-take-le 16 (drop (16 * r) all) (omega (arith, length-drop (16 * r) all, inside));
        bytes = AreBytes-take 16 _ (AreBytes-drop (16 * r) all (AreBytes-expand (length key / 4) key more bytes));
      }

  undone : IsUndone (expanded key) (flat (undoing (expanded key) (rounds_of key)) 0 (rounds_of key + 1)) (rounds_of key)
  undone = undone_by (expanded key) (rounds_of key) (some_rounds key) schedule_blocks

  undo : List ℕ → List ℕ
  undo block = uncipher_by (flat (undoing (expanded key) (rounds_of key)) 0 (rounds_of key + 1)) (rounds_of key) block

  inverse : AreInverse (cipher key) undo
  unfolding cipher undo
  inverse = record {
    to_block = block_cipher (expanded key) _ (rounds_of key) undone;
    from_block = block_uncipher (expanded key) _ (rounds_of key) undone;
    there = cipher_uncipher (expanded key) _ (rounds_of key) undone;
    back = uncipher_cipher (expanded key) _ (rounds_of key) undone;
  }

  -- a block's encryption holds bytes
  pub bytes_of_block : (block : List ℕ) → length block ≡ 16 → AreBytes block → AreBytes (cipher key block)
  bytes_of_block block whole h = (inverse.to_block block (record { whole = whole; bytes = h })).bytes

  -- what stealing gives is undone
  undone_text : (text : List ℕ) → AreBytes text → 16 ≤ length text →
      return (blocks_before_end (length (cts key text))) undo (replicate 16 0) (cts key text) ≡ text
  unfolding cts
  undone_text text h low =
      let n = blocks_before_end (length text) in
      let same : length (cts key text) ≡ length text = length-cts_at key text long in
      let steps : cts key text ≡ steal n (cipher key) (replicate 16 0) text =
      stolen_pass (cipher key) (λ b. length-cipher_at key b long) (replicate 16 0) text low in
      ap (λ (m : ℕ). return (blocks_before_end m) undo (replicate 16 0) (cts key text)) same
      ∙ ap (return n undo (replicate 16 0)) steps
      ∙ return_steal (cipher key) undo inverse n (replicate 16 0) text block_of_zeros h (before_low (length text) low)
      (before_high (length text))

  pub one_text : (a b : List ℕ) → AreBytes a → AreBytes b → 16 ≤ length a → cts key a ≡ cts key b → a ≡ b
  one_text a b ha hb low same =
      let lengths : length a ≡ length b = sym (length-cts_at key a long) ∙ ap length same ∙ length-cts_at key b long in
      sym (undone_text a ha low)
      ∙ ap (λ (t : List ℕ). return (blocks_before_end (length t)) undo (replicate 16 0) t) same
      ∙ undone_text b hb (omega (arith, lengths, low))
