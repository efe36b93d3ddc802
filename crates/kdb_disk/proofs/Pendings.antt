-- One file of a disk in memory: how its images follow one another.
use Rattle.std.proofs.Common.{◌≡◌, ℕ, ◌+◌, ◌-◌, ◌<◌, ◌≤◌, inl, inr, ⊎_elim, min, List, [], ◌++◌, length, get_or}
use Rattle.std.proofs.Common.{take, drop, refl, sym, ◌∙◌, ap, arith, length-take, length-drop, take-append-drop}
use Rattle.std.proofs.lemmas.Bool.{cases_lt}
use Rattle.std.proofs.lemmas.List.{append-nil, take_all, drop_all, take-take}
use Rattle.std.proofs.lemmas.List.{drop-drop, get_or-take, get_or-drop, ext_get_or}
use Rattle.kdb_disk.specs.Files.{put}
use Rattle.kdb_disk.specs.Memory.{Pending, settled_at, after_write, after_cut, IsImage}
use Rattle.kdb_disk.proofs.Puts.{put_split, put_nothing, length-put, take-put, drop-put_behind}
use Rattle.kdb_disk.proofs.Puts.{get_or-put_before, get_or-put_in, get_or-put_behind}

-- what the last sync left is as long as an image
pub record IsShaped (p : Pending) : Type 0 where
  pub low : p.least ≤ length p.base
  pub high : length p.base ≤ p.greatest

pub shaped_settled : (s : List ℕ) → IsShaped (settled_at s)
shaped_settled s = record { low = omega arith; high = omega arith }

pub shaped_write : (at : ℕ) (bytes : List ℕ) (p : Pending) → IsShaped p → IsShaped (after_write at bytes p)
shaped_write at bytes p shaped = record { low = shaped.low; high = omega (arith, shaped.high) }

pub shaped_cut : (len : ℕ) (p : Pending) → IsShaped p → IsShaped (after_cut len p)
shaped_cut len p shaped = record { low = omega (arith, shaped.low); high = shaped.high }

-- a settled file has one image
pub image_settled : (s : List ℕ) → IsImage (settled_at s) s
image_settled s = record { no_shorter = omega arith; no_longer = omega arith; stays = λ i lt apart. refl }

pub settled_alone : (s c : List ℕ) → IsImage (settled_at s) c → c ≡ s
settled_alone s c image = ext_get_or 0 c s (omega (arith, image.no_shorter, image.no_longer))
    (λ i lt. image.stays i (omega (arith, image.no_longer)) tt)

-- what the last sync left is an image
pub image_base : (p : Pending) → IsShaped p → IsImage p p.base
image_base p shaped = record { no_shorter = shaped.low; no_longer = shaped.high; stays = λ i lt apart. refl }

-- what is read stays an image
pub image_write : (at : ℕ) (bytes : List ℕ) (p : Pending) → at ≤ length p.now → IsImage p p.now
    → IsImage (after_write at bytes p) (put at bytes p.now)
image_write at bytes p within image = record {
  no_shorter = omega (arith, image.no_shorter, length-put at bytes p.now within);
  no_longer = omega arith;
  stays = λ i lt apart. ⊎_elim
      (λ before. get_or-put_before i at bytes p.now 0 before within)
      (λ behind. get_or-put_behind i at bytes p.now 0 behind within)
      apart.0 ∙ image.stays i lt apart.1;
}

pub image_cut : (len : ℕ) (p : Pending) → IsImage p p.now → IsImage (after_cut len p) (take len p.now)
image_cut len p image = record {
  no_shorter = omega (arith, image.no_shorter, length-take len p.now);
  no_longer = omega (arith, image.no_longer, length-take len p.now);
  stays = λ i lt apart. get_or-take len p.now i 0 (omega (arith, lt)) ∙ image.stays i (omega (arith, lt)) apart;
}

-- an image after a write, as an older image with some bytes of it
pub record TornFrom (at n : ℕ) (p : Pending) (c : List ℕ) : Type 0 where
  pub old : List ℕ
  pub was : IsImage p old
  pub part : List ℕ
  pub few : length part ≤ n
  pub is : c ≡ put at part old

module _ (at : ℕ) (bytes : List ℕ) (p : Pending) (c : List ℕ) (within : at ≤ length p.now) (now : IsImage p p.now)
    (shaped : IsShaped p) (image : IsImage (after_write at bytes p) c) where
  -- it ends before the place
  torn_short : length c ≤ at → TornFrom at (length bytes) p c
  torn_short short = record {
    old = c;
    was = record {
      no_shorter = image.no_shorter;
      no_longer = omega (arith, now.no_longer);
      stays = λ i lt apart. image.stays i lt (inl (omega (arith, image.no_shorter)), apart);
    };
    part = [];
    few = omega arith;
    is = sym (put_nothing at c);
  }

  -- how many of its bytes are of the write, and what stood in their place
  count : ℕ
  count = min (length bytes) (length c - at)

  count_few : count ≤ length bytes
  unfolding count
  count_few = omega arith

  count_within : count ≤ length c - at
  unfolding count
  count_within = omega arith

  -- an image that is longer than the file was ends within the write
  reaches_end : p.greatest < length c → at + count ≡ length c
  unfolding count
  reaches_end over = omega (arith, over, image.no_longer, now.no_longer, length-put at bytes p.now within)

  kept : List ℕ
  kept = take count (drop at p.base)

  older : List ℕ
  older = take p.greatest (put at kept c)

  long_kept : length kept ≡ min count (length p.base - at)
  unfolding kept
  long_kept = length-take count (drop at p.base) ∙ ap (min count) (length-drop at p.base)

  few_kept : length kept ≤ count
  few_kept = omega (arith, long_kept)

  long_put : at < length c → length (put at kept c) ≡ length c
  unfolding count
  long_put reaches = length-put at kept c (omega arith) ∙ omega (arith, few_kept)

  long_older : at < length c → length older ≡ min p.greatest (length c)
  unfolding older
  long_older reaches = length-take p.greatest (put at kept c) ∙ ap (min p.greatest) (long_put reaches)

  between : (i : ℕ) → at < length c → i < p.least → at ≤ i → i < at + length bytes
      → get_or (put at kept c) i 0 ≡ get_or p.base i 0
  unfolding kept count
  between i reaches lt from to =
      let j = i - at in
      let is : at + j ≡ i = omega arith in
      let in_count : j < count = omega (arith, image.no_shorter) in
      let in_kept : j < length kept = omega (arith, long_kept, shaped.low) in
      ap (λ (k : ℕ). get_or (put at kept c) k 0) (sym is)
      ∙ get_or-put_in j at kept c 0 in_kept (omega arith)
      ∙ get_or-take count (drop at p.base) j 0 in_count
      ∙ get_or-drop at p.base j 0
      ∙ ap (λ (k : ℕ). get_or p.base k 0) is

  older_was : at < length c → IsImage p older
  unfolding older
  older_was reaches = record {
    no_shorter = omega (arith, long_older reaches, now.no_shorter, now.no_longer, image.no_shorter);
    no_longer = omega (arith, long_older reaches);
    stays = λ i lt apart.
        get_or-take p.greatest (put at kept c) i 0 (omega (arith, now.no_shorter, now.no_longer))
        ∙ ⊎_elim
        (λ before. get_or-put_before i at kept c 0 before (omega arith) ∙ image.stays i lt (inl before, apart))
        (λ from. ⊎_elim
        (λ inside. between i reaches lt from inside)
        (λ behind. get_or-put_behind i at kept c 0 (omega (arith, behind, few_kept, count_few)) (omega arith)
        ∙ image.stays i lt (inr behind, apart))
        (cases_lt i (at + length bytes)))
        (cases_lt i at);
  }

  -- what stands behind the write is the same
  behind_older : at < length c → drop (at + count) older ≡ drop (at + count) c
  unfolding older
  behind_older reaches = ⊎_elim
      (λ over. drop_all (at + count) older (omega (arith, long_older reaches, over, reaches_end over))
      ∙ sym (drop_all (at + count) c (omega (arith, reaches_end over))))
      (λ fits. ap (drop (at + count)) (take_all p.greatest (put at kept c) (omega (arith, long_put reaches, fits)))
      ∙ drop-put_behind (at + count) at kept c (omega (arith, few_kept)) (omega arith))
      (cases_lt p.greatest (length c))

  older_is : at < length c → c ≡ put at (take count (drop at c)) older
  unfolding older
  older_is reaches =
      let part = take count (drop at c) in
      let long : length part ≡ count = omega (arith, length-take count (drop at c), length-drop at c, count_within) in
      let front : take at older ≡ take at c = take-take at p.greatest (put at kept c) (omega (arith, now.no_longer))
      ∙ take-put at at kept c (omega arith) (omega arith) in
      sym (put_split at part older
      ∙ ap (λ (l : List ℕ). l ++ (part ++ drop (at + length part) older)) front
      ∙ ap (λ (k : ℕ). take at c ++ (part ++ drop (at + k) older)) long
      ∙ ap (λ (l : List ℕ). take at c ++ (part ++ l)) (behind_older reaches)
      ∙ ap (λ (l : List ℕ). take at c ++ (part ++ l)) (sym (drop-drop count at c))
      ∙ ap (λ (l : List ℕ). take at c ++ l) (take-append-drop count (drop at c))
      ∙ take-append-drop at c)

  pub torn_from : TornFrom at (length bytes) p c
  torn_from = ⊎_elim
      (λ reaches. record {
        old = older;
        was = older_was reaches;
        part = take count (drop at c);
        few = omega (arith, length-take count (drop at c), count_few);
        is = older_is reaches;
      })
      torn_short
      (cases_lt at (length c))

-- an image after a cut, as an older image that was cut
pub record FrayedFrom (len : ℕ) (p : Pending) (c : List ℕ) : Type 0 where
  pub old : List ℕ
  pub was : IsImage p old
  pub part : List ℕ
  pub few : length (take len old) + length part ≤ length old
  pub is : c ≡ take len old ++ part

module _ (len : ℕ) (p : Pending) (c : List ℕ) (now : IsImage p p.now) (shaped : IsShaped p)
    (image : IsImage (after_cut len p) c) where
  frayed_short : length c < len → FrayedFrom len p c
  frayed_short short = record {
    old = c;
    was = record {
      no_shorter = omega (arith, image.no_shorter);
      no_longer = image.no_longer;
      stays = λ i lt apart. image.stays i (omega (arith, lt, image.no_shorter)) apart;
    };
    part = [];
    few = omega (arith, length-take len c);
    is = sym (append-nil (take len c) ∙ take_all len c (omega arith));
  }

  -- what stood behind the cut
  rest : List ℕ
  rest = take (p.least - len) (drop len p.base)

  long_rest : length rest ≡ p.least - len
  unfolding rest
  long_rest = length-take (p.least - len) (drop len p.base) ∙ omega (arith, length-drop len p.base, shaped.low)

  behind : (i : ℕ) → len ≤ length c → i < p.least → len ≤ i → get_or (put len rest c) i 0 ≡ get_or p.base i 0
  unfolding rest
  behind i reaches lt from =
      let j = i - len in
      let is : len + j ≡ i = omega arith in
      let inside : j < p.least - len = omega arith in
      ap (λ (k : ℕ). get_or (put len rest c) k 0) (sym is)
      ∙ get_or-put_in j len rest c 0 (omega (arith, long_rest)) reaches
      ∙ get_or-take (p.least - len) (drop len p.base) j 0 inside
      ∙ get_or-drop len p.base j 0
      ∙ ap (λ (k : ℕ). get_or p.base k 0) is

  frayed_long : len ≤ length c → FrayedFrom len p c
  frayed_long reaches = record {
    old = put len rest c;
    was = record {
      no_shorter = omega (arith, length-put len rest c reaches, long_rest);
      no_longer =
          omega (arith, length-put len rest c reaches, long_rest, image.no_longer, now.no_shorter, now.no_longer);
      stays = λ i lt apart. ⊎_elim
          (λ before. get_or-put_before i len rest c 0 before reaches ∙ image.stays i (omega (arith, lt, before)) apart)
          (λ from. behind i reaches lt from)
          (cases_lt i len);
    };
    part = drop len c;
    few = omega (arith, length-take len (put len rest c), length-put len rest c reaches, length-drop len c);
    is = sym (ap (λ (l : List ℕ). l ++ drop len c) (take-put len len rest c (omega arith) reaches)
        ∙ take-append-drop len c);
  }

  pub frayed_from : FrayedFrom len p c
  frayed_from = ⊎_elim frayed_short frayed_long (cases_lt (length c) len)
