-- A list of known length, place by place.
use Rattle.std.proofs.Common.{◌≡◌, ℕ, zero, suc, ◌+◌, ◌≤◌, ◌∷◌, ◌++◌, [], List, length}
use Rattle.std.proofs.Common.{take, drop, slice_index, refl, subst, ap, ◌∙◌, arith}
use Rattle.std.proofs.lemmas.List.{take_more, take_all}
use borrow.Rule.Slice.PartMut.{put_mid, post_of}
use Rattle.aes_cts.specs.Words.{word_bytes, block_of}

-- the first n places of a list
pub reads : ℕ → List ℕ → List ℕ
reads zero b = []
reads (suc n) b = reads n b ++ slice_index b n ∷ []

reads-take : (n : ℕ) (b : List ℕ) → n ≤ length b → reads n b ≡ take n b
unfolding reads
reads-take zero b le = refl
reads-take (suc n) b le =
    let e : suc n ≡ n + 1 = omega arith in
    rw (e, take_more b n 0 (omega arith))
    (ap (λ (l : List ℕ). l ++ slice_index b n ∷ []) (reads-take n b (omega arith)))

reads_all : (n : ℕ) (b : List ℕ) → length b ≡ n → reads n b ≡ b
reads_all n b h = reads-take n b (omega arith) ∙ take_all n b (omega arith)

pub four_reads : (b : List ℕ) → length b ≡ 4
    → slice_index b 0 ∷ slice_index b 1 ∷ slice_index b 2 ∷ slice_index b 3 ∷ [] ≡ b
unfolding reads
four_reads b h = reads_all 4 b h

pub sixteen_reads : (b : List ℕ) → length b ≡ 16
    → slice_index b 0 ∷ slice_index b 1 ∷ slice_index b 2 ∷ slice_index b 3
    ∷ slice_index b 4 ∷ slice_index b 5 ∷ slice_index b 6 ∷ slice_index b 7
    ∷ slice_index b 8 ∷ slice_index b 9 ∷ slice_index b 10 ∷ slice_index b 11
    ∷ slice_index b 12 ∷ slice_index b 13 ∷ slice_index b 14 ∷ slice_index b 15 ∷ [] ≡ b
unfolding reads
sixteen_reads b h = reads_all 16 b h

pub quarters : (b : List ℕ) → length b ≡ 16
    → take 4 b ++ (take 4 (drop 4 b) ++ (take 4 (drop 8 b) ++ take 4 (drop 12 b))) ≡ b
quarters b h =
    subst (λ (x : List ℕ). take 4 x ++ (take 4 (drop 4 x) ++ (take 4 (drop 8 x) ++ take 4 (drop 12 x))) ≡ x)
    (sixteen_reads b h) refl

-- four words written over a block
pub four_stored : (b w x y z s : List ℕ) → length b ≡ 16
    → w ≡ word_bytes (slice_index s 0) → x ≡ word_bytes (slice_index s 1)
    → y ≡ word_bytes (slice_index s 2) → z ≡ word_bytes (slice_index s 3)
    → put_mid 12 4 (put_mid 8 4 (put_mid 4 4 (w ++ post_of 0 4 b) x) y) z ≡ block_of s
unfolding word_bytes block_of
four_stored b w x y z s h e f g i = rw (e, f, g, i, ← sixteen_reads b h) refl
