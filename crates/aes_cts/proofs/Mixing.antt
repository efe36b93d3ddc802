-- MixColumns and InvMixColumns on one column: both are linear, so that they undo each other as they do it on columns
-- with one byte that is not 0, which the checker computes.
use Rattle.std.proofs.Common.{◌≡◌, ℕ, zero, suc, ◌+◌, ◌<◌, ◌∷◌, [], List, Bool, true}
use Rattle.std.proofs.Common.{length, slice_index, bit_xor, lit<, refl, ap₂, ap, sym, ◌∙◌}
use Rattle.std.specs.Int.Bits.{xor_zero_r}
use Rattle.std.proofs.lemmas.Nat.{xor_of_8}
use Rattle.std.proofs.lemmas.Bool.{agree_below, agree_below_at}
use Rattle.aes_cts.specs.Field.{times_x, times_power, partial_product, product}
use Rattle.aes_cts.specs.Cipher.{add_bytes, mixed, mixed_at}
use Rattle.aes_cts.specs.Inverse.{unmixed, unmixed_at}
use Rattle.aes_cts.proofs.Entries.{same_bytes, same_bytes-true}
use Rattle.aes_cts.proofs.Sums.{slice_index-add_bytes, length-add_bytes, add_bytes-lt}
use Rattle.aes_cts.proofs.Field.{xor_four, product-lt, product-xor}

pub mixed-add : (a b c d e f g h : ℕ) → a < 256 → b < 256 → c < 256 → d < 256 → e < 256 → f < 256 → g < 256 → h < 256
    → mixed (bit_xor a e) (bit_xor b f) (bit_xor c g) (bit_xor d h) ≡ add_bytes (mixed a b c d) (mixed e f g h)
unfolding mixed add_bytes
mixed-add a b c d e f g h la lb lc ld le lf lg lh =
    rw (
      product-xor 2 a e la le,
      product-xor 3 b f lb lf,
      product-xor 2 b f lb lf,
      product-xor 3 c g lc lg,
      product-xor 2 c g lc lg,
      product-xor 3 d h ld lh,
      product-xor 3 a e la le,
      product-xor 2 d h ld lh,
      xor_four (product 2 a) (product 3 b) c d (product 2 e) (product 3 f) g h,
      xor_four a (product 2 b) (product 3 c) d e (product 2 f) (product 3 g) h,
      xor_four a b (product 2 c) (product 3 d) e f (product 2 g) (product 3 h),
      xor_four (product 3 a) b c (product 2 d) (product 3 e) f g (product 2 h),
    ) refl

pub unmixed-add : (a b c d e f g h : ℕ) → a < 256 → b < 256 → c < 256 → d < 256 → e < 256 → f < 256 → g < 256 → h < 256
    → unmixed (bit_xor a e) (bit_xor b f) (bit_xor c g) (bit_xor d h) ≡ add_bytes (unmixed a b c d) (unmixed e f g h)
unfolding unmixed add_bytes
unmixed-add a b c d e f g h la lb lc ld le lf lg lh =
    rw (
      product-xor 14 a e la le,
      product-xor 11 b f lb lf,
      product-xor 13 c g lc lg,
      product-xor 9 d h ld lh,
      product-xor 9 a e la le,
      product-xor 14 b f lb lf,
      product-xor 11 c g lc lg,
      product-xor 13 d h ld lh,
      product-xor 13 a e la le,
      product-xor 9 b f lb lf,
      product-xor 14 c g lc lg,
      product-xor 11 d h ld lh,
      product-xor 11 a e la le,
      product-xor 13 b f lb lf,
      product-xor 9 c g lc lg,
      product-xor 14 d h ld lh,
      xor_four (product 14 a) (product 11 b) (product 13 c) (product 9 d) (product 14 e) (product 11 f) (product 13 g)
          (product 9 h),
      xor_four (product 9 a) (product 14 b) (product 11 c) (product 13 d) (product 9 e) (product 14 f) (product 11 g)
          (product 13 h),
      xor_four (product 13 a) (product 9 b) (product 14 c) (product 11 d) (product 13 e) (product 9 f) (product 14 g)
          (product 11 h),
      xor_four (product 11 a) (product 13 b) (product 9 c) (product 14 d) (product 11 e) (product 13 f) (product 9 g)
          (product 14 h),
    ) refl

four_lt : (a b c d : ℕ) → a < 256 → b < 256 → c < 256 → d < 256 → bit_xor (bit_xor (bit_xor a b) c) d < 256
four_lt a b c d la lb lc ld = xor_of_8 _ _ (xor_of_8 _ _ (xor_of_8 _ _ la lb) lc) ld

-- the bytes of a mixed column are bytes
pub mixed-lt : (a b c d : ℕ) → a < 256 → b < 256 → c < 256 → d < 256 → (i : ℕ) → slice_index (mixed a b c d) i < 256
unfolding mixed
mixed-lt a b c d la lb lc ld zero = four_lt _ _ _ _ (product-lt 2 a la) (product-lt 3 b lb) lc ld
mixed-lt a b c d la lb lc ld (suc zero) = four_lt _ _ _ _ la (product-lt 2 b lb) (product-lt 3 c lc) ld
mixed-lt a b c d la lb lc ld (suc (suc zero)) = four_lt _ _ _ _ la lb (product-lt 2 c lc) (product-lt 3 d ld)
mixed-lt a b c d la lb lc ld (suc (suc (suc zero))) = four_lt _ _ _ _ (product-lt 3 a la) lb lc (product-lt 2 d ld)
mixed-lt a b c d la lb lc ld (suc (suc (suc (suc i)))) = lit< tt

pub unmixed-lt : (a b c d : ℕ) → a < 256 → b < 256 → c < 256 → d < 256 → (i : ℕ) → slice_index (unmixed a b c d) i < 256
unfolding unmixed
unmixed-lt a b c d la lb lc ld zero =
    four_lt _ _ _ _ (product-lt 14 a la) (product-lt 11 b lb) (product-lt 13 c lc) (product-lt 9 d ld)
unmixed-lt a b c d la lb lc ld (suc zero) =
    four_lt _ _ _ _ (product-lt 9 a la) (product-lt 14 b lb) (product-lt 11 c lc) (product-lt 13 d ld)
unmixed-lt a b c d la lb lc ld (suc (suc zero)) =
    four_lt _ _ _ _ (product-lt 13 a la) (product-lt 9 b lb) (product-lt 14 c lc) (product-lt 11 d ld)
unmixed-lt a b c d la lb lc ld (suc (suc (suc zero))) =
    four_lt _ _ _ _ (product-lt 11 a la) (product-lt 13 b lb) (product-lt 9 c lc) (product-lt 14 d ld)
unmixed-lt a b c d la lb lc ld (suc (suc (suc (suc i)))) = lit< tt

-- a column mixed, whose four bytes stand in a list
pub mixed-add_at : (x y : List ℕ) → ((i : ℕ) → slice_index x i < 256) → ((i : ℕ) → slice_index y i < 256)
    → ((i : ℕ) → slice_index (add_bytes x y) i ≡ bit_xor (slice_index x i) (slice_index y i))
    → (i : ℕ) → mixed_at (add_bytes x y) i ≡ add_bytes (mixed_at x i) (mixed_at y i)
unfolding mixed_at
mixed-add_at x y bx by e i =
    rw (e i, e (i + 1), e (i + 2), e (i + 3)) (mixed-add _ _ _ _ _ _ _ _ (bx i) (bx (i + 1)) (bx (i + 2)) (bx (i + 3))
    (by i) (by (i + 1)) (by (i + 2)) (by (i + 3)))

pub unmixed-add_at : (x y : List ℕ) → ((i : ℕ) → slice_index x i < 256) → ((i : ℕ) → slice_index y i < 256)
    → ((i : ℕ) → slice_index (add_bytes x y) i ≡ bit_xor (slice_index x i) (slice_index y i))
    → (i : ℕ) → unmixed_at (add_bytes x y) i ≡ add_bytes (unmixed_at x i) (unmixed_at y i)
unfolding unmixed_at
unmixed-add_at x y bx by e i =
    rw (e i, e (i + 1), e (i + 2), e (i + 3)) (unmixed-add _ _ _ _ _ _ _ _ (bx i) (bx (i + 1)) (bx (i + 2)) (bx (i + 3))
    (by i) (by (i + 1)) (by (i + 2)) (by (i + 3)))

-- columns with one byte
one_test : (ℕ → List ℕ) → (ℕ → List ℕ) → Bool
one_test f g = agree_below (λ x. same_bytes (f x) (g x)) (λ _. true) 256

one_test-at : (f g : ℕ → List ℕ) → one_test f g ≡ true → (x : ℕ) → x < 256 → f x ≡ g x
unfolding one_test
one_test-at f g h x lt =
    same_bytes-true _ _ (agree_below_at (λ (y : ℕ). same_bytes (f y) (g y)) (λ (y : ℕ). true) 256 x h lt)

mix_one_0 : (x : ℕ) → x < 256 → mixed_at (unmixed x 0 0 0) 0 ≡ x ∷ 0 ∷ 0 ∷ 0 ∷ []
unfolding one_test same_bytes mixed_at mixed unmixed product partial_product times_power times_x
mix_one_0 = one_test-at (λ (x : ℕ). mixed_at (unmixed x 0 0 0) 0) (λ (x : ℕ). x ∷ 0 ∷ 0 ∷ 0 ∷ []) refl

mix_one_1 : (x : ℕ) → x < 256 → mixed_at (unmixed 0 x 0 0) 0 ≡ 0 ∷ x ∷ 0 ∷ 0 ∷ []
unfolding one_test same_bytes mixed_at mixed unmixed product partial_product times_power times_x
mix_one_1 = one_test-at (λ (x : ℕ). mixed_at (unmixed 0 x 0 0) 0) (λ (x : ℕ). 0 ∷ x ∷ 0 ∷ 0 ∷ []) refl

mix_one_2 : (x : ℕ) → x < 256 → mixed_at (unmixed 0 0 x 0) 0 ≡ 0 ∷ 0 ∷ x ∷ 0 ∷ []
unfolding one_test same_bytes mixed_at mixed unmixed product partial_product times_power times_x
mix_one_2 = one_test-at (λ (x : ℕ). mixed_at (unmixed 0 0 x 0) 0) (λ (x : ℕ). 0 ∷ 0 ∷ x ∷ 0 ∷ []) refl

mix_one_3 : (x : ℕ) → x < 256 → mixed_at (unmixed 0 0 0 x) 0 ≡ 0 ∷ 0 ∷ 0 ∷ x ∷ []
unfolding one_test same_bytes mixed_at mixed unmixed product partial_product times_power times_x
mix_one_3 = one_test-at (λ (x : ℕ). mixed_at (unmixed 0 0 0 x) 0) (λ (x : ℕ). 0 ∷ 0 ∷ 0 ∷ x ∷ []) refl

unmix_one_0 : (x : ℕ) → x < 256 → unmixed_at (mixed x 0 0 0) 0 ≡ x ∷ 0 ∷ 0 ∷ 0 ∷ []
unfolding one_test same_bytes unmixed_at mixed unmixed product partial_product times_power times_x
unmix_one_0 = one_test-at (λ (x : ℕ). unmixed_at (mixed x 0 0 0) 0) (λ (x : ℕ). x ∷ 0 ∷ 0 ∷ 0 ∷ []) refl

unmix_one_1 : (x : ℕ) → x < 256 → unmixed_at (mixed 0 x 0 0) 0 ≡ 0 ∷ x ∷ 0 ∷ 0 ∷ []
unfolding one_test same_bytes unmixed_at mixed unmixed product partial_product times_power times_x
unmix_one_1 = one_test-at (λ (x : ℕ). unmixed_at (mixed 0 x 0 0) 0) (λ (x : ℕ). 0 ∷ x ∷ 0 ∷ 0 ∷ []) refl

unmix_one_2 : (x : ℕ) → x < 256 → unmixed_at (mixed 0 0 x 0) 0 ≡ 0 ∷ 0 ∷ x ∷ 0 ∷ []
unfolding one_test same_bytes unmixed_at mixed unmixed product partial_product times_power times_x
unmix_one_2 = one_test-at (λ (x : ℕ). unmixed_at (mixed 0 0 x 0) 0) (λ (x : ℕ). 0 ∷ 0 ∷ x ∷ 0 ∷ []) refl

unmix_one_3 : (x : ℕ) → x < 256 → unmixed_at (mixed 0 0 0 x) 0 ≡ 0 ∷ 0 ∷ 0 ∷ x ∷ []
unfolding one_test same_bytes unmixed_at mixed unmixed product partial_product times_power times_x
unmix_one_3 = one_test-at (λ (x : ℕ). unmixed_at (mixed 0 0 0 x) 0) (λ (x : ℕ). 0 ∷ 0 ∷ 0 ∷ x ∷ []) refl

length-mixed : (a b c d : ℕ) → length (mixed a b c d) ≡ 4
unfolding mixed
length-mixed a b c d = refl

length-unmixed : (a b c d : ℕ) → length (unmixed a b c d) ≡ 4
unfolding unmixed
length-unmixed a b c d = refl

low : 0 < 256
low = lit< tt

-- a mixed column is the sum of its mixed bytes
unmixed_split : (a b c d : ℕ) → a < 256 → b < 256 → c < 256 → d < 256
    → unmixed a b c d ≡ add_bytes (unmixed a 0 0 0)
    (add_bytes (unmixed 0 b 0 0) (add_bytes (unmixed 0 0 c 0) (unmixed 0 0 0 d)))
unmixed_split a b c d la lb lc ld =
    let first : unmixed a b c d ≡ add_bytes (unmixed a 0 0 0) (unmixed 0 b c d) =
    ap (λ (x : ℕ). unmixed x b c d) (sym (xor_zero_r a)) ∙ unmixed-add a 0 0 0 0 b c d la low low low low lb lc ld in
    let second : unmixed 0 b c d ≡ add_bytes (unmixed 0 b 0 0) (unmixed 0 0 c d) =
    ap (λ (x : ℕ). unmixed 0 x c d) (sym (xor_zero_r b)) ∙ unmixed-add 0 b 0 0 0 0 c d low lb low low low low lc ld in
    let third : unmixed 0 0 c d ≡ add_bytes (unmixed 0 0 c 0) (unmixed 0 0 0 d) =
    ap (λ (x : ℕ). unmixed 0 0 x d) (sym (xor_zero_r c)) ∙ unmixed-add 0 0 c 0 0 0 0 d low low lc low low low low ld in
    first ∙ ap (add_bytes (unmixed a 0 0 0)) (second ∙ ap (add_bytes (unmixed 0 b 0 0)) third)

mixed_split : (a b c d : ℕ) → a < 256 → b < 256 → c < 256 → d < 256
    → mixed a b c d ≡ add_bytes (mixed a 0 0 0) (add_bytes (mixed 0 b 0 0) (add_bytes (mixed 0 0 c 0) (mixed 0 0 0 d)))
mixed_split a b c d la lb lc ld =
    let first : mixed a b c d ≡ add_bytes (mixed a 0 0 0) (mixed 0 b c d) =
    ap (λ (x : ℕ). mixed x b c d) (sym (xor_zero_r a)) ∙ mixed-add a 0 0 0 0 b c d la low low low low lb lc ld in
    let second : mixed 0 b c d ≡ add_bytes (mixed 0 b 0 0) (mixed 0 0 c d) =
    ap (λ (x : ℕ). mixed 0 x c d) (sym (xor_zero_r b)) ∙ mixed-add 0 b 0 0 0 0 c d low lb low low low low lc ld in
    let third : mixed 0 0 c d ≡ add_bytes (mixed 0 0 c 0) (mixed 0 0 0 d) =
    ap (λ (x : ℕ). mixed 0 0 x d) (sym (xor_zero_r c)) ∙ mixed-add 0 0 c 0 0 0 0 d low low lc low low low low ld in
    first ∙ ap (add_bytes (mixed a 0 0 0)) (second ∙ ap (add_bytes (mixed 0 b 0 0)) third)

-- four columns of one byte each, added
one_sum : (a b c d : ℕ) → add_bytes (a ∷ 0 ∷ 0 ∷ 0 ∷ [])
    (add_bytes (0 ∷ b ∷ 0 ∷ 0 ∷ []) (add_bytes (0 ∷ 0 ∷ c ∷ 0 ∷ []) (0 ∷ 0 ∷ 0 ∷ d ∷ []))) ≡ a ∷ b ∷ c ∷ d ∷ []
unfolding add_bytes
one_sum a b c d = rw (xor_zero_r a, xor_zero_r b, xor_zero_r c) refl

-- the two mixings of a column undo each other
pub mix_unmixed : (a b c d : ℕ) → a < 256 → b < 256 → c < 256 → d < 256
    → mixed_at (unmixed a b c d) 0 ≡ a ∷ b ∷ c ∷ d ∷ []
mix_unmixed a b c d la lb lc ld =
    let x = unmixed a 0 0 0 in
    let y = unmixed 0 b 0 0 in
    let z = unmixed 0 0 c 0 in
    let w = unmixed 0 0 0 d in
    let bx = unmixed-lt a 0 0 0 la low low low in
    let by = unmixed-lt 0 b 0 0 low lb low low in
    let bz = unmixed-lt 0 0 c 0 low low lc low in
    let bw = unmixed-lt 0 0 0 d low low low ld in
    let lzw : length z ≡ length w = length-unmixed 0 0 c 0 ∙ sym (length-unmixed 0 0 0 d) in
    let lyz : length y ≡ length (add_bytes z w) =
    length-unmixed 0 b 0 0 ∙ sym (length-add_bytes z w lzw ∙ length-unmixed 0 0 0 d) in
    let lxy : length x ≡ length (add_bytes y (add_bytes z w)) = length-unmixed a 0 0 0
    ∙ sym (length-add_bytes y (add_bytes z w) lyz ∙ length-add_bytes z w lzw ∙ length-unmixed 0 0 0 d) in
    let bzw = add_bytes-lt z w lzw bz bw in
    let byz = add_bytes-lt y (add_bytes z w) lyz by bzw in
    ap (λ (l : List ℕ). mixed_at l 0) (unmixed_split a b c d la lb lc ld)
    ∙ mixed-add_at x (add_bytes y (add_bytes z w)) bx byz (slice_index-add_bytes x (add_bytes y (add_bytes z w)) lxy) 0
    ∙ ap₂ add_bytes (mix_one_0 a la)
    (mixed-add_at y (add_bytes z w) by bzw (slice_index-add_bytes y (add_bytes z w) lyz) 0
    ∙ ap₂ add_bytes (mix_one_1 b lb)
    (mixed-add_at z w bz bw (slice_index-add_bytes z w lzw) 0 ∙ ap₂ add_bytes (mix_one_2 c lc) (mix_one_3 d ld)))
    ∙ one_sum a b c d

pub unmix_mixed : (a b c d : ℕ) → a < 256 → b < 256 → c < 256 → d < 256
    → unmixed_at (mixed a b c d) 0 ≡ a ∷ b ∷ c ∷ d ∷ []
unmix_mixed a b c d la lb lc ld =
    let x = mixed a 0 0 0 in
    let y = mixed 0 b 0 0 in
    let z = mixed 0 0 c 0 in
    let w = mixed 0 0 0 d in
    let bx = mixed-lt a 0 0 0 la low low low in
    let by = mixed-lt 0 b 0 0 low lb low low in
    let bz = mixed-lt 0 0 c 0 low low lc low in
    let bw = mixed-lt 0 0 0 d low low low ld in
    let lzw : length z ≡ length w = length-mixed 0 0 c 0 ∙ sym (length-mixed 0 0 0 d) in
    let lyz : length y ≡ length (add_bytes z w) =
    length-mixed 0 b 0 0 ∙ sym (length-add_bytes z w lzw ∙ length-mixed 0 0 0 d) in
    let lxy : length x ≡ length (add_bytes y (add_bytes z w)) = length-mixed a 0 0 0
    ∙ sym (length-add_bytes y (add_bytes z w) lyz ∙ length-add_bytes z w lzw ∙ length-mixed 0 0 0 d) in
    let bzw = add_bytes-lt z w lzw bz bw in
    let byz = add_bytes-lt y (add_bytes z w) lyz by bzw in
    ap (λ (l : List ℕ). unmixed_at l 0) (mixed_split a b c d la lb lc ld)
    ∙ unmixed-add_at x (add_bytes y (add_bytes z w)) bx byz
    (slice_index-add_bytes x (add_bytes y (add_bytes z w)) lxy) 0
    ∙ ap₂ add_bytes (unmix_one_0 a la)
    (unmixed-add_at y (add_bytes z w) by bzw (slice_index-add_bytes y (add_bytes z w) lyz) 0
    ∙ ap₂ add_bytes (unmix_one_1 b lb)
    (unmixed-add_at z w bz bw (slice_index-add_bytes z w lzw) 0 ∙ ap₂ add_bytes (unmix_one_2 c lc) (unmix_one_3 d ld)))
    ∙ one_sum a b c d
