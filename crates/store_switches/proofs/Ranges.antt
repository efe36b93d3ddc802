-- What the ranges of a choice of files say.
use Rattle.std.proofs.Common.{◌≡◌, ◌≢◌, ℕ, Bool, ◌≤◌, ◌-◌, ◌⊎◌, inl, inr, ⊎_elim}
use Rattle.std.proofs.Common.{true, false, ◌||◌, ◌&&◌, refl, sym, ◌∙◌, ap, arith}
use Rattle.std.specs.Prelude.{nat_eq, nat_lt}
use Rattle.std.proofs.lemmas.Bool.{lt-ltb, and_parts, and_from, cases_eq, ne_eqb, false≢true}
use Rattle.kdb_control.specs.Choice.{Choice, is_format, in_ranges, is_choice}
use Rattle.kdb_control.specs.Force.{turn_after}
use Rattle.store_files.specs.Switches.{IsSpareFor}

pub one_of_two : (n a b : ℕ) → (nat_eq n a || nat_eq n b) ≡ true → (n ≡ a) ⊎ (n ≡ b)
one_of_two n a b is = ⊎_elim
    (λ e. inl e)
    (λ other. ⊎_elim (λ e. inr e) (λ neither. let none : (nat_eq n a || nat_eq n b) ≡ false =
    rw (ne_eqb n a other, ne_eqb n b neither) refl in absurd (false≢true (sym none ∙ is))) (cases_eq n b))
    (cases_eq n a)

one_of_three : (n a b c : ℕ) → (nat_eq n a || nat_eq n b || nat_eq n c) ≡ true → (n ≡ a) ⊎ ((n ≡ b) ⊎ (n ≡ c))
one_of_three n a b c is = ⊎_elim
    (λ e. inl e)
    (λ other. inr (one_of_two n b c (ap (λ (x : Bool). x || nat_eq n b || nat_eq n c) (sym (ne_eqb n a other)) ∙ is)))
    (cases_eq n a)

-- The numbers of a choice are in their ranges.
pub record AreRanged (turn image log stash size block : ℕ) : Type 0 where
  pub images : (nat_eq image 1 || nat_eq image 2) ≡ true
  pub logs : (nat_eq log 3 || nat_eq log 4) ≡ true
  pub stashes : (nat_eq stash 0 || nat_eq stash 5 || nat_eq stash 6) ≡ true
  pub sizes : (nat_lt 1 size && nat_lt size 10001) ≡ true
  pub blocks : (nat_lt 2047 block && nat_lt block 16385) ≡ true

pub ranged : (format turn image log stash size block : ℕ)
    → (is_format format && in_ranges turn image log stash size block) ≡ true
    → AreRanged turn image log stash size block
unfolding in_ranges
ranged format turn image log stash size block all =
    let is : in_ranges turn image log stash size block ≡ true = (and_parts (is_format format) _ all).1 in
    let p1 = and_parts _ _ is in
    let p2 = and_parts _ _ p1.0 in
    let p3 = and_parts _ _ p2.0 in
    let p4 = and_parts _ _ p3.0 in
    let p5 = and_parts _ _ p4.0 in
    record { images = p5.1; logs = p4.1; stashes = p3.1; sizes = p2.1; blocks = p1.1 }

turn_in_range : (turn : ℕ) → nat_lt (turn_after turn) 3 ≡ true
unfolding turn_after
turn_in_range turn = lt-ltb _ _ (omega arith)

in_ranges_of : (turn image log stash size block : ℕ) → AreRanged turn image log stash size block
    → in_ranges (turn_after turn) image log stash size block ≡ true
unfolding in_ranges
in_ranges_of turn image log stash size block are =
    rw (turn_in_range turn, are.images, are.logs, are.stashes, are.sizes, are.blocks) refl

pub image_low : (format turn image log stash size block : ℕ)
    → (is_format format && in_ranges turn image log stash size block) ≡ true → 1 ≤ image
image_low format turn image log stash size block all =
    ⊎_elim (λ e. omega (arith, e)) (λ e. omega (arith, e))
    (one_of_two image 1 2 (ranged format turn image log stash size block all).images)

pub image_high : (format turn image log stash size block : ℕ)
    → (is_format format && in_ranges turn image log stash size block) ≡ true → image ≤ 2
image_high format turn image log stash size block all =
    ⊎_elim (λ e. omega (arith, e)) (λ e. omega (arith, e))
    (one_of_two image 1 2 (ranged format turn image log stash size block all).images)

pub log_low : (format turn image log stash size block : ℕ)
    → (is_format format && in_ranges turn image log stash size block) ≡ true → 3 ≤ log
log_low format turn image log stash size block all =
    ⊎_elim (λ e. omega (arith, e)) (λ e. omega (arith, e))
    (one_of_two log 3 4 (ranged format turn image log stash size block all).logs)

pub log_high : (format turn image log stash size block : ℕ)
    → (is_format format && in_ranges turn image log stash size block) ≡ true → log ≤ 4
log_high format turn image log stash size block all =
    ⊎_elim (λ e. omega (arith, e)) (λ e. omega (arith, e))
    (one_of_two log 3 4 (ranged format turn image log stash size block all).logs)

pub stash_low : (format turn image log stash size block : ℕ)
    → (is_format format && in_ranges turn image log stash size block) ≡ true → stash ≢ 0 → 5 ≤ stash
stash_low format turn image log stash size block all some =
    ⊎_elim (λ e. absurd (some e)) (⊎_elim (λ e. omega (arith, e)) (λ e. omega (arith, e)))
    (one_of_three stash 0 5 6 (ranged format turn image log stash size block all).stashes)

-- ---- the log begun anew

spare_log_is : (log : ℕ) → (log ≡ 3) ⊎ (log ≡ 4) → (nat_eq (7 - log) 3 || nat_eq (7 - log) 4) ≡ true
spare_log_is log either =
    ⊎_elim (λ e. ap (λ (n : ℕ). nat_eq (7 - n) 3 || nat_eq (7 - n) 4) e)
    (λ e. ap (λ (n : ℕ). nat_eq (7 - n) 3 || nat_eq (7 - n) 4) e) either

size_is : (size : ℕ) → 2 ≤ size → size ≤ 10000 → (nat_lt 1 size && nat_lt size 10001) ≡ true
size_is size low high = and_from (nat_lt 1 size) (nat_lt size 10001) (lt-ltb 1 size (omega (arith, low)))
    (lt-ltb size 10001 (omega (arith, high)))

block_is : (block : ℕ) → 2048 ≤ block → block ≤ 16384 → (nat_lt 2047 block && nat_lt block 16385) ≡ true
block_is block low high = and_from (nat_lt 2047 block) (nat_lt block 16385) (lt-ltb 2047 block (omega (arith, low)))
    (lt-ltb block 16385 (omega (arith, high)))

pub reset_in_ranges : (format turn image log stash size block to_turn to_log to_size to_block : ℕ)
    → (is_format format && in_ranges turn image log stash size block) ≡ true
    → to_turn ≡ turn_after turn → to_log ≡ 7 - log → (2 ≤ to_size) × (to_size ≤ 10000)
    → (2048 ≤ to_block) × (to_block ≤ 16384)
    → (is_format 2 && in_ranges to_turn image to_log stash to_size to_block) ≡ true
reset_in_ranges format turn image log stash size block to_turn to_log to_size to_block all turned spare sizes blocks =
    let are = ranged format turn image log stash size block all in
    ap (λ (t : ℕ). in_ranges t image to_log stash to_size to_block) turned
    ∙ in_ranges_of turn image to_log stash to_size to_block (record {
      images = are.images;
      logs = ap (λ (n : ℕ). nat_eq n 3 || nat_eq n 4) spare ∙ spare_log_is log (one_of_two log 3 4 are.logs);
      stashes = are.stashes;
      sizes = size_is to_size sizes.0 sizes.1;
      blocks = block_is to_block blocks.0 blocks.1;
    })

pub spare_log : (c : Choice) (to : ℕ) → is_choice c ≡ true → to ≡ 7 - c.log → IsSpareFor c to
spare_log c to all is =
    let low = log_low c.format c.turn c.image c.log c.stash c.size c.block all in
    let high = log_high c.format c.turn c.image c.log c.stash c.size c.block all in
    let behind = image_high c.format c.turn c.image c.log c.stash c.size c.block all in
    record {
      control = λ e. absurd (omega (arith, high, is, e));
      image = λ e. absurd (omega (arith, high, behind, is, e));
      log = λ e. absurd (omega (arith, low, high, is, e));
      stash = λ some e. let far = stash_low c.format c.turn c.image c.log c.stash c.size c.block all some in
          absurd (omega (arith, low, far, is, e));
    }

-- ---- another stash

spare_stash_is : (to : ℕ) → 5 ≤ to → to ≤ 6 → (nat_eq to 0 || nat_eq to 5 || nat_eq to 6) ≡ true
spare_stash_is to low high = ⊎_elim
    (λ e. ap (λ (n : ℕ). nat_eq n 0 || nat_eq n 5 || nat_eq n 6) e)
    (λ other. let e : to ≡ 6 =
    omega (arith, low, high, other) in ap (λ (n : ℕ). nat_eq n 0 || nat_eq n 5 || nat_eq n 6) e)
    (cases_eq to 5)

pub stash_in_ranges : (format turn image log stash size block to_turn to_stash : ℕ)
    → (is_format format && in_ranges turn image log stash size block) ≡ true
    → to_turn ≡ turn_after turn → 5 ≤ to_stash → to_stash ≤ 6
    → (is_format format && in_ranges to_turn image log to_stash size block) ≡ true
stash_in_ranges format turn image log stash size block to_turn to_stash all turned low high =
    let are = ranged format turn image log stash size block all in
    let made : in_ranges to_turn image log to_stash size block ≡ true =
    ap (λ (t : ℕ). in_ranges t image log to_stash size block) turned
    ∙ in_ranges_of turn image log to_stash size block (record {
      images = are.images;
      logs = are.logs;
      stashes = spare_stash_is to_stash low high;
      sizes = are.sizes;
      blocks = are.blocks;
    }) in
    and_from _ _ (and_parts (is_format format) _ all).0 made

pub spare_stash : (c : Choice) (to : ℕ) → is_choice c ≡ true → 5 ≤ to → c.stash ≢ to → IsSpareFor c to
spare_stash c to all low other =
    let high = log_high c.format c.turn c.image c.log c.stash c.size c.block all in
    let behind = image_high c.format c.turn c.image c.log c.stash c.size c.block all in
    record {
      control = λ e. absurd (omega (arith, low, e));
      image = λ e. absurd (omega (arith, low, behind, e));
      log = λ e. absurd (omega (arith, low, high, e));
      stash = λ some e. other e;
    }
