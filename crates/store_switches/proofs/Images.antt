-- The other file of cells.
use Rattle.std.proofs.Common.{◌≡◌, ◌≢◌, ℕ, Bool, ◌≤◌, ◌-◌, ⊎_elim, true, ◌||◌, ◌&&◌, sym, ◌∙◌, ap, arith}
use Rattle.std.specs.Prelude.{nat_eq, nat_lt}
use Rattle.kdb_base.specs.declared.moments.Point.{Point}
use Rattle.kdb_control.specs.Choice.{Choice, is_format, in_ranges, is_choice}
use Rattle.kdb_control.specs.Force.{turn_after}
use Rattle.store_files.specs.Switches.{IsSpareFor}
use Rattle.store_switches.proofs.Ranges.{ranged, one_of_two, image_low, image_high}
use Rattle.store_switches.proofs.Ranges.{log_low, stash_low, reset_in_ranges, spare_log}
use Rattle.store_switches.specs.Renewed.{IsRenewal}

other_image : (image to : ℕ) → (nat_eq image 1 || nat_eq image 2) ≡ true → to ≡ 3 - image
    → (nat_eq to 1 || nat_eq to 2) ≡ true
other_image image to is other = ap (λ (n : ℕ). nat_eq n 1 || nat_eq n 2) other ∙ ⊎_elim
    (λ e. ap (λ (n : ℕ). nat_eq (3 - n) 1 || nat_eq (3 - n) 2) e)
    (λ e. ap (λ (n : ℕ). nat_eq (3 - n) 1 || nat_eq (3 - n) 2) e)
    (one_of_two image 1 2 is)

with_image : (format turn image log stash size block to : ℕ)
    → (is_format format && in_ranges turn image log stash size block) ≡ true
    → to ≡ 3 - image → (is_format format && in_ranges turn to log stash size block) ≡ true
unfolding in_ranges
with_image format turn image log stash size block to all other =
    let images = (ranged format turn image log stash size block all).images in
    ap (λ (b : Bool). is_format format
    && (nat_lt turn 3 && b && (nat_eq log 3 || nat_eq log 4) && (nat_eq stash 0 || nat_eq stash 5 || nat_eq stash 6)
    && (nat_lt 1 size && nat_lt size 10001) && (nat_lt 2047 block && nat_lt block 16385)))
    (other_image image to images other ∙ sym images)
    ∙ all

pub renewed_in_ranges : (format turn image log stash size block to_turn to_image to_log to_size to_block : ℕ)
    → (is_format format && in_ranges turn image log stash size block) ≡ true
    → to_turn ≡ turn_after turn → to_image ≡ 3 - image → to_log ≡ 7 - log → (2 ≤ to_size) × (to_size ≤ 10000)
    → (2048 ≤ to_block) × (to_block ≤ 16384)
    → (is_format 2 && in_ranges to_turn to_image to_log stash to_size to_block) ≡ true
renewed_in_ranges format turn image log stash size block to_turn to_image to_log to_size to_block all turned other spare
    sizes blocks =
    reset_in_ranges format turn to_image log stash size block to_turn to_log to_size to_block
    (with_image format turn image log stash size block to_image all other) turned spare sizes blocks

pub spare_image : (c : Choice) (to : ℕ) → is_choice c ≡ true → to ≡ 3 - c.image → IsSpareFor c to
spare_image c to all is =
    let low = image_low c.format c.turn c.image c.log c.stash c.size c.block all in
    let high = image_high c.format c.turn c.image c.log c.stash c.size c.block all in
    let behind = log_low c.format c.turn c.image c.log c.stash c.size c.block all in
    record {
      control = λ e. absurd (omega (arith, high, is, e));
      image = λ e. absurd (omega (arith, low, high, is, e));
      log = λ e. absurd (omega (arith, low, behind, is, e));
      stash = λ some e. let far = stash_low c.format c.turn c.image c.log c.stash c.size c.block all some in
          absurd (omega (arith, low, far, is, e));
    }

-- the files of it are apart
pub apart_image : (log image : ℕ) → 3 ≤ log → image ≤ 2 → log ≢ image
apart_image log image far near e = absurd (omega (arith, far, near, e))

pub renewal_of : (c : Choice) (base : Point) (size block turn image log : ℕ) → is_choice c ≡ true
    → turn ≡ turn_after c.turn → image ≡ 3 - c.image → log ≡ 7 - c.log
    → image ≤ 2 → 3 ≤ log → 2 ≤ size
    → IsRenewal c (record {
      format = 2;
      turn = turn;
      image = image;
      log = log;
      stash = c.stash;
      size = size;
      block = block;
      base = base;
    })
renewal_of c base size block turn image log all turned other spare high far some = record {
  next_is = ap (λ (t : ℕ). let x : Choice = record {
    format = 2;
    turn = t;
    image = image;
    log = log;
    stash = c.stash;
    size = size;
    block = block;
    base = base;
  } in x) turned;
  image = spare_image c image all other;
  log = spare_log c log all spare;
  apart = apart_image log image far high;
  some = omega (arith, some);
}
