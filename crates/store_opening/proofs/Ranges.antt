-- What the ranges of a choice of files say.
use Rattle.std.proofs.Common.{◌≡◌, ◌≢◌, ℕ, Bool, ◌≤◌, ◌<◌, ◌⊎◌, inl, inr, ⊎_elim}
use Rattle.std.proofs.Common.{true, false, ◌||◌, ◌&&◌, sym, ◌∙◌, ap, arith, refl}
use Rattle.std.specs.Prelude.{nat_eq}
use Rattle.std.proofs.lemmas.Bool.{and_parts, cases_eq, ne_eqb, false≢true, ltb-true}
use Rattle.kdb_base.specs.declared.moments.Point.{Point}
use Rattle.kdb_control.specs.Choice.{is_format, in_ranges}
use Rattle.store_files.specs.Standing.{HasFiles}

one_of_two : (n a b : ℕ) → (nat_eq n a || nat_eq n b) ≡ true → (n ≡ a) ⊎ (n ≡ b)
one_of_two n a b is = ⊎_elim
    (λ e. inl e)
    (λ other. ⊎_elim (λ e. inr e)
    (λ neither. let none : (nat_eq n a || nat_eq n b) ≡ false = rw (ne_eqb n a other, ne_eqb n b neither) refl in absurd
    (false≢true (sym none ∙ is))) (cases_eq n b))
    (cases_eq n a)

one_of_three : (n a b c : ℕ) → (nat_eq n a || nat_eq n b || nat_eq n c) ≡ true → (n ≡ a) ⊎ ((n ≡ b) ⊎ (n ≡ c))
one_of_three n a b c is = ⊎_elim
    (λ e. inl e)
    (λ other. inr (one_of_two n b c (ap (λ (x : Bool). x || nat_eq n b || nat_eq n c) (sym (ne_eqb n a other)) ∙ is)))
    (cases_eq n a)

-- each number is in its range
record AreInRange (image log stash size : ℕ) : Type 0 where
  image_is : (image ≡ 1) ⊎ (image ≡ 2)
  log_is : (log ≡ 3) ⊎ (log ≡ 4)
  stash_is : (stash ≡ 0) ⊎ ((stash ≡ 5) ⊎ (stash ≡ 6))
  some : 1 < size

ranged : (format turn image log stash size block : ℕ)
    → (is_format format && in_ranges turn image log stash size block) ≡ true
    → AreInRange image log stash size
unfolding in_ranges
ranged format turn image log stash size block all =
    let p1 = and_parts _ _ (and_parts (is_format format) _ all).1 in
    let p2 = and_parts _ _ p1.0 in
    let p3 = and_parts _ _ p2.0 in
    let p4 = and_parts _ _ p3.0 in
    let p5 = and_parts _ _ p4.0 in
    record {
      image_is = one_of_two image 1 2 p5.1;
      log_is = one_of_two log 3 4 p4.1;
      stash_is = one_of_three stash 0 5 6 p3.1;
      some = ltb-true _ _ (and_parts _ _ p2.1).0;
    }

pub image_high : (format turn image log stash size block : ℕ)
    → (is_format format && in_ranges turn image log stash size block) ≡ true → image ≤ 2
image_high format turn image log stash size block all =
    ⊎_elim (λ e. omega (arith, e)) (λ e. omega (arith, e)) (ranged format turn image log stash size block all).image_is

pub stash_high : (format turn image log stash size block : ℕ)
    → (is_format format && in_ranges turn image log stash size block) ≡ true → stash ≤ 6
stash_high format turn image log stash size block all =
    ⊎_elim (λ e. omega (arith, e)) (⊎_elim (λ e. omega (arith, e)) (λ e. omega (arith, e)))
    (ranged format turn image log stash size block all).stash_is

-- the file of cells is one of the first two
pub image_either : (format turn image log stash size block : ℕ)
    → (is_format format && in_ranges turn image log stash size block) ≡ true → (image ≡ 1) ⊎ (image ≡ 2)
image_either format turn image log stash size block all = (ranged format turn image log stash size block all).image_is

image_low : {image : ℕ} → (image ≡ 1) ⊎ (image ≡ 2) → (1 ≤ image) × (image ≤ 2)
image_low either = ⊎_elim (λ e. (omega (arith, e), omega (arith, e))) (λ e. (omega (arith, e), omega (arith, e))) either

log_low : {log : ℕ} → (log ≡ 3) ⊎ (log ≡ 4) → (3 ≤ log) × (log ≤ 4)
log_low either = ⊎_elim (λ e. (omega (arith, e), omega (arith, e))) (λ e. (omega (arith, e), omega (arith, e))) either

stash_low : {stash : ℕ} → stash ≢ 0 → (stash ≡ 0) ⊎ ((stash ≡ 5) ⊎ (stash ≡ 6)) → 5 ≤ stash
stash_low some either = ⊎_elim (λ e. absurd (some e)) (⊎_elim (λ e. omega (arith, e)) (λ e. omega (arith, e))) either

-- the files of a choice are apart
pub has_files : (format turn image log stash size block : ℕ) (base : Point)
    → (is_format format && in_ranges turn image log stash size block) ≡ true
    → HasFiles (record {
      format = format;
      turn = turn;
      image = image;
      log = log;
      stash = stash;
      size = size;
      block = block;
      base = base;
    })
has_files format turn image log stash size block base all =
    let is = ranged format turn image log stash size block all in
    let i = image_low is.image_is in
    let l = log_low is.log_is in
    record {
      image = λ e. absurd (omega (arith, e, i.0));
      log = λ e. absurd (omega (arith, e, l.0));
      apart = λ e. absurd (omega (arith, e, i.1, l.0));
      stash = λ some. let s = stash_low some is.stash_is in (
        λ e. absurd (omega (arith, e, s, l.1)),
        λ e. absurd (omega (arith, e, s, i.1)),
      );
      size = omega (arith, is.some);
    }
