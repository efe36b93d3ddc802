-- What the ranges of a choice say.
use Rattle.std.proofs.Common.{◌≡◌, ℕ, ◌<◌, ◌^◌, ◌⊎◌, inl, inr, ⊎_elim, true, false, ◌||◌, ◌&&◌, refl, sym, ◌∙◌, arith}
use Rattle.std.specs.Prelude.{nat_eq}
use Rattle.std.proofs.lemmas.Bool.{ltb-true, and_parts, cases_eq, ne_eqb, false≢true}
use Rattle.kdb_format.specs.Moments.{IsPoint}
use Rattle.kdb_control.specs.Choice.{Choice, is_format, in_ranges, is_choice}
use Rattle.kdb_control.specs.Bodies.{IsBody}

pub turn_below : (format turn image log stash size block : ℕ)
    → (is_format format && in_ranges turn image log stash size block) ≡ true → turn < 3
unfolding in_ranges
turn_below format turn image log stash size block is =
    let ranges : in_ranges turn image log stash size block ≡ true = (and_parts (is_format format) _ is).1 in
    ltb-true _ _ (and_parts _ _ (and_parts _ _ (and_parts _ _ (and_parts _ _ (and_parts _ _ ranges).0).0).0).0).0

one_of_two : (n a b : ℕ) → (nat_eq n a || nat_eq n b) ≡ true → (n ≡ a) ⊎ (n ≡ b)
one_of_two n a b is = ⊎_elim
    (λ e. inl e)
    (λ other. ⊎_elim (λ e. inr e) (λ neither. let none : (nat_eq n a || nat_eq n b) ≡ false =
    rw (ne_eqb n a other, ne_eqb n b neither) refl in absurd (false≢true (sym none ∙ is))) (cases_eq n b))
    (cases_eq n a)

one_of_three : (n a b d : ℕ) → (nat_eq n a || nat_eq n b || nat_eq n d) ≡ true → (n ≡ a) ⊎ ((n ≡ b) ⊎ (n ≡ d))
one_of_three n a b d is = ⊎_elim
    (λ e. inl e)
    (λ other. ⊎_elim (λ e. inr (inl e)) (λ neither. ⊎_elim (λ e. inr (inr e))
    (λ none. let no_one : (nat_eq n a || nat_eq n b || nat_eq n d) ≡ false =
    rw (ne_eqb n a other, ne_eqb n b neither, ne_eqb n d none) refl in
    absurd (false≢true (sym no_one ∙ is))) (cases_eq n d)) (cases_eq n b))
    (cases_eq n a)

-- a choice whose point fits has a body
pub has_body : (c : Choice) → is_choice c ≡ true → IsPoint c.base → IsBody c
unfolding in_ranges
has_body c is base =
    let all = and_parts (is_format c.format) _ is in
    let p1 = and_parts _ _ all.1 in
    let p2 = and_parts _ _ p1.0 in
    let p3 = and_parts _ _ p2.0 in
    let p4 = and_parts _ _ p3.0 in
    let p5 = and_parts _ _ p4.0 in
    let format : c.format < 2 ^ 16 =
    ⊎_elim (λ e. omega (arith, e)) (λ e. omega (arith, e)) (one_of_two c.format 1 2 all.0) in
    let image : c.image < 256 = ⊎_elim (λ e. omega (arith, e)) (λ e. omega (arith, e)) (one_of_two c.image 1 2 p5.1) in
    let log : c.log < 256 = ⊎_elim (λ e. omega (arith, e)) (λ e. omega (arith, e)) (one_of_two c.log 3 4 p4.1) in
    let stash : c.stash < 256 = ⊎_elim (λ e. omega (arith, e))
    (λ e. ⊎_elim (λ e2. omega (arith, e2)) (λ e2. omega (arith, e2)) e) (one_of_three c.stash 0 5 6 p3.1) in
    let size : c.size < 10001 = ltb-true _ _ (and_parts _ _ p2.1).1 in
    let block : c.block < 16385 = ltb-true _ _ (and_parts _ _ p1.1).1 in
    let turn : c.turn < 3 = ltb-true _ _ p5.0 in
    record {
      numbers = record {
        format = format;
        turn = omega (arith, turn);
        image = image;
        log = log;
        stash = stash;
        size = omega (arith, size);
        block = omega (arith, block);
        base = base;
      };
      ranges = is;
    }
