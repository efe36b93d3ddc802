-- The file of cells of a choice of files.
use Rattle.std.proofs.Common.{◌≡◌, ℕ, ◌≤◌, ◌⊎◌, inl, inr, ⊎_elim, true, false, ◌||◌, ◌&&◌, sym, ◌∙◌, arith, refl}
use Rattle.std.specs.Prelude.{nat_eq}
use Rattle.std.proofs.lemmas.Bool.{and_parts, cases_eq, ne_eqb, false≢true}
use Rattle.kdb_control.specs.Choice.{is_format, in_ranges}

one_of_two : (n a b : ℕ) → (nat_eq n a || nat_eq n b) ≡ true → (n ≡ a) ⊎ (n ≡ b)
one_of_two n a b is = ⊎_elim
    (λ e. inl e)
    (λ other. ⊎_elim (λ e. inr e) (λ neither. let none : (nat_eq n a || nat_eq n b) ≡ false =
    rw (ne_eqb n a other, ne_eqb n b neither) refl in absurd (false≢true (sym none ∙ is))) (cases_eq n b))
    (cases_eq n a)

image_one_of : (turn image log stash size block : ℕ) → in_ranges turn image log stash size block ≡ true
    → (image ≡ 1) ⊎ (image ≡ 2)
unfolding in_ranges
image_one_of turn image log stash size block is =
    one_of_two image 1 2 (and_parts _ _ (and_parts _ _ (and_parts _ _ (and_parts _ _ (and_parts _ _ is).0).0).0).0).1

pub image_high : (format turn image log stash size block : ℕ)
    → (is_format format && in_ranges turn image log stash size block) ≡ true → image ≤ 2
image_high format turn image log stash size block all =
    ⊎_elim (λ e. omega (arith, e)) (λ e. omega (arith, e))
    (image_one_of turn image log stash size block (and_parts (is_format format) _ all).1)
