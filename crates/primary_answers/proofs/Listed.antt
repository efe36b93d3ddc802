-- Names that are told are in order, and none is K/M's.
use Rattle.std.proofs.Common.{◌≡◌, ℕ, Bool, true, false, not, ◌&&◌, List, [], ◌∷◌, Option, refl, sym, subst}
use Rattle.std.specs.List.{All}
use Rattle.std.specs.Prelude.{filter}
use Rattle.std.proofs.lemmas.Bool.{and_parts}
use Rattle.std.proofs.lemmas.List.Elements.{All-weaker, filter_passes}
use Rattle.std.proofs.lemmas.List.Kept.{IsStrictlySortedBy-filter}
use Rattle.primary_answers.specs.Listing.{fits_glob, is_told, names_told}
use Rattle.princ_name.specs.Printed.{is_master}
use Rattle.tagged_data.specs.KeyOrder.{AreInOrder, key_cmp}

pub told_order : (glob : Option (List ℕ)) (names all : List (List ℕ)) → names ≡ names_told glob all → AreInOrder all
    → AreInOrder names
unfolding names_told
told_order glob names all is h = subst AreInOrder (sym is) (IsStrictlySortedBy-filter key_cmp (is_told glob) all h)

not_true : (b : Bool) → not b ≡ true → b ≡ false
not_true true e = absurd cc
not_true false e = refl

told_other : (glob : Option (List ℕ)) (name : List ℕ) → is_told glob name ≡ true → is_master name ≡ false
told_other glob name e = not_true (is_master name) (and_parts (not (is_master name)) (fits_glob glob name) e).0

pub told_others : (glob : Option (List ℕ)) (names all : List (List ℕ)) → names ≡ names_told glob all
    → All (λ name. is_master name ≡ false) names
unfolding names_told
told_others glob names all is = subst (λ (xs : List (List ℕ)). All (λ name. is_master name ≡ false) xs) (sym is)
    (All-weaker (λ (name : List ℕ). is_told glob name ≡ true) (λ (name : List ℕ). is_master name ≡ false)
    (told_other glob) (filter (is_told glob) all) (filter_passes (is_told glob) all))
