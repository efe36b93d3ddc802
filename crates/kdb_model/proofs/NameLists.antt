-- Names that are listed are in order.
use Rattle.std.proofs.Common.{◌≡◌, ℕ, List, Option, Some, None, sym, subst}
use Rattle.std.proofs.lemmas.List.Kept.{IsStrictlySortedBy-filter}
use Rattle.kadm_values.specs.Globs.{matches}
use Rattle.kdb_model.specs.Steps.{names_in}
use Rattle.tagged_data.specs.KeyOrder.{AreInOrder, key_cmp}

pub listed_order : (glob : Option (List ℕ)) (names all : List (List ℕ)) → names ≡ names_in glob all → AreInOrder all
    → AreInOrder names
unfolding names_in
listed_order None names all is h = subst AreInOrder (sym is) h
listed_order (Some glob) names all is h =
    subst AreInOrder (sym is) (IsStrictlySortedBy-filter key_cmp (matches glob) all h)

pub same_order : (names all : List (List ℕ)) → names ≡ all → AreInOrder all → AreInOrder names
same_order names all is h = subst AreInOrder (sym is) h
