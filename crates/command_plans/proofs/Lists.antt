-- Lists of causes, of which the first that holds counts.
use Rattle.std.proofs.Common.{◌≡◌, Bool, true, false, ◌&&◌, List, [], ◌∷◌, ◌++◌, Option, Some, None, refl, ap, ◌∙◌}
use Rattle.std.specs.Prelude.{is_none, option_map}
use Rattle.kdb_base.specs.declared.outcomes.Refusal.{Refusal}
use Rattle.kdb_model.specs.Refusals.{first, when}

-- the same cause before lists of which the same counts
pub skip : (a : Option Refusal) (xs ys : List (Option Refusal)) → first xs ≡ first ys → first (a ∷ xs) ≡ first (a ∷ ys)
unfolding first
skip None xs ys e = e
skip (Some why) xs ys e = refl

pub both : (a b : Option Refusal) (xs ys : List (Option Refusal)) → a ≡ b → first xs ≡ first ys
    → first (a ∷ xs) ≡ first (b ∷ ys)
both a b xs ys same e = skip a xs ys e ∙ ap (λ (c : Option Refusal). first (c ∷ ys)) same

-- where none holds, the first does not, and none of the others
pub none_of : (a : Option Refusal) (xs : List (Option Refusal)) → first (a ∷ xs) ≡ None → (a ≡ None) × (first xs ≡ None)
unfolding first
none_of None xs e = (refl, e)
none_of (Some why) xs e = absurd cc

pub when_not : (b : Bool) (why : Refusal) → when b why ≡ None → b ≡ false
when_not true why e = absurd cc
when_not false why e = refl

-- what is not missing is there
pub there : {A : Type 0} (o : Option A) (why : Refusal) → when (is_none o) why ≡ None → (x : A) × (o ≡ Some x)
there None why e = absurd cc
there (Some x) why e = (x, refl)

pub and_true : (b : Bool) → (b && true) ≡ b
and_true true = refl
and_true false = refl

pub and_false : (b : Bool) → (b && false) ≡ false
and_false true = refl
and_false false = refl

-- what was found present, without a cause before
pub none_missing : {A : Type 0} (before : Option Refusal) (found : Option A) (x : A) (missing : Refusal) → before ≡ None
    → found ≡ Some x → None ≡ first (before ∷ when (is_none found) missing ∷ [])
unfolding first
none_missing before found x missing none is = rw (none, is) refl

-- the same, of what is lent
pub missing_alike : {A B : Type 0} (f : A → B) (before : Option Refusal) (found : Option A) (missing : Refusal)
    → first (before ∷ when (is_none found) missing ∷ [])
    ≡ first (before ∷ when (is_none (option_map f found)) missing ∷ [])
missing_alike f before None missing = refl
missing_alike f before (Some x) missing = refl

-- ---- lists behind lists

pub early : (xs ys : List (Option Refusal)) (why : Refusal) → first xs ≡ Some why → first (xs ++ ys) ≡ Some why
unfolding first
early [] ys why e = absurd cc
early (None ∷ xs) ys why e = early xs ys why e
early (Some other ∷ xs) ys why e = e

pub later : (xs ys : List (Option Refusal)) → first xs ≡ None → first (xs ++ ys) ≡ first ys
unfolding first
later [] ys e = refl
later (None ∷ xs) ys e = later xs ys e
later (Some why ∷ xs) ys e = absurd cc

pub nested : (xs ys : List (Option Refusal)) → first (first xs ∷ ys) ≡ first (xs ++ ys)
unfolding first
nested [] ys = refl
nested (None ∷ xs) ys = nested xs ys
nested (Some why ∷ xs) ys = refl
