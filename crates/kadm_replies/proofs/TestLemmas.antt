-- Lists of one item, as tests make them.
use Rattle.std.proofs.Common.{◌≡◌, List, [], ◌∷◌, ◌++◌, sym, ap, subst, ◌∙◌}

pub one_item : {A : Type 0} (P : List A → Type 0) (x : A) (old new : List A) → old ≡ [] → new ≡ old ++ x ∷ []
    → P (x ∷ []) → P new
one_item {A} P x old new none pushed one = subst P (sym (pushed ∙ ap (λ (items : List A). items ++ x ∷ []) none)) one
