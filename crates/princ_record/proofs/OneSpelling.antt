-- A spelling belongs to one value.
use Rattle.std.proofs.Common.{◌≡◌, ℕ, List, sym, ap, ◌∙◌}
use Rattle.std.proofs.lemmas.Option.{same_Some}
use Rattle.kdb_format.specs.Readings.{Reading, whole}
use Rattle.kdb_format.specs.Fields.{IsField}
use Rattle.kdb_format.specs.Laws.{whole_again}

pub spelled_once : {A : Type 0} {read : Reading A} {s : A → List ℕ} {F : A → Type 0} → IsField read s F → (x y : A)
    → F x → F y → s x ≡ s y → x ≡ y
spelled_once {read = read} field x y f g e =
    same_Some x y (sym (whole_again field x f) ∙ ap (whole read) e ∙ whole_again field y g)
