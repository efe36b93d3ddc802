-- What a component or a realm is in a pattern.
use Rattle.std.specs.Prelude.{ℕ, ◌-◌, ◌==◌, ◌&&◌, Bool, true, false, nat_le, List, [], ◌∷◌, if◌then◌else◌}
use Rattle.princ_name.specs.declared.parts.Kind.{Kind}
use Rattle.princ_name.specs.declared.parts.Kind.TheVariants.{Text, Any, Wildcard}
use Rattle.princ_name.specs.declared.parts.Part.{Part}

-- `*` is any text, and `*` with a digit from 1 to 9 the wildcard of that place among those of another pattern
unfoldable pub kind_named : List ℕ → Kind
kind_named [] = Text
kind_named (star ∷ []) = if star == 42 then Any else Text
kind_named (star ∷ digit ∷ []) =
    if star == 42 && nat_le 49 digit && nat_le digit 57 then Wildcard (digit - 49) else Text
kind_named (star ∷ digit ∷ more ∷ rest) = Text

-- told from unescaped bytes alone: what a backslash stands in is a text
unfoldable pub kind_of : Part → Kind
kind_of part = if part.bare then kind_named part.text else Text

abbrev pub is_any_kind : Kind → Bool
is_any_kind Text = false
is_any_kind Any = true
is_any_kind (Wildcard place) = false

unfoldable pub is_any : Part → Bool
is_any part = is_any_kind (kind_of part)
