-- Names in a realm.
use Rattle.std.specs.Prelude.{ℕ, List}
use Rattle.princ_name.specs.Names.{NameParts}

abbrev pub name_in : List (List ℕ) → List ℕ → NameParts
name_in parts realm = record { parts = parts; realm = realm }
