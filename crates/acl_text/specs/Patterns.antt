-- The targets of lines, and what patterns match.
use Rattle.std.specs.Prelude.{ℕ, Bool, true, false, ◌||◌, ◌&&◌, nat_lt, List, [], ◌∷◌, length, map, slice_index_or}
use Rattle.std.specs.Prelude.{Option, Some, None, is_some, unwrap_or, option_map, option_and_then, if◌then◌else◌}
use Rattle.std.specs.List.{list_all}
use Rattle.std.specs.Str.{bytes_eq}
use Rattle.princ_name.specs.Kinds.{is_any, kind_of}
use Rattle.princ_name.specs.Names.{NameParts}
use Rattle.princ_name.specs.PatternReadings.{pattern_in}
use Rattle.princ_name.specs.Patterns.{hits_of}
use Rattle.princ_name.specs.Shape.{PatternShape, Every, Parts}
use Rattle.princ_name.specs.declared.parts.Kind.{Kind}
use Rattle.princ_name.specs.declared.parts.Kind.TheVariants.{Text, Any, Wildcard}
use Rattle.princ_name.specs.declared.parts.Part.{Part}

-- ---- wildcards that a target names

-- the number, from 0, of the client's wildcard that a part of this kind stands for
abbrev pub wildcard_in : Kind → Option ℕ
wildcard_in Text = None
wildcard_in Any = None
wildcard_in (Wildcard number) = Some number

unfoldable pub wildcard_of : Part → Option ℕ
wildcard_of part = wildcard_in (kind_of part)

-- the place of a client pattern's wildcard of this number
abbrev pub place_of : PatternShape → ℕ → Option ℕ
place_of client number = slice_index_or (hits_of client) number None

abbrev pub is_known : PatternShape → Option ℕ → Bool
is_known client None = true
is_known client (Some number) = is_some (place_of client number)

-- each wildcard that a component names is there
unfoldable pub are_known : PatternShape → PatternShape → Bool
are_known client Every = true
are_known client (Parts parts realm) = list_all (λ part. is_known client (wildcard_of part)) parts

-- the target pattern of a word, behind the client's
unfoldable pub target_in : List ℕ → List ℕ → PatternShape → Option PatternShape
target_in word given client =
    option_and_then (λ target. if are_known client target then Some target else None) (pattern_in word given)

-- ---- what matches

-- the component of a name at a place, or the realm behind them
unfoldable pub text_at : NameParts → ℕ → List ℕ
text_at name place = if nat_lt place (length name.parts) then slice_index_or name.parts place [] else name.realm

-- what a wildcard of the client's pattern matched
abbrev pub matched_text : PatternShape → NameParts → ℕ → List ℕ
matched_text client name number = unwrap_or (option_map (text_at name) (place_of client number)) []

abbrev pub meant_by : Option ℕ → PatternShape → NameParts → Part → Part
meant_by None client name part = part
meant_by (Some number) client name part = record { text = matched_text client name number; bare = false }

-- what a component of a target means where the client's pattern matched this name
unfoldable pub meant : PatternShape → NameParts → Part → Part
meant client name part = meant_by (wildcard_of part) client name part

abbrev pub meant_target : PatternShape → NameParts → PatternShape → PatternShape
meant_target client name Every = Every
meant_target client name (Parts parts realm) = Parts (map (meant client name) parts) realm

abbrev pub part_matches : Part → List ℕ → Bool
part_matches part text = is_any part || bytes_eq part.text text

unfoldable pub parts_match : List Part → List (List ℕ) → Bool
parts_match [] [] = true
parts_match [] (text ∷ texts) = false
parts_match (part ∷ parts) [] = false
parts_match (part ∷ parts) (text ∷ texts) = part_matches part text && parts_match parts texts

unfoldable pub pattern_matches : PatternShape → NameParts → Bool
pattern_matches Every name = true
pattern_matches (Parts parts realm) name = parts_match parts name.parts && part_matches realm name.realm
