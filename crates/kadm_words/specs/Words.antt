-- The words of a line.
use Rattle.std.specs.Prelude.{ℕ, ◌≡◌, ◌≤◌, ◌⊎◌, Bool, true, not, ◌==◌, ◌||◌, ◌&&◌}
use Rattle.std.specs.Prelude.{nat_lt, List, [], ◌∷◌, ◌++◌, length, if◌then◌else◌}
use Rattle.std.specs.List.{flat_map, list_all}

-- a space or a tab
abbrev pub is_gap : ℕ → Bool
is_gap byte = byte == 32 || byte == 9

-- 00 to 1f and 7f hexadecimal
abbrev pub is_control : ℕ → Bool
is_control byte = nat_lt byte 32 || byte == 127

-- a byte that stands for itself without quotes
abbrev pub is_plain : ℕ → Bool
is_plain byte = not (is_gap byte) && not (byte == 34) && not (is_control byte)

-- one plain byte at least
pub record SpellsPlain (word text : List ℕ) : Type 0 where
  pub some : 1 ≤ length word
  pub plain : list_all is_plain word ≡ true
  pub text_is : text ≡ word

-- between quotes a quote is written twice
abbrev pub quoted_byte : ℕ → List ℕ
quoted_byte byte = if byte == 34 then 34 ∷ 34 ∷ [] else byte ∷ []

unfoldable pub quoted : List ℕ → List ℕ
quoted word = flat_map quoted_byte word

-- any bytes, between quotes
pub record SpellsQuoted (word text : List ℕ) : Type 0 where
  pub text_is : text ≡ 34 ∷ quoted word ++ 34 ∷ []

abbrev pub SpellsWord : List ℕ → List ℕ → Type 0
SpellsWord word text = SpellsPlain word text ⊎ SpellsQuoted word text

-- what may stand behind a word: nothing, or a space or a tab first
unfoldable pub EndsWord : List ℕ → Type 0
EndsWord [] = Unit {0}
EndsWord (byte ∷ rest) = is_gap byte ≡ true

-- spaces and tabs, a word, and what the rest of the line spells
pub record LedByWord (word : List ℕ) (SpellsRest : List ℕ → Type 0) (line : List ℕ) : Type 0 where
  pub gap : List ℕ
  pub text : List ℕ
  pub rest : List ℕ
  pub gaps : list_all is_gap gap ≡ true
  pub spelled : SpellsWord word text
  pub ends : EndsWord rest
  pub line_is : line ≡ gap ++ (text ++ rest)
  pub others : SpellsRest rest

-- a line of these words
unfoldable pub SpellsWords : List (List ℕ) → List ℕ → Type 0
SpellsWords [] line = list_all is_gap line ≡ true
SpellsWords (word ∷ words) line = LedByWord word (SpellsWords words) line

-- each of the words has at most so many bytes
unfoldable pub AreWithin : ℕ → List (List ℕ) → Type 0
AreWithin most [] = Unit {0}
AreWithin most (word ∷ words) = (length word ≤ most) × AreWithin most words
