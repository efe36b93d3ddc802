-- Globs: patterns in which * stands for any bytes and ? for one byte.
use Rattle.std.specs.Prelude.{ℕ, ◌≡◌, ◌≢◌, ◌⊎◌, ◌+◌, ◌<◌, ◌≤◌, Bool, true, false, ◌||◌, ◌&&◌, nat_eq}
use Rattle.std.specs.Prelude.{List, [], ◌∷◌, length, drop, Option, Some, None, if◌then◌else◌}
use Rattle.std.specs.List.{list_any}
use Rattle.kadm_values.specs.declared.globs.Laid.{Laid}
use Rattle.kadm_values.specs.declared.globs.Laid.TheVariants.{Whole, Star, Apart}

-- some bytes are left out, and the rest goes on
pub record AnyBytes (Rest : List ℕ → Type 0) (text : List ℕ) : Type 0 where
  pub skipped : ℕ
  pub rest : Rest (drop skipped text)

-- one byte, which is any where the glob has ?
pub record OneByte (wanted : ℕ) (Rest : List ℕ → Type 0) (text : List ℕ) : Type 0 where
  pub byte : ℕ
  pub behind : List ℕ
  pub text_is : text ≡ byte ∷ behind
  pub fits : (wanted ≡ 63) ⊎ (wanted ≡ byte)
  pub rest : Rest behind

-- the glob matches the whole text
unfoldable pub Matches : List ℕ → List ℕ → Type 0
Matches [] text = text ≡ []
Matches (wanted ∷ glob) text =
    ((wanted ≡ 42) × AnyBytes (Matches glob) text) ⊎ ((wanted ≢ 42) × OneByte wanted (Matches glob) text)

-- so many bytes match, a * follows in the glob, and what matters is whether the rest of the glob matches some
-- end of the rest of the text, also where more of the text is left out first
pub record IsStar (glob text : List ℕ) (count : ℕ) : Type 0 where
  pub within : count < length glob
  pub long : count ≤ length text
  pub back : AnyBytes (Matches (drop (count + 1) glob)) (drop count text) → Matches glob text
  pub forth : (skipped : ℕ) → Matches glob (drop skipped text)
      → AnyBytes (Matches (drop (count + 1) glob)) (drop count text)

-- what comes of a glob that is laid on a text up to its first *
abbrev pub IsLaid : List ℕ → List ℕ → Laid → Type 0
IsLaid glob text Whole = Matches glob text
IsLaid glob text (Star count) = IsStar glob text count
IsLaid glob text Apart = Matches glob text → ⊥

-- ---- as a test

-- the text and what is left of it behind each of its bytes
unfoldable pub ends_of : List ℕ → List (List ℕ)
ends_of [] = [] ∷ []
ends_of (byte ∷ text) = (byte ∷ text) ∷ ends_of text

-- one byte, which is any where the glob has ?
unfoldable pub leads : ℕ → (List ℕ → Bool) → List ℕ → Bool
leads wanted rest [] = false
leads wanted rest (byte ∷ text) = (nat_eq wanted 63 || nat_eq wanted byte) && rest text

-- whether the glob matches the whole text
unfoldable pub matches : List ℕ → List ℕ → Bool
matches [] text = nat_eq (length text) 0
matches (wanted ∷ glob) text =
    if nat_eq wanted 42 then list_any (matches glob) (ends_of text) else leads wanted (matches glob) text

-- the glob matches the name, or there is none
abbrev pub is_listed : Option (List ℕ) → List ℕ → Bool
is_listed None name = true
is_listed (Some glob) name = matches glob name
