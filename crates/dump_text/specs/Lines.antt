-- The lines of a text: each is ended by a line feed, and bytes without one may stand behind the last.
use Rattle.std.specs.Prelude.{ℕ, ◌==◌, ◌≡◌, Bool, true, false, List, [], ◌∷◌, ◌++◌, if◌then◌else◌}

pub record Lines : Type 0 where
  pub whole : List (List ℕ)
  pub rest : List ℕ

-- bytes without a line feed at the front
unfoldable pub in_front : List ℕ → List (List ℕ) → List ℕ → Lines
in_front bytes [] rest = record { whole = []; rest = bytes ++ rest }
in_front bytes (line ∷ lines) rest = record { whole = (bytes ++ line) ∷ lines; rest = rest }

unfoldable pub lines_of : List ℕ → Lines
lines_of [] = record { whole = []; rest = [] }
lines_of (b ∷ text) =
    let behind = lines_of text in
    if b == 10 then record { whole = [] ∷ behind.whole; rest = behind.rest }
    else in_front (b ∷ []) behind.whole behind.rest

-- no byte of these is a line feed
unfoldable pub lacks : ℕ → List ℕ → Bool
lacks byte [] = true
lacks byte (b ∷ bytes) = if b == byte then false else lacks byte bytes

-- the bytes before the first of these, and those behind it
pub record Cut (byte : ℕ) (text front behind : List ℕ) : Type 0 where
  pub whole : text ≡ front ++ (byte ∷ behind)
  pub clear : lacks byte front ≡ true
