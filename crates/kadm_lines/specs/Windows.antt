-- The bytes that a reader holds.
use Rattle.std.specs.Prelude.{ℕ, ◌==◌, ◌≡◌, ◌≤◌, length, slice_range, Bool}
use Rattle.std.specs.Prelude.{true, false, List, [], ◌∷◌, ◌++◌, if◌then◌else◌}

-- no byte of these is a line feed
unfoldable pub lacks_feed : List ℕ → Bool
lacks_feed [] = true
lacks_feed (b ∷ bytes) = if b == 10 then false else lacks_feed bytes

-- a window: the text cut out of it last, the bytes behind it, and how many more fit behind these
pub record WindowState : Type 0 where
  pub text : List ℕ
  pub pending : List ℕ
  pub room : ℕ

-- these bytes are a line, its line feed and others
pub record Parts (bytes line others : List ℕ) : Type 0 where
  pub whole : bytes ≡ line ++ (10 ∷ others)
  pub clear : lacks_feed line ≡ true

-- the places of a window in its buffer: where the text begins and ends, where what is pending begins,
-- how far it was looked at, and where it ends
pub record IsWindow (bytes : List ℕ) (text text_end start clear end : ℕ) : Type 0 where
  pub full : length bytes ≡ 131072
  pub text_order : text ≤ text_end
  pub text_within : text_end ≤ 131072
  pub start_order : start ≤ clear
  pub clear_order : clear ≤ end
  pub within : end ≤ 131072
  pub lacks : lacks_feed (slice_range bytes start clear) ≡ true
