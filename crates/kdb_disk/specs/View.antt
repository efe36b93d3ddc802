-- What is known of a disk at one moment, and what its calls make of it.
use Rattle.std.specs.Prelude.{ℕ, List, ◌≡◌, ◌≤◌, ◌⊎◌, ◌+◌, ◌++◌, length, take}
use Rattle.kdb_disk.specs.Files.{Files, with_file, written}

-- What is known of a disk at one moment.
pub record View : Type 1 where
  -- what a read gives
  pub seen : Files
  -- what a crash now may leave
  pub images : Files → Type 0
  -- the moment, as a number that does not fall
  pub moment : ℕ
  -- what a crash at some moment from that one on may have left, during a call or between two
  pub left_since : ℕ → Files → Type 0
  -- this moment is one of those since an earlier one
  pub counts_now : (t : ℕ) (c : Files) → t ≤ moment → images c → left_since t c
  -- and since this moment there is no other
  pub only_now : (c : Files) → left_since moment c → images c
  -- there are seven files
  pub no_more : (c : Files) (g : ℕ) → images c → 7 ≤ g → c g ≡ seen g

-- what a crash inside a write of n bytes makes of the files: at most so many bytes stand there, and all else is the
-- same
pub record Torn (file at n : ℕ) (old new : Files) : Type 0 where
  pub bytes : List ℕ
  pub few : length bytes ≤ n
  pub is : new ≡ written file at bytes old

-- what a crash inside a cut makes of them: the same up to the new length, and from there any bytes, to the old end at
-- most
pub record Frayed (file len : ℕ) (old new : Files) : Type 0 where
  pub bytes : List ℕ
  pub few : length (take len (old file)) + length bytes ≤ length (old file)
  pub is : new ≡ with_file file (take len (old file) ++ bytes) old

-- files that a step leads to, from an image of before
pub record IsAfter (step : Files → Files → Type 0) (old : View) (new : Files) : Type 0 where
  pub before : Files
  pub was : old.images before
  pub went : step before new

-- each new image is an old one after a step
abbrev pub Follows : (Files → Files → Type 0) → View → View → Type 0
Follows step old new = (c : Files) → new.images c → IsAfter step old c

-- Time goes on: a crash since t may have left what it might have left before, or what it may leave now.
pub record Elapses (old new : View) : Type 0 where
  pub later : old.moment ≤ new.moment
  pub nothing_else : (t : ℕ) (c : Files) → t ≤ old.moment → new.left_since t c → old.left_since t c ⊎ new.images c
  pub keeps : (t : ℕ) (c : Files) → t ≤ old.moment → old.left_since t c → new.left_since t c

-- A call that changes no file.
pub record Looks (old new : View) : Type 0 where
  pub seen : new.seen ≡ old.seen
  pub images : (c : Files) → new.images c → old.images c
  pub time : Elapses old new
