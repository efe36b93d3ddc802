-- What a crash may leave at some moment of a run of calls, and what stands after it.
use Rattle.std.specs.Prelude.{ℕ, List, ◌≡◌, ◌≤◌, ◌<◌, ◌⊎◌, length}
use Rattle.kdb_disk.specs.Files.{Files, written, with_file}
use Rattle.kdb_disk.specs.View.{View, Torn, IsAfter}

-- no crash leaves anything but what a read gives
pub record IsSettled (now : View) : Type 0 where
  pub only : (c : Files) → now.images c → c ≡ now.seen

-- of each file below the nth, no crash leaves anything but what a read gives
pub record AreSettled (n : ℕ) (now : View) : Type 0 where
  pub only : (c : Files) (file : ℕ) → now.images c → file < n → c file ≡ now.seen file

-- A crash at any moment since old leaves files that have P.
pub record LeavesOnly (old new : View) (P : Files → Type 0) : Type 0 where
  pub later : old.moment ≤ new.moment
  pub each : (c : Files) → new.left_since old.moment c → P c
  -- for a run that began earlier
  pub before : (t : ℕ) (c : Files) → t ≤ old.moment → new.left_since t c → old.left_since t c ⊎ P c

-- At each moment a crash leaves files from before, but for at most n bytes at this place of one file.
abbrev pub LeavesTorn : ℕ → ℕ → ℕ → View → View → Type 0
LeavesTorn file at n old new = LeavesOnly old new (IsAfter (Torn file at n) old)

-- These bytes stand at this place of the file, on the disk, and all else reads as before.
pub record Stands (file at : ℕ) (bytes : List ℕ) (old new : View) : Type 0 where
  pub seen : new.seen ≡ written file at bytes old.seen
  pub durable : (c : Files) → new.images c → c file ≡ new.seen file

-- A run that changed no file: a read gives what it gave, and at each moment a crash leaves files from before.
pub record Keeps (old new : View) : Type 0 where
  pub seen : new.seen ≡ old.seen
  pub leaves : LeavesOnly old new old.images

-- The file has this content, on the disk, and all else reads as before.
pub record Replaced (file : ℕ) (content : List ℕ) (old new : View) : Type 0 where
  pub seen : new.seen ≡ with_file file content old.seen
  pub durable : (c : Files) → new.images c → c file ≡ content

-- files from before, with n bytes at this place of one
pub record Whole (file at n : ℕ) (old new : Files) : Type 0 where
  pub bytes : List ℕ
  pub long : length bytes ≡ n
  pub is : new ≡ written file at bytes old

-- files from before, with any content of one
pub record Differs (file : ℕ) (old new : Files) : Type 0 where
  pub content : List ℕ
  pub is : new ≡ with_file file content old
