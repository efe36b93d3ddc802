-- What a control slot says.
use Rattle.std.specs.Prelude.{ℕ, Bool, ◌&&◌, ◌||◌, nat_eq, nat_lt}
use Rattle.kdb_base.specs.declared.moments.Point.{Point}

-- the format of the image's file; the turn by which the newer of two slots is known; which files hold the image, the
-- log and the stash; the log's number of entries and the length of its blocks; and the point at which the log begins
pub record Choice : Type 0 where
  pub format : ℕ
  pub turn : ℕ
  pub image : ℕ
  pub log : ℕ
  pub stash : ℕ
  pub size : ℕ
  pub block : ℕ
  pub base : Point

-- formats 1 and 2
abbrev pub is_format : ℕ → Bool
is_format format = nat_eq format 1 || nat_eq format 2

-- image files 1 and 2, log files 3 and 4, stash files 5 and 6 or none, logs of 2 to 10000 entries in blocks of 2048 to
-- 16384 bytes
unfoldable pub in_ranges : ℕ → ℕ → ℕ → ℕ → ℕ → ℕ → Bool
in_ranges turn image log stash size block =
    nat_lt turn 3
    && (nat_eq image 1 || nat_eq image 2)
    && (nat_eq log 3 || nat_eq log 4)
    && (nat_eq stash 0 || nat_eq stash 5 || nat_eq stash 6)
    && (nat_lt 1 size && nat_lt size 10001)
    && (nat_lt 2047 block && nat_lt block 16385)

abbrev pub is_choice : Choice → Bool
is_choice c = is_format c.format && in_ranges c.turn c.image c.log c.stash c.size c.block
