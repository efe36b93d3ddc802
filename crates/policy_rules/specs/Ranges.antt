-- The ranges of a policy's numbers.
use Rattle.std.specs.Prelude.{ℕ, Bool, ◌&&◌, nat_le}

-- the least length of a password, in bytes
abbrev pub is_min_length : ℕ → Bool
is_min_length n = nat_le 1 n && nat_le n 255

-- the least number of classes of characters
abbrev pub is_min_classes : ℕ → Bool
is_min_classes n = nat_le 1 n && nat_le n 5

-- how many passwords count, the standing one among them
abbrev pub is_history : ℕ → Bool
is_history n = nat_le 1 n && nat_le n 16
