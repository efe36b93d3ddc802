-- A key and the number of what it is used for (RFC 3961, section 3).
use Rattle.std.specs.Prelude.{ℕ}
use Rattle.kdb_base.specs.Key.{Key}

pub record KeyUse : Type 0 where
  pub key : Key
  pub usage : ℕ
