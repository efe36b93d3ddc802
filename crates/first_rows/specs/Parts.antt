-- What a creation is asked for.
use Rattle.std.specs.Prelude.{ℕ, ◌≤◌, List, Option}
use Rattle.kdb_base.specs.declared.keys.Etype.{Etype}
use Rattle.princ_name.specs.Realms.{IsRealm}

-- the realm, the password of the master key where it is not to be a random one, the key's type, and how many entries
-- the log holds
pub record SpecParts : Type 0 where
  pub realm : List ℕ
  pub password : Option (List ℕ)
  pub etype : Etype
  pub size : ℕ

pub record IsSpec (spec : SpecParts) : Type 0 where
  pub realm : IsRealm spec.realm
  pub least : 2 ≤ spec.size
  pub most : spec.size ≤ 10000
