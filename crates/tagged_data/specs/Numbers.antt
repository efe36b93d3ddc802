-- The contents that are one number, the lowest byte first.
use Rattle.std.proofs.Common.{ℕ, ◌^◌, ◌<◌, refl}
use Rattle.std.specs.Prelude.{nat_lt}
use Rattle.std.proofs.lemmas.Bool.{ltb-true, lt-ltb}
use Rattle.kdb_format.specs.Readings.{Reading, checked, little_at, whole}
use Rattle.kdb_format.specs.Spellings.{little}
use Rattle.kdb_format.specs.Fields.{IsField}
use Rattle.kdb_format.specs.Laws.{same_field, checked_field, little_field}
use Rattle.tagged_data.specs.Contents.{IsContent, whole_content}

-- a version of the master key, in two bytes, and not 0
unfoldable pub version_at : Reading ℕ
version_at = checked (nat_lt 0) (little_at 2)

pub record IsVersion (n : ℕ) : Type 0 where
  pub some : 0 < n
  pub short : n < 2 ^ 16

pub version_field : IsField version_at (little 2) IsVersion
unfolding version_at
version_field = same_field (checked_field (nat_lt 0) (little_field 2))
    (λ n f. (refl, record { some = ltb-true _ _ f.1; short = f.0 }))
    (λ n f. (f.short, lt-ltb _ _ f.some))

-- the version of the master key
pub version_content : IsContent (whole version_at) (little 2) IsVersion
version_content = whole_content version_field

-- the seconds of the last password change
pub secs_content : IsContent (whole (little_at 4)) (little 4) (λ n. n < 2 ^ 32)
secs_content = whole_content (little_field 4)
