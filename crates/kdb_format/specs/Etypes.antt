-- Encryption types as bytes: each by its number, in two bytes.
use Rattle.std.specs.Prelude.{ℕ, List}
use Rattle.kdb_base.specs.Etypes.{number_of, etype_of}
use Rattle.kdb_base.specs.declared.keys.Etype.{Etype}
use Rattle.kdb_format.specs.Readings.{Reading, ◌>>=◌, known, big_at, little_at}
use Rattle.kdb_format.specs.Spellings.{big, little}

-- the type whose number is read so
abbrev pub etype_by : Reading ℕ → Reading Etype
etype_by number_at = do
  number ← number_at
  known (etype_of number)

-- the highest byte first
unfoldable pub etype_at : Reading Etype
etype_at = etype_by (big_at 2)

unfoldable pub etype_text : Etype → List ℕ
etype_text etype = big 2 (number_of etype)

-- the lowest byte first
unfoldable pub etype_le_at : Reading Etype
etype_le_at = etype_by (little_at 2)

unfoldable pub etype_le_text : Etype → List ℕ
etype_le_text etype = little 2 (number_of etype)
