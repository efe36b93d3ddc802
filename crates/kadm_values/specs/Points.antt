-- The text of a point.
use Rattle.std.specs.Prelude.{ℕ, ◌-◌, List, ◌++◌, codes, length, replicate}
use Rattle.std.specs.Fmt.{decimal}
use Rattle.kdb_base.specs.declared.moments.Point.{Point}

abbrev pub six_digits : ℕ → List ℕ
six_digits n = replicate (6 - length (decimal n)) 48 ++ decimal n

-- the serial number, the seconds, and the microseconds in six digits
unfoldable pub point_text : Point → List ℕ
point_text point =
    decimal point.sno ++ (codes " " ++ (decimal point.time.secs ++ (codes "." ++ six_digits point.time.usecs)))
