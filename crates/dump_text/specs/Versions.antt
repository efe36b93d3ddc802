-- The versions of the format of dumps.
use Rattle.std.specs.Prelude.{ℕ, ◌+◌, ◌*◌, Bool, List, codes, Option, Some, None, if◌then◌else◌}
use Rattle.std.specs.Str.{bytes_eq}
use Rattle.kdb_base.specs.Limits.{longest_row}
use Rattle.princ_record.specs.RowLimits.{is_row, is_row_1}
use Rattle.princ_record.specs.declared.princs.Princ.{Princ}
use Rattle.dump_text.specs.declared.versions.Version.{Version}
use Rattle.dump_text.specs.declared.versions.Version.TheVariants.{One, Two}

-- the first line
unfoldable pub title : Version → List ℕ
title One = codes "kdb dump 1"
title Two = codes "kdb dump 2"

-- the version of a first line
unfoldable pub version_of : List ℕ → Option Version
version_of line = if bytes_eq line (title One) then Some One else if bytes_eq line (title Two) then Some Two else None

-- the record may stand in a dump of this version
unfoldable pub stands_in : Version → Princ → Bool
stands_in One p = is_row_1 p
stands_in Two p = is_row p

-- no line has more bytes than a principal's word, and two digits for each byte of its row
abbrev pub longest : ℕ
longest = 6 + 2 * longest_row
