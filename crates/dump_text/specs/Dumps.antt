-- A dump: a whole database as text. Its first line says what it is, and its last line how many rows stand
-- before it. Each line ends with a line feed, and one space stands between words.
use Rattle.std.specs.Prelude.{ℕ, ◌+◌, List, ◌++◌, codes, length}
use Rattle.std.specs.Fmt.{decimal}
use Rattle.std.specs.List.{flat_map}
use Rattle.hex.specs.Hex.{encode_lower}
use Rattle.kadm_values.specs.Points.{point_text}
use Rattle.kdb_base.specs.declared.moments.Point.{Point}
use Rattle.policy_rules.specs.Rules.{Rules}
use Rattle.princ_record.specs.Policies.{policy}
use Rattle.princ_record.specs.Princs.{princ}
use Rattle.princ_rows.specs.Rows.{RowLists}
use Rattle.princ_record.specs.declared.princs.Princ.{Princ}
use Rattle.dump_text.specs.Versions.{title}
use Rattle.dump_text.specs.declared.versions.Version.{Version}

abbrev pub line_feed : List ℕ
line_feed = codes "\n"

-- ---- lines, without the line feeds that end them

unfoldable pub realm_line : List ℕ → List ℕ
realm_line realm = codes "realm " ++ realm

-- a serial, and the time with six digits of microseconds
unfoldable pub point_line : Point → List ℕ
point_line point = codes "point " ++ point_text point

-- the record's spelling in hexadecimal
unfoldable pub princ_line : Princ → List ℕ
princ_line p = codes "princ " ++ encode_lower (princ p)

unfoldable pub policy_line : Rules → List ℕ
policy_line p = codes "policy " ++ encode_lower (policy p)

unfoldable pub end_line : ℕ → List ℕ
end_line count = codes "end " ++ decimal count

-- ---- texts

abbrev pub ended : List ℕ → List ℕ
ended line = line ++ line_feed

-- what stands before the rows
unfoldable pub head_text : Version → List ℕ → Point → List ℕ
head_text version realm point = ended (title version) ++ (ended (realm_line realm) ++ ended (point_line point))

-- the principals, and then the policies
unfoldable pub rows_text : RowLists → List ℕ
rows_text rows = flat_map (λ p. ended (princ_line p)) rows.princs ++ flat_map (λ p. ended (policy_line p)) rows.policies

abbrev pub row_count : RowLists → ℕ
row_count rows = length rows.princs + length rows.policies

unfoldable pub dump_text : Version → List ℕ → Point → RowLists → List ℕ
dump_text version realm point rows =
    head_text version realm point ++ (rows_text rows ++ ended (end_line (row_count rows)))

-- ---- the same with a mark before each line

-- a line behind a mark
abbrev pub marked : List ℕ → List ℕ → List ℕ
marked mark line = mark ++ ended line

unfoldable pub marked_head : List ℕ → Version → List ℕ → Point → List ℕ
marked_head mark version realm point =
    marked mark (title version) ++ (marked mark (realm_line realm) ++ marked mark (point_line point))

unfoldable pub marked_rows : List ℕ → RowLists → List ℕ
marked_rows mark rows =
    flat_map (λ p. marked mark (princ_line p)) rows.princs ++ flat_map (λ p. marked mark (policy_line p)) rows.policies

-- without a mark, this is the text of the dump
unfoldable pub marked_text : List ℕ → Version → List ℕ → Point → RowLists → List ℕ
marked_text mark version realm point rows =
    marked_head mark version realm point ++ (marked_rows mark rows ++ marked mark (end_line (row_count rows)))
