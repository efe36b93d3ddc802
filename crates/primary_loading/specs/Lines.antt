-- The lines of a dump, counted from 1.
use Rattle.std.specs.Prelude.{ℕ, ◌+◌, List, [], ◌∷◌, ◌++◌, map}
use Rattle.dump_text.specs.Dumps.{end_line, point_line, policy_line, princ_line, realm_line, row_count}
use Rattle.dump_text.specs.Versions.{title}
use Rattle.dump_text.specs.declared.versions.Version.{Version}
use Rattle.kdb_base.specs.declared.moments.Point.{Point}
use Rattle.princ_rows.specs.Rows.{RowLists}

-- the title, the realm, the point, the principals, the policies and the end
unfoldable pub dump_lines : Version → List ℕ → Point → RowLists → List (List ℕ)
dump_lines version realm point rows =
    title version ∷ realm_line realm ∷ point_line point
    ∷ (map princ_line rows.princs ++ (map policy_line rows.policies ++ end_line (row_count rows) ∷ []))

-- ---- the lines that a refusal names

abbrev pub realm_place : ℕ
realm_place = 2

-- that of the principal at this place among the principals, from 0
abbrev pub princ_place : ℕ → ℕ
princ_place at = at + 4

abbrev pub end_place : RowLists → ℕ
end_place rows = row_count rows + 4
