-- The entries that a log holds, as lines: MIT's kproplog tells the same of its own log.
use Rattle.std.specs.Prelude.{ℕ, List, [], ◌∷◌, ◌++◌, codes, Option, Some, None}
use Rattle.std.specs.Fmt.{decimal}
use Rattle.kadm_replies.specs.Texts.{data_line, field_line}
use Rattle.kadm_values.specs.Points.{point_text}
use Rattle.kdb_base.specs.declared.moments.Point.{Point}
use Rattle.princ_rows.specs.declared.entries.Entry.{Entry}
use Rattle.princ_rows.specs.declared.entries.Op.{Op}
use Rattle.princ_rows.specs.declared.entries.Op.TheVariants.{PutPrinc, DropPrinc, Rename, PutPolicy, DropPolicy}

abbrev pub named : List ℕ → List ℕ → List ℕ
named word name = word ++ (codes " " ++ name)

-- what an entry does, and to which name; where a log begins it does nothing
unfoldable pub change_text : Option Op → List ℕ
change_text None = codes "base"
change_text (Some (PutPrinc p)) = named (codes "put") p.name
change_text (Some (DropPrinc name)) = named (codes "delete") name
change_text (Some (Rename old p)) = named (codes "rename") (named old p.name)
change_text (Some (PutPolicy p)) = named (codes "putpol") p.name
change_text (Some (DropPolicy name)) = named (codes "delpol") name

unfoldable pub entry_text : Entry → List ℕ
entry_text e = data_line (named (point_text e.point) (change_text e.op))

unfoldable pub entries_text : List Entry → List ℕ
entries_text [] = []
entries_text (e ∷ entries) = entry_text e ++ entries_text entries

-- the most entries, and the length of the blocks
unfoldable pub size_text : ℕ → ℕ → List ℕ
size_text size block = data_line (named (codes "size") (named (decimal size) (named (codes "block") (decimal block))))

-- the first and the last point, the log's measures, and the entries
unfoldable pub ulog_text : Point → Point → ℕ → ℕ → List Entry → List ℕ
ulog_text first last size block held =
    field_line (codes "first") (point_text first)
    ++ (field_line (codes "last") (point_text last) ++ (size_text size block ++ (entries_text held ++ codes "ok\n")))
