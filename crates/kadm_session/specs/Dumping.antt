-- A dump as what is answered to a line.
use Rattle.std.specs.Prelude.{ℕ, List, ◌++◌, codes}
use Rattle.dump_text.specs.Dumps.{marked_text}
use Rattle.dump_text.specs.declared.versions.Version.TheVariants.{Two}
use Rattle.kdb_places.specs.Places.{Place, point_of}

-- each line of the dump of this place, behind a dash and a space
unfoldable pub dump_lines : Place → List ℕ
dump_lines p = marked_text (codes "- ") Two p.realm (point_of p) p.rows

-- and then that all was told
unfoldable pub dump_answer : Place → List ℕ
dump_answer p = dump_lines p ++ codes "ok\n"
