-- A file of cells that was written whole, by the place of what is kept behind it.
use Rattle.std.proofs.Common.{◌≡◌, Result, Ok, Err, sym, ap, ◌∙◌}
use Rattle.std.specs.Prelude.{OnOk}
use Rattle.cell_files.specs.NewFiles.{file_text}
use Rattle.kdb_base.specs.declared.moments.Point.{Point}
use Rattle.kdb_disk.specs.View.{View}
use Rattle.kdb_places.specs.Places.{Place}
use Rattle.primary_core.specs.Opened.{IsWrittenAnew}
use Rattle.store_files.specs.Kept.{Kept, place_kept}

pub written_as : (k : Kept) (p : Place) (base : Point) (now : View) → place_kept k ≡ p
    → now.seen k.control.image ≡ file_text 2 p.realm base p.rows → IsWrittenAnew now k base
written_as k p base now place written = written ∙ sym (ap (λ (x : Place). file_text 2 x.realm base x.rows) place)

pub on_written : {A B : Type 0} (r : Result A B) (k : Kept) (p : Place) (base : Point) (now : View)
    → OnOk r (place_kept k ≡ p) → OnOk r (now.seen k.control.image ≡ file_text 2 p.realm base p.rows)
    → OnOk r (IsWrittenAnew now k base)
on_written (Ok a) k p base now place written = written_as k p base now place written
on_written (Err e) k p base now place written = tt
