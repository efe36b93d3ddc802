use Rattle.std.proofs.Common.{◌≡◌, None, ap, ◌∙◌}
use Rattle.kdb_cells.specs.Indexes.{Index, Entries, unit_of}
use Rattle.kdb_cells.proofs.Indexing.{same_least}
use Rattle.kdb_cells.proofs.index.UnitIndex.place.Goals as goal

pub returns-clause-new : goal.returns-clause-new
returns-clause-new c = λ none.
    let old = c.self.inside in
    let same : c.make_room.new.entries.entries ≡ c.args.self.now.entries =
    c.make_room.ensures.entries ∙ ap (λ (x : Index). x.entries) c.self.view_is in
    let least = c.pick-placed.ensures.new (ap (λ (es : Entries). unit_of es c.args.key.now) same ∙ none) in
    same_least c.pick-placed.result.unit
    (record { entries = c.make_room.new.entries.entries; next = old.next; placed = None }) c.args.self.now same least
