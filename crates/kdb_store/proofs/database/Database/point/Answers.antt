use Rattle.std.proofs.Common.{ap, sym, ◌∙◌}
use Rattle.kdb_places.specs.Places.{no_point, point_of}
use Rattle.store_files.proofs.Placed.{last_held}
use Rattle.store_files.specs.Kept.{Kept, place_kept}
use Rattle.update_log.specs.Logs.{marker_of}
use Rattle.kdb_store.proofs.database.Database.point.Goals as goal

pub returns : goal.returns
returns c =
    c.held-last.ensures.last (marker_of no_point)
    ∙ sym (last_held no_point c.self.inside.log.held (marker_of no_point) c.holds_journal.ensures.some)
    ∙ ap (λ (x : Kept). point_of (place_kept x)) c.self.view_is
