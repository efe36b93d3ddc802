use Rattle.std.proofs.Common.{subst, ◌∙◌}
use Rattle.kdb_places.specs.Places.{point_of}
use Rattle.primary_core.proofs.Shown.{shown_soundly}
use Rattle.primary_core.proofs.opening.holds_state.Goals as goal
use Rattle.princ_name.specs.Realms.{IsRealm}
use Rattle.princ_rows.specs.Rows.{AreRows}
use Rattle.row_keys.specs.Sound.{judged}
use Rattle.store_files.specs.Kept.{place_kept}

pub returns : goal.returns
returns c =
    let p = place_kept c.args.database.now in
    let j = judged c.args.masters.now p.realm (point_of p).time.secs in
    shown_soundly p c.args.masters.now c.requires
    (c.sound_rows_show_one_state.ensures.shows j p.rows (point_of p)
    (subst AreRows c.rows.ensures c.princs-princs.ensures.rows)
    (subst IsRealm (c.as_slice-realm.ensures.value ∙ c.realm.ensures) c.as_slice-realm.ensures.realm) c.requires.sound)
