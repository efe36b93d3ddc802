-- At which point a place stands, and how many entries it holds.
use Rattle.std.proofs.Common.{◌≡◌, ◌-◌, ◌<◌, ◌≤◌, List, [], ◌∷◌, ◌++◌, length, drop}
use Rattle.std.proofs.Common.{refl, ◌∙◌, ap, arith, length-append, length-drop}
use Rattle.std.proofs.lemmas.List.{drop-append-le}
use Rattle.kdb_base.specs.Moment.{Moment}
use Rattle.kdb_base.specs.declared.moments.Point.{Point}
use Rattle.princ_rows.specs.declared.entries.Entry.{Entry}
use Rattle.princ_rows.specs.declared.entries.Op.{Op}
use Rattle.kdb_places.specs.Places.{Place, no_point, last_point, next_point, point_of, change, committed}

pub last_of_more : (point : Point) (entries : List Entry) (e : Entry) → last_point point (entries ++ e ∷ []) ≡ e.point
unfolding last_point
last_of_more point [] e = refl
last_of_more point (x ∷ entries) e = last_of_more x.point entries e

-- the last of the last entries
pub committed_point : (op : Op) (time : Moment) (p : Place) → 0 < p.size
    → point_of (committed op time p) ≡ next_point time p
committed_point op time p some =
    let e = change op (next_point time p) in
    let k = length (p.held ++ e ∷ []) - p.size in
    let long = length-append p.held (e ∷ []) in
    ap (last_point no_point) (drop-append-le k p.held (e ∷ []) (omega (arith, long, some)))
    ∙ last_of_more no_point (drop k p.held) e

pub held_few : (op : Op) (time : Moment) (p : Place) → length (committed op time p).held ≤ p.size
held_few op time p =
    let entries = p.held ++ change op (next_point time p) ∷ [] in
    omega (arith, length-drop (length entries - p.size) entries)

pub first_point : (point : Point) (e : Entry) → last_point point (e ∷ []) ≡ e.point
unfolding last_point
first_point point e = refl
