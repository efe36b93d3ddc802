-- The places of what is found and of what is kept.
use Rattle.std.proofs.Common.{◌≡◌, ◌≢◌, ℕ, zero, suc, ◌+◌, ◌-◌, ◌<◌, ◌≤◌, ◌⊎◌, inl, inr, ⊎_elim, List, [], ◌∷◌, ◌++◌}
use Rattle.std.proofs.Common.{length, map, get_or, drop, Option, Some, None, refl, sym, ap, subst, ◌∙◌, arith}
use Rattle.std.specs.Prelude.{Ok}
use Rattle.std.proofs.lemmas.List.{map-append, length-map, drop-map}
use Rattle.kdb_base.specs.Moment.{Moment}
use Rattle.kdb_base.specs.declared.moments.Point.{Point}
use Rattle.kdb_disk.specs.Files.{Files}
use Rattle.kdb_disk.specs.View.{View}
use Rattle.kdb_disk.specs.Moments.{LeavesOnly}
use Rattle.kdb_disk.proofs.Runs.{weaken}
use Rattle.princ_rows.specs.declared.entries.Entry.{Entry}
use Rattle.princ_rows.specs.declared.entries.Op.{Op}
use Rattle.princ_rows.specs.declared.entries.Logged.{Logged}
use Rattle.princ_rows.specs.Rows.{RowLists}
use Rattle.princ_rows.specs.Effects.{effect}
use Rattle.update_log.specs.Logs.{newest, entry_of}
use Rattle.kdb_cells.specs.Cells.{Cell}
use Rattle.kdb_cells.specs.Changes.{rows_of}
use Rattle.kdb_places.specs.Places.{Place, last_point, point_of, next_point, change, last_entries, committed}
use Rattle.store_files.specs.Found.{Found, redone, place_of, place_in, recovers, found_in}
use Rattle.store_files.specs.Standing.{StandsOnDisk, Holds, after}
use Rattle.store_files.specs.Kept.{Kept, place_kept, found_with, IsOnDisk}
use Rattle.store_files.specs.Recovery.{LeavesPart, RecoversTo}
use Rattle.store_files.proofs.Finding.{stands_found}

-- ---- entries

pub held_after : (size : ℕ) (held : List Logged) (l : Logged)
    → map entry_of (newest size (held ++ l ∷ [])) ≡ last_entries size (map entry_of held ++ l.entry ∷ [])
held_after size held l =
    let all = held ++ l ∷ [] in
    let parts : map entry_of all ≡ map entry_of held ++ l.entry ∷ [] = map-append entry_of held (l ∷ []) in
    sym (drop-map entry_of (length all - size) all)
    ∙ ap (λ (n : ℕ). drop (n - size) (map entry_of all)) (sym (length-map all entry_of))
    ∙ ap (last_entries size) parts

-- the point of the last entry
pub last_held : (point : Point) (held : List Logged) (d : Logged) → 0 < length held
    → last_point point (map entry_of held) ≡ (get_or held (length held - 1) d).entry.point
unfolding last_point
last_held point [] d some = absurd (omega (arith, some))
last_held point (l ∷ []) d some = refl
last_held point (l ∷ (next ∷ held)) d some =
    let here : length (next ∷ held) - 1 ≡ length held = omega arith in
    let there : suc (length held) ≡ length (l ∷ (next ∷ held)) - 1 = omega arith in
    last_held l.entry.point (next ∷ held) d (omega arith) ∙ ap (λ (i : ℕ). (get_or (next ∷ held) i d).entry.point) here
    ∙ ap (λ (i : ℕ). (get_or (l ∷ (next ∷ held)) i d).entry.point) there

-- ---- a change

same_place : (realm : List ℕ) (rows other : RowLists) (held others : List Entry) (stash : Option (List ℕ))
    (size block format : ℕ) → rows ≡ other
    → held ≡ others
    → ◌≡◌ {A = Place}
    (record { realm = realm; rows = rows; held = held; stash = stash; size = size; block = block; format = format })
    (record { realm = realm; rows = other; held = others; stash = stash; size = size; block = block; format = format })
same_place realm rows other held others stash size block format a b =
    let made : RowLists → List Entry → Place = λ (r : RowLists) (h : List Entry).
    record { realm = realm; rows = r; held = h; stash = stash; size = size; block = block; format = format } in
    ap (λ (r : RowLists). made r held) a ∙ ap (made other) b

pub place_after : (l : Logged) (o : Found) (op : Op) (time : Moment)
    → l.entry ≡ change op (next_point time (place_of o))
    → rows_of (redone l o.sheet.cells) ≡ effect (Some op) (rows_of o.sheet.cells)
    → place_of (after l o) ≡ committed op time (place_of o)
place_after l o op time is rows =
    same_place o.sheet.realm _ _ _ _ o.stash o.control.size o.control.block o.control.format rows
    (held_after o.control.size o.held l
    ∙ ap (λ (e : Entry). last_entries o.control.size (map entry_of o.held ++ e ∷ [])) is)

-- ---- what is kept

pub place_is : (k : Kept) (cells : List Cell) → rows_of cells ≡ k.rows → place_of (found_with k cells) ≡ place_kept k
place_is k cells rows = same_place k.realm _ _ _ _ k.stash k.control.size k.control.block k.control.format rows refl

-- whatever a crash leaves recovers to the place of what is kept
pub kept_recovers : (k : Kept) (v : View) → IsOnDisk k v → RecoversTo (place_kept k) v
kept_recovers k v is c now =
    ap place_in (stands_found (found_with k is.cells) c is.stands.done (is.stands.each c now))
    ∙ ap Ok (place_is k is.cells is.rows)

-- what is found to be as before or as after a change recovers to the one place or to the other
pub either_place : {before next : Place} (a b : Found) (c : Files) → place_of a ≡ before → place_of b ≡ next
    → (found_in c ≡ Ok a) ⊎ (found_in c ≡ Ok b) → LeavesPart before (next ∷ []) c
unfolding LeavesPart
either_place a b c one other either = ⊎_elim
    (λ is. inl (ap place_in is ∙ ap Ok one))
    (λ is. inr (ap place_in is ∙ ap Ok other))
    either
