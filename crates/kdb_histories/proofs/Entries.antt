-- The last of some entries.
use Rattle.std.proofs.Common.{◌≡◌, ℕ, ◌+◌, ◌-◌, ◌<◌, List, [], ◌∷◌, ◌++◌, length}
use Rattle.std.proofs.Common.{drop, sym, ◌∙◌, ap, arith, length-append, length-drop}
use Rattle.std.proofs.lemmas.List.{drop-append-le, drop-drop}
use Rattle.kdb_places.specs.Places.{last_entries}
use Rattle.princ_rows.specs.declared.entries.Entry.{Entry}

pub one_entry : (size : ℕ) (e : Entry) → 0 < size → last_entries size (e ∷ []) ≡ e ∷ []
one_entry size e some =
    let none : 1 - size ≡ 0 = omega (arith, some) in
    ap (λ (k : ℕ). drop k (e ∷ [])) none

-- one entry more behind the last ones
pub last_more : (size : ℕ) (entries : List Entry) (e : Entry)
    → last_entries size (last_entries size entries ++ e ∷ []) ≡ last_entries size (entries ++ e ∷ [])
last_more size entries e =
    let k = length entries - size in
    let all = entries ++ e ∷ [] in
    let long = length-append entries (e ∷ []) in
    let left = length-drop k all in
    let kept : drop k entries ++ e ∷ [] ≡ drop k all = sym (drop-append-le k entries (e ∷ []) (omega arith)) in
    let count : k + (length (drop k all) - size) ≡ length all - size = omega (arith, long, left) in
    ap (last_entries size) kept ∙ drop-drop (length (drop k all) - size) k all ∙ ap (λ (n : ℕ). drop n all) count
