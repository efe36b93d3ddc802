-- The tests by which a change is judged, and what they say.
use Rattle.std.proofs.Common.{◌≡◌, ◌≢◌, ℕ, zero, suc, ◌≤◌, ◌⊎◌, inl, inr, ⊎_elim, Bool, true, false}
use Rattle.std.proofs.Common.{◌||◌, leb, not, List, [], ◌∷◌, Some, refl, sym, ◌∙◌, ap, arith}
use Rattle.std.specs.List.{All, list_any}
use Rattle.std.specs.Str.{bytes_eq}
use Rattle.std.proofs.lemmas.Bool.{and_parts, and_from, or_cases, leb-true, le-leb, false_from_ne_true, true≢false}
use Rattle.std.proofs.lemmas.List.Folds.{list_any_none, list_any_at}
use Rattle.std.specs.Prelude.{Contains}
use Rattle.princ_record.specs.declared.princs.Princ.{Princ}
use Rattle.princ_rows.specs.Effects.{effect, IsRoom}
use Rattle.princ_rows.specs.EntryLaws.{same_bytes, bytes_same}
use Rattle.princ_rows.specs.Rows.{RowLists}
use Rattle.princ_rows.specs.Undoing.{IsNewName}
use Rattle.princ_rows.specs.declared.entries.Op.{Op}
use Rattle.princ_rows.specs.declared.entries.Op.TheVariants.{PutPrinc, DropPrinc, Rename, PutPolicy, DropPolicy}
use Rattle.kdb_places.specs.Applying.{is_room, is_new_name, may_apply}

-- a test that is true exactly where the number is at most so great
pub room_test : (n most : ℕ) (b : Bool) → (b ≡ true → n ≤ most) → (b ≡ false → n ≤ most → ⊥) → b ≡ leb n most
room_test n most true so no_room = sym (le-leb _ _ (so refl))
room_test n most false so no_room = sym (false_from_ne_true _ (λ e. no_room refl (leb-true _ _ e)))

none_or : (a b : Bool) → (a || b) ≡ false → (a ≡ false) × (b ≡ false)
none_or true b e = absurd (true≢false e)
none_or false b e = (refl, e)

none_any : {X : Type 0} (p : X → Bool) (xs : List X) → list_any p xs ≡ false → All (λ x. p x ≡ false) xs
none_any p [] none i d lt = absurd (omega (arith, lt))
none_any p (x ∷ xs) none zero d lt = (none_or (p x) (list_any p xs) none).0
none_any p (x ∷ xs) none (suc i) d lt = none_any p xs (none_or (p x) (list_any p xs) none).1 i d (omega (arith, lt))

-- a principal has the name
pub name_there : (name : List ℕ) (princs : List Princ) (p : Princ) → Contains princs p × (p.name ≡ name)
    → list_any (λ q. bytes_eq q.name name) princs ≡ true
name_there name princs p is =
    let at = is.0 in
    list_any_at (λ q. bytes_eq q.name name) princs at.0 p at.1
    (bytes_same _ name (ap (λ (q : Princ). q.name) at.2 ∙ is.1))

-- no principal has the name
pub no_name : (name : List ℕ) (princs : List Princ) → All (λ q. q.name ≢ name) princs
    → list_any (λ q. bytes_eq q.name name) princs ≡ false
no_name name princs none = list_any_none (λ q. bytes_eq q.name name) princs
    (λ i d lt. false_from_ne_true _ (λ e. none i d lt (same_bytes _ name e)))

name_none : (name : List ℕ) (princs : List Princ) → list_any (λ q. bytes_eq q.name name) princs ≡ false
    → All (λ q. q.name ≢ name) princs
name_none name princs none i d lt is =
    true≢false (sym (bytes_same _ name is) ∙ none_any (λ q. bytes_eq q.name name) princs none i d lt)

not_true : (b : Bool) → not b ≡ true → b ≡ false
not_true true e = sym e
not_true false e = refl

not_false : (b : Bool) → b ≡ false → not b ≡ true
not_false b e = ap not e

either_true : (a b : Bool) → (a ≡ true) ⊎ (b ≡ true) → (a || b) ≡ true
either_true true b h = refl
either_true false b (inl e) = absurd (true≢false (sym e))
either_true false b (inr e) = e

name_of_test : (op : Op) (r : RowLists) → is_new_name op r ≡ true → IsNewName op r
name_of_test (PutPrinc p) r e = tt
name_of_test (DropPrinc name) r e = tt
name_of_test (Rename old p) r e =
    ⊎_elim
    (λ same. inl (same_bytes p.name old same))
    (λ free. inr (name_none p.name r.princs (not_true (list_any (λ q. bytes_eq q.name p.name) r.princs) free)))
    (or_cases (bytes_eq p.name old) (not (list_any (λ q. bytes_eq q.name p.name) r.princs)) e)
name_of_test (PutPolicy p) r e = tt
name_of_test (DropPolicy name) r e = tt

test_of_name : (op : Op) (r : RowLists) → IsNewName op r → is_new_name op r ≡ true
test_of_name (PutPrinc p) r h = refl
test_of_name (DropPrinc name) r h = refl
test_of_name (Rename old p) r h =
    either_true (bytes_eq p.name old) (not (list_any (λ q. bytes_eq q.name p.name) r.princs)) (⊎_elim
    (λ same. inl (bytes_same p.name old same))
    (λ free. inr (not_false (list_any (λ q. bytes_eq q.name p.name) r.princs) (no_name p.name r.princs free)))
    h)
test_of_name (PutPolicy p) r h = refl
test_of_name (DropPolicy name) r h = refl

pub applied_room : (op : Op) (rows : RowLists) → may_apply op rows ≡ true → IsRoom (effect (Some op) rows)
unfolding may_apply
applied_room op rows e = leb-true _ _ (and_parts (is_room (effect (Some op) rows)) (is_new_name op rows) e).0

pub applied_name : (op : Op) (rows : RowLists) → may_apply op rows ≡ true → IsNewName op rows
unfolding may_apply
applied_name op rows e = name_of_test op rows (and_parts (is_room (effect (Some op) rows)) (is_new_name op rows) e).1

pub may_from : (op : Op) (rows : RowLists) → IsRoom (effect (Some op) rows) → IsNewName op rows
    → may_apply op rows ≡ true
unfolding may_apply
may_from op rows room name =
    and_from (is_room (effect (Some op) rows)) (is_new_name op rows) (le-leb _ _ room) (test_of_name op rows name)
