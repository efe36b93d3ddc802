-- Reading items one after the other, as a loop does. What was read before and what is still read are what all of the
-- items are: a loop keeps `with_front items (list_at item (count - i) left) ≡ list_at item count bytes`.
use Rattle.std.proofs.Common.{◌≡◌, ℕ, suc, ◌-◌, ◌+◌, ◌≤◌, ◌<◌, List, [], ◌∷◌, ◌++◌, Option}
use Rattle.std.proofs.Common.{Some, None, refl, sym, ap, ◌∙◌, append_assoc, arith}
use Rattle.std.specs.Prelude.{option_map, option_and_then}
use Rattle.std.proofs.lemmas.List.{append-nil}
use Rattle.kdb_format.specs.declared.faults.FormatFault.{FormatFault}
use Rattle.kdb_format.specs.declared.faults.FormatFault.TheVariants as faults
use Rattle.kdb_format.specs.Answers.{Refuses}
use Rattle.kdb_format.specs.Readings.{Reading, list_at}

-- what was read before, and what is still read
abbrev pub with_front : {A : Type 0} → List A → Option (List A × List ℕ) → Option (List A × List ℕ)
with_front front read = option_map (λ x. (front ++ x.0, x.1)) read

regroup : {A : Type 0} (front : List A) (x : A) (read : Option (List A × List ℕ))
    → with_front front (option_and_then (λ ys. Some (x ∷ ys.0, ys.1)) read) ≡ with_front (front ++ x ∷ []) read
regroup {A = A} front x (Some y) = ap (λ (xs : List A). Some (xs, y.1)) (simp append_assoc)
regroup front x None = refl

-- one more item
pub items_more : {A : Type 0} (item : Reading A) (front : List A) (count i : ℕ) (bytes : List ℕ) (x : A)
    (after : List ℕ) (total : Option (List A × List ℕ)) → i < count → item bytes ≡ Some (x, after)
    → with_front front (list_at item (count - i) bytes) ≡ total
    → with_front (front ++ x ∷ []) (list_at item (count - (i + 1)) after) ≡ total
unfolding list_at
items_more item front count i bytes x after total lt h so_far =
    let k : count - i ≡ suc (count - (i + 1)) = omega arith in
    let one : with_front front (list_at item (count - i) bytes) ≡ with_front (front ++ x ∷ [])
    (list_at item (count - (i + 1)) after) = rw (k, h) (regroup front x (list_at item (count - (i + 1)) after)) in
    sym one ∙ so_far

-- no item where one should stand
pub items_refused : {A : Type 0} (e : FormatFault) (item : Reading A) (front : List A) (count i : ℕ) (bytes : List ℕ)
    (total : Option (List A × List ℕ)) → i < count → Refuses e (item bytes)
    → with_front front (list_at item (count - i) bytes) ≡ total → Refuses e total
unfolding list_at
items_refused faults.MemoryOut item front count i bytes total lt h so_far = tt
items_refused faults.Malformed item front count i bytes total lt h so_far =
    let k : count - i ≡ suc (count - (i + 1)) = omega arith in
    let one : with_front front (list_at item (count - i) bytes) ≡ None = rw (k, h) refl in
    sym so_far ∙ one

-- no more items
pub items_done : {A : Type 0} (item : Reading A) (front : List A) (count i : ℕ) (bytes : List ℕ)
    (total : Option (List A × List ℕ)) → count ≤ i
    → with_front front (list_at item (count - i) bytes) ≡ total → total ≡ Some (front, bytes)
unfolding list_at
items_done {A = A} item front count i bytes total le so_far =
    let k : count - i ≡ 0 = omega arith in
    let one : with_front front (list_at item (count - i) bytes) ≡ Some (front, bytes) =
    rw k (ap (λ (xs : List A). Some (xs, bytes)) (append-nil front)) in
    sym so_far ∙ one
