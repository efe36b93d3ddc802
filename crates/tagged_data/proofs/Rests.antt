-- Reading items to the end of the bytes, as a loop does.
use Rattle.std.proofs.Common.{◌≡◌, ℕ, zero, suc, ◌+◌, ◌-◌, ◌<◌, ◌≤◌, List, [], ◌∷◌, ◌++◌, length}
use Rattle.std.proofs.Common.{Option, Some, None, refl, sym, ap, ◌∙◌, append_assoc, arith}
use Rattle.std.specs.Prelude.{option_map}
use Rattle.std.proofs.lemmas.List.{append-nil}
use Rattle.kdb_format.specs.Answers.{Refuses}
use Rattle.kdb_format.specs.Readings.{Reading}
use Rattle.kdb_format.specs.declared.faults.FormatFault.{FormatFault}
use Rattle.kdb_format.specs.declared.faults.FormatFault.TheVariants as faults
use Rattle.tagged_data.specs.Contents.{items_within, front_step, no_front_step}

-- what was read before, and what is still read
abbrev pub behind : {A : Type 0} → List A → Option (List A) → Option (List A)
behind front read = option_map (λ xs. front ++ xs) read

-- bytes are left
pub some_left : (bytes : List ℕ) → (bytes ≡ [] → ⊥) → 0 < length bytes
some_left [] h = absurd (h refl)
some_left (b ∷ bytes) h = omega arith

regroup : {A : Type 0} (front : List A) (x : A) (read : Option (List A))
    → behind front (option_map (λ xs. x ∷ xs) read) ≡ behind (front ++ x ∷ []) read
regroup {A = A} front x (Some xs) = ap (λ (ys : List A). Some ys) (simp append_assoc)
regroup front x None = refl

-- one more item
pub more : {A : Type 0} (item : Reading A) (front : List A) (most i : ℕ) (bytes : List ℕ) (x : A) (after : List ℕ)
    (total : Option (List A)) → i < most → 0 < length bytes → item bytes ≡ Some (x, after)
    → behind front (items_within item (most - i) bytes) ≡ total
    → behind (front ++ x ∷ []) (items_within item (most - (i + 1)) after) ≡ total
more item front most i bytes x after total lt left h so_far =
    let k : most - i ≡ suc (most - (i + 1)) = omega arith in
    sym (regroup front x (items_within item (most - (i + 1)) after))
    ∙ ap (behind front) (sym (front_step item (most - (i + 1)) bytes x after left h))
    ∙ ap (λ (n : ℕ). behind front (items_within item n bytes)) (sym k) ∙ so_far

-- no item where one should stand
pub refused : {A : Type 0} (e : FormatFault) (item : Reading A) (front : List A) (most i : ℕ) (bytes : List ℕ)
    (total : Option (List A)) → i < most → 0 < length bytes → Refuses e (item bytes)
    → behind front (items_within item (most - i) bytes) ≡ total → Refuses e total
refused faults.MemoryOut item front most i bytes total lt left h so_far = tt
refused faults.Malformed item front most i bytes total lt left h so_far =
    let k : most - i ≡ suc (most - (i + 1)) = omega arith in
    sym so_far ∙ ap (λ (n : ℕ). behind front (items_within item n bytes)) k
    ∙ ap (behind front) (no_front_step item (most - (i + 1)) bytes left h)

-- the end
pub done : {A : Type 0} (item : Reading A) (front : List A) (n : ℕ) (bytes : List ℕ) (total : Option (List A))
    → bytes ≡ []
    → behind front (items_within item n bytes) ≡ total → total ≡ Some front
unfolding items_within
done {A = A} item front n bytes total e so_far =
    sym so_far ∙ ap (λ (b : List ℕ). behind front (items_within item n b)) e ∙ none_left n
  where
    none_left : (n : ℕ) → behind front (items_within item n []) ≡ Some front
    none_left zero = ap (λ (ys : List A). Some ys) (append-nil front)
    none_left (suc n) = ap (λ (ys : List A). Some ys) (append-nil front)

-- more bytes than items
pub over : {A : Type 0} (item : Reading A) (front : List A) (most i : ℕ) (bytes : List ℕ) (total : Option (List A))
    → most ≤ i → 0 < length bytes
    → behind front (items_within item (most - i) bytes) ≡ total → total ≡ None
unfolding items_within
over item front most i [] total le left so_far = absurd (omega arith)
over item front most i (b ∷ bytes) total le left so_far =
    let k : most - i ≡ 0 = omega arith in
    sym so_far ∙ ap (λ (n : ℕ). behind front (items_within item n (b ∷ bytes))) k
