-- The rows of a file that was scanned: each key is there once.
use Rattle.std.proofs.Common.{◌≡◌, ℕ, suc, ◌+◌, ◌<◌, false, List, [], ◌∷◌, length}
use Rattle.std.proofs.Common.{Some, None, refl, sym, ap, subst, ◌∙◌, arith}
use Rattle.std.specs.List.{All, AllByRecursion, IsDistinct}
use Rattle.std.specs.Str.{bytes_eq}
use Rattle.std.proofs.lemmas.Bool.{false_from_ne_true, true≢false}
use Rattle.std.proofs.lemmas.List.Elements.{All-from_recursion}
use Rattle.policy_rules.specs.Rules.{Rules}
use Rattle.princ_rows.specs.EntryLaws.{same_bytes, bytes_same}
use Rattle.princ_record.specs.Policies.{IsPolicy}
use Rattle.princ_record.specs.RowLimits.{IsRow}
use Rattle.princ_record.specs.declared.princs.Princ.{Princ as Principal}
use Rattle.princ_rows.specs.Rows.{princ_keys, policy_keys}
use Rattle.kdb_cells.specs.declared.units.StoredRow.TheVariants.{Princ, Policy}
use Rattle.kdb_cells.specs.Cells.{Cell, IsCell}
use Rattle.kdb_cells.specs.Changes.{cell_no}
use Rattle.kdb_cells.specs.Leads.{Units}
use Rattle.kdb_cells.specs.Scanning.{princs_of, policies_of, IsGathered, AreApart}
use Rattle.kdb_cells.specs.Sheets.{clash, taken}
use Rattle.kdb_cells.proofs.Gathered.{clash_free}

other_way : (a b : List ℕ) → bytes_eq a b ≡ false → bytes_eq b a ≡ false
other_way a b apart = false_from_ne_true _ (λ e. true≢false (sym (bytes_same a b (sym (same_bytes b a e))) ∙ apart))

-- no cell has the key of this one
abbrev pub NoneHas : Cell → List Cell → Type 0
NoneHas c cells = (j : ℕ) → clash (cell_no j cells) c ≡ false

-- each cell has a key of its own
abbrev EachOnce : List Cell → Type 0
EachOnce cells = (i j : ℕ) → i < j → clash (cell_no j cells) (cell_no i cells) ≡ false

behind_none : (c d : Cell) (cells : List Cell) → NoneHas c (d ∷ cells) → NoneHas c cells
unfolding cell_no
behind_none c d cells none j = none (suc j)

first_none : (c d : Cell) (cells : List Cell) → NoneHas c (d ∷ cells) → clash d c ≡ false
unfolding cell_no
first_none c d cells none = none 0

behind_once : (c : Cell) (cells : List Cell) → EachOnce (c ∷ cells) → EachOnce cells
unfolding cell_no
behind_once c cells once i j lt = once (suc i) (suc j) (omega (arith, lt))

first_once : (c : Cell) (cells : List Cell) → EachOnce (c ∷ cells) → NoneHas c cells
unfolding cell_no
first_once c cells once j = once 0 (suc j) (omega arith)

pub princ_alone : (p : Principal) (cells : List Cell) → NoneHas (Some (Princ p)) cells
    → AllByRecursion (λ k. bytes_eq p.name k ≡ false) (princ_keys (princs_of cells))
unfolding princs_of
princ_alone p [] none = tt
princ_alone p (None ∷ cells) none = princ_alone p cells (behind_none (Some (Princ p)) None cells none)
princ_alone p (Some (Princ q) ∷ cells) none = (
  other_way q.name p.name (first_none (Some (Princ p)) (Some (Princ q)) cells none),
  princ_alone p cells (behind_none (Some (Princ p)) (Some (Princ q)) cells none),
)
princ_alone p (Some (Policy q) ∷ cells) none =
    princ_alone p cells (behind_none (Some (Princ p)) (Some (Policy q)) cells none)

pub policy_alone : (p : Rules) (cells : List Cell) → NoneHas (Some (Policy p)) cells
    → AllByRecursion (λ k. bytes_eq p.name k ≡ false) (policy_keys (policies_of cells))
unfolding policies_of
policy_alone p [] none = tt
policy_alone p (None ∷ cells) none = policy_alone p cells (behind_none (Some (Policy p)) None cells none)
policy_alone p (Some (Princ q) ∷ cells) none =
    policy_alone p cells (behind_none (Some (Policy p)) (Some (Princ q)) cells none)
policy_alone p (Some (Policy q) ∷ cells) none = (
  other_way q.name p.name (first_none (Some (Policy p)) (Some (Policy q)) cells none),
  policy_alone p cells (behind_none (Some (Policy p)) (Some (Policy q)) cells none),
)

princs_once : (cells : List Cell) → EachOnce cells → IsDistinct bytes_eq (princ_keys (princs_of cells))
unfolding princs_of IsDistinct
princs_once [] once = tt
princs_once (None ∷ cells) once = princs_once cells (behind_once None cells once)
princs_once (Some (Princ p) ∷ cells) once = (
  princ_alone p cells (first_once (Some (Princ p)) cells once),
  princs_once cells (behind_once (Some (Princ p)) cells once),
)
princs_once (Some (Policy p) ∷ cells) once = princs_once cells (behind_once (Some (Policy p)) cells once)

policies_once : (cells : List Cell) → EachOnce cells → IsDistinct bytes_eq (policy_keys (policies_of cells))
unfolding policies_of IsDistinct
policies_once [] once = tt
policies_once (None ∷ cells) once = policies_once cells (behind_once None cells once)
policies_once (Some (Princ p) ∷ cells) once = policies_once cells (behind_once (Some (Princ p)) cells once)
policies_once (Some (Policy p) ∷ cells) once = (
  policy_alone p cells (first_once (Some (Policy p)) cells once),
  policies_once cells (behind_once (Some (Policy p)) cells once),
)

-- each cell is of the format
abbrev AreStored : ℕ → List Cell → Type 0
AreStored format cells = (i : ℕ) → IsCell format (cell_no i cells)

behind_stored : (format : ℕ) (c : Cell) (cells : List Cell) → AreStored format (c ∷ cells) → AreStored format cells
unfolding cell_no
behind_stored format c cells stored i = stored (suc i)

first_stored : (format : ℕ) (c : Cell) (cells : List Cell) → AreStored format (c ∷ cells) → IsCell format c
unfolding cell_no
first_stored format c cells stored = stored 0

princs_stored : (format : ℕ) (cells : List Cell) → AreStored format cells → AllByRecursion IsRow (princs_of cells)
unfolding princs_of
princs_stored format [] stored = tt
princs_stored format (None ∷ cells) stored = princs_stored format cells (behind_stored format None cells stored)
princs_stored format (Some (Princ p) ∷ cells) stored = (
  (first_stored format (Some (Princ p)) cells stored).row,
  princs_stored format cells (behind_stored format (Some (Princ p)) cells stored),
)
princs_stored format (Some (Policy p) ∷ cells) stored =
    princs_stored format cells (behind_stored format (Some (Policy p)) cells stored)

policies_stored : (format : ℕ) (cells : List Cell) → AreStored format cells
    → AllByRecursion IsPolicy (policies_of cells)
unfolding policies_of
policies_stored format [] stored = tt
policies_stored format (None ∷ cells) stored = policies_stored format cells (behind_stored format None cells stored)
policies_stored format (Some (Princ p) ∷ cells) stored =
    policies_stored format cells (behind_stored format (Some (Princ p)) cells stored)
policies_stored format (Some (Policy p) ∷ cells) stored = (
  first_stored format (Some (Policy p)) cells stored,
  policies_stored format cells (behind_stored format (Some (Policy p)) cells stored),
)

-- each row is a principal or a policy
pub taken_rows : (cells : List Cell) → taken cells ≡ length (princs_of cells) + length (policies_of cells)
unfolding taken princs_of policies_of
taken_rows [] = refl
taken_rows (None ∷ cells) = omega (arith, taken_rows cells)
taken_rows (Some (Princ p) ∷ cells) = omega (arith, taken_rows cells)
taken_rows (Some (Policy p) ∷ cells) = omega (arith, taken_rows cells)

pub gathered_apart : (format : ℕ) (u : Units) (n : ℕ) (princs : List Principal) (policies : List Rules)
    (cells : List Cell) → IsGathered format u n princs policies cells → AreApart princs policies
gathered_apart format u n princs policies cells is =
    let once : EachOnce cells =
    λ i j lt. clash_free u cells i j (cell_no j cells) (cell_no i cells) is.cells_are lt refl refl in
    record {
      each_princ = subst (All IsRow) (sym is.princs_are)
          (All-from_recursion IsRow (princs_of cells) (princs_stored format cells is.stored));
      each_policy = subst (All IsPolicy) (sym is.policies_are)
          (All-from_recursion IsPolicy (policies_of cells) (policies_stored format cells is.stored));
      princ_once = subst (λ (l : List Principal). IsDistinct bytes_eq (princ_keys l)) (sym is.princs_are)
          (princs_once cells once);
      policy_once = subst (λ (l : List Rules). IsDistinct bytes_eq (policy_keys l)) (sym is.policies_are)
          (policies_once cells once);
      few = omega (
        arith,
        is.few,
        is.count_is,
        taken_rows cells,
        ap (λ (l : List Principal). length l) is.princs_are,
        ap (λ (l : List Rules). length l) is.policies_are,
      );
    }
