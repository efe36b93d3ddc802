-- What is read as a cell or a unit is spelled so, and the other way round.
use Rattle.std.proofs.Common.{◌≡◌, ℕ, ◌+◌, ◌^◌, ◌<◌, ◌≤◌, Bool, true, false, cond, []}
use Rattle.std.proofs.Common.{length, Some, None, refl, sym, ap, ◌∙◌, arith, length-append}
use Rattle.std.specs.Prelude.{nat_eq}
use Rattle.std.proofs.lemmas.Bool.{eqb-true, eq-eqb}
use Rattle.kdb_base.specs.Limits.{longest_row, longest_row_1}
use Rattle.kdb_format.specs.Readings.{Reading}
use Rattle.kdb_format.specs.Spellings.{big, counted}
use Rattle.kdb_format.specs.Fields.{IsField}
use Rattle.kdb_format.specs.Lengths.{length-counted}
use Rattle.kdb_format.specs.Numbers.{length-big}
use Rattle.kdb_format.specs.Laws.{same_field, first_field, made_field, done_field, big_field}
use Rattle.kdb_format.specs.Laws.{checked_field, choice_field, refuse_field, padded_field}
use Rattle.policy_rules.specs.Rules.{Rules}
use Rattle.princ_record.specs.RowLimits.{IsRow, is_row_1}
use Rattle.princ_record.specs.RowLaws.{row_1_from, row_1_test, row_field, policy_row_field}
use Rattle.princ_record.specs.PolicyLaws.{policy_short}
use Rattle.princ_record.specs.Policies.{policy, IsPolicy}
use Rattle.princ_record.specs.Princs.{princ}
use Rattle.princ_record.specs.declared.princs.Princ.{Princ as Principal}
use Rattle.kdb_cells.specs.Cells.{Cell, unit_size, kind_of, row_text, IsRowOf, is_row_of}
use Rattle.kdb_cells.specs.Cells.{IsStored, IsCell, free_at, princ_at, policy_at, in_state}
use Rattle.kdb_cells.specs.Cells.{cell_at, state_of, behind_state, cell_text, unit_at, unit_text}
use Rattle.kdb_cells.specs.declared.units.StoredRow.{StoredRow}
use Rattle.kdb_cells.specs.declared.units.StoredRow.TheVariants.{Princ, Policy}

-- ---- the format's rows, as a test

row_of_from : (format : ℕ) (p : Principal) → IsRow p → is_row_of format p ≡ true → IsRowOf format p
row_of_from format p is e = record {
  row = is;
  first = λ one. row_1_from p is.fits (sym (ap (λ (b : Bool). cond b (is_row_1 p) true) (eq-eqb format 1 one)) ∙ e);
}

row_of_test : (format : ℕ) (p : Principal) → IsRowOf format p → is_row_of format p ≡ true
row_of_test format p is = by (nat_eq format 1) refl
  where
    by : (b : Bool) → nat_eq format 1 ≡ b → cond b (is_row_1 p) true ≡ true
    by true e = row_1_test p (is.first (eqb-true format 1 e))
    by false e = refl

-- ---- cells of one state

abbrev Is : ℕ → ℕ → Cell → Type 0
Is format state c = (state_of c ≡ state) × IsCell format c

no_kind : (r : StoredRow) → kind_of r ≡ 0 → ⊥
no_kind (Princ p) e = absurd (omega (arith, e))
no_kind (Policy p) e = absurd (omega (arith, e))

free_from : (format : ℕ) (c : Cell) → Is format 0 c → c ≡ None
free_from format None f = refl
free_from format (Some r) f = absurd (no_kind r f.0)

free_field : (format : ℕ) → IsField free_at behind_state (Is format 0)
unfolding behind_state
free_field format = same_field (done_field {A = Cell} None)
    (λ c f. (ap behind_state (sym f), rw f (refl, tt)))
    (λ c f. free_from format c f)

princ_from : (format : ℕ) (c : Cell) → Is format 1 c
    → (p : Principal) × ((IsRow p × (is_row_of format p ≡ true)) × (Some (Princ p) ≡ c))
princ_from format None f = absurd (omega (arith, f.0))
princ_from format (Some (Princ p)) f = (p, ((f.1.row, row_of_test format p f.1), refl))
princ_from format (Some (Policy p)) f = absurd (omega (arith, f.0))

princ_field : (format : ℕ) → IsField (princ_at format) behind_state (Is format 1)
unfolding behind_state row_text
princ_field format =
    made_field (checked_field (is_row_of format) row_field) (λ (p : Principal). let c : Cell = Some (Princ p) in c)
    (λ p f. (refl, (refl, row_of_from format p f.0 f.1)))
    (princ_from format)

policy_from : (format : ℕ) (c : Cell) → Is format 2 c → (p : Rules) × (IsPolicy p × (Some (Policy p) ≡ c))
policy_from format None f = absurd (omega (arith, f.0))
policy_from format (Some (Princ p)) f = absurd (omega (arith, f.0))
policy_from format (Some (Policy p)) f = (p, (f.1, refl))

policy_field : (format : ℕ) → IsField policy_at behind_state (Is format 2)
unfolding behind_state row_text
policy_field format = made_field policy_row_field (λ (p : Rules). let c : Cell = Some (Policy p) in c)
    (λ p f. (refl, (refl, f)))
    (policy_from format)

-- the same, at a number that is known
at_state : {read : Reading Cell} (format state n : ℕ) → nat_eq state n ≡ true → IsField read behind_state (Is format n)
    → IsField read behind_state (Is format state)
at_state format state n e field =
    same_field field (λ c f. (refl, (f.0 ∙ sym (eqb-true _ _ e), f.1))) (λ c f. (f.0 ∙ eqb-true _ _ e, f.1))

other_state : (c : Cell) (state : ℕ) → state_of c ≡ state → nat_eq state 0 ≡ false → nat_eq state 1 ≡ false
    → nat_eq state 2 ≡ false → ⊥
other_state None state e z a b = absurd cc
other_state (Some (Princ p)) state e z a b = absurd cc
other_state (Some (Policy p)) state e z a b = absurd cc

in_state_field : (format state : ℕ) → IsField (in_state format state) behind_state (Is format state)
unfolding in_state
in_state_field format state =
    choice_field (nat_eq state 0) (λ e. at_state format state 0 e (free_field format)) (λ z.
    choice_field (nat_eq state 1) (λ e. at_state format state 1 e (princ_field format)) (λ a.
    choice_field (nat_eq state 2) (λ e. at_state format state 2 e (policy_field format)) (λ b.
    refuse_field (λ c f. other_state c state f.0 z a b))))

-- ---- a cell

small_state : (c : Cell) → state_of c < 256 ^ 1
small_state None = omega arith
small_state (Some (Princ p)) = omega arith
small_state (Some (Policy p)) = omega arith

pub cell_field : (format : ℕ) → IsField (cell_at format) cell_text (IsCell format)
unfolding cell_at cell_text
cell_field format = same_field
    (first_field (big_field 1) state_of (λ state _. in_state_field format state))
    (λ c f. (refl, f.1))
    (λ c f. (small_state c, f))

-- ---- a unit

pub length-cell : (r : StoredRow) → length (cell_text (Some r)) ≡ 3 + length (row_text r)
unfolding cell_text behind_state
length-cell r = omega (
  arith,
  length-append (big 1 (kind_of r)) (counted (row_text r)),
  length-big 1 (kind_of r),
  length-counted (row_text r),
)

-- the format's longest row
abbrev longest : ℕ → ℕ
longest format = cond (nat_eq format 1) longest_row_1 longest_row

longest_row_fits : (format : ℕ) → longest format + 192 ≤ unit_size format
unfolding unit_size
longest_row_fits format = by (nat_eq format 1)
  where
    by : (b : Bool) → cond b longest_row_1 longest_row + 192 ≤ cond b 8192 16384
    by true = omega arith
    by false = omega arith

row_short : (format : ℕ) (r : StoredRow) → IsStored format r → length (row_text r) ≤ longest format
unfolding row_text
row_short format (Princ p) f = by (nat_eq format 1) refl
  where
    by : (b : Bool) → nat_eq format 1 ≡ b → length (princ p) ≤ cond b longest_row_1 longest_row
    by true e = (f.first (eqb-true format 1 e)).short
    by false e = f.row.short
row_short format (Policy p) f = by (nat_eq format 1)
  where
    by : (b : Bool) → length (policy p) ≤ cond b longest_row_1 longest_row
    by true = omega (arith, policy_short p f)
    by false = omega (arith, policy_short p f)

-- a unit has room for each cell of its format
pub cell_short : (format : ℕ) (c : Cell) → IsCell format c → length (cell_text c) ≤ unit_size format
unfolding cell_text behind_state
cell_short format None f = omega (arith, length-append (big 1 0) [], length-big 1 0, longest_row_fits format)
cell_short format (Some r) f = omega (arith, length-cell r, row_short format r f, longest_row_fits format)

pub row_room : (format : ℕ) (r : StoredRow) → IsStored format r → 3 + length (row_text r) ≤ unit_size format
row_room format r f = omega (arith, row_short format r f, longest_row_fits format)

pub unit_field : (format : ℕ) → IsField (unit_at format) (unit_text format) (IsCell format)
unfolding unit_at unit_text
unit_field format = same_field (padded_field (unit_size format) (cell_field format))
    (λ c f. (refl, f.0))
    (λ c f. (f, cell_short format c f))
