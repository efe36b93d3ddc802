-- Whether a row may be placed, by the index.
use Rattle.std.proofs.Common.{◌≡◌, ℕ, zero, suc, Bool, true, false, ◌||◌, List, [], ◌∷◌}
use Rattle.std.proofs.Common.{Option, Some, None, refl, sym, ap, subst, ◌∙◌, arith}
use Rattle.std.specs.Prelude.{not, nat_lt}
use Rattle.std.proofs.lemmas.Bool.{and_from, and_parts, lt-ltb, ltb-true, false_from_ne_true, true≢false}
use Rattle.kdb_base.specs.Limits.{most_rows}
use Rattle.kdb_cells.specs.declared.units.StoredRow.{StoredRow}
use Rattle.kdb_cells.specs.Cells.{Cell, IsCell, IsStored, name_of}
use Rattle.kdb_cells.specs.CellFiles.{CellFile, units, count}
use Rattle.kdb_cells.specs.Changes.{cell_no}
use Rattle.kdb_cells.specs.FileCells.{HasKey, AreCellsOf}
use Rattle.kdb_cells.specs.Keys.{one_kind}
use Rattle.kdb_cells.specs.Leads.{Units}
use Rattle.kdb_cells.specs.Sheets.{clash, clashes, taken}
use Rattle.kdb_cells.proofs.Cellwise.{same_key_name}
use Rattle.store_files.specs.Found.{is_placed}
use Rattle.store_files.proofs.Units.{no_clashes}
use Rattle.store_opening.specs.Redoing.{AreUnits, IsHeld}

pub no_clash_at : (u : Units) (all : List Cell) (r : StoredRow) → AreCellsOf u all → u.of (name_of r) ≡ None
    → (j : ℕ) (c : Cell) → cell_no j all ≡ c → clash (Some r) c ≡ false
no_clash_at u all r are new j None is = refl
no_clash_at u all r are new j (Some s) is = false_from_ne_true _
    (λ same. let both : None ≡ Some j = sym new ∙ ap u.of (same_key_name r s same) ∙ are.found j s is in absurd cc)

or_left : (a b : Bool) → a ≡ true → (a || b) ≡ true
or_left true b e = refl
or_left false b e = absurd (true≢false (sym e))

or_right : (a b : Bool) → b ≡ true → (a || b) ≡ true
or_right true b e = refl
or_right false b e = e

clashes_at : (c : Cell) (all : List Cell) (j : ℕ) → clash c (cell_no j all) ≡ true → clash c None ≡ false
    → clashes c all ≡ true
unfolding clashes cell_no
clashes_at c [] j there free = absurd (true≢false (sym there ∙ free))
clashes_at c (d ∷ all) zero there free = or_left (clash c d) (clashes c all) there
clashes_at c (d ∷ all) (suc j) there free = or_right (clash c d) (clashes c all) (clashes_at c all j there free)

has_clash : (format : ℕ) (r : StoredRow) (c : Cell) → IsStored format r → IsCell format c → HasKey (name_of r) c
    → clash (Some r) c ≡ true
has_clash format r None a b has = absurd has
has_clash format r (Some s) a b has = one_kind format r s a b (sym has)

pub placed_by_index : (format : ℕ) (c : CellFile) (all : List Cell) (unit : Option ℕ) (r : StoredRow)
    → AreUnits format c all → IsHeld unit (name_of r) (units c) (count c) → is_placed unit (Some r) all ≡ true
placed_by_index format c all unit r are held =
    ap (λ (o : Option ℕ). is_placed o (Some r) all) held.given
    ∙ and_from (not (clashes (Some r) all)) (nat_lt (taken all) most_rows)
    (ap not (no_clashes (Some r) all (λ j. no_clash_at (units c) all r are.leads held.new j (cell_no j all) refl)))
    (lt-ltb _ _ (omega (arith, are.many, held.few)))

not_true : (b : Bool) → not b ≡ true → b ≡ false
not_true true e = absurd (true≢false (sym e))
not_true false e = refl

pub held_from : (format : ℕ) (c : CellFile) (all : List Cell) (unit : Option ℕ) (r : StoredRow) → AreUnits format c all
    → IsStored format r → is_placed unit (Some r) all ≡ true → IsHeld unit (name_of r) (units c) (count c)
held_from format c all None r are stored placed = absurd (true≢false (sym placed))
held_from format c all (Some i) r are stored placed =
    let parts = and_parts (not (clashes (Some r) all)) (nat_lt (taken all) most_rows) placed in
    let none = not_true (clashes (Some r) all) parts.0 in
    record {
      place = i;
      given = refl;
      new = by ((units c).of (name_of r)) refl none;
      few = omega (arith, ltb-true _ _ parts.1, are.many);
    }
  where
    by : (o : Option ℕ) → (units c).of (name_of r) ≡ o → clashes (Some r) all ≡ false → (units c).of (name_of r) ≡ None
    by None e none = e
    by (Some j) e none =
        let has = are.leads.leads (name_of r) j e in
        absurd (true≢false
        (sym (clashes_at (Some r) all j (has_clash format r (cell_no j all) stored (are.stored j) has) refl) ∙ none))

pub not_placed : (format : ℕ) (c : CellFile) (all : List Cell) (unit : Option ℕ) (r : StoredRow) → AreUnits format c all
    → IsStored format r → (IsHeld unit (name_of r) (units c) (count c) → ⊥) → is_placed unit (Some r) all ≡ false
not_placed format c all unit r are stored none =
    false_from_ne_true _ (λ placed. none (held_from format c all unit r are stored placed))

-- the same, by the answer of the test
pub placed_is : (format : ℕ) (c : CellFile) (all : List Cell) (unit : Option ℕ) (r : StoredRow) (b : Bool)
    → AreUnits format c all → IsStored format r → (b ≡ true → IsHeld unit (name_of r) (units c) (count c))
    → (b ≡ false → IsHeld unit (name_of r) (units c) (count c) → ⊥)
    → b ≡ is_placed unit (Some r) all
placed_is format c all unit r true are stored yes_ no_ = sym (placed_by_index format c all unit r are (yes_ refl))
placed_is format c all unit r false are stored yes_ no_ = sym (not_placed format c all unit r are stored (no_ refl))

-- the same, of what a change leaves
pub placed_op : (format : ℕ) (c : CellFile) (all : List Cell) (unit : Option ℕ) (left : Cell) (r : StoredRow)
    (key : List ℕ) (b : Bool) → left ≡ Some r → key ≡ name_of r → AreUnits format c all → IsCell format left
    → (b ≡ true → IsHeld unit key (units c) (count c)) → (b ≡ false → IsHeld unit key (units c) (count c) → ⊥)
    → b ≡ is_placed unit left all
placed_op format c all unit left r key b is named are stored yes_ no_ =
    placed_is format c all unit r b are (subst (IsCell format) is stored)
    (λ e. subst (λ (k : List ℕ). IsHeld unit k (units c) (count c)) named (yes_ e))
    (λ e held. no_ e (subst (λ (k : List ℕ). IsHeld unit k (units c) (count c)) (sym named) held))
    ∙ ap (λ (l : Cell). is_placed unit l all) (sym is)
