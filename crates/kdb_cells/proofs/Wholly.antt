-- A whole file of cells that was read.
use Rattle.std.proofs.Common.{◌≡◌, ℕ, ◌+◌, ◌*◌, ◌<◌, ◌≤◌, ⊎_elim, max, eqb, ltb, List, length, take}
use Rattle.std.proofs.Common.{drop, Option, Some, None, refl, sym, ◌∙◌, ap, subst, arith, length-take}
use Rattle.std.proofs.lemmas.Bool.{cases_eq, cases_lt, cond-true, cond-false, eq-eqb, ne_eqb, lt-ltb}
use Rattle.policy_rules.specs.Rules.{Rules}
use Rattle.princ_record.specs.declared.princs.Princ.{Princ as Principal}
use Rattle.kdb_base.specs.declared.outcomes.Refusal.{Refusal}
use Rattle.kdb_base.specs.declared.outcomes.Refusal.TheVariants.{Damaged}
use Rattle.kdb_cells.specs.Cells.{unit_size}
use Rattle.kdb_cells.specs.CellFiles.{CellFile, units, count}
use Rattle.kdb_cells.specs.Scanning.{heading_of, skipping, placed_at, end_of, MaySkip}
use Rattle.kdb_cells.specs.Scanning.{IsDamaged, AreGathered, AreScanned, IsScanned}
use Rattle.kdb_cells.specs.Sheets.{unit_bytes, realm_in, count_of}
use Rattle.kdb_cells.proofs.Gathered.{gathered_sheet}
use Rattle.kdb_cells.proofs.Headed.{short_heading, realm_heading}
use Rattle.kdb_cells.proofs.Sheeting.{IsSheet, sheet_read, sheet_unnamed, skip_count, skip_realm}
use Rattle.kdb_cells.proofs.UnitPuts.{some_unit, div_most}

-- a file that names a realm has its first unit
pub named_count : (format : ℕ) (file realm : List ℕ) → heading_of format (take (unit_size format) file) ≡ Some realm
    → 1 ≤ count_of format file
unfolding count_of
named_count format file realm named = ⊎_elim
    (λ short. let none : None ≡ Some realm = sym (short_heading format (take (unit_size format) file)
    (omega (arith, length-take (unit_size format) file, short))) ∙ named in absurd cc)
    (λ whole. div_most (length file) (unit_size format) 1 (some_unit format) (omega (arith, whole)))
    (cases_lt (length file) (unit_size format))

skip_within : (format i : ℕ) (file : List ℕ) → i * unit_size format ≤ length file → i ≤ count_of format file
unfolding count_of
skip_within format i file within = div_most (length file) (unit_size format) i (some_unit format) within

-- how many units there are
pub scan_end : (format : ℕ) (torn : Option ℕ) (file : List ℕ) → MaySkip format torn file → 1 ≤ count_of format file
    → count_of format (skipping format torn file) ≡ max 1 (end_of torn (count_of format file))
scan_end format None file may some = omega (arith, some)
scan_end format (Some i) file may some =
    let fits = may i refl in
    let within = skip_within format i file fits.1 in
    let n = count_of format file in
    ⊎_elim
    (λ same.
    omega (arith, skip_count format i file fits.1, cond-true (eqb i n) (n + 1) n (eq-eqb _ _ same), same, some))
    (λ other. omega
    (arith, skip_count format i file fits.1, cond-false (eqb i n) (n + 1) n (ne_eqb _ _ other), other, within, some))
    (cases_eq i n)

-- the unit that was passed over is given
pub end_placed : (format : ℕ) (torn : Option ℕ) (file : List ℕ) → MaySkip format torn file → 1 ≤ count_of format file
    → placed_at torn (max 1 (end_of torn (count_of format file))) ≡ torn
end_placed format None file may some = refl
end_placed format (Some i) file may some =
    let fits = may i refl in
    let within = skip_within format i file fits.1 in
    let n = count_of format file in
    let end = max 1 (end_of (Some i) n) in
    let under : i < end = ⊎_elim
    (λ same. omega (arith, cond-true (eqb i n) (n + 1) n (eq-eqb _ _ same), same))
    (λ other. omega (arith, cond-false (eqb i n) (n + 1) n (ne_eqb _ _ other), other, within))
    (cases_eq i n) in
    cond-true (ltb i end) (Some i) None (lt-ltb _ _ under)

-- the realm is that of the file, whichever unit is passed over
pub named_skipping : (format : ℕ) (torn : Option ℕ) (file : List ℕ) → MaySkip format torn file
    → realm_in format (skipping format torn file) ≡ realm_in format file
named_skipping format None file may = refl
named_skipping format (Some i) file may = let fits = may i refl in skip_realm format i file fits.1 fits.0

first_bytes : (format : ℕ) (file : List ℕ) → unit_bytes format 0 file ≡ take (unit_size format) file
first_bytes format file = let none : 0 * unit_size format ≡ 0 =
    omega arith in ap (λ (n : ℕ). take (unit_size format) (drop n file)) none

pub realm_first : (format : ℕ) (file : List ℕ) → realm_in format file ≡ heading_of format (take (unit_size format) file)
realm_first format file = realm_heading format file ∙ ap (heading_of format) (first_bytes format file)

-- where the first unit names none, the file is damaged at its begin
pub unnamed_damaged : (number format : ℕ) (torn : Option ℕ) (file : List ℕ) (r : Refusal)
    → MaySkip format torn file → heading_of format (take (unit_size format) file) ≡ None → r ≡ Damaged number 0
    → IsDamaged number format torn file r
unnamed_damaged number format torn file r may none same = (
  0,
  (
    same,
    sheet_unnamed format (skipping format torn file)
        (named_skipping format torn file may ∙ realm_first format file ∙ none),
  ),
)

pub wholly : (c : CellFile) (torn : Option ℕ) (told : Type 0) (file realm : List ℕ)
    (princs : List Principal) (policies : List Rules) (end : ℕ) → told → MaySkip c.format torn file
    → heading_of c.format (take (unit_size c.format) file) ≡ Some realm
    → end ≡ max 1 (end_of torn (count_of c.format file))
    → AreGathered c.format torn told file (units c) (count c) princs policies end → c.index.placed ≡ placed_at torn end
    → IsScanned c realm princs policies torn file
wholly c torn told file realm princs policies end tells may named is all placed =
    let format = c.format in
    let some = named_count format file realm named in
    let whole : length all.cells ≡ count_of format (skipping format torn file) =
    all.long ∙ is ∙ sym (scan_end format torn file may some) in
    let sheet = subst (λ (n : ℕ). IsSheet format (skipping format torn file) n all.cells) whole (gathered_sheet format
    (skipping format torn file) (units c) (count c) princs policies all.cells all.gathered (all.read tells)) in
    record {
      sheet = record { realm = realm; cells = all.cells };
      tie = record {
        read = sheet_read format (skipping format torn file) (record { realm = realm; cells = all.cells }) sheet
            (named_skipping format torn file may ∙ realm_first format file ∙ named);
        cells = all.gathered.cells_are;
        count = all.gathered.count_is;
      };
      realm_is = refl;
      princs_are = all.gathered.princs_are;
      policies_are = all.gathered.policies_are;
      placed = placed ∙ ap (placed_at torn) is ∙ end_placed format torn file may some;
    }

-- the same, whatever the disk tells
pub scanned_all : (c : CellFile) (torn : Option ℕ) (told : Type 0) (file realm : List ℕ) (princs : List Principal)
    (policies : List Rules) (end : ℕ) → AreGathered c.format torn told file (units c) (count c) princs policies end
    → (told → MaySkip c.format torn file × ((heading_of c.format (take (unit_size c.format) file) ≡ Some realm)
    × ((end ≡ max 1 (end_of torn (count_of c.format file))) × (c.index.placed ≡ placed_at torn end))))
    → AreScanned told c realm princs policies torn file
unfolding wholly
scanned_all c torn told file realm princs policies end all known = record {
  cells = all.cells;
  gathered = all.gathered;
  read = λ tells. let k =
      known tells in (wholly c torn told file realm princs policies end tells k.0 k.1.0 k.1.1.0 all k.1.1.1).tie.read;
  placed = λ tells. let k =
      known tells in (wholly c torn told file realm princs policies end tells k.0 k.1.0 k.1.1.0 all k.1.1.1).placed;
}
