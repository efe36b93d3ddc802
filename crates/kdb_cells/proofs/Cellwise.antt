-- What a put and a taking out leave of the tie between an index and its file.
use Rattle.std.proofs.Common.{◌≡◌, ◌≢◌, ℕ, ◌+◌, ◌*◌, ◌<◌, ◌≤◌, ◌⊎◌, inl, inr, ⊎_elim, Bool, true, false}
use Rattle.std.proofs.Common.{cond, List, length, Option, Some, None, refl, sym, ◌∙◌, ap, subst, arith}
use Rattle.std.specs.Prelude.{nat_eq}
use Rattle.std.specs.Str.{bytes_eq}
use Rattle.std.proofs.lemmas.Bool.{cases_eq, cond-true, cond-false, false_from_ne_true, eqb-false, le-ltb}
use Rattle.std.proofs.lemmas.Option.{same_Some}
use Rattle.kdb_base.specs.Limits.{most_rows}
use Rattle.kdb_disk.specs.Files.{put}
use Rattle.princ_rows.specs.EntryLaws.{same_bytes, bytes_same}
use Rattle.kdb_cells.specs.declared.units.StoredRow.{StoredRow}
use Rattle.kdb_cells.specs.declared.units.StoredRow.TheVariants.{Princ, Policy}
use Rattle.kdb_cells.specs.Cells.{Cell, unit_size, unit_text, IsStored, name_of}
use Rattle.kdb_cells.specs.Sheets.{count_of, same_key, clash, taken_by, taken}
use Rattle.kdb_cells.specs.Sheets.{last_unit, Sheet, sheet_in, set_cell, put_cell}
use Rattle.kdb_cells.specs.Changes.{cell_no}
use Rattle.kdb_cells.specs.Leads.{Units, IsFree, unless, freed, leading}
use Rattle.kdb_cells.specs.CellFiles.{CellFile, units, count}
use Rattle.kdb_cells.specs.FileCells.{HasKey, AreCellsOf, IsFileOf, MayStand, with_cell}
use Rattle.kdb_cells.proofs.Entries.{unless_other}
use Rattle.kdb_cells.proofs.UnitPuts.{some_unit, div_most}
use Rattle.kdb_cells.proofs.Sheeting.{set_here, set_other, length-set, taken_set, IsSheet, read_sheet, put_sheet}

-- ---- keys

-- where one key has another's bytes, they are one
key_of_same : (a b : List ℕ) (unit : ℕ) (o : Option ℕ) → a ≡ b → cond (bytes_eq a b) (Some unit) o ≡ Some unit
key_of_same a b unit o same = cond-true (bytes_eq a b) (Some unit) o (bytes_same a b same)

unless_some : (unit : ℕ) (o : Option ℕ) (i : ℕ) → unless unit o ≡ Some i → (o ≡ Some i) × (i ≢ unit)
unless_some unit None i is = absurd cc
unless_some unit (Some j) i is = by (nat_eq j unit) refl is
  where
    by : (b : Bool) → nat_eq j unit ≡ b → cond b None (Some j) ≡ Some i → (Some j ≡ Some i) × (i ≢ unit)
    by true e same = absurd cc
    by false e same = (same, λ at. eqb-false j unit e (same_Some j i same ∙ at))

unless_kept : (unit i : ℕ) (o : Option ℕ) → o ≡ Some i → i ≢ unit → unless unit o ≡ Some i
unless_kept unit i o is other = sym (unless_other unit o (λ at. other (same_Some i unit (sym is ∙ at)))) ∙ is

pub same_key_name : (r s : StoredRow) → same_key r s ≡ true → name_of r ≡ name_of s
same_key_name (Princ p) (Princ q) e = same_bytes p.name q.name e
same_key_name (Princ p) (Policy q) e = absurd cc
same_key_name (Policy p) (Princ q) e = absurd cc
same_key_name (Policy p) (Policy q) e = same_bytes p.name q.name e

-- ---- a key leads to a unit

at_unit : (u : Units) (cells : List Cell) (unit : ℕ) (r : StoredRow) → unit ≤ length cells → (key : List ℕ) (i : ℕ)
    → unit ≡ i → name_of r ≡ key → HasKey key (cell_no i (set_cell unit (Some r) cells))
at_unit u cells unit r within key i same named =
    subst (λ (j : ℕ). HasKey key (cell_no j (set_cell unit (Some r) cells))) same
    (subst (HasKey key) (sym (set_here unit (Some r) cells within)) named)

led_key : (key name : List ℕ) (unit i : ℕ) (o : Option ℕ) (b : Bool) → bytes_eq name key ≡ b
    → cond b (Some unit) (unless unit o) ≡ Some i → ((name ≡ key) × (unit ≡ i)) ⊎ ((o ≡ Some i) × (i ≢ unit))
led_key key name unit i o true e is = inl (same_bytes name key e, same_Some unit i is)
led_key key name unit i o false e is = inr (unless_some unit o i is)

pub lead_cells : (u : Units) (cells : List Cell) (unit : ℕ) (r : StoredRow)
    → AreCellsOf u cells → unit ≤ length cells → ((i : ℕ) → u.of (name_of r) ≡ Some i → i ≡ unit)
    → AreCellsOf (leading (name_of r) unit u) (set_cell unit (Some r) cells)
unfolding leading
lead_cells u cells unit r are within alone =
    let name = name_of r in
    let after = set_cell unit (Some r) cells in
    record {
      leads = λ key i is. ⊎_elim
          (λ here. at_unit u cells unit r within key i here.1 here.0)
          (λ other. subst (HasKey key) (sym (set_other unit i (Some r) cells within other.1)) (are.leads key i other.0))
          (led_key key name unit i (u.of key) (bytes_eq name key) refl is);
      found = λ i s is. ⊎_elim
          (λ same.
          let row : r ≡ s =
          same_Some r s (sym (set_here unit (Some r) cells within) ∙ sym (ap (λ (j : ℕ). cell_no j after) same) ∙ is) in
          key_of_same name (name_of s) unit (unless unit (u.of (name_of s))) (ap name_of row) ∙ ap Some (sym same))
          (λ other.
          let there : u.of (name_of s) ≡ Some i =
          are.found i s (sym (set_other unit i (Some r) cells within other) ∙ is) in
          cond-false (bytes_eq name (name_of s)) (Some unit) (unless unit (u.of (name_of s)))
          (false_from_ne_true _ (λ same. other (alone i (ap u.of (same_bytes name (name_of s) same) ∙ there))))
          ∙ unless_kept unit i (u.of (name_of s)) there other)
          (cases_eq i unit);
      next = omega (arith, are.next, length-set unit (Some r) cells within);
    }

-- no key leads to a unit
pub free_cells : (u : Units) (cells : List Cell) (unit : ℕ) → AreCellsOf u cells → unit ≤ length cells
    → AreCellsOf (freed unit u) (set_cell unit None cells)
unfolding freed
free_cells u cells unit are within = record {
  leads = λ key i is.
      let there = unless_some unit (u.of key) i is in
      subst (HasKey key) (sym (set_other unit i None cells within there.1)) (are.leads key i there.0);
  found = λ i s is. ⊎_elim
      (λ same.
      let none : None ≡ Some s =
      sym (set_here unit None cells within) ∙ sym (ap (λ (j : ℕ). cell_no j (set_cell unit None cells)) same) ∙ is in
      absurd cc)
      (λ other. unless_kept unit i (u.of (name_of s))
      (are.found i s (sym (set_other unit i None cells within other) ∙ is)) other)
      (cases_eq i unit);
  next = omega (arith, are.next, length-set unit None cells within);
}

-- ---- the file

no_key : (key : List ℕ) (c : Cell) → c ≡ None → HasKey key c → ⊥
no_key key c is has = subst (HasKey key) is has

-- a free cell is one to which no key leads
pub cell_free : (u : Units) (cells : List Cell) (unit : ℕ) → AreCellsOf u cells → cell_no unit cells ≡ None
    → IsFree unit u
cell_free u cells unit are none key is = no_key key (cell_no unit cells) none (are.leads key unit is)

-- a row that no other unit has
apart : (u : Units) (cells : List Cell) (unit : ℕ) (r : StoredRow) → AreCellsOf u cells
    → ((i : ℕ) → u.of (name_of r) ≡ Some i → i ≡ unit) → (j : ℕ) → j ≢ unit → (c : Cell) → cell_no j cells ≡ c
    → clash (Some r) c ≡ false
apart u cells unit r are alone j other None is = refl
apart u cells unit r are alone j other (Some s) is =
    false_from_ne_true _ (λ same. other (alone j (ap u.of (same_key_name r s same) ∙ are.found j s is)))

-- how many rows there are, by whether the unit had one
pub record Counts (unit : ℕ) (u : Units) (old new more : ℕ) : Type 0 where
  pub free : IsFree unit u → new ≡ old + more
  pub led : (k : List ℕ) → u.of k ≡ Some unit → new + 1 ≡ old + more

count_after : (u : Units) (cells : List Cell) (unit old new : ℕ) (x : Cell) (c : Cell) → cell_no unit cells ≡ c
    → AreCellsOf u cells → unit ≤ length cells → old ≡ taken cells → Counts unit u old new (taken_by x)
    → new ≡ taken (set_cell unit x cells)
count_after u cells unit old new x None is are within same counts =
    omega (arith, taken_set unit x cells within, ap taken_by is, same, counts.free (cell_free u cells unit are is))
count_after u cells unit old new x (Some s) is are within same counts =
    omega (arith, taken_set unit x cells within, ap taken_by is, same, counts.led (name_of s) (are.found unit s is))

few_after : (u : Units) (cells : List Cell) (unit n : ℕ) (c : Cell) → cell_no unit cells ≡ c
    → AreCellsOf u cells → n ≡ taken cells → taken cells ≤ most_rows → (IsFree unit u → n < most_rows)
    → taken cells + 1 ≤ most_rows + taken_by (cell_no unit cells)
few_after u cells unit n None is are same few room =
    omega (arith, room (cell_free u cells unit are is), same, ap taken_by is)
few_after u cells unit n (Some s) is are same few room = omega (arith, few, ap taken_by is)

-- a unit that begins within the file is one of its cells, or comes next
pub unit_within : (format unit : ℕ) (file : List ℕ) (cells : List Cell)
    → IsSheet format file (count_of format file) cells → unit * unit_size format ≤ length file → unit ≤ length cells
unfolding count_of
unit_within format unit file cells is within =
    omega (arith, div_most (length file) (unit_size format) unit (some_unit format) within, is.long)

-- What is known of a change of one unit, before it and after it.
pub record Changes (old new : CellFile) (unit : ℕ) (x : Cell) (before after : List ℕ) : Type 0 where
  pub format : new.format ≡ old.format
  pub from : 1 ≤ unit
  pub near : unit ≤ last_unit
  pub within : unit * unit_size old.format ≤ length before
  pub counts : Counts unit (units old) (count old) (count new) (taken_by x)
  pub file : after ≡ put (unit * unit_size old.format) (unit_text old.format x) before

pub put_keeps : (old new : CellFile) (unit : ℕ) (r : StoredRow) (before after : List ℕ) (sheet : Sheet)
    → Changes old new unit (Some r) before after → units new ≡ leading (name_of r) unit (units old)
    → IsStored old.format r
    → ((i : ℕ) → (units old).of (name_of r) ≡ Some i → i ≡ unit) → (IsFree unit (units old) → count old < most_rows)
    → IsFileOf old sheet before → IsFileOf new (with_cell unit (Some r) sheet) after
unfolding put_cell
put_keeps old new unit r before after sheet change led stored alone room tie =
    let cells = sheet.cells in
    let is = read_sheet old.format before sheet tie.read in
    let within = unit_within old.format unit before cells is change.within in
    let may : MayStand old.format unit (Some r) cells = record {
      from = change.from;
      within = within;
      fits = stored;
      near = le-ltb _ _ change.near;
      alone = λ j other. apart (units old) cells unit r tie.cells alone j other (cell_no j cells) refl;
      few = few_after (units old) cells unit (count old) (cell_no unit cells) refl tie.cells tie.count is.few room;
    } in
    record {
      read = ap (λ (f : ℕ). sheet_in f after) change.format ∙ ap (sheet_in old.format) change.file
          ∙ put_sheet old.format unit (Some r) before sheet tie.read may;
      cells = subst (λ (u : Units). AreCellsOf u (set_cell unit (Some r) cells)) (sym led)
          (lead_cells (units old) cells unit r tie.cells within alone);
      count = count_after (units old) cells unit (count old) (count new) (Some r)
          (cell_no unit cells) refl tie.cells within tie.count change.counts;
    }

pub take_out_keeps : (old new : CellFile) (unit : ℕ) (before after : List ℕ) (sheet : Sheet)
    → Changes old new unit None before after → units new ≡ freed unit (units old) → IsFileOf old sheet before
    → IsFileOf new (with_cell unit None sheet) after
unfolding put_cell
take_out_keeps old new unit before after sheet change free tie =
    let cells = sheet.cells in
    let is = read_sheet old.format before sheet tie.read in
    let within = unit_within old.format unit before cells is change.within in
    let may : MayStand old.format unit None cells = record {
      from = change.from;
      within = within;
      fits = tt;
      near = refl;
      alone = λ j other. refl;
      few = omega (arith, is.few);
    } in
    record {
      read = ap (λ (f : ℕ). sheet_in f after) change.format ∙ ap (sheet_in old.format) change.file
          ∙ put_sheet old.format unit None before sheet tie.read may;
      cells = subst (λ (u : Units). AreCellsOf u (set_cell unit None cells)) (sym free)
          (free_cells (units old) cells unit tie.cells within);
      count = count_after (units old) cells unit (count old) (count new) None
          (cell_no unit cells) refl tie.cells within tie.count change.counts;
    }
