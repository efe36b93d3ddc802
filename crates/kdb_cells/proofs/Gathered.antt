-- What is gathered of the units of a file, unit by unit.
use Rattle.std.proofs.Common.{◌≡◌, ◌≢◌, ℕ, zero, suc, ◌+◌, ◌*◌, ◌<◌, ◌≤◌, ◌⊎◌, inl, inr, ⊎_elim, Bool}
use Rattle.std.proofs.Common.{true, false, ◌||◌, cond, ltb, eqb, List, [], ◌∷◌, ◌++◌, length, take}
use Rattle.std.proofs.Common.{drop, Option, Some, None, refl, sym, ◌∙◌, ap, subst, arith, append_assoc}
use Rattle.std.specs.Prelude.{Result, Ok, Err, OnOk}
use Rattle.kdb_format.specs.Readings.{padded, bytes_at}
use Rattle.std.specs.Str.{bytes_eq}
use Rattle.std.proofs.lemmas.Bool.{cases_eq, cases_lt, cond-true, cond-false, false_from_ne_true}
use Rattle.std.proofs.lemmas.Bool.{true≢false, lt-ltb, le-ltb, eqb-false, ne_eqb, eq-eqb}
use Rattle.std.proofs.lemmas.List.{append-nil, drop-drop}
use Rattle.std.proofs.lemmas.Option.{same_Some}
use Rattle.kdb_base.specs.Limits.{most_rows}
use Rattle.kdb_base.specs.declared.outcomes.Refusal.{Refusal}
use Rattle.kdb_base.specs.declared.outcomes.Refusal.TheVariants.{Damaged}
use Rattle.kdb_base.specs.declared.outcomes.Stop.{Stop}
use Rattle.kdb_base.specs.declared.outcomes.Stop.TheVariants.{Refused, Halt}
use Rattle.policy_rules.specs.Rules.{Rules}
use Rattle.princ_record.specs.declared.princs.Princ.{Princ as Principal}
use Rattle.princ_rows.specs.EntryLaws.{same_bytes, bytes_same}
use Rattle.kdb_cells.specs.declared.units.StoredRow.{StoredRow}
use Rattle.kdb_cells.specs.Cells.{Cell, unit_size, unit_at, cell_of, IsCell, IsStored, name_of}
use Rattle.kdb_cells.specs.Changes.{cell_no}
use Rattle.kdb_cells.specs.FileCells.{HasKey, AreCellsOf}
use Rattle.kdb_cells.specs.Keys.{one_kind}
use Rattle.kdb_cells.specs.Leads.{Units, more_led, no_units}
use Rattle.kdb_cells.specs.Scanning.{princ_in, policy_in, princs_of, policies_of, is_torn}
use Rattle.kdb_cells.specs.Scanning.{placed_at, cell_next, skipping, MaySkip, AreCellsIn, IsDamaged}
use Rattle.kdb_cells.specs.Scanning.{UnitAnswers, IsMore, AreGathered, IsGathered, IsRefused}
use Rattle.kdb_cells.specs.Sheets.{unit_bytes, realm_in, count_of, cell_in, cell_or_free, clash}
use Rattle.kdb_cells.specs.Sheets.{clashes, taken_by, taken, last_unit, is_too_far, is_fault, set_cell}
use Rattle.kdb_cells.proofs.Cellwise.{same_key_name}
use Rattle.kdb_cells.proofs.Sheeting.{before, skip_here, skip_other, sheet_fault, no_cell_past, set_here}
use Rattle.kdb_cells.proofs.Sheeting.{set_other, length-set, taken_set, IsSheet, taken_to, clash_none}

-- ---- one cell more

-- the cells with one more behind them
abbrev pub with_more : Cell → List Cell → List Cell
with_more c cells = set_cell (length cells) c cells

last_here : (c : Cell) (cells : List Cell) → cell_no (length cells) (with_more c cells) ≡ c
last_here c cells = set_here (length cells) c cells (omega arith)

others_here : (c : Cell) (cells : List Cell) (i : ℕ) → i ≢ length cells
    → cell_no i (with_more c cells) ≡ cell_no i cells
others_here c cells i other = set_other (length cells) i c cells (omega arith) other

pub length-more : (c : Cell) (cells : List Cell) → length (with_more c cells) ≡ length cells + 1
length-more c cells = omega (arith, length-set (length cells) c cells (omega arith))

pub taken-more : (c : Cell) (cells : List Cell) → taken (with_more c cells) ≡ taken cells + taken_by c
taken-more c cells = omega (
  arith,
  taken_set (length cells) c cells (omega arith),
  ap taken_by (no_cell_past cells (length cells) (omega arith)),
)

has_within : (key : List ℕ) (cells : List Cell) (i : ℕ) → HasKey key (cell_no i cells) → i ≢ length cells
has_within key cells i has same = subst (HasKey key) (no_cell_past cells i (omega (arith, same))) has

grow_free : (u v : Units) (cells : List Cell) → v.of ≡ u.of → v.next ≡ u.next + 1 → AreCellsOf u cells
    → AreCellsOf v (with_more None cells)
grow_free u v cells of next are = record {
  leads = λ key i is.
      let has = are.leads key i (sym (ap (λ (f : List ℕ → Option ℕ). f key) of) ∙ is) in
      subst (HasKey key) (sym (others_here None cells i (has_within key cells i has))) has;
  found = λ i r is. ⊎_elim
      (λ same. let none : None ≡ Some r =
      sym (last_here None cells) ∙ sym (ap (λ (j : ℕ). cell_no j (with_more None cells)) same) ∙ is in absurd cc)
      (λ other. ap (λ (f : List ℕ → Option ℕ). f (name_of r)) of
      ∙ are.found i r (sym (others_here None cells i other) ∙ is))
      (cases_eq i (length cells));
  next = omega (arith, next, are.next, length-more None cells);
}

led_more : (key name : List ℕ) (next i : ℕ) (o : Option ℕ) (b : Bool) → bytes_eq name key ≡ b
    → cond b (Some next) o ≡ Some i → ((name ≡ key) × (next ≡ i)) ⊎ (o ≡ Some i)
led_more key name next i o true e is = inl (same_bytes name key e, same_Some next i is)
led_more key name next i o false e is = inr is

has_last : (r : StoredRow) (cells : List Cell) (key : List ℕ) (i : ℕ) → name_of r ≡ key → length cells ≡ i
    → HasKey key (cell_no i (with_more (Some r) cells))
has_last r cells key i named same = subst (λ (j : ℕ). HasKey key (cell_no j (with_more (Some r) cells))) same
    (subst (HasKey key) (sym (last_here (Some r) cells)) named)

grow_led : (u : Units) (cells : List Cell) (r : StoredRow) → u.of (name_of r) ≡ None → AreCellsOf u cells
    → AreCellsOf (more_led (name_of r) u) (with_more (Some r) cells)
unfolding more_led
grow_led u cells r new are = record {
  leads = λ key i is. ⊎_elim
      (λ here. has_last r cells key i here.0 (omega (arith, here.1, are.next)))
      (λ there. let has =
      are.leads key i there in subst (HasKey key) (sym (others_here (Some r) cells i (has_within key cells i has))) has)
      (led_more key (name_of r) u.next i (u.of key) (bytes_eq (name_of r) key) refl is);
  found = λ i s is. ⊎_elim
      (λ same.
      let row : r ≡ s = same_Some r s
      (sym (last_here (Some r) cells) ∙ sym (ap (λ (j : ℕ). cell_no j (with_more (Some r) cells)) same) ∙ is) in
      let here : u.next ≡ i = omega (arith, are.next, same) in
      cond-true (bytes_eq (name_of r) (name_of s)) (Some u.next) (u.of (name_of s))
      (bytes_same (name_of r) (name_of s) (ap name_of row)) ∙ ap Some here)
      (λ other.
      let there = are.found i s (sym (others_here (Some r) cells i other) ∙ is) in
      cond-false (bytes_eq (name_of r) (name_of s)) (Some u.next) (u.of (name_of s))
      (false_from_ne_true _
      (λ e. let both : None ≡ Some i = sym new ∙ ap u.of (same_bytes (name_of r) (name_of s) e) ∙ there in absurd cc))
      ∙ there)
      (cases_eq i (length cells));
  next = omega (arith, are.next, length-more (Some r) cells);
}

-- ---- the rows

pub princs-more : (c : Cell) (cells : List Cell) → princs_of (with_more c cells) ≡ princs_of cells ++ princ_in c
unfolding princs_of set_cell
princs-more c [] = append-nil (princ_in c)
princs-more c (d ∷ cells) = ap (λ (ps : List Principal). princ_in d ++ ps) (princs-more c cells)
    ∙ sym (append_assoc (princ_in d) (princs_of cells) (princ_in c))

pub policies-more : (c : Cell) (cells : List Cell) → policies_of (with_more c cells) ≡ policies_of cells ++ policy_in c
unfolding policies_of set_cell
policies-more c [] = append-nil (policy_in c)
policies-more c (d ∷ cells) = ap (λ (ps : List Rules). policy_in d ++ ps) (policies-more c cells)
    ∙ sym (append_assoc (policy_in d) (policies_of cells) (policy_in c))

-- ---- what was gathered

stored_more : (format : ℕ) (c : Cell) (cells : List Cell) → IsCell format c
    → ((i : ℕ) → IsCell format (cell_no i cells)) → (i : ℕ) → IsCell format (cell_no i (with_more c cells))
stored_more format c cells here stored i = ⊎_elim
    (λ same. subst (IsCell format) (sym (ap (λ (j : ℕ). cell_no j (with_more c cells)) same ∙ last_here c cells)) here)
    (λ other. subst (IsCell format) (sym (others_here c cells i other)) (stored i))
    (cases_eq i (length cells))

-- a unit that was given stays free
given_more : (c : Cell) (cells : List Cell) (i : ℕ) → (i < length cells) × (cell_no i cells ≡ None)
    → (i < length (with_more c cells)) × (cell_no i (with_more c cells) ≡ None)
given_more c cells i there = (
  omega (arith, there.0, length-more c cells),
  others_here c cells i (λ e. absurd (omega (arith, there.0, e))) ∙ there.1,
)

given_last : (cells : List Cell) (i : ℕ) → i ≡ length cells
    → (i < length (with_more None cells)) × (cell_no i (with_more None cells) ≡ None)
given_last cells i same = (
  omega (arith, same, length-more None cells),
  ap (λ (j : ℕ). cell_no j (with_more None cells)) same ∙ last_here None cells,
)

-- the unit that is given is one that was given before, or the one that was read
pub given_either : (torn : Option ℕ) (unit i : ℕ) (before after : Option ℕ) → before ≡ placed_at torn unit
    → after ≡ placed_at torn (unit + 1) → after ≡ Some i → (before ≡ Some i) ⊎ (i ≡ unit)
given_either None unit i before after old new is = let none : None ≡ Some i = sym new ∙ is in absurd cc
given_either (Some j) unit i before after old new is = ⊎_elim
    (λ lt. inl (old ∙ cond-true (ltb j unit) (Some j) None (lt-ltb _ _ lt)
    ∙ sym (cond-true (ltb j (unit + 1)) (Some j) None (lt-ltb _ _ (omega (arith, lt)))) ∙ sym new ∙ is))
    (λ ge. ⊎_elim
    (λ more. let same : Some j ≡ Some i = sym (cond-true (ltb j (unit + 1)) (Some j) None (lt-ltb _ _ more)) ∙ sym new
    ∙ is in inr (omega (arith, same_Some j i same, ge, more)))
    (λ past. let none : None ≡ Some i =
    sym (cond-false (ltb j (unit + 1)) (Some j) None (le-ltb _ _ past)) ∙ sym new ∙ is in absurd cc)
    (cases_lt j (unit + 1)))
    (cases_lt j unit)

-- with a unit more to which no key leads, which may be the one that is given
pub gathered_free : (format : ℕ) (u v : Units) (n m : ℕ)
    (princs : List Principal) (policies : List Rules) (cells : List Cell) → v.of ≡ u.of → v.next ≡ u.next + 1 → m ≡ n
    → ((i : ℕ) → v.placed ≡ Some i → (u.placed ≡ Some i) ⊎ (i ≡ u.next))
    → IsGathered format u n princs policies cells → IsGathered format v m princs policies (with_more None cells)
gathered_free format u v n m princs policies cells of next same placed is = record {
  cells_are = grow_free u v cells of next is.cells_are;
  count_is = omega (arith, same, is.count_is, taken-more None cells);
  few = omega (arith, same, is.few);
  stored = stored_more format None cells tt is.stored;
  near = λ i r there. ⊎_elim
      (λ here. let none : None ≡ Some r =
      sym (last_here None cells) ∙ sym (ap (λ (j : ℕ). cell_no j (with_more None cells)) here) ∙ there in absurd cc)
      (λ other. is.near i r (sym (others_here None cells i other) ∙ there))
      (cases_eq i (length cells));
  princs_are = is.princs_are ∙ sym (princs-more None cells ∙ append-nil (princs_of cells));
  policies_are = is.policies_are ∙ sym (policies-more None cells ∙ append-nil (policies_of cells));
  given = λ i there. ⊎_elim (λ before. given_more None cells i (is.given i before))
      (λ last. given_last cells i (last ∙ is.cells_are.next)) (placed i there);
}

pub led_placed : (u v : Units) (key : List ℕ) → v ≡ more_led key u → v.placed ≡ u.placed
unfolding more_led
led_placed u v key is = ap (λ (w : Units). w.placed) is

-- with a unit more that has a row
pub gathered_row : (format : ℕ) (u : Units) (n m : ℕ) (princs newer : List Principal) (policies later : List Rules)
    (r : StoredRow) (cells : List Cell) → u.next ≤ last_unit → u.of (name_of r) ≡ None → n < most_rows → m ≡ n + 1
    → IsStored format r
    → newer ≡ princs ++ princ_in (Some r)
    → later ≡ policies ++ policy_in (Some r) → IsGathered format u n princs policies cells
    → IsGathered format (more_led (name_of r) u) m newer later (with_more (Some r) cells)
gathered_row format u n m princs newer policies later r cells far new room same stored ps qs is = record {
  cells_are = grow_led u cells r new is.cells_are;
  count_is = omega (arith, same, is.count_is, taken-more (Some r) cells);
  few = omega (arith, same, room);
  stored = stored_more format (Some r) cells stored is.stored;
  near = λ i s there. ⊎_elim
      (λ here. omega (arith, here, is.cells_are.next, far))
      (λ other. is.near i s (sym (others_here (Some r) cells i other) ∙ there))
      (cases_eq i (length cells));
  princs_are =
      ps ∙ ap (λ (l : List Principal). l ++ princ_in (Some r)) is.princs_are ∙ sym (princs-more (Some r) cells);
  policies_are =
      qs ∙ ap (λ (l : List Rules). l ++ policy_in (Some r)) is.policies_are ∙ sym (policies-more (Some r) cells);
  given = λ i there.
      given_more (Some r) cells i (is.given i (sym (led_placed u (more_led (name_of r) u) (name_of r) refl) ∙ there));
}

-- the first unit alone
pub gathered_first : (format n : ℕ) (princs : List Principal) (policies : List Rules) → n ≡ 0 → princs ≡ []
    → policies ≡ [] → IsGathered format no_units n princs policies (None ∷ [])
unfolding princs_of policies_of taken cell_no
gathered_first format n princs policies same ps qs = record {
  cells_are = record { leads = λ key i is. absurd cc; found = λ i r is. none_first i r is; next = refl };
  count_is = same;
  few = omega (arith, same);
  stored = λ i. cell_first i;
  near = λ i r is. let o = none_first i r is in absurd cc;
  princs_are = ps;
  policies_are = qs;
  given = λ i is. absurd cc;
}
  where
    none_first : (i : ℕ) (r : StoredRow) → cell_no i (None ∷ []) ≡ Some r → None ≡ Some i
    none_first zero r is = absurd cc
    none_first (suc i) r is = absurd cc

    cell_first : (i : ℕ) → IsCell format (cell_no i (None ∷ []))
    cell_first zero = tt
    cell_first (suc i) = tt

-- ---- the units that were read

-- each unit that was read spells its cell
abbrev pub AreReadAs : ℕ → List ℕ → List Cell → Type 0
AreReadAs format file cells = (i : ℕ) → i < length cells → cell_in format file i ≡ Some (cell_no i cells)

pub read_more : (format : ℕ) (file : List ℕ) (c : Cell) (cells : List Cell) → AreReadAs format file cells
    → cell_in format file (length cells) ≡ Some c → AreReadAs format file (with_more c cells)
read_more format file c cells read here i lt = ⊎_elim
    (λ same. ap (cell_in format file) same ∙ here
    ∙ ap Some (sym (ap (λ (j : ℕ). cell_no j (with_more c cells)) same ∙ last_here c cells)))
    (λ other. read i (omega (arith, lt, length-more c cells, other)) ∙ ap Some (sym (others_here c cells i other)))
    (cases_eq i (length cells))

pub clash_free : (u : Units) (cells : List Cell) (i j : ℕ) (c d : Cell) → AreCellsOf u cells → i < j
    → cell_no j cells ≡ c → cell_no i cells ≡ d → clash c d ≡ false
clash_free u cells i j None d are lt a b = refl
clash_free u cells i j (Some r) None are lt a b = refl
clash_free u cells i j (Some r) (Some s) are lt a b = false_from_ne_true _ (λ e.
    let two : Some j ≡ Some i = sym (are.found j r a) ∙ ap u.of (same_key_name r s e) ∙ are.found i s b in
    absurd (omega (arith, same_Some j i two, lt)))

near_cell : (cells : List Cell) (i : ℕ) (c : Cell) → cell_no i cells ≡ c
    → ((r : StoredRow) → cell_no i cells ≡ Some r → i ≤ last_unit) → is_too_far i c ≡ false
near_cell cells i None is near = refl
near_cell cells i (Some r) is near = le-ltb _ _ (near r is)

-- what was gathered is what the units hold
pub gathered_sheet : (format : ℕ) (file : List ℕ) (u : Units) (n : ℕ) (princs : List Principal) (policies : List Rules)
    (cells : List Cell) → IsGathered format u n princs policies cells → AreReadAs format file cells
    → IsSheet format file (length cells) cells
gathered_sheet format file u n princs policies cells is read = record {
  long = refl;
  reads = read;
  near = λ i. near_cell cells i (cell_no i cells) refl (is.near i);
  once = λ i j lt. clash_free u cells i j (cell_no j cells) (cell_no i cells) is.cells_are lt refl refl;
  few = omega (arith, is.count_is, is.few);
}

-- ---- a unit at fault

or_left : (a b : Bool) → a ≡ true → (a || b) ≡ true
or_left true b e = refl
or_left false b e = absurd (true≢false (sym e))

or_right : (a b : Bool) → b ≡ true → (a || b) ≡ true
or_right true b e = refl
or_right false b e = e

true_from : (b : Bool) → (b ≡ false → ⊥) → b ≡ true
true_from true no_case = refl
true_from false no_case = absurd (no_case refl)

clash_there : (format : ℕ) (u : Units) (n : ℕ) (princs : List Principal) (policies : List Rules) (cells : List Cell)
    (r : StoredRow) (j : ℕ) (c : Cell) → IsGathered format u n princs policies cells → IsStored format r
    → cell_no j cells ≡ c → HasKey (name_of r) c → clash (Some r) c ≡ true
clash_there format u n princs policies cells r j None is stored at has = absurd has
clash_there format u n princs policies cells r j (Some s) is stored at has =
    one_kind format r s stored (subst (IsCell format) at (is.stored j)) (sym has)

some_of : (o : Option ℕ) → o ≢ None → (j : ℕ) × (o ≡ Some j)
some_of None other = absurd (other refl)
some_of (Some j) other = (j, refl)

pub refused_fault : (format : ℕ) (file : List ℕ) (u : Units) (n : ℕ) (princs : List Principal) (policies : List Rules)
    (cells : List Cell) (r : StoredRow) → IsGathered format u n princs policies cells → AreReadAs format file cells
    → cell_in format file (length cells) ≡ Some (Some r) → IsStored format r → IsRefused u n (name_of r)
    → is_fault (length cells) (cell_in format file (length cells)) (before format file (length cells)) ≡ true
refused_fault format file u n princs policies cells r is read here stored refused =
    let at = length cells in
    let earlier = before format file at in
    let far = is_too_far at (Some r) in
    let two = clashes (Some r) earlier in
    let many = ltb most_rows (taken_by (Some r) + taken earlier) in
    let sheet = gathered_sheet format file u n princs policies cells is read in
    ap (λ (o : Option Cell). is_fault at o earlier) here
    ∙ ⊎_elim
    (λ past. or_left far (two || many) (lt-ltb _ _ (omega (arith, past, is.cells_are.next))))
    (λ more. or_right far (two || many) (⊎_elim
    (λ full. or_right two many (lt-ltb _ _ (omega (arith, full, is.count_is, taken_to format file at cells sheet))))
    (λ led. or_left two many (true_from two (λ none.
    let there = some_of (u.of (name_of r)) led in
    let has = is.cells_are.leads (name_of r) there.0 there.1 in
    let below : there.0 < at = within there.0 has in
    let cell : cell_or_free (cell_in format file there.0) ≡ cell_no there.0 cells =
    ap cell_or_free (read there.0 below) in
    true≢false (sym (clash_there format u n princs policies cells r there.0 (cell_no there.0 cells) is stored refl has)
    ∙ sym (ap (clash (Some r)) cell) ∙ clash_none format file (Some r) at none there.0 below))))
    more))
    refused
  where
    within : (i : ℕ) → HasKey (name_of r) (cell_no i cells) → i < length cells
    within i has = ⊎_elim
        (λ lt. lt)
        (λ past. absurd (subst (HasKey (name_of r)) (no_cell_past cells i past) has))
        (cases_lt i (length cells))

pub missing_fault : (format : ℕ) (file : List ℕ) (i : ℕ) → cell_in format file i ≡ None
    → is_fault i (cell_in format file i) (before format file i) ≡ true
missing_fault format file i none = ap (λ (o : Option Cell). is_fault i o (before format file i)) none

-- ---- answers

pub on_both : {T E : Type 0} (P Q : Type 0) (r : Result T E) → OnOk r P → OnOk r Q → OnOk r (P × Q)
on_both P Q (Ok x) p q = (p, q)
on_both P Q (Err e) p q = tt

-- the unit that is given, where another one than that was read
pub placed_stays : (torn : Option ℕ) (unit : ℕ) → is_torn torn unit ≡ false
    → placed_at torn (unit + 1) ≡ placed_at torn unit
placed_stays None unit other = refl
placed_stays (Some i) unit other = ⊎_elim
    (λ lt. cond-true (ltb i (unit + 1)) (Some i) None (lt-ltb _ _ (omega (arith, lt)))
    ∙ sym (cond-true (ltb i unit) (Some i) None (lt-ltb _ _ lt)))
    (λ ge.
    let apart = eqb-false i unit other in
    cond-false (ltb i (unit + 1)) (Some i) None (le-ltb _ _ (omega (arith, ge, apart)))
    ∙ sym (cond-false (ltb i unit) (Some i) None (le-ltb _ _ ge)))
    (cases_lt i unit)

not_torn : (torn : Option ℕ) (unit : ℕ) (c : Cell) (r : StoredRow) → c ≡ Some r → (is_torn torn unit ≡ true → c ≡ None)
    → is_torn torn unit ≡ false
not_torn torn unit c r is none = false_from_ne_true _ (λ e. let both : Some r ≡ None = sym is ∙ none e in absurd cc)

pub row_placed : (torn : Option ℕ) (unit : ℕ) (c : Cell) (r : StoredRow) (before after : Option ℕ)
    → c ≡ Some r → (is_torn torn unit ≡ true → c ≡ None) → before ≡ placed_at torn unit → after ≡ before
    → after ≡ placed_at torn (unit + 1)
row_placed torn unit c r before after is none old same =
    same ∙ old ∙ sym (placed_stays torn unit (not_torn torn unit c r is none))

pub led_next : (u v : Units) (key : List ℕ) → v ≡ more_led key u → v.next ≡ u.next + 1
unfolding more_led
led_next u v key is = ap (λ (w : Units). w.next) is

-- a unit that is not whole spells no cell
pub short_unit : (format : ℕ) (skips : Bool) (bytes : List ℕ) → skips ≡ false → length bytes < unit_size format
    → cell_next format skips bytes ≡ None
unfolding cell_of unit_at padded bytes_at
short_unit format skips bytes no_skip short =
    let less : ltb (length bytes) (unit_size format) ≡ true = lt-ltb (length bytes) (unit_size format) short in
    rw (no_skip, less) refl

-- ---- the next unit of a file

read_there : (format : ℕ) (file : List ℕ) (unit : ℕ) (left : List ℕ)
    → 1 ≤ unit → left ≡ drop (unit * unit_size format) file
    → cell_in format file unit ≡ cell_of format (take (unit_size format) left)
unfolding cell_in
read_there format file unit left from is =
    let free : Option Cell = Some None in
    cond-false (eqb unit 0) free (cell_of format (unit_bytes format unit file))
    (ne_eqb unit 0 (λ e. absurd (omega (arith, e, from))))
    ∙ ap (λ (l : List ℕ). cell_of format (take (unit_size format) l)) (sym is)

pub next_cell : (format : ℕ) (torn : Option ℕ) (file : List ℕ) (unit : ℕ) (left : List ℕ) → MaySkip format torn file
    → 1 ≤ unit → left ≡ drop (unit * unit_size format) file
    → cell_in format (skipping format torn file) unit
    ≡ cell_next format (is_torn torn unit) (take (unit_size format) left)
next_cell format None file unit left may from is = read_there format file unit left from is
next_cell format (Some i) file unit left may from is = ⊎_elim
    (λ same.
    let fits = may i refl in
    ap (cell_in format (skipping format (Some i) file)) (sym same) ∙ skip_here format i file fits.1 fits.0
    ∙ sym (cond-true (eqb i unit) (Some None) (cell_of format (take (unit_size format) left)) (eq-eqb _ _ same)))
    (λ other.
    let fits = may i refl in
    skip_other format i unit file fits.1 (λ e. other (sym e)) ∙ read_there format file unit left from is
    ∙ sym (cond-false (eqb i unit) (Some None) (cell_of format (take (unit_size format) left)) (ne_eqb _ _ other)))
    (cases_eq i unit)

-- the units that were read, with one more
pub more_in : (format : ℕ) (torn : Option ℕ) (file : List ℕ) (unit : ℕ) (cells : List Cell) (c : Cell)
    → length cells ≡ unit → AreCellsIn format torn file cells → cell_in format (skipping format torn file) unit ≡ Some c
    → AreCellsIn format torn file (with_more c cells)
more_in format torn file unit cells c long read here = read_more format (skipping format torn file) c cells read
    (ap (cell_in format (skipping format torn file)) long ∙ here)

-- a unit at fault is where the file is damaged
fault_damaged : (number format : ℕ) (torn : Option ℕ) (file : List ℕ) (u : Units) (n : ℕ) (princs : List Principal)
    (policies : List Rules) (cells : List Cell) (realm : List ℕ) (unit : ℕ) (r : Refusal)
    → IsGathered format u n princs policies cells
    → AreCellsIn format torn file cells → length cells ≡ unit → realm_in format (skipping format torn file) ≡ Some realm
    → unit < count_of format (skipping format torn file)
    → is_fault unit (cell_in format (skipping format torn file) unit) (before format (skipping format torn file) unit)
    ≡ true → r ≡ Damaged number (unit * unit_size format) → IsDamaged number format torn file r
fault_damaged number format torn file u n princs policies cells realm unit r is read long named lt fault same =
    let f = skipping format torn file in
    let sheet =
    subst (λ (k : ℕ). IsSheet format f k cells) long (gathered_sheet format f u n princs policies cells is read) in
    (unit * unit_size format, (same, sheet_fault format f unit cells realm sheet lt named fault))

pub none_damaged : (number format : ℕ) (torn : Option ℕ) (file : List ℕ) (u : Units) (n : ℕ) (princs : List Principal)
    (policies : List Rules) (cells : List Cell) (realm : List ℕ) (unit : ℕ) (r : Refusal) (o : Option Cell)
    → IsGathered format u n princs policies cells
    → AreCellsIn format torn file cells → length cells ≡ unit → realm_in format (skipping format torn file) ≡ Some realm
    → unit < count_of format (skipping format torn file)
    → cell_in format (skipping format torn file) unit ≡ o → (stop : Stop) → stop ≡ Refused r
    → UnitAnswers (Err stop) number (unit * unit_size format) o → IsDamaged number format torn file r
none_damaged number format torn file u n princs policies cells realm unit r o is read long named lt here
    (Refused refusal) same answer =
    let f = skipping format torn file in
    let one : refusal ≡ r = same_refusal refusal r same in
    fault_damaged number format torn file u n princs policies cells realm unit r is read long named lt
    (missing_fault format f unit (here ∙ answer.1)) (sym one ∙ answer.0)
  where
    same_refusal : (a b : Refusal) → Refused a ≡ Refused b → a ≡ b
    same_refusal a b e = cc
none_damaged number format torn file u n princs policies cells realm unit r o is read long named lt here
    (Halt halt) same answer = absurd cc

pub row_damaged : (number format : ℕ) (torn : Option ℕ) (file : List ℕ) (u : Units) (n : ℕ) (princs : List Principal)
    (policies : List Rules) (cells : List Cell) (realm : List ℕ) (unit : ℕ) (r : Refusal) (c : Cell)
    → IsGathered format u n princs policies cells
    → AreCellsIn format torn file cells → length cells ≡ unit → realm_in format (skipping format torn file) ≡ Some realm
    → unit < count_of format (skipping format torn file)
    → cell_in format (skipping format torn file) unit ≡ Some c → IsCell format c
    → (row : StoredRow) × ((c ≡ Some row) × IsRefused u n (name_of row)) → r ≡ Damaged number (unit * unit_size format)
    → IsDamaged number format torn file r
row_damaged number format torn file u n princs policies cells realm unit r c is read long named lt here stored
    refused same =
    let f = skipping format torn file in
    let row = refused.0 in
    let there = here ∙ ap (λ (x : Cell). Some x) refused.1.0 in
    let fault = refused_fault format f u n princs policies cells row is read (ap (cell_in format f) long ∙ there)
    (subst (IsCell format) refused.1.0 stored) refused.1.1 in
    fault_damaged number format torn file u n princs policies cells realm unit r is read long named lt
    (subst (λ (k : ℕ). is_fault k (cell_in format f k) (before format f k) ≡ true) long fault) same

pub next_left : (unit size : ℕ) (file left after : List ℕ) → left ≡ drop (unit * size) file → after ≡ drop size left
    → after ≡ drop ((unit + 1) * size) file
next_left unit size file left after is next =
    let sum : unit * size + size ≡ (unit + 1) * size = omega arith in
    next ∙ ap (drop size) is ∙ drop-drop size (unit * size) file ∙ ap (λ (n : ℕ). drop n file) sum

pub more_gathered : (format : ℕ) (torn : Option ℕ) (told : Type 0)
    (file : List ℕ) (u : Units) (n : ℕ) (princs : List Principal) (policies : List Rules) (cells : List Cell) (k : ℕ)
    → length cells ≡ k → IsMore format torn told file u n princs policies cells
    → AreGathered format torn told file u n princs policies (k + 1)
more_gathered format torn told file u n princs policies cells k long more = record {
  cells = with_more more.cell cells;
  long = omega (arith, length-more more.cell cells, long);
  gathered = more.gathered;
  read = more.read;
}

pub same_damaged : {A : Type 0} (stop : Stop) (d r : Refusal) → stop ≡ Refused d
    → ◌≡◌ {A = Result A Stop} (Err stop) (Err (Refused r)) → r ≡ d
same_damaged {A} stop d r is same = sym (same_refusal d r (sym is ∙ same_stop stop (Refused r) same))
  where
    same_refusal : (a b : Refusal) → Refused a ≡ Refused b → a ≡ b
    same_refusal a b e = cc

    same_stop : (a b : Stop) → ◌≡◌ {A = Result A Stop} (Err a) (Err b) → a ≡ b
    same_stop a b e = cc

-- before the first of the other units, none is given
pub first_placed : (torn : Option ℕ) → ((i : ℕ) → torn ≡ Some i → 1 ≤ i) → None ≡ placed_at torn 1
first_placed None low = refl
first_placed (Some i) low = sym (cond-false (ltb i 1) (Some i) None (le-ltb _ _ (low i refl)))

-- the first unit
pub first_in : (format : ℕ) (torn : Option ℕ) (file : List ℕ) → AreCellsIn format torn file (None ∷ [])
unfolding cell_in cell_no
first_in format torn file zero lt = refl
first_in format torn file (suc i) lt = absurd (omega (arith, lt))
