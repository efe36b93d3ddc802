-- A change in the unit that is given for it.
use Rattle.std.proofs.Common.{◌≡◌, ◌≢◌, ℕ, zero, suc, ◌+◌, ◌<◌, ◌≤◌, ◌⊎◌, inl, inr, ⊎_elim, Bool, true, false}
use Rattle.std.proofs.Common.{List, [], ◌∷◌, length, Option, Some, None, refl, sym, ap, subst, ◌∙◌, arith}
use Rattle.std.specs.Str.{bytes_eq}
use Rattle.std.specs.List.{All}
use Rattle.std.proofs.lemmas.Bool.{cases_eq, false_from_ne_true, true≢false, le-ltb}
use Rattle.kdb_base.specs.Limits.{most_rows}
use Rattle.policy_rules.specs.Rules.{Rules}
use Rattle.princ_record.specs.RowLimits.{IsRow}
use Rattle.princ_record.specs.Policies.{IsPolicy}
use Rattle.princ_record.specs.declared.princs.Princ.{Princ as Principal}
use Rattle.princ_rows.specs.EntryLaws.{same_bytes, bytes_same}
use Rattle.princ_rows.specs.Entries.{IsOp, key_of}
use Rattle.princ_rows.specs.declared.entries.Op.{Op}
use Rattle.princ_rows.specs.declared.entries.Op.TheVariants.{PutPrinc, DropPrinc, Rename, PutPolicy, DropPolicy}
use Rattle.princ_rows.specs.Rows.{RowLists}
use Rattle.princ_rows.specs.Effects.{put_by, drop_by, put_princ, drop_princ, put_policy, drop_policy, effect, IsRoom}
use Rattle.princ_rows.specs.Undoing.{IsNewName}
use Rattle.kdb_cells.specs.declared.units.StoredRow.{StoredRow}
use Rattle.kdb_cells.specs.declared.units.StoredRow.TheVariants.{Princ, Policy}
use Rattle.kdb_cells.specs.Cells.{Cell, name_of, IsCell, IsRowOf, IsStored}
use Rattle.kdb_cells.specs.Sheets.{clash, same_key, taken, taken_by, last_unit, is_too_far, set_cell}
use Rattle.kdb_cells.specs.Changes.{rows_of, cell_after, cell_no}
use Rattle.kdb_cells.specs.Keys.{one_kind}
use Rattle.kdb_cells.specs.Leads.{Units, IsFree, leading}
use Rattle.kdb_cells.specs.FileCells.{HasKey, AreCellsOf, MayStand}
use Rattle.kdb_cells.proofs.Cellwise.{lead_cells}
use Rattle.kdb_cells.proofs.Sheeting.{taken_set}
use Rattle.store_files.specs.Standing.{has_princ, has_policy, has_old, IsUnitFor, IsGivenFor, AreRowCells}
use Rattle.store_files.proofs.Units.{IsApart}
use Rattle.store_files.proofs.CellRows.{with_row, rows_by, Lacks, Differ, Agrees, IsEdit, edited, untouched}
use Rattle.store_files.proofs.CellRows.{put_dropped, drop_absent, length-rows_by, princ_of, policy_of, princ_key}
use Rattle.store_files.proofs.CellRows.{policy_key, lists, rows_are, princs_are, policies_are, taken_kinds}
use Rattle.store_files.proofs.Placing.{each_princ, each_policy, princs_apart, policies_apart, old_key, key_old}

-- ---- the unit

free_old : (op : Op) → has_old op None ≡ false
free_old (PutPrinc p) = refl
free_old (DropPrinc name) = refl
free_old (Rename old p) = refl
free_old (PutPolicy p) = refl
free_old (DropPolicy name) = refl

other_old : (u : Units) (cells : List Cell) (op : Op) (i j : ℕ) (c : Cell) → AreCellsOf u cells
    → IsGivenFor (key_of (Some op)) i u → Some i ≢ Some j
    → cell_no j cells ≡ c → has_old op c ≡ false
other_old u cells op i j None are given apart here = free_old op
other_old u cells op i j (Some r) are given apart here = false_from_ne_true _ (λ has.
    apart (ap Some (given.own j (ap u.of (sym (old_key op r has)) ∙ are.found j r here))))

key_there : (key : List ℕ) (c : Cell) (r : StoredRow) → c ≡ Some r → HasKey key c → name_of r ≡ key
key_there key c r is has = subst (HasKey key) is has

own_old : (u : Units) (cells : List Cell) (rows : RowLists) (op : Op) (i : ℕ) (r : StoredRow) (o : Option ℕ)
    → AreRowCells u cells rows
    → IsOp (Some op) → IsGivenFor (key_of (Some op)) i u → u.of (key_of (Some op)) ≡ o → cell_no i cells ≡ Some r
    → has_old op (Some r) ≡ true
own_old u cells rows op i r None is fits given leads here =
    absurd ((given.new leads).free (name_of r) (is.are.found i r here))
own_old u cells rows op i r (Some j) is fits given leads here =
    let same = given.own j leads in
    key_old u cells rows op i r is fits here
    (key_there (key_of (Some op)) (cell_no j cells) r (ap (λ (k : ℕ). cell_no k cells) (sym same) ∙ here)
    (is.are.leads (key_of (Some op)) j leads))

pub unit_for : (u : Units) (cells : List Cell) (rows : RowLists) (op : Op) (i : ℕ) → AreRowCells u cells rows
    → IsOp (Some op)
    → IsGivenFor (key_of (Some op)) i u → IsUnitFor op (Some i) cells
unit_for u cells rows op i is fits given = record {
  others = λ j apart. other_old u cells op i j (cell_no j cells) is.are given apart refl;
  own = λ j r at here.
      let same : i ≡ j = cc in
      own_old u cells rows op i r (u.of (key_of (Some op))) is fits given refl
      (ap (λ (k : ℕ). cell_no k cells) same ∙ here);
}

-- ---- no other row has the key of the new one

princ_clash : (p : Principal) (c : Cell) → ((q : Principal) → c ≡ Some (Princ q) → q.name ≢ p.name)
    → clash (Some (Princ p)) c ≡ false
princ_clash p None apart = refl
princ_clash p (Some (Princ q)) apart = false_from_ne_true _ (λ same. apart q refl (sym (same_bytes p.name q.name same)))
princ_clash p (Some (Policy q)) apart = refl

policy_clash : (p : Rules) (c : Cell) → ((q : Rules) → c ≡ Some (Policy q) → q.name ≢ p.name)
    → clash (Some (Policy p)) c ≡ false
policy_clash p None apart = refl
policy_clash p (Some (Princ q)) apart = refl
policy_clash p (Some (Policy q)) apart =
    false_from_ne_true _ (λ same. apart q refl (sym (same_bytes p.name q.name same)))

not_princ : (name : List ℕ) (c : Cell) (q : Principal) → has_princ name c ≡ false → c ≡ Some (Princ q) → q.name ≢ name
not_princ name c q none is e = true≢false (sym (bytes_same q.name name e) ∙ sym (ap (has_princ name) is) ∙ none)

not_policy : (name : List ℕ) (c : Cell) (q : Rules) → has_policy name c ≡ false → c ≡ Some (Policy q) → q.name ≢ name
not_policy name c q none is e = true≢false (sym (bytes_same q.name name e) ∙ sym (ap (has_policy name) is) ∙ none)

some_apart : (i j : ℕ) → j ≢ i → Some i ≢ Some j
some_apart i j apart e = let same : i ≡ j = cc in apart (sym same)

free_clash : (c : Cell) → clash None c ≡ false
free_clash c = refl

pub new_apart : (u : Units) (cells : List Cell) (rows : RowLists) (op : Op) (i : ℕ) → AreRowCells u cells rows
    → IsNewName op rows
    → IsUnitFor op (Some i) cells → IsApart i (cell_after op) cells
new_apart u cells rows (PutPrinc p) i is new unit j other = princ_clash p (cell_no j cells)
    (λ q here. not_princ p.name (cell_no j cells) q (unit.others j (some_apart i j other)) here)
new_apart u cells rows (DropPrinc name) i is new unit j other = refl
new_apart u cells rows (Rename old p) i is (inl same) unit j other =
    princ_clash p (cell_no j cells)
    (λ q here e. not_princ old (cell_no j cells) q (unit.others j (some_apart i j other)) here (e ∙ same))
new_apart u cells rows (Rename old p) i is (inr none) unit j other = princ_clash p (cell_no j cells)
    (λ q here. each_princ (λ x. x.name ≢ p.name) u cells rows is.are is.rows_is none j q here)
new_apart u cells rows (PutPolicy p) i is new unit j other = policy_clash p (cell_no j cells)
    (λ q here. not_policy p.name (cell_no j cells) q (unit.others j (some_apart i j other)) here)
new_apart u cells rows (DropPolicy name) i is new unit j other = refl

-- ---- the rows

lacks_princ : (name : List ℕ) (c : Cell) → has_princ name c ≡ false → Lacks princ_key name (princ_of c)
lacks_princ name None none = tt
lacks_princ name (Some (Princ q)) none = λ e. true≢false (sym (bytes_same q.name name e) ∙ none)
lacks_princ name (Some (Policy q)) none = tt

lacks_policy : (name : List ℕ) (c : Cell) → has_policy name c ≡ false → Lacks policy_key name (policy_of c)
lacks_policy name None none = tt
lacks_policy name (Some (Princ q)) none = tt
lacks_policy name (Some (Policy q)) none = λ e. true≢false (sym (bytes_same q.name name e) ∙ none)

clash_princ : (p : Principal) (c : Cell) → clash (Some (Princ p)) c ≡ false → Lacks princ_key p.name (princ_of c)
clash_princ p None apart = tt
clash_princ p (Some (Princ q)) apart = λ e. true≢false (sym (bytes_same p.name q.name (sym e)) ∙ apart)
clash_princ p (Some (Policy q)) apart = tt

clash_policy : (p : Rules) (c : Cell) → clash (Some (Policy p)) c ≡ false → Lacks policy_key p.name (policy_of c)
clash_policy p None apart = tt
clash_policy p (Some (Princ q)) apart = tt
clash_policy p (Some (Policy q)) apart = λ e. true≢false (sym (bytes_same p.name q.name (sym e)) ∙ apart)

own_princ : (name : List ℕ) (c : Cell) → ((r : StoredRow) → c ≡ Some r → has_princ name (Some r) ≡ true)
    → Agrees princ_key name (princ_of c) × (policy_of c ≡ None)
own_princ name None own = (tt, refl)
own_princ name (Some (Princ q)) own = (same_bytes q.name name (own (Princ q) refl), refl)
own_princ name (Some (Policy q)) own = let wrong : false ≡ true = own (Policy q) refl in absurd cc

own_policy : (name : List ℕ) (c : Cell) → ((r : StoredRow) → c ≡ Some r → has_policy name (Some r) ≡ true)
    → Agrees policy_key name (policy_of c) × (princ_of c ≡ None)
own_policy name None own = (tt, refl)
own_policy name (Some (Princ q)) own = let wrong : false ≡ true = own (Princ q) refl in absurd cc
own_policy name (Some (Policy q)) own = (same_bytes q.name name (own (Policy q) refl), refl)

same_lists : (a b : List Principal) (c d : List Rules) → a ≡ b → c ≡ d → lists a c ≡ lists b d
same_lists a b c d x y = ap (λ (l : List Principal). lists l c) x ∙ ap (λ (l : List Rules). lists b l) y

-- a cell of a principal is changed
princ_changed : (name : List ℕ) (i : ℕ) (c : Cell) (cells : List Cell) → i ≤ length cells → policy_of c ≡ None
    → ((j : ℕ) → j ≢ i → has_princ name (cell_no j cells) ≡ false)
    → ((r : StoredRow) → cell_no i cells ≡ Some r → has_princ name (Some r) ≡ true)
    → ((j : ℕ) → j ≢ i → Differ princ_key (princ_of c) (princ_of (cell_no j cells)))
    → rows_of (set_cell i c cells) ≡ lists (with_row princ_key (princ_of c)
    (drop_by princ_key name (rows_by princ_key princ_of cells))) (rows_by policy_key policy_of cells)
princ_changed name i c cells within none others own new =
    let here = own_princ name (cell_no i cells) own in
    rows_are (set_cell i c cells)
    ∙ same_lists _ _ _ _
    (edited princ_key princ_of name i c cells refl (record {
      within = within;
      own = here.0;
      others = λ j apart. lacks_princ name (cell_no j cells) (others j apart);
      new = new;
    }))
    (untouched policy_key policy_of i c cells within refl none here.1)

policy_changed : (name : List ℕ) (i : ℕ) (c : Cell) (cells : List Cell) → i ≤ length cells → princ_of c ≡ None
    → ((j : ℕ) → j ≢ i → has_policy name (cell_no j cells) ≡ false)
    → ((r : StoredRow) → cell_no i cells ≡ Some r → has_policy name (Some r) ≡ true)
    → ((j : ℕ) → j ≢ i → Differ policy_key (policy_of c) (policy_of (cell_no j cells)))
    → rows_of (set_cell i c cells) ≡ lists (rows_by princ_key princ_of cells)
    (with_row policy_key (policy_of c) (drop_by policy_key name (rows_by policy_key policy_of cells)))
policy_changed name i c cells within none others own new =
    let here = own_policy name (cell_no i cells) own in
    rows_are (set_cell i c cells)
    ∙ same_lists _ _ _ _
    (untouched princ_key princ_of i c cells within refl none here.1)
    (edited policy_key policy_of name i c cells refl (record {
      within = within;
      own = here.0;
      others = λ j apart. lacks_policy name (cell_no j cells) (others j apart);
      new = new;
    }))

-- the change has its effect
pub rows_changed : (op : Op) (i : ℕ) (cells : List Cell) → i ≤ length cells → IsUnitFor op (Some i) cells
    → IsApart i (cell_after op) cells
    → rows_of (set_cell i (cell_after op) cells) ≡ effect (Some op) (rows_of cells)
unfolding effect put_princ drop_princ put_policy drop_policy
rows_changed (PutPrinc p) i cells within unit apart =
    princ_changed p.name i (Some (Princ p)) cells within refl (λ j other. unit.others j (some_apart i j other))
    (λ r. unit.own i r refl) (λ j other. clash_princ p (cell_no j cells) (apart j other))
    ∙ ap (λ (l : List Principal). lists l (rows_by policy_key policy_of cells))
    (put_dropped princ_key p.name p (rows_by princ_key princ_of cells) refl)
    ∙ ap (put_princ p) (sym (rows_are cells))
rows_changed (DropPrinc name) i cells within unit apart =
    princ_changed name i None cells within refl (λ j other. unit.others j (some_apart i j other))
    (λ r. unit.own i r refl) (λ j other. tt)
    ∙ ap (drop_princ name) (sym (rows_are cells))
rows_changed (Rename old p) i cells within unit apart =
    princ_changed old i (Some (Princ p)) cells within refl (λ j other. unit.others j (some_apart i j other))
    (λ r. unit.own i r refl) (λ j other. clash_princ p (cell_no j cells) (apart j other))
    ∙ ap (λ (r : RowLists). put_princ p (drop_princ old r)) (sym (rows_are cells))
rows_changed (PutPolicy p) i cells within unit apart =
    policy_changed p.name i (Some (Policy p)) cells within refl (λ j other. unit.others j (some_apart i j other))
    (λ r. unit.own i r refl) (λ j other. clash_policy p (cell_no j cells) (apart j other))
    ∙ ap (λ (l : List Rules). lists (rows_by princ_key princ_of cells) l)
    (put_dropped policy_key p.name p (rows_by policy_key policy_of cells) refl)
    ∙ ap (put_policy p) (sym (rows_are cells))
rows_changed (DropPolicy name) i cells within unit apart =
    policy_changed name i None cells within refl (λ j other. unit.others j (some_apart i j other))
    (λ r. unit.own i r refl) (λ j other. tt)
    ∙ ap (drop_policy name) (sym (rows_are cells))

-- ---- how many rows there are

pub taken_rows : (u : Units) (cells : List Cell) → AreCellsOf u cells
    → taken cells ≡ length (rows_of cells).princs + length (rows_of cells).policies
taken_rows u cells are =
    let princs = length-rows_by princ_key princ_of cells (princs_apart u cells are) in
    let policies = length-rows_by policy_key policy_of cells (policies_apart u cells are) in
    omega (arith, taken_kinds cells, princs, policies, ap length (princs_are cells), ap length (policies_are cells))

-- ---- what may stand

row_stored : (p : Principal) → IsRow p → IsRowOf 2 p
row_stored p row = record { row = row; first = λ e. absurd (omega (arith, e)) }

pub stored_each : (u : Units) (cells : List Cell) (rows : RowLists) (j : ℕ) (r : StoredRow) → AreRowCells u cells rows
    → cell_no j cells ≡ Some r
    → IsStored 2 r
stored_each u cells rows j (Princ p) is here =
    row_stored p (each_princ IsRow u cells rows is.are is.rows_is is.sound.princs j p here)
stored_each u cells rows j (Policy p) is here =
    each_policy IsPolicy u cells rows is.are is.rows_is is.sound.policies j p here

pub cell_fits : (op : Op) → IsOp (Some op) → IsCell 2 (cell_after op)
cell_fits (PutPrinc p) fits = row_stored p fits
cell_fits (DropPrinc name) fits = tt
cell_fits (Rename old p) fits = row_stored p fits.1
cell_fits (PutPolicy p) fits = fits
cell_fits (DropPolicy name) fits = tt

key_of_some : (key : List ℕ) (c : Cell) → HasKey key c → (s : StoredRow) × ((c ≡ Some s) × (name_of s ≡ key))
key_of_some key None has = absurd has
key_of_some key (Some s) has = (s, (refl, has))

-- the index leads from the new row's name to no other unit
pub leads_alone : (u : Units) (cells : List Cell) (rows : RowLists) (i : ℕ) (r : StoredRow) → AreRowCells u cells rows
    → IsStored 2 r
    → IsApart i (Some r) cells → (j : ℕ) → u.of (name_of r) ≡ Some j → j ≡ i
leads_alone u cells rows i r is stored apart j leads =
    let there = key_of_some (name_of r) (cell_no j cells) (is.are.leads (name_of r) j leads) in
    ⊎_elim
    (λ same. same)
    (λ other.
    let one = one_kind 2 r there.0 stored (stored_each u cells rows j there.0 is there.1.0) (sym there.1.1) in
    absurd (true≢false (sym one ∙ sym (ap (clash (Some r)) there.1.0) ∙ apart j other)))
    (cases_eq j i)

near_unit : (i : ℕ) (c : Cell) → i ≤ last_unit → is_too_far i c ≡ false
near_unit i None le = refl
near_unit i (Some r) le = le-ltb _ _ le

-- there is room for what stands in the unit
few_for : (u : Units) (cells : List Cell) (rows : RowLists) (op : Op) (i : ℕ) (c : Cell) → AreRowCells u cells rows
    → IsOp (Some op)
    → IsRoom (effect (Some op) rows) → i ≤ length cells → IsUnitFor op (Some i) cells → IsApart i (cell_after op) cells
    → cell_after op ≡ c
    → taken cells + taken_by c ≤ most_rows + taken_by (cell_no i cells)
few_for u cells rows op i None is fits room within unit apart left =
    let few = is.sound.few in
    omega (arith, taken_rows u cells is.are, ap (λ (r : RowLists). length r.princs + length r.policies) is.rows_is, few)
few_for u cells rows op i (Some r) is fits room within unit apart left =
    let stored = subst (IsCell 2) left (cell_fits op fits) in
    let alone = leads_alone u cells rows i r is stored (subst (λ (d : Cell). IsApart i d cells) left apart) in
    let after = lead_cells u cells i r is.are within alone in
    let same : rows_of (set_cell i (Some r) cells) ≡ effect (Some op) rows =
    ap (λ (d : Cell). rows_of (set_cell i d cells)) (sym left) ∙ rows_changed op i cells within unit apart
    ∙ ap (effect (Some op)) is.rows_is in
    omega (
      arith,
      taken_set i (Some r) cells within,
      taken_rows (leading (name_of r) i u) (set_cell i (Some r) cells) after,
      ap (λ (x : RowLists). length x.princs + length x.policies) same,
      room,
    )

-- what the change leaves may stand in its unit
pub may_stand : (u : Units) (cells : List Cell) (rows : RowLists) (op : Op) (i : ℕ) → AreRowCells u cells rows
    → IsOp (Some op) → IsNewName op rows
    → IsRoom (effect (Some op) rows) → i ≤ last_unit → IsGivenFor (key_of (Some op)) i u
    → MayStand 2 i (cell_after op) cells
may_stand u cells rows op i is fits new room near given =
    let within : i ≤ length cells = omega (arith, given.within, is.are.next) in
    let unit = unit_for u cells rows op i is fits given in
    let apart = new_apart u cells rows op i is new unit in
    record {
      from = given.from;
      within = within;
      fits = cell_fits op fits;
      near = near_unit i (cell_after op) near;
      alone = apart;
      few = few_for u cells rows op i (cell_after op) is fits room within unit apart refl;
    }

-- ---- a drop of what is not there

-- no cell has the row that the change is about
abbrev pub IsAbsent : Op → List Cell → Type 0
IsAbsent op cells = (j : ℕ) → has_old op (cell_no j cells) ≡ false

pub drop_princ_absent : (name : List ℕ) (cells : List Cell) → ((j : ℕ) → has_princ name (cell_no j cells) ≡ false)
    → rows_of cells ≡ effect (Some (DropPrinc name)) (rows_of cells)
unfolding effect drop_princ
drop_princ_absent name cells none =
    rows_are cells
    ∙ ap (λ (l : List Principal). lists l (rows_by policy_key policy_of cells))
    (sym (drop_absent princ_key princ_of name cells (λ j. lacks_princ name (cell_no j cells) (none j))))
    ∙ ap (drop_princ name) (sym (rows_are cells))

pub drop_policy_absent : (name : List ℕ) (cells : List Cell) → ((j : ℕ) → has_policy name (cell_no j cells) ≡ false)
    → rows_of cells ≡ effect (Some (DropPolicy name)) (rows_of cells)
unfolding effect drop_policy
drop_policy_absent name cells none =
    rows_are cells
    ∙ ap (λ (l : List Rules). lists (rows_by princ_key princ_of cells) l)
    (sym (drop_absent policy_key policy_of name cells (λ j. lacks_policy name (cell_no j cells) (none j))))
    ∙ ap (drop_policy name) (sym (rows_are cells))

-- where no row has the name, no cell has it
pub princ_absent : (u : Units) (cells : List Cell) (rows : RowLists) (name : List ℕ) → AreRowCells u cells rows
    → All (λ q. q.name ≢ name) rows.princs
    → (j : ℕ) → has_princ name (cell_no j cells) ≡ false
princ_absent u cells rows name is none j = by (cell_no j cells) refl
  where
    by : (c : Cell) → cell_no j cells ≡ c → has_princ name c ≡ false
    by None here = refl
    by (Some (Princ q)) here = false_from_ne_true _ (λ same.
        each_princ (λ x. x.name ≢ name) u cells rows is.are is.rows_is none j q here (same_bytes q.name name same))
    by (Some (Policy q)) here = refl

pub policy_absent : (u : Units) (cells : List Cell) (rows : RowLists) (name : List ℕ) → AreRowCells u cells rows
    → All (λ q. q.name ≢ name) rows.policies → (j : ℕ) → has_policy name (cell_no j cells) ≡ false
policy_absent u cells rows name is none j = by (cell_no j cells) refl
  where
    by : (c : Cell) → cell_no j cells ≡ c → has_policy name c ≡ false
    by None here = refl
    by (Some (Princ q)) here = refl
    by (Some (Policy q)) here = false_from_ne_true _ (λ same.
        each_policy (λ x. x.name ≢ name) u cells rows is.are is.rows_is none j q here (same_bytes q.name name same))

-- and the rows are then those of its effect
pub rows_given : (u : Units) (cells : List Cell) (rows : RowLists) (op : Op) (i : ℕ) → AreRowCells u cells rows
    → IsOp (Some op) → IsNewName op rows
    → IsGivenFor (key_of (Some op)) i u → rows_of (set_cell i (cell_after op) cells) ≡ effect (Some op) rows
rows_given u cells rows op i is fits new given =
    let within : i ≤ length cells = omega (arith, given.within, is.are.next) in
    let unit = unit_for u cells rows op i is fits given in
    rows_changed op i cells within unit (new_apart u cells rows op i is new unit) ∙ ap (effect (Some op)) is.rows_is
