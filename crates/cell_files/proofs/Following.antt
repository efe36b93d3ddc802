-- Rows that are given units one after the other.
use Rattle.std.proofs.Common.{◌≡◌, ◌≢◌, ℕ, zero, suc, ◌+◌, ◌<◌, ◌≤◌, List, [], ◌∷◌, ◌++◌, length, map, take, drop}
use Rattle.std.proofs.Common.{get_or, Option, Some, None, refl, sym, ap, subst, ◌∙◌, arith, append_assoc, length-append}
use Rattle.std.specs.List.{All, AllByRecursion}
use Rattle.std.specs.List.Sorted.{IsStrictlySortedBy}
use Rattle.std.specs.declared.cmp.Ordering.TheVariants.{Less}
use Rattle.std.proofs.lemmas.List.{append-nil, map-append, length-map, take_all, take_more, drop_more}
use Rattle.std.proofs.lemmas.List.Elements.{recursion_from_All}
use Rattle.kdb_base.specs.Limits.{most_rows}
use Rattle.policy_rules.specs.Names.{is_policy_name}
use Rattle.policy_rules.specs.Rules.{Rules}
use Rattle.princ_record.specs.Policies.{IsPolicy}
use Rattle.princ_record.specs.declared.princs.Princ.{Princ as Principal}
use Rattle.princ_rows.specs.Rows.{RowLists, AreRows}
use Rattle.tagged_data.specs.KeyOrder.{key_cmp, AreInOrder}
use Rattle.kdb_cells.specs.declared.units.StoredRow.{StoredRow}
use Rattle.kdb_cells.specs.declared.units.StoredRow.TheVariants.{Princ, Policy}
use Rattle.kdb_cells.specs.Cells.{Cell, name_of, IsRowOf, IsStored}
use Rattle.kdb_cells.specs.Changes.{cell_no}
use Rattle.kdb_cells.specs.FileCells.{HasKey, AreCellsOf}
use Rattle.kdb_cells.specs.Indexes.{Index, units, count}
use Rattle.kdb_cells.specs.Keys.{printed_is_no_policy}
use Rattle.kdb_cells.specs.Leads.{Units, no_units, more_led}
use Rattle.kdb_cells.specs.Scanning.{princs_of, policies_of, IsGathered}
use Rattle.kdb_cells.specs.Sheets.{taken, set_cell}
use Rattle.kdb_cells.proofs.Gathered.{gathered_first, gathered_row, princs-more, policies-more}
use Rattle.cell_files.specs.Building.{NoneHas, IsNext, MayFollow, IsBuilt}
use Rattle.cell_files.specs.NewFiles.{with_row, stored_rows}
use Rattle.cell_files.proofs.SortedRows.{not_less_self}

-- ---- one row more

pub set_end : (c : Cell) (cells : List Cell) → set_cell (length cells) c cells ≡ cells ++ c ∷ []
unfolding set_cell
set_end c [] = refl
set_end c (d ∷ cells) = ap (λ (l : List Cell). d ∷ l) (set_end c cells)

no_key : (key : List ℕ) (cells : List Cell) → NoneHas key cells → (i : ℕ) → HasKey key (cell_no i cells) → ⊥
unfolding cell_no
no_key key [] none i has = has
no_key key (c ∷ cells) none zero has = none.0 has
no_key key (c ∷ cells) none (suc i) has = no_key key cells none.1 i has

-- a key that no cell has leads to no unit
pub none_led : (u : Units) (cells : List Cell) (key : List ℕ) → AreCellsOf u cells → NoneHas key cells → u.of key ≡ None
none_led u cells key are none = by (u.of key) refl
  where
    by : (o : Option ℕ) → u.of key ≡ o → u.of key ≡ None
    by None e = e
    by (Some i) e = absurd (no_key key cells none i (are.leads key i e))

pub built_more : (format : ℕ) (x y : Index) (cells : List Cell) (r : StoredRow)
    → IsBuilt format x cells → IsNext format r cells → units y ≡ more_led (name_of r) (units x) → count y ≡ count x + 1
    → IsBuilt format y (cells ++ with_row r ∷ [])
built_more format x y cells r built next led more =
    let here : set_cell (length cells) (Some r) cells ≡ cells ++ with_row r ∷ [] = set_end (Some r) cells in
    let ps = sym (princs-more (Some r) cells) ∙ refl in
    let qs = sym (policies-more (Some r) cells) ∙ refl in
    let all : IsGathered format (more_led (name_of r) (units x)) (count y)
    (princs_of (set_cell (length cells) (Some r) cells)) (policies_of (set_cell (length cells) (Some r) cells))
    (set_cell (length cells) (Some r) cells) =
    gathered_row format (units x) (count x) (count y) (princs_of cells) _ (policies_of cells) _ r cells
    (omega (arith, built.cells_are.next, next.near)) (none_led (units x) cells (name_of r) built.cells_are next.new)
    (omega (arith, built.count_is, next.few)) more next.stored (sym ps) (sym qs) built in
    let at : IsGathered format (more_led (name_of r) (units x)) (count y) (princs_of (cells ++ with_row r ∷ []))
    (policies_of (cells ++ with_row r ∷ [])) (cells ++ with_row r ∷ []) =
    subst (λ (l : List Cell).
    IsGathered format (more_led (name_of r) (units x)) (count y) (princs_of l) (policies_of l) l) here all in
    subst (λ (u : Units). IsGathered format u (count y) (princs_of (cells ++ with_row r ∷ []))
    (policies_of (cells ++ with_row r ∷ [])) (cells ++ with_row r ∷ [])) (sym led) at

-- nothing yet
pub built_none : (format : ℕ) (x : Index) → units x ≡ no_units → count x ≡ 0 → IsBuilt format x (None ∷ [])
unfolding princs_of policies_of
built_none format x none zero_rows =
    subst (λ (u : Units). IsGathered format u (count x) (princs_of (None ∷ [])) (policies_of (None ∷ [])) (None ∷ []))
    (sym none) (gathered_first format (count x) (princs_of (None ∷ [])) (policies_of (None ∷ [])) zero_rows refl refl)

-- ---- the rows that are left

-- the row in turn, and those behind it
pub follow_next : (format : ℕ) (r : StoredRow) (rows left : List StoredRow) (cells : List Cell) → left ≡ r ∷ rows
    → MayFollow format left cells → IsNext format r cells × MayFollow format rows (cells ++ with_row r ∷ [])
unfolding MayFollow
follow_next format r rows left cells is may = subst (λ (l : List StoredRow). MayFollow format l cells) is may

-- ---- rows of which no two have one key

abbrev pub Unlike : StoredRow → StoredRow → Type 0
Unlike r s = name_of r ≢ name_of s

unfoldable pub AreUnlike : List StoredRow → Type 0
AreUnlike [] = Unit {0}
AreUnlike (r ∷ rows) = AllByRecursion (Unlike r) rows × AreUnlike rows

-- no row of the front has the key of one behind it
front_none : (front : List StoredRow) (r : StoredRow) (rows : List StoredRow) → AreUnlike (front ++ r ∷ rows)
    → NoneHas (name_of r) (map with_row front)
unfolding AreUnlike
front_none [] r rows unlike = tt
front_none (s ∷ front) r rows unlike = (middle front unlike.0, front_none front r rows unlike.1)
  where
    middle : (l : List StoredRow) → AllByRecursion (Unlike s) (l ++ r ∷ rows) → Unlike s r
    middle [] h = h.0
    middle (t ∷ l) h = middle l h.1

length-front : (front : List StoredRow) → length (map with_row front) ≡ length front
length-front front = length-map front with_row

taken_front : (front : List StoredRow) → taken (map with_row front) ≡ length front
unfolding taken
taken_front [] = refl
taken_front (r ∷ front) = omega (arith, taken_front front)

taken_first : (cells : List Cell) → taken (None ∷ cells) ≡ taken cells
unfolding taken
taken_first cells = omega arith

pub rows_follow : (format : ℕ) (front rows : List StoredRow)
    → AllByRecursion (IsStored format) rows → AreUnlike (front ++ rows) → length front + length rows ≤ most_rows
    → MayFollow format rows (None ∷ map with_row front)
unfolding MayFollow
rows_follow format front [] stored unlike few = tt
rows_follow format front (r ∷ rows) stored unlike few =
    let more : (None ∷ map with_row front) ++ with_row r ∷ [] ≡ None ∷ map with_row (front ++ r ∷ []) =
    ap (λ (l : List Cell). None ∷ l) (sym (map-append with_row front (r ∷ []))) in (
      record {
        stored = stored.0;
        new = (λ has. has, front_none front r rows unlike);
        few = omega (arith, taken_front front, taken_first (map with_row front), few);
        near = omega (arith, length-front front, few);
      },
      subst (MayFollow format rows) (sym more)
          (rows_follow format (front ++ r ∷ []) rows stored.1
          (subst AreUnlike (sym (append_assoc front (r ∷ []) rows)) unlike)
          (omega (arith, few, length-append front (r ∷ [])))),
    )

-- ---- the rows of a database

unlike_less : (a b : List ℕ) → key_cmp a b ≡ Less → a ≢ b
unlike_less a b lt same = not_less_self a (ap (key_cmp a) same ∙ lt)

module _ {X : Type 0} (key : X → List ℕ) (row : X → StoredRow) (named : (x : X) → name_of (row x) ≡ key x) where
  unlike_behind : (x : X) (xs : List X) → AllByRecursion (λ k. key_cmp (key x) k ≡ Less) (map key xs)
      → AllByRecursion (Unlike (row x)) (map row xs)
  unlike_behind x [] h = tt
  unlike_behind x (y ∷ ys) h =
      (λ same. unlike_less (key x) (key y) h.0 (sym (named x) ∙ same ∙ named y), unlike_behind x ys h.1)

  pub unlike_order : (xs : List X) → AreInOrder (map key xs) → AreUnlike (map row xs)
  unfolding AreUnlike IsStrictlySortedBy
  unlike_order [] h = tt
  unlike_order (x ∷ xs) h = (unlike_behind x xs h.0, unlike_order xs h.1)

each_both : (P : StoredRow → Type 0) (xs ys : List StoredRow) → AllByRecursion P xs → AllByRecursion P ys
    → AllByRecursion P (xs ++ ys)
each_both P [] ys a b = b
each_both P (x ∷ xs) ys a b = (a.0, each_both P xs ys a.1 b)

unlike_both : (xs ys : List StoredRow) → AreUnlike xs → AreUnlike ys
    → AllByRecursion (λ x. AllByRecursion (Unlike x) ys) xs → AreUnlike (xs ++ ys)
unfolding AreUnlike
unlike_both [] ys a b c = b
unlike_both (x ∷ xs) ys a b c = (each_both (Unlike x) xs ys a.0 c.0, unlike_both xs ys a.1 b c.1)

abbrev pub princ_row : Principal → StoredRow
princ_row p = Princ p

abbrev pub policy_row : Rules → StoredRow
policy_row p = Policy p

kinds_unlike : (format : ℕ) (princs : List Principal) (policies : List Rules)
    → AllByRecursion (IsRowOf format) princs → AllByRecursion IsPolicy policies
    → AllByRecursion (λ x. AllByRecursion (Unlike x) (map policy_row policies)) (map princ_row princs)
kinds_unlike format [] policies a b = tt
kinds_unlike format (p ∷ princs) policies a b = (from policies b, kinds_unlike format princs policies a.1 b)
  where
    from : (qs : List Rules) → AllByRecursion IsPolicy qs → AllByRecursion (Unlike (Princ p)) (map policy_row qs)
    from [] h = tt
    from (q ∷ qs) h =
        (λ same. printed_is_no_policy p.name a.0.row.fits.name (ap is_policy_name same ∙ h.0.named), from qs h.1)

princs_stored : (format : ℕ) (princs : List Principal) → AllByRecursion (IsRowOf format) princs
    → AllByRecursion (IsStored format) (map princ_row princs)
princs_stored format [] h = tt
princs_stored format (p ∷ princs) h = (h.0, princs_stored format princs h.1)

policies_stored : (format : ℕ) (policies : List Rules) → AllByRecursion IsPolicy policies
    → AllByRecursion (IsStored format) (map policy_row policies)
policies_stored format [] h = tt
policies_stored format (p ∷ policies) h = (h.0, policies_stored format policies h.1)

module _ (format : ℕ) (r : RowLists) (are : AreRows r) (fit : All (IsRowOf format) r.princs) where
  each_princ : AllByRecursion (IsRowOf format) r.princs
  each_princ = recursion_from_All (IsRowOf format) r.princs fit

  each_policy : AllByRecursion IsPolicy r.policies
  each_policy = recursion_from_All IsPolicy r.policies are.policies

  all_unlike : AreUnlike (stored_rows r)
  all_unlike = unlike_both (map princ_row r.princs) (map policy_row r.policies)
      (unlike_order (λ (p : Principal). p.name) princ_row (λ p. refl) r.princs are.princ_order)
      (unlike_order (λ (p : Rules). p.name) policy_row (λ p. refl) r.policies are.policy_order)
      (kinds_unlike format r.princs r.policies each_princ each_policy)

  -- each row may stand in files of this format
  pub all_stored : AllByRecursion (IsStored format) (stored_rows r)
  all_stored = each_both (IsStored format) (map princ_row r.princs) (map policy_row r.policies)
      (princs_stored format r.princs each_princ) (policies_stored format r.policies each_policy)

  -- the principals come first
  pub princs_follow : MayFollow format (map princ_row r.princs) (None ∷ [])
  princs_follow = rows_follow format [] (map princ_row r.princs) (princs_stored format r.princs each_princ)
      (unlike_order (λ (p : Principal). p.name) princ_row (λ p. refl) r.princs are.princ_order)
      (omega (arith, are.few, length-map r.princs princ_row))

  -- and then the policies
  pub policies_follow : MayFollow format (map policy_row r.policies) (None ∷ map with_row (map princ_row r.princs))
  policies_follow = rows_follow format (map princ_row r.princs) (map policy_row r.policies)
      (policies_stored format r.policies each_policy) all_unlike
      (omega (arith, are.few, length-map r.princs princ_row, length-map r.policies policy_row))

  -- the same, of slices with these rows
  pub princs_may : (ps : List Principal) → ps ≡ r.princs → MayFollow format (map princ_row ps) (None ∷ [])
  princs_may ps is =
      subst (λ (l : List Principal). MayFollow format (map princ_row l) (None ∷ [])) (sym is) princs_follow

  pub policies_may : (qs : List Rules) → qs ≡ r.policies
      → MayFollow format (map policy_row qs) (None ∷ map with_row (map princ_row r.princs))
  policies_may qs is =
      subst (λ (l : List Rules). MayFollow format (map policy_row l) (None ∷ map with_row (map princ_row r.princs)))
      (sym is) policies_follow

pub after_princs : (format : ℕ) (r : RowLists) (y : Index) (ps : List Principal)
    → ps ≡ r.princs → IsBuilt format y ((None ∷ []) ++ map with_row (map princ_row ps))
    → IsBuilt format y (None ∷ map with_row (map princ_row r.princs))
after_princs format r y ps is built =
    subst (λ (l : List Principal). IsBuilt format y (None ∷ map with_row (map princ_row l))) is built

pub after_both : (format : ℕ) (r : RowLists) (z : Index) (qs : List Rules) → qs ≡ r.policies
    → IsBuilt format z ((None ∷ map with_row (map princ_row r.princs)) ++ map with_row (map policy_row qs))
    → IsBuilt format z (None ∷ map with_row (stored_rows r))
after_both format r z qs is built =
    subst (λ (l : List Cell). IsBuilt format z (None ∷ l))
    (sym (map-append with_row (map princ_row r.princs) (map policy_row r.policies)))
    (subst (λ (l : List Rules).
    IsBuilt format z (None ∷ (map with_row (map princ_row r.princs) ++ map with_row (map policy_row l)))) is built)

-- ---- the rows of a slice, in turn

module _ {X : Type 0} (row : X → StoredRow) (xs : List X) where
  -- what is left begins with the row in turn
  pub left_next : (i : ℕ) (x : X) → i < length xs → x ≡ get_or xs i x
      → map row (drop i xs) ≡ row x ∷ map row (drop (i + 1) xs)
  left_next i x lt is = ap (map row) (drop_more xs i x lt) ∙ ap (λ (y : X). row y ∷ map row (drop (i + 1) xs)) (sym is)

  -- and it goes behind those that were given units
  pub done_next : {A : Type 0} (f : StoredRow → A) (front : List A) (i : ℕ) (x : X) → i < length xs → x ≡ get_or xs i x
      → (front ++ map f (map row (take i xs))) ++ f (row x) ∷ [] ≡ front ++ map f (map row (take (i + 1) xs))
  done_next {A} f front i x lt is =
      append_assoc front (map f (map row (take i xs))) (f (row x) ∷ [])
      ∙ ap (λ (l : List A). front ++ l) (sym (map-append f (map row (take i xs)) (row x ∷ [])))
      ∙ ap (λ (l : List StoredRow). front ++ map f l) (sym (map-append row (take i xs) (x ∷ [])))
      ∙ ap (λ (y : X). front ++ map f (map row (take i xs ++ y ∷ []))) is
      ∙ ap (λ (l : List X). front ++ map f (map row l)) (sym (take_more xs i x lt))

  pub none_done : {A : Type 0} (f : StoredRow → A) (front : List A) → front ≡ front ++ map f (map row (take 0 xs))
  none_done f front = sym (append-nil front)

  pub all_done : {A : Type 0} (f : StoredRow → A) (front : List A) (i : ℕ) → length xs ≤ i
      → front ++ map f (map row (take i xs)) ≡ front ++ map f (map row xs)
  all_done {A} f front i le = ap (λ (l : List X). front ++ map f (map row l)) (take_all i xs le)

pub many_rows : (r : RowLists) → AreRows r → length (stored_rows r) ≤ most_rows
many_rows r are = omega (
  arith,
  are.few,
  length-append (map princ_row r.princs) (map policy_row r.policies),
  length-map r.princs princ_row,
  length-map r.policies policy_row,
)
