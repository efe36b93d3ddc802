-- The rows of cells, and what another cell in one unit makes of them.
use Rattle.std.proofs.Common.{◌≡◌, ◌≢◌, ℕ, zero, suc, ◌+◌, ◌<◌, ◌≤◌, Bool, true, false, List, []}
use Rattle.std.proofs.Common.{◌∷◌, length, Option, Some, None, refl, sym, ap, subst, ◌∙◌, arith}
use Rattle.std.proofs.lemmas.Option.{same_Some}
use Rattle.policy_rules.specs.Rules.{Rules}
use Rattle.princ_record.specs.declared.princs.Princ.{Princ as Principal}
use Rattle.princ_rows.specs.Rows.{RowLists}
use Rattle.princ_rows.specs.Effects.{put_by, drop_by, put_princ, put_policy}
use Rattle.kdb_cells.specs.declared.units.StoredRow.{StoredRow}
use Rattle.kdb_cells.specs.declared.units.StoredRow.TheVariants.{Princ, Policy}
use Rattle.kdb_cells.specs.Cells.{Cell}
use Rattle.kdb_cells.specs.Sheets.{taken_by, taken, set_cell}
use Rattle.kdb_cells.specs.Changes.{rows_of, cell_no}
use Rattle.store_files.proofs.KeyEdits.{HaveKey, edit, put_edit, drop_edit, edit_over, edits_commute, length-edit}

-- ---- one kind of rows

not_next : (j i : ℕ) → j ≢ i → suc j ≢ suc i
not_next j i apart e = apart (omega (arith, e))

not_first : (j : ℕ) → suc j ≢ 0
not_first j e = absurd (omega (arith, e))

module _ {X : Type 0} where
  abbrev pub with_row : (X → List ℕ) → Option X → List X → List X
  with_row key None xs = xs
  with_row key (Some x) xs = put_by key x xs

  -- the rows of the cells that have one of this kind
  unfoldable pub rows_by : (X → List ℕ) → (Cell → Option X) → List Cell → List X
  rows_by key row [] = []
  rows_by key row (c ∷ cells) = with_row key (row c) (rows_by key row cells)

  -- the row has another key than this one, where there is a row
  abbrev pub Lacks : (X → List ℕ) → List ℕ → Option X → Type 0
  Lacks key k None = Unit {0}
  Lacks key k (Some x) = key x ≢ k

  abbrev pub Agrees : (X → List ℕ) → List ℕ → Option X → Type 0
  Agrees key k None = Unit {0}
  Agrees key k (Some x) = key x ≡ k

  -- the rows differ in their keys, where there are two
  abbrev pub Differ : (X → List ℕ) → Option X → Option X → Type 0
  Differ key None o = Unit {0}
  Differ key (Some x) o = Lacks key (key x) o

  one_key : (key : X → List ℕ) (x : X) → HaveKey key (key x) (x ∷ [])
  one_key key x = (refl, tt)

  drop_put : (key : X → List ℕ) (k : List ℕ) (x : X) (xs : List X) → key x ≢ k
      → drop_by key k (put_by key x xs) ≡ put_by key x (drop_by key k xs)
  drop_put key k x xs apart =
      drop_edit key k (put_by key x xs) ∙ ap (edit key k []) (put_edit key x xs)
      ∙ edits_commute key (key x) k (x ∷ []) [] xs apart (one_key key x) tt
      ∙ ap (edit key (key x) (x ∷ [])) (sym (drop_edit key k xs)) ∙ sym (put_edit key x (drop_by key k xs))

  put_put : (key : X → List ℕ) (x y : X) (xs : List X) → key x ≢ key y
      → put_by key y (put_by key x xs) ≡ put_by key x (put_by key y xs)
  put_put key x y xs apart =
      put_edit key y (put_by key x xs) ∙ ap (edit key (key y) (y ∷ [])) (put_edit key x xs)
      ∙ edits_commute key (key x) (key y) (x ∷ []) (y ∷ []) xs apart (one_key key x) (one_key key y)
      ∙ ap (edit key (key x) (x ∷ [])) (sym (put_edit key y xs)) ∙ sym (put_edit key x (put_by key y xs))

  drop_same : (key : X → List ℕ) (k : List ℕ) (x : X) (xs : List X) → key x ≡ k
      → drop_by key k (put_by key x xs) ≡ drop_by key k xs
  drop_same key k x xs is =
      drop_edit key k (put_by key x xs)
      ∙ ap (edit key k []) (put_edit key x xs ∙ ap (λ (j : List ℕ). edit key j (x ∷ []) xs) is)
      ∙ edit_over key k [] (x ∷ []) xs (is, tt) ∙ sym (drop_edit key k xs)

  pub put_dropped : (key : X → List ℕ) (k : List ℕ) (x : X) (xs : List X) → key x ≡ k
      → put_by key x (drop_by key k xs) ≡ put_by key x xs
  put_dropped key k x xs is =
      ap (λ (j : List ℕ). put_by key x (drop_by key j xs)) (sym is) ∙ put_edit key x (drop_by key (key x) xs)
      ∙ ap (edit key (key x) (x ∷ [])) (drop_edit key (key x) xs)
      ∙ edit_over key (key x) (x ∷ []) [] xs tt ∙ sym (put_edit key x xs)

  drop_none : (key : X → List ℕ) (k : List ℕ) → drop_by key k [] ≡ []
  unfolding drop_by
  drop_none key k = refl

  -- a drop and a row of another key
  drop_with : (key : X → List ℕ) (k : List ℕ) (o : Option X) (xs : List X) → Lacks key k o
      → drop_by key k (with_row key o xs) ≡ with_row key o (drop_by key k xs)
  drop_with key k None xs lacks = refl
  drop_with key k (Some x) xs lacks = drop_put key k x xs lacks

  with_with : (key : X → List ℕ) (a b : Option X) (xs : List X) → Differ key a b
      → with_row key a (with_row key b xs) ≡ with_row key b (with_row key a xs)
  with_with key None b xs differ = refl
  with_with key (Some x) None xs differ = refl
  with_with key (Some x) (Some y) xs differ = put_put key y x xs differ

  -- where no row has the key, a drop changes nothing
  pub drop_absent : (key : X → List ℕ) (row : Cell → Option X) (k : List ℕ) (cells : List Cell)
      → ((j : ℕ) → Lacks key k (row (cell_no j cells)))
      → drop_by key k (rows_by key row cells) ≡ rows_by key row cells
  unfolding rows_by cell_no
  drop_absent key row k [] lacks = drop_none key k
  drop_absent key row k (c ∷ cells) lacks =
      drop_with key k (row c) (rows_by key row cells) (lacks 0)
      ∙ ap (with_row key (row c)) (drop_absent key row k cells (λ j. lacks (suc j)))

  drop_own : (key : X → List ℕ) (k : List ℕ) (o : Option X) (xs : List X) → Agrees key k o → drop_by key k xs ≡ xs
      → drop_by key k (with_row key o xs) ≡ xs
  drop_own key k None xs own absent = absent
  drop_own key k (Some x) xs own absent = drop_same key k x xs own ∙ absent

  -- The old row of a unit has this key, if there is one, and no other unit has a row of it or of the new row's key.
  pub record IsEdit (key : X → List ℕ) (row : Cell → Option X) (k : List ℕ) (i : ℕ) (c : Cell)
      (cells : List Cell) : Type 0 where
    pub within : i ≤ length cells
    pub own : Agrees key k (row (cell_no i cells))
    pub others : (j : ℕ) → j ≢ i → Lacks key k (row (cell_no j cells))
    pub new : (j : ℕ) → j ≢ i → Differ key (row c) (row (cell_no j cells))

  differ_turned : (key : X → List ℕ) (a b : Option X) → Differ key a b → Differ key b a
  differ_turned key None None d = tt
  differ_turned key None (Some y) d = tt
  differ_turned key (Some x) None d = tt
  differ_turned key (Some x) (Some y) d = λ e. d (sym e)

  none_there : (row : Cell → Option X) → row None ≡ None → (key : X → List ℕ) (k : List ℕ) → Lacks key k (row None)
  none_there row none key k = subst (Lacks key k) (sym none) tt

  -- another cell in the unit takes its old row away and adds its own
  pub edited : (key : X → List ℕ) (row : Cell → Option X) (k : List ℕ) (i : ℕ) (c : Cell) (cells : List Cell)
      → row None ≡ None
      → IsEdit key row k i c cells
      → rows_by key row (set_cell i c cells) ≡ with_row key (row c) (drop_by key k (rows_by key row cells))
  unfolding rows_by set_cell cell_no
  edited key row k i c [] none is = ap (with_row key (row c)) (sym (drop_none key k))
  edited key row k zero c (d ∷ cells) none is =
      ap (with_row key (row c)) (sym (drop_own key k (row d) (rows_by key row cells) is.own
      (drop_absent key row k cells (λ j. is.others (suc j) (not_first j)))))
  edited key row k (suc i) c (d ∷ cells) none is =
      let within = is.within in
      let next : IsEdit key row k i c cells = record {
        within = omega (arith, within);
        own = is.own;
        others = λ j apart. is.others (suc j) (not_next j i apart);
        new = λ j apart. is.new (suc j) (not_next j i apart);
      } in
      let first : 0 ≢ suc i = λ e. absurd (omega (arith, e)) in
      ap (with_row key (row d)) (edited key row k i c cells none next)
      ∙ with_with key (row d) (row c) (drop_by key k (rows_by key row cells))
      (differ_turned key (row c) (row d) (is.new 0 first))
      ∙ ap (with_row key (row c)) (sym (drop_with key k (row d) (rows_by key row cells) (is.others 0 first)))

  -- where neither the old cell nor the new one has a row of this kind, nothing changes
  pub untouched : (key : X → List ℕ) (row : Cell → Option X) (i : ℕ) (c : Cell) (cells : List Cell) → i ≤ length cells
      → row None ≡ None
      → row c ≡ None → row (cell_no i cells) ≡ None → rows_by key row (set_cell i c cells) ≡ rows_by key row cells
  unfolding rows_by set_cell cell_no
  untouched key row zero c [] within none new old = ap (λ (o : Option X). with_row key o []) new
  untouched key row (suc i) c [] within none new old = absurd (omega (arith, within))
  untouched key row zero c (d ∷ cells) within none new old =
      ap (λ (o : Option X). with_row key o (rows_by key row cells)) (new ∙ sym old)
  untouched key row (suc i) c (d ∷ cells) within none new old =
      ap (with_row key (row d)) (untouched key row i c cells (omega (arith, within)) none new old)

  -- ---- how many there are

  abbrev pub one_if : Option X → ℕ
  one_if None = 0
  one_if (Some x) = 1

  unfoldable pub count_rows : (Cell → Option X) → List Cell → ℕ
  count_rows row [] = 0
  count_rows row (c ∷ cells) = one_if (row c) + count_rows row cells

  more_rows : (key : X → List ℕ) (o : Option X) (xs : List X) → ((x : X) → o ≡ Some x → drop_by key (key x) xs ≡ xs)
      → length (with_row key o xs) ≡ one_if o + length xs
  more_rows key None xs absent = omega arith
  more_rows key (Some x) xs absent =
      ap length (put_edit key x xs) ∙ length-edit key (key x) x xs (sym (drop_edit key (key x) xs) ∙ absent x refl)

  pub length-rows_by : (key : X → List ℕ) (row : Cell → Option X) (cells : List Cell)
      → ((i j : ℕ) → i < j → Differ key (row (cell_no i cells)) (row (cell_no j cells)))
      → length (rows_by key row cells) ≡ count_rows row cells
  unfolding rows_by cell_no count_rows
  length-rows_by key row [] once = refl
  length-rows_by key row (c ∷ cells) once =
      let others = length-rows_by key row cells (λ i j lt. once (suc i) (suc j) (omega (arith, lt))) in
      let first : (x : X) → row c ≡ Some x → drop_by key (key x) (rows_by key row cells) ≡ rows_by key row cells =
      λ x is.
      drop_absent key row (key x) cells
      (λ j. subst (λ (o : Option X). Differ key o (row (cell_no j cells))) is (once 0 (suc j) (omega arith))) in
      omega (arith, more_rows key (row c) (rows_by key row cells) first, others)

-- ---- both kinds

abbrev pub princ_of : Cell → Option Principal
princ_of None = None
princ_of (Some (Princ p)) = Some p
princ_of (Some (Policy p)) = None

abbrev pub policy_of : Cell → Option Rules
policy_of None = None
policy_of (Some (Princ p)) = None
policy_of (Some (Policy p)) = Some p

abbrev pub princ_key : Principal → List ℕ
princ_key p = p.name

abbrev pub policy_key : Rules → List ℕ
policy_key p = p.name

abbrev pub lists : List Principal → List Rules → RowLists
lists princs policies = record { princs = princs; policies = policies }

add_first : (c : Cell) (cells : List Cell)
    → rows_of cells ≡ lists (rows_by princ_key princ_of cells) (rows_by policy_key policy_of cells)
    → rows_of (c ∷ cells) ≡ lists (with_row princ_key (princ_of c) (rows_by princ_key princ_of cells))
    (with_row policy_key (policy_of c) (rows_by policy_key policy_of cells))
unfolding rows_of put_princ put_policy
add_first None cells is = is
add_first (Some (Princ p)) cells is = ap (put_princ p) is
add_first (Some (Policy p)) cells is = ap (put_policy p) is

-- the rows of cells are those of each kind
pub rows_are : (cells : List Cell)
    → rows_of cells ≡ lists (rows_by princ_key princ_of cells) (rows_by policy_key policy_of cells)
unfolding rows_of rows_by
rows_are [] = refl
rows_are (c ∷ cells) = add_first c cells (rows_are cells)

pub princs_are : (cells : List Cell) → (rows_of cells).princs ≡ rows_by princ_key princ_of cells
princs_are cells = ap (λ (r : RowLists). r.princs) (rows_are cells)

pub policies_are : (cells : List Cell) → (rows_of cells).policies ≡ rows_by policy_key policy_of cells
policies_are cells = ap (λ (r : RowLists). r.policies) (rows_are cells)

taken_first : (c : Cell) → taken_by c ≡ one_if (princ_of c) + one_if (policy_of c)
taken_first None = refl
taken_first (Some (Princ p)) = refl
taken_first (Some (Policy p)) = refl

pub taken_kinds : (cells : List Cell) → taken cells ≡ count_rows princ_of cells + count_rows policy_of cells
unfolding taken count_rows
taken_kinds [] = refl
taken_kinds (c ∷ cells) = omega (arith, taken_first c, taken_kinds cells)
