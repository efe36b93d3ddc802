-- The rows of cells, and the records of the cells in the order of their units.
use Rattle.std.proofs.Common.{◌≡◌, ℕ, List, [], ◌∷◌, ◌++◌, map, Option, Some, None, refl, ap, subst, ◌∙◌, arith}
use Rattle.std.specs.List.{AllByRecursion, IsDistinct}
use Rattle.std.specs.List.Sorted.{IsPermutation, IsSortedBy, IsStrictlySortedBy}
use Rattle.std.specs.Prelude.{filter, IsSome, IfSome}
use Rattle.std.specs.Ordering.{ordering_reverse, is_lt}
use Rattle.std.specs.declared.cmp.Ordering.TheVariants.{Less, Greater}
use Rattle.std.specs.Str.{bytes_eq}
use Rattle.std.proofs.lemmas.Cmp.{nat_list_cmp_total}
use Rattle.std.proofs.lemmas.List.Sorted.{IsPermutation-refl, IsPermutation-sym, IsPermutation-cons}
use Rattle.std.proofs.lemmas.List.Sorted.{IsPermutation-trans, IsPermutation-map, All-permutation, length_permutation}
use Rattle.std.proofs.lemmas.Map.Keys.{IsDistinct-head, IsDistinct-tail, IsDistinct-IsPermutation}
use Rattle.policy_rules.specs.Rules.{Rules}
use Rattle.princ_record.specs.Policies.{IsPolicy}
use Rattle.princ_record.specs.RowLimits.{IsRow}
use Rattle.princ_record.specs.declared.princs.Princ.{Princ as Principal}
use Rattle.princ_rows.specs.Rows.{RowLists, AreRows, princ_keys, policy_keys}
use Rattle.tagged_data.specs.KeyOrder.{key_cmp, AreInOrder}
use Rattle.princ_rows.specs.Effects.{is_lower, is_higher, put_by, put_princ, put_policy}
use Rattle.princ_rows.proofs.Orders.{put_order}
use Rattle.kdb_cells.specs.declared.units.StoredRow.TheVariants.{Princ, Policy}
use Rattle.kdb_cells.specs.Cells.{Cell}
use Rattle.kdb_cells.specs.Changes.{rows_of}
use Rattle.kdb_cells.specs.Scanning.{princs_of, policies_of, AreApart}
use Rattle.cell_files.specs.NewFiles.{with_row, sheet_for}
use Rattle.cell_files.proofs.SortedRows.{bytes_flip, put_moved, sorted_order, same_moved, apart_moved}

abbrev pub princ_name : Principal → List ℕ
princ_name p = p.name

abbrev pub policy_name : Rules → List ℕ
policy_name p = p.name

-- ---- the rows of cells are in order

pub princs_order : (cells : List Cell) → AreInOrder (princ_keys (rows_of cells).princs)
unfolding rows_of put_princ put_policy IsStrictlySortedBy
princs_order [] = tt
princs_order (None ∷ cells) = princs_order cells
princs_order (Some (Princ p) ∷ cells) = put_order princ_name p (rows_of cells).princs (princs_order cells)
princs_order (Some (Policy p) ∷ cells) = princs_order cells

pub policies_order : (cells : List Cell) → AreInOrder (policy_keys (rows_of cells).policies)
unfolding rows_of put_princ put_policy IsStrictlySortedBy
policies_order [] = tt
policies_order (None ∷ cells) = policies_order cells
policies_order (Some (Princ p) ∷ cells) = policies_order cells
policies_order (Some (Policy p) ∷ cells) = put_order policy_name p (rows_of cells).policies (policies_order cells)

-- ---- and they are the records of the cells

princs_moved : (cells : List Cell) → IsDistinct bytes_eq (princ_keys (princs_of cells))
    → IsPermutation (princs_of cells) (rows_of cells).princs
unfolding rows_of put_princ put_policy princs_of
princs_moved [] once = IsPermutation-refl []
princs_moved (None ∷ cells) once = princs_moved cells once
princs_moved (Some (Princ p) ∷ cells) once =
    let behind = princs_moved cells (IsDistinct-tail bytes_eq p.name (princ_keys (princs_of cells)) once) in
    let apart = apart_moved princ_name p (princs_of cells) (rows_of cells).princs behind
    (IsDistinct-head bytes_eq p.name (princ_keys (princs_of cells)) once) in
    IsPermutation-trans _ _ _ (IsPermutation-cons p _ _ behind) (put_moved princ_name p (rows_of cells).princs apart)
princs_moved (Some (Policy p) ∷ cells) once = princs_moved cells once

policies_moved : (cells : List Cell) → IsDistinct bytes_eq (policy_keys (policies_of cells))
    → IsPermutation (policies_of cells) (rows_of cells).policies
unfolding rows_of put_princ put_policy policies_of
policies_moved [] once = IsPermutation-refl []
policies_moved (None ∷ cells) once = policies_moved cells once
policies_moved (Some (Princ p) ∷ cells) once = policies_moved cells once
policies_moved (Some (Policy p) ∷ cells) once =
    let behind = policies_moved cells (IsDistinct-tail bytes_eq p.name (policy_keys (policies_of cells)) once) in
    let apart = apart_moved policy_name p (policies_of cells) (rows_of cells).policies behind
    (IsDistinct-head bytes_eq p.name (policy_keys (policies_of cells)) once) in
    IsPermutation-trans _ _ _ (IsPermutation-cons p _ _ behind) (put_moved policy_name p (rows_of cells).policies apart)

-- ---- records that were sorted

pub sorted_princs : (cells : List Cell) (old new : List Principal) → IsPermutation old (princs_of cells)
    → IsPermutation old new → IsSortedBy (λ p q. is_lt (key_cmp p.name q.name)) new
    → IsDistinct bytes_eq (princ_keys old) → new ≡ (rows_of cells).princs
sorted_princs cells old new is moved sorted once =
    let apart = IsDistinct-IsPermutation bytes_eq bytes_flip (princ_keys old) (princ_keys (princs_of cells))
    (IsPermutation-map princ_name old (princs_of cells) is) once in
    let to = IsPermutation-trans _ _ _ is (princs_moved cells apart) in
    same_moved princ_name new (rows_of cells).princs (sorted_order princ_name old new moved sorted once)
    (princs_order cells) (IsPermutation-trans _ _ _ (IsPermutation-sym _ _ moved) to)

pub sorted_policies : (cells : List Cell) (old new : List Rules) → IsPermutation old (policies_of cells)
    → IsPermutation old new → IsSortedBy (λ p q. is_lt (key_cmp p.name q.name)) new
    → IsDistinct bytes_eq (policy_keys old) → new ≡ (rows_of cells).policies
sorted_policies cells old new is moved sorted once =
    let apart = IsDistinct-IsPermutation bytes_eq bytes_flip (policy_keys old) (policy_keys (policies_of cells))
    (IsPermutation-map policy_name old (policies_of cells) is) once in
    let to = IsPermutation-trans _ _ _ is (policies_moved cells apart) in
    same_moved policy_name new (rows_of cells).policies (sorted_order policy_name old new moved sorted once)
    (policies_order cells) (IsPermutation-trans _ _ _ (IsPermutation-sym _ _ moved) to)

-- they are rows
pub sorted_rows : (princs ps : List Principal) (policies qs : List Rules) → AreApart princs policies
    → IsPermutation princs ps → IsPermutation policies qs
    → IsSortedBy (λ p q. is_lt (key_cmp p.name q.name)) ps → IsSortedBy (λ p q. is_lt (key_cmp p.name q.name)) qs
    → AreRows (record { princs = ps; policies = qs })
sorted_rows princs ps policies qs apart moved moved' sorted sorted' = record {
  princ_order = sorted_order princ_name princs ps moved sorted apart.princ_once;
  policy_order = sorted_order policy_name policies qs moved' sorted' apart.policy_once;
  few = omega (arith, apart.few, length_permutation princs ps moved, length_permutation policies qs moved');
  princs = All-permutation IsRow princs ps moved apart.each_princ;
  policies = All-permutation IsPolicy policies qs moved' apart.each_policy;
}

-- ---- rows that were written in their order

higher : (a b : List ℕ) → key_cmp a b ≡ Less → key_cmp b a ≡ Greater
higher a b lt = nat_list_cmp_total.antisymm b a ∙ ap ordering_reverse lt

module _ {X : Type 0} (key : X → List ℕ) where
  none_before : (x : X) (xs : List X) → AllByRecursion (λ k. key_cmp (key x) k ≡ Less) (map key xs)
      → filter (is_lower key (key x)) xs ≡ []
  none_before x [] low = refl
  none_before x (y ∷ ys) low = rw (higher (key x) (key y) low.0) (none_before x ys low.1)

  all_behind : (x : X) (xs : List X) → AllByRecursion (λ k. key_cmp (key x) k ≡ Less) (map key xs)
      → filter (is_higher key (key x)) xs ≡ xs
  all_behind x [] low = refl
  all_behind x (y ∷ ys) low = rw (higher (key x) (key y) low.0) (ap (λ (l : List X). y ∷ l) (all_behind x ys low.1))

  before_others : (x : X) (xs : List X) → AllByRecursion (λ k. key_cmp (key x) k ≡ Less) (map key xs)
      → put_by key x xs ≡ x ∷ xs
  unfolding put_by
  before_others x xs low = rw (none_before x xs low, all_behind x xs low) refl

policies_kept : (policies : List Rules) → AreInOrder (policy_keys policies)
    → rows_of (map with_row (map (λ p. Policy p) policies)) ≡ record { princs = []; policies = policies }
unfolding rows_of put_policy IsStrictlySortedBy
policies_kept [] order = refl
policies_kept (p ∷ policies) order =
    ap (put_policy p) (policies_kept policies order.1)
    ∙ ap (λ (ps : List Rules). let r : RowLists = record { princs = []; policies = ps } in r)
    (before_others policy_name p policies order.0)

princs_kept : (princs : List Principal) (policies : List Rules) → AreInOrder (princ_keys princs)
    → AreInOrder (policy_keys policies)
    → rows_of (map with_row (map (λ p. Princ p) princs ++ map (λ p. Policy p) policies)) ≡ record {
      princs = princs;
      policies = policies;
    }
unfolding rows_of put_princ IsStrictlySortedBy
princs_kept [] policies order order' = policies_kept policies order'
princs_kept (p ∷ princs) policies order order' =
    ap (put_princ p) (princs_kept princs policies order.1 order')
    ∙ ap (λ (ps : List Principal). let r : RowLists = record { princs = ps; policies = policies } in r)
    (before_others princ_name p princs order.0)

pub rows_kept : (realm : List ℕ) (r : RowLists) → AreRows r → rows_of (sheet_for realm r).cells ≡ r
unfolding rows_of
rows_kept realm r are = princs_kept r.princs r.policies are.princ_order are.policy_order

-- ---- an option that is not none

pub is_some : {A : Type 0} (o : Option A) → (o ≡ None → ⊥) → IsSome o
is_some None other = absurd (other refl)
is_some (Some x) other = refl

pub at_some : {A : Type 0} (P : A → Type 0) (o : Option A) (x : A) → o ≡ Some x → IfSome o P → P x
at_some {A} P o x is h = subst (λ (p : Option A). IfSome p P) is h
