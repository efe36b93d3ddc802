-- The rows with one that the last entry leaves.
use Rattle.std.proofs.Common.{◌≡◌, ℕ, zero, suc, false, List, [], ◌∷◌, ◌++◌, map, Option, Some}
use Rattle.std.proofs.Common.{None, refl, sym, ap, subst, ◌∙◌, arith, append_assoc, length-append}
use Rattle.std.specs.List.{AllByRecursion, IsDistinct}
use Rattle.std.specs.List.Sorted.{IsPermutation}
use Rattle.std.specs.Str.{bytes_eq}
use Rattle.std.proofs.lemmas.List.{append-nil}
use Rattle.std.proofs.lemmas.List.Elements.{All-push}
use Rattle.std.proofs.lemmas.List.Sorted.{IsPermutation-refl, IsPermutation-sym}
use Rattle.std.proofs.lemmas.List.Sorted.{IsPermutation-append_right, IsPermutation-to_front}
use Rattle.std.proofs.lemmas.Map.Keys.{IsDistinct-cons, IsDistinct-IsPermutation}
use Rattle.policy_rules.specs.Rules.{Rules}
use Rattle.princ_record.specs.Policies.{IsPolicy}
use Rattle.princ_record.specs.RowLimits.{IsRow}
use Rattle.princ_record.specs.declared.princs.Princ.{Princ as Principal}
use Rattle.princ_rows.specs.Rows.{princ_keys, policy_keys}
use Rattle.kdb_cells.specs.declared.units.StoredRow.TheVariants.{Princ, Policy}
use Rattle.kdb_cells.specs.Cells.{Cell}
use Rattle.kdb_cells.specs.Changes.{cell_no}
use Rattle.kdb_cells.specs.Scanning.{princ_in, policy_in, princs_of, policies_of, AreApart}
use Rattle.kdb_cells.specs.Sheets.{set_cell}
use Rattle.cell_files.proofs.SortedRows.{bytes_flip}
use Rattle.store_files.specs.Found.{with_unit}
use Rattle.store_opening.specs.Redoing.{MayJoin, MayHold}

-- ---- each key is there once

once_more : (keys : List (List ℕ)) (key : List ℕ) → AllByRecursion (λ k. bytes_eq key k ≡ false) keys
    → IsDistinct bytes_eq keys → IsDistinct bytes_eq (keys ++ key ∷ [])
once_more keys key new once = IsDistinct-IsPermutation bytes_eq bytes_flip (key ∷ keys) (keys ++ key ∷ [])
    (IsPermutation-sym _ _ (IsPermutation-to_front keys key)) (IsDistinct-cons bytes_eq key keys new once)

keys_more : {X : Type 0} (key : X → List ℕ) (xs : List X) (x : X) → map key (xs ++ x ∷ []) ≡ map key xs ++ key x ∷ []
keys_more key [] x = refl
keys_more key (y ∷ ys) x = ap (λ (l : List (List ℕ)). key y ∷ l) (keys_more key ys x)

pub joined : (left : Cell) (princs : List Principal) (policies : List Rules) → AreApart princs policies
    → MayJoin left princs policies → AreApart (princs ++ princ_in left) (policies ++ policy_in left)
joined None princs policies apart may =
    subst (λ (ps : List Principal). AreApart ps (policies ++ [])) (sym (append-nil princs))
    (subst (λ (qs : List Rules). AreApart princs qs) (sym (append-nil policies)) apart)
joined (Some (Princ p)) princs policies apart may =
    let name : Principal → List ℕ = λ q. q.name in
    let next : AreApart (princs ++ p ∷ []) policies = record {
      each_princ = All-push IsRow princs p apart.each_princ may.0;
      each_policy = apart.each_policy;
      princ_once = subst (IsDistinct bytes_eq) (sym (keys_more name princs p))
          (once_more (princ_keys princs) p.name may.1 apart.princ_once);
      policy_once = apart.policy_once;
      few = omega (arith, may.2, length-append princs (p ∷ []));
    } in
    subst (λ (qs : List Rules). AreApart (princs ++ p ∷ []) qs) (sym (append-nil policies)) next
joined (Some (Policy p)) princs policies apart may =
    let name : Rules → List ℕ = λ q. q.name in
    let next : AreApart princs (policies ++ p ∷ []) = record {
      each_princ = apart.each_princ;
      each_policy = All-push IsPolicy policies p apart.each_policy may.0;
      princ_once = apart.princ_once;
      policy_once = subst (IsDistinct bytes_eq) (sym (keys_more name policies p))
          (once_more (policy_keys policies) p.name may.1 apart.policy_once);
      few = omega (arith, may.2, length-append policies (p ∷ []));
    } in
    subst (λ (ps : List Principal). AreApart ps (policies ++ p ∷ [])) (sym (append-nil princs)) next

-- ---- and they are the rows of the cells

set_princs : (i : ℕ) (x : Cell) (all : List Cell) → cell_no i all ≡ None
    → IsPermutation (princs_of all ++ princ_in x) (princs_of (set_cell i x all))
unfolding set_cell cell_no princs_of
set_princs i x [] free = subst (λ (l : List Principal). IsPermutation (princ_in x) l) (sym (append-nil (princ_in x)))
    (IsPermutation-refl (princ_in x))
set_princs zero x (None ∷ all) free = by x
  where
    by : (y : Cell) → IsPermutation (princs_of all ++ princ_in y) (princ_in y ++ princs_of all)
    by None = subst (λ (l : List Principal). IsPermutation l (princs_of all)) (sym (append-nil (princs_of all)))
        (IsPermutation-refl (princs_of all))
    by (Some (Princ p)) = IsPermutation-to_front (princs_of all) p
    by (Some (Policy p)) = subst (λ (l : List Principal). IsPermutation l (princs_of all))
        (sym (append-nil (princs_of all))) (IsPermutation-refl (princs_of all))
set_princs zero x (Some r ∷ all) free = absurd cc
set_princs (suc i) x (c ∷ all) free =
    subst (λ (l : List Principal). IsPermutation l (princ_in c ++ princs_of (set_cell i x all)))
    (sym (append_assoc (princ_in c) (princs_of all) (princ_in x)))
    (IsPermutation-append_right (princ_in c) (princs_of all ++ princ_in x) (princs_of (set_cell i x all))
    (set_princs i x all free))

set_policies : (i : ℕ) (x : Cell) (all : List Cell) → cell_no i all ≡ None
    → IsPermutation (policies_of all ++ policy_in x) (policies_of (set_cell i x all))
unfolding set_cell cell_no policies_of
set_policies i x [] free = subst (λ (l : List Rules). IsPermutation (policy_in x) l) (sym (append-nil (policy_in x)))
    (IsPermutation-refl (policy_in x))
set_policies zero x (None ∷ all) free = by x
  where
    by : (y : Cell) → IsPermutation (policies_of all ++ policy_in y) (policy_in y ++ policies_of all)
    by None = subst (λ (l : List Rules). IsPermutation l (policies_of all)) (sym (append-nil (policies_of all)))
        (IsPermutation-refl (policies_of all))
    by (Some (Princ p)) = subst (λ (l : List Rules). IsPermutation l (policies_of all))
        (sym (append-nil (policies_of all))) (IsPermutation-refl (policies_of all))
    by (Some (Policy p)) = IsPermutation-to_front (policies_of all) p
set_policies zero x (Some r ∷ all) free = absurd cc
set_policies (suc i) x (c ∷ all) free =
    subst (λ (l : List Rules). IsPermutation l (policy_in c ++ policies_of (set_cell i x all)))
    (sym (append_assoc (policy_in c) (policies_of all) (policy_in x)))
    (IsPermutation-append_right (policy_in c) (policies_of all ++ policy_in x) (policies_of (set_cell i x all))
    (set_policies i x all free))

pub joined_princs : (unit : Option ℕ) (left : Cell) (all : List Cell) (princs new : List Principal)
    → MayHold unit left all → princs ≡ princs_of all → new ≡ princs ++ princ_in left
    → IsPermutation new (princs_of (with_unit unit left all))
joined_princs None left all princs new may is more =
    subst (λ (l : List Principal). IsPermutation l (princs_of all))
    (sym (more ∙ ap (λ (c : Cell). princs ++ princ_in c) may ∙ append-nil princs ∙ is))
    (IsPermutation-refl (princs_of all))
joined_princs (Some i) left all princs new may is more =
    subst (λ (l : List Principal). IsPermutation l (princs_of (set_cell i left all)))
    (sym (more ∙ ap (λ (l : List Principal). l ++ princ_in left) is)) (set_princs i left all may)

pub joined_policies : (unit : Option ℕ) (left : Cell) (all : List Cell) (policies new : List Rules)
    → MayHold unit left all → policies ≡ policies_of all → new ≡ policies ++ policy_in left
    → IsPermutation new (policies_of (with_unit unit left all))
joined_policies None left all policies new may is more =
    subst (λ (l : List Rules). IsPermutation l (policies_of all))
    (sym (more ∙ ap (λ (c : Cell). policies ++ policy_in c) may ∙ append-nil policies ∙ is))
    (IsPermutation-refl (policies_of all))
joined_policies (Some i) left all policies new may is more =
    subst (λ (l : List Rules). IsPermutation l (policies_of (set_cell i left all)))
    (sym (more ∙ ap (λ (l : List Rules). l ++ policy_in left) is)) (set_policies i left all may)
