-- Edits of records that are undone, and records that are taken out and put under another key.
use Rattle.std.proofs.Common.{◌≡◌, ℕ, zero, suc, ◌<◌, ◌≤◌, Bool, true, false, List, [], ◌∷◌, ◌++◌}
use Rattle.std.proofs.Common.{length, map, get_or, set, refl, sym, ap, subst, ◌∙◌, arith, ◌⊎◌, inl, inr}
use Rattle.std.specs.Prelude.{filter, Result, Ok, Err, IfOk, is_ok, if◌then◌else◌}
use Rattle.std.specs.List.{All, insert, remove}
use Rattle.std.specs.Ordering.{is_lt, is_gt}
use Rattle.std.specs.declared.cmp.Ordering.{Ordering}
use Rattle.std.specs.declared.cmp.Ordering.TheVariants.{Less, Equal, Greater}
use Rattle.std.proofs.lemmas.List.{append-nil, get_or_default}
use Rattle.std.proofs.lemmas.List.Elements.{filter-append}
use Rattle.princ_rows.specs.Rows.{IsAt, IsGap}
use Rattle.tagged_data.specs.KeyOrder.{key_cmp, AreInOrder}
use Rattle.princ_rows.specs.Effects.{is_lower, is_higher, put_by, drop_by}
use Rattle.princ_rows.specs.Undoing.{row_back}
use Rattle.princ_rows.specs.declared.sorted.RowBack.TheVariants.{Added, Replaced, Moved}
use Rattle.princ_rows.proofs.Edits.{remove_is_drop}
use Rattle.princ_rows.proofs.Orders.{drop_order, drop_each}

truth : (b : Bool) → (b ≡ true) ⊎ (b ≡ false)
truth true = inl refl
truth false = inr refl

lower_not_higher : (o : Ordering) → is_lt o ≡ true → is_gt o ≡ false
lower_not_higher Less e = refl
lower_not_higher Equal e = absurd cc
lower_not_higher Greater e = absurd cc

higher_not_lower : (o : Ordering) → is_gt o ≡ true → is_lt o ≡ false
higher_not_lower Less e = absurd cc
higher_not_lower Equal e = absurd cc
higher_not_lower Greater e = refl

module _ {X : Type 0} where
  pub insert_undone : (xs : List X) (at : ℕ) (x : X) → at ≤ length xs → remove (insert xs at x) at ≡ xs
  insert_undone xs zero x le = refl
  insert_undone [] (suc at) x le = absurd (omega arith)
  insert_undone (y ∷ ys) (suc at) x le = ap (λ (zs : List X). y ∷ zs) (insert_undone ys at x (omega arith))

  pub remove_undone : (xs : List X) (at : ℕ) (d : X) → at < length xs → insert (remove xs at) at (get_or xs at d) ≡ xs
  remove_undone [] at d lt = absurd (omega arith)
  remove_undone (y ∷ ys) zero d lt = refl
  remove_undone (y ∷ ys) (suc at) d lt = ap (λ (zs : List X). y ∷ zs) (remove_undone ys at d (omega arith))

  pub set_undone : (xs : List X) (at : ℕ) (x d : X) → at < length xs → set (set xs at x) at (get_or xs at d) ≡ xs
  set_undone [] at x d lt = absurd (omega arith)
  set_undone (y ∷ ys) zero x d lt = refl
  set_undone (y ∷ ys) (suc at) x d lt = ap (λ (zs : List X). y ∷ zs) (set_undone ys at x d (omega arith))

  -- the record at one place is taken out, and another is put at a place of those that are left
  pub move_undone : (xs : List X) (from to : ℕ) (was x : X) → from < length xs → to ≤ length (remove xs from)
      → was ≡ get_or xs from was → insert (remove (insert (remove xs from) to x) to) from was ≡ xs
  move_undone xs from to was x lt le e =
      ap (λ (zs : List X). insert zs from was) (insert_undone (remove xs from) to x le)
      ∙ ap (λ (w : X). insert (remove xs from) from w) e
      ∙ remove_undone xs from was lt

  -- ---- a record is taken out by its place

  is_at : (key : X → List ℕ) (xs : List X) (at : ℕ) (d : X) → at < length xs → IsAt key xs (key (get_or xs at d)) at
  is_at key xs at d lt = record { in_range = lt; has_key = λ e. ap key (get_or_default xs at e d lt) }

  pub remove_order : (key : X → List ℕ) (xs : List X) (at : ℕ) (d : X) → at < length xs → AreInOrder (map key xs)
      → AreInOrder (map key (remove xs at))
  remove_order key xs at d lt h =
      let k = key (get_or xs at d) in
      subst (λ (zs : List X). AreInOrder (map key zs)) (sym (remove_is_drop key xs k at h (is_at key xs at d lt)))
      (drop_order key k xs h)

  pub remove_each : (F : X → Type 0) (key : X → List ℕ) (xs : List X) (at : ℕ) (d : X) → at < length xs
      → AreInOrder (map key xs) → All F xs → All F (remove xs at)
  remove_each F key xs at d lt h all =
      let k = key (get_or xs at d) in
      subst (All F) (sym (remove_is_drop key xs k at h (is_at key xs at d lt))) (drop_each F key k xs all)

  -- ---- a put of a record whose key was dropped is a put

  kept : (p : X → Bool) (y : X) (ys : List X) → p y ≡ true → filter p (y ∷ ys) ≡ y ∷ filter p ys
  kept p y ys e = rw e refl

  left_out : (p : X → Bool) (y : X) (ys : List X) → p y ≡ false → filter p (y ∷ ys) ≡ filter p ys
  left_out p y ys e = rw e refl

  filter_twice : (p : X → Bool) (xs : List X) → filter p (filter p xs) ≡ filter p xs
  filter_twice p [] = refl
  filter_twice p (y ∷ ys) =
      elim (truth (p y)) [
        | inl e ↦ ap (filter p) (kept p y ys e) ∙ kept p y (filter p ys) e
            ∙ ap (λ (zs : List X). y ∷ zs) (filter_twice p ys) ∙ sym (kept p y ys e)
        | inr e ↦ ap (filter p) (left_out p y ys e) ∙ filter_twice p ys ∙ sym (left_out p y ys e)
      ]

  filter_none : (p q : X → Bool) → ((x : X) → q x ≡ true → p x ≡ false) → (xs : List X) → filter p (filter q xs) ≡ []
  filter_none p q not [] = refl
  filter_none p q not (y ∷ ys) =
      elim (truth (q y)) [
        | inl e ↦ ap (filter p) (kept q y ys e) ∙ left_out p y (filter q ys) (not y e) ∙ filter_none p q not ys
        | inr e ↦ ap (filter p) (left_out q y ys e) ∙ filter_none p q not ys
      ]

  lower_of_dropped : (key : X → List ℕ) (k : List ℕ) (xs : List X)
      → filter (is_lower key k) (drop_by key k xs) ≡ filter (is_lower key k) xs
  unfolding drop_by
  lower_of_dropped key k xs =
      let low = is_lower key k in
      let high = is_higher key k in
      let none : filter low (filter high xs) ≡ [] =
      filter_none low high (λ x e. higher_not_lower (key_cmp (key x) k) e) xs in
      filter-append low (filter low xs) (filter high xs)
      ∙ ap (λ (zs : List X). zs ++ filter low (filter high xs)) (filter_twice low xs)
      ∙ ap (λ (zs : List X). filter low xs ++ zs) none
      ∙ append-nil (filter low xs)

  higher_of_dropped : (key : X → List ℕ) (k : List ℕ) (xs : List X)
      → filter (is_higher key k) (drop_by key k xs) ≡ filter (is_higher key k) xs
  unfolding drop_by
  higher_of_dropped key k xs =
      let low = is_lower key k in
      let high = is_higher key k in
      let none : filter high (filter low xs) ≡ [] =
      filter_none high low (λ x e. lower_not_higher (key_cmp (key x) k) e) xs in
      filter-append high (filter low xs) (filter high xs)
      ∙ ap (λ (zs : List X). zs ++ filter high (filter high xs)) none
      ∙ filter_twice high xs

  pub put_after_drop : (key : X → List ℕ) (x : X) (k : List ℕ) (xs : List X) → key x ≡ k
      → put_by key x (drop_by key k xs) ≡ put_by key x xs
  unfolding put_by
  put_after_drop key x k xs e =
      ap (λ (c : List ℕ). put_by key x (drop_by key c xs)) (sym e)
      ∙ ap (λ (zs : List X). zs ++ x ∷ filter (is_higher key (key x)) (drop_by key (key x) xs))
      (lower_of_dropped key (key x) xs)
      ∙ ap (λ (zs : List X). filter (is_lower key (key x)) xs ++ x ∷ zs) (higher_of_dropped key (key x) xs)

  -- ---- what takes an edit back, at the slice and the key that were searched

  pub replaced_back : (key : X → List ℕ) (xs ys : List X) (c : List ℕ) (at : ℕ) (x was held : X) → ys ≡ xs
      → IsAt key ys c at → was ≡ held → held ≡ get_or xs at held → row_back (Replaced at was) (set xs at x) ≡ xs
  unfolding row_back
  replaced_back key xs ys c at x was held same place e v =
      let lt : at < length xs = subst (λ (zs : List X). at < length zs) same place.in_range in
      ap (λ (w : X). set (set xs at x) at w) (e ∙ v) ∙ set_undone xs at x held lt

  pub added_back : (key : X → List ℕ) (xs ys after : List X) (c : List ℕ) (at : ℕ) (x : X) → ys ≡ xs → IsGap key ys c at
      → after ≡ insert xs at x → row_back (Added at) after ≡ xs
  unfolding row_back
  added_back key xs ys after c at x same gap e =
      let le : at ≤ length xs = subst (λ (zs : List X). at ≤ length zs) same gap.in_range in
      ap (λ (zs : List X). remove zs at) e ∙ insert_undone xs at x le

  pub removed_order : (key : X → List ℕ) (xs ys : List X) (from : ℕ) (d : X) → ys ≡ remove xs from → from < length xs
      → AreInOrder (map key xs) → AreInOrder (map key ys)
  removed_order key xs ys from d same lt h =
      subst (λ (zs : List X). AreInOrder (map key zs)) (sym same) (remove_order key xs from d lt h)

  pub moved_back : (key : X → List ℕ) (xs ys after : List X) (c : List ℕ) (from to : ℕ) (x was : X)
      → ys ≡ remove xs from → from < length xs → IsGap key ys c to → was ≡ get_or xs from was
      → after ≡ insert (remove xs from) to x
      → row_back (Moved from to was) after ≡ xs
  unfolding row_back
  moved_back key xs ys after c from to x was same lt gap e is =
      let le : to ≤ length (remove xs from) = subst (λ (zs : List X). to ≤ length zs) same gap.in_range in
      ap (λ (zs : List X). insert (remove zs to) from was) is ∙ move_undone xs from to was x lt le e

  -- the record keeps its key, or there is none of the old key
  pub stayed : (key : X → List ℕ) (xs ys : List X) (x : X) (c k : List ℕ) → ys ≡ xs → c ≡ key x
      → (c ≡ k) ⊎ (drop_by key k ys ≡ ys) → put_by key x xs ≡ put_by key x (drop_by key k xs)
  stayed key xs ys x c k same is (inl e) = sym (put_after_drop key x k xs (sym is ∙ e))
  stayed key xs ys x c k same is (inr e) =
      ap (put_by key x) (sym (subst (λ (zs : List X). drop_by key k zs ≡ zs) same e))

  pub put_as : {A E : Type 0} (res : Result A E) (after a b : List X) → a ≡ b → IfOk res (λ _. after ≡ a)
      → IfOk res (λ _. after ≡ b)
  put_as (Ok x) after a b same e = e ∙ same
  put_as (Err e) after a b same t = tt

  -- an insertion that succeeded, behind a removal
  pub inserted : {A E : Type 0} (res : Result A E) (value : A) (after left xs : List X) (from to : ℕ) (x : X)
      → after ≡ (if is_ok res then insert left to x else left) → res ≡ Ok value → left ≡ remove xs from
      → after ≡ insert (remove xs from) to x
  inserted {A = A} {E = E} res value after left xs from to x e is same =
      e ∙ ap (λ (r : Result A E). if is_ok r then insert left to x else left) is
      ∙ ap (λ (zs : List X). insert zs to x) same
