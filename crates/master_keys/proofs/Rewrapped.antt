-- Keys of a record, wrapped anew one by one.
use Rattle.std.proofs.Common.{◌≡◌, ℕ, ◌+◌, ◌<◌, ◌≤◌, List, [], ◌∷◌, ◌++◌, length, take, drop}
use Rattle.std.proofs.Common.{get_or, sym, ap, subst, ◌∙◌, arith, append_assoc, append-nil}
use Rattle.std.specs.List.{All, AllZip}
use Rattle.std.proofs.lemmas.List.{drop_all, drop_more, take_more}
use Rattle.std.proofs.lemmas.Slice.Zip.{all_zipped_more}
use Rattle.kdb_base.specs.Key.{Key}
use Rattle.princ_keys.specs.declared.keys.KeyItem.{KeyItem}
use Rattle.master_keys.specs.Rewrapping.{HoldNotAll, HoldsOne, confounder, with_key, with_keys}
use Rattle.master_keys.proofs.SideBySide.{zip_at_item}

-- what stands side by side, by whatever names
pub zip_both : {A B : Type 0} (R : A → B → Type 0) (xs : List A) (ys : List B) (i : ℕ) (x : A) (y : B) → AllZip R xs ys
    → i < length xs → x ≡ get_or xs i x → y ≡ get_or ys i y → R x y
zip_both R xs ys i x y h lt is_x is_y = subst (λ z. R x z) (sym is_y) (zip_at_item R xs ys i x y h lt is_x)

-- one more, of the second list
pub zip_more_right : {A B : Type 0} (R : A → B → Type 0) (xs : List A) (ys : List B) (i : ℕ) (x : A) (y : B)
    → i < length ys → y ≡ get_or ys i y → AllZip R xs (take i ys) → R x y → AllZip R (xs ++ x ∷ []) (take (i + 1) ys)
zip_more_right R xs ys i x y lt is h r =
    subst (λ l. AllZip R (xs ++ x ∷ []) l) (ap (λ z. take i ys ++ z ∷ []) is ∙ sym (take_more ys i y lt))
    (all_zipped_more R xs (take i ys) x y h r)

pub zip_to : {A B : Type 0} (R S : A → B → Type 0) → ((x : A) (y : B) → R x y → S x y) → (xs : List A) (ys : List B)
    → AllZip R xs ys → AllZip S xs ys
zip_to R S to [] [] h = tt
zip_to R S to [] (y ∷ ys) h = absurd h
zip_to R S to (x ∷ xs) [] h = absurd h
zip_to R S to (x ∷ xs) (y ∷ ys) h = (to x y h.0, zip_to R S to xs ys h.1)

module _ (master : Key) (random : List ℕ) (place : ℕ) (items : List KeyItem) (keys : List Key) where
  -- what is left, by its first
  next_left : (i : ℕ) (item : KeyItem) (key : Key) → i < length items → i < length keys → item ≡ get_or items i item
      → key ≡ get_or keys i key
      → with_keys master random (place + i) (drop i items) (drop i keys) ≡ with_key master (confounder random
      (place + i)) item key ∷ with_keys master random (place + (i + 1)) (drop (i + 1) items) (drop (i + 1) keys)
  unfolding with_keys
  next_left i item key lt more is_item is_key =
      let first = drop_more items i item lt ∙ ap (λ (x : KeyItem). x ∷ drop (i + 1) items) (sym is_item) in
      let second = drop_more keys i key more ∙ ap (λ (x : Key). x ∷ drop (i + 1) keys) (sym is_key) in
      let later : place + i + 1 ≡ place + (i + 1) = omega arith in
      ap (λ (xs : List KeyItem). with_keys master random (place + i) xs (drop i keys)) first
      ∙ ap (λ (xs : List Key). with_keys master random (place + i) (item ∷ drop (i + 1) items) xs) second
      ∙ ap (λ (n : ℕ). with_key master (confounder random (place + i)) item key
      ∷ with_keys master random n (drop (i + 1) items) (drop (i + 1) keys)) later

  pub with_keys_more : (i : ℕ) (item made : KeyItem) (key : Key) (out new whole : List KeyItem) → i < length items
      → i < length keys → item ≡ get_or items i item → key ≡ get_or keys i key
      → made ≡ with_key master (confounder random (place + i)) item key → new ≡ out ++ made ∷ []
      → out ++ with_keys master random (place + i) (drop i items) (drop i keys) ≡ whole
      → new ++ with_keys master random (place + (i + 1)) (drop (i + 1) items) (drop (i + 1) keys) ≡ whole
  with_keys_more i item made key out new whole lt more is_item is_key is_made is_new h =
      let rest = with_keys master random (place + (i + 1)) (drop (i + 1) items) (drop (i + 1) keys) in
      ap (λ (xs : List KeyItem). xs ++ rest) is_new
      ∙ append_assoc out (made ∷ []) rest
      ∙ ap (λ (x : KeyItem). out ++ x ∷ rest) is_made
      ∙ ap (λ (xs : List KeyItem). out ++ xs) (sym (next_left i item key lt more is_item is_key))
      ∙ h

  pub with_keys_all : (i : ℕ) (out whole : List KeyItem) → length items ≤ i
      → out ++ with_keys master random (place + i) (drop i items) (drop i keys) ≡ whole → out ≡ whole
  unfolding with_keys
  with_keys_all i out whole le h =
      sym (append-nil out) ∙ ap (λ (xs : List KeyItem). out ++ with_keys master random (place + i) xs (drop i keys))
      (sym (drop_all i items le)) ∙ h

-- where one item holds no key, not each holds one
pub not_each : (master : Key) (items : List KeyItem) → All (HoldsOne master) items → HoldNotAll master items → ⊥
not_each master items all none = let one =
    all none.0 none.1 none.2 in none.4 (subst (HoldsOne master) none.3 one).0 (subst (HoldsOne master) none.3 one).1
