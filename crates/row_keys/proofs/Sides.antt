-- Two lists side by side.
use Rattle.std.proofs.Common.{◌≡◌, ℕ, zero, suc, Bool, true, false, List, [], ◌∷◌, ◌++◌, map, take}
use Rattle.std.proofs.Common.{Option, Some, None, refl, sym, ap, subst, ◌∙◌, ◌⊎◌, inl, inr, arith}
use Rattle.std.specs.Prelude.{filter, find}
use Rattle.std.specs.List.{AllByRecursion, AllZip, sum_by}
use Rattle.std.proofs.lemmas.List.Sums.{sum_by-cons}
use Rattle.row_keys.specs.Sides.{AreBoth, IsBeside}

pub truth : (b : Bool) → (b ≡ true) ⊎ (b ≡ false)
truth true = inl refl
truth false = inr refl

module _ {X : Type 0} where
  pub kept : (p : X → Bool) (x : X) (xs : List X) → p x ≡ true → filter p (x ∷ xs) ≡ x ∷ filter p xs
  kept p x xs e = rw e refl

  pub left_out : (p : X → Bool) (x : X) (xs : List X) → p x ≡ false → filter p (x ∷ xs) ≡ filter p xs
  left_out p x xs e = rw e refl

  pub found_first : (p : X → Bool) (x : X) (xs : List X) → p x ≡ true → find p (x ∷ xs) ≡ Some x
  found_first p x xs e = rw e refl

  pub passed : (p : X → Bool) (x : X) (xs : List X) → p x ≡ false → find p (x ∷ xs) ≡ find p xs
  passed p x xs e = rw e refl

module _ {A B : Type 0} where
  pub zip_append : (R : A → B → Type 0) (xs us : List A) (ys vs : List B) → AllZip R xs ys → AllZip R us vs
      → AllZip R (xs ++ us) (ys ++ vs)
  zip_append R [] us [] vs h k = k
  zip_append R [] us (y ∷ ys) vs h k = absurd h
  zip_append R (x ∷ xs) us [] vs h k = absurd h
  zip_append R (x ∷ xs) us (y ∷ ys) vs h k = (h.0, zip_append R xs us ys vs h.1 k)

  pub zip_take : (R : A → B → Type 0) (n : ℕ) (xs : List A) (ys : List B) → AllZip R xs ys
      → AllZip R (take n xs) (take n ys)
  zip_take R zero xs ys h = tt
  zip_take R (suc n) [] [] h = tt
  zip_take R (suc n) [] (y ∷ ys) h = absurd h
  zip_take R (suc n) (x ∷ xs) [] h = absurd h
  zip_take R (suc n) (x ∷ xs) (y ∷ ys) h = (h.0, zip_take R n xs ys h.1)

  -- what passes tests that agree
  pub zip_passed : (R S : A → B → Type 0) (p : A → Bool) (q : B → Bool) → ((x : A) (y : B) → R x y → p x ≡ q y)
      → ((x : A) (y : B) → R x y → p x ≡ true → S x y)
      → (xs : List A) (ys : List B) → AllZip R xs ys → AllZip S (filter p xs) (filter q ys)
  zip_passed R S p q same to [] [] h = tt
  zip_passed R S p q same to [] (y ∷ ys) h = absurd h
  zip_passed R S p q same to (x ∷ xs) [] h = absurd h
  zip_passed R S p q same to (x ∷ xs) (y ∷ ys) h =
      let rest = zip_passed R S p q same to xs ys h.1 in
      elim (truth (p x)) [
        | inl e ↦
            subst (λ us. AllZip S us (filter q (y ∷ ys))) (sym (kept p x xs e))
            (subst (λ vs. AllZip S (x ∷ filter p xs) vs) (sym (kept q y ys (sym (same x y h.0) ∙ e))) (
              to x y h.0 e,
              rest,
            ))
        | inr e ↦
            subst (λ us. AllZip S us (filter q (y ∷ ys))) (sym (left_out p x xs e))
            (subst (λ vs. AllZip S (filter p xs) vs) (sym (left_out q y ys (sym (same x y h.0) ∙ e))) rest)
      ]

  pub zip_filter : (R : A → B → Type 0) (p : A → Bool) (q : B → Bool) → ((x : A) (y : B) → R x y → p x ≡ q y)
      → (xs : List A) (ys : List B) → AllZip R xs ys → AllZip R (filter p xs) (filter q ys)
  zip_filter R p q same xs ys h = zip_passed R R p q same (λ x y r e. r) xs ys h

  -- what is found by tests that agree
  pub zip_find : (R : A → B → Type 0) (p : A → Bool) (q : B → Bool) → ((x : A) (y : B) → R x y → p x ≡ q y)
      → (xs : List A) (ys : List B) → AllZip R xs ys → AreBoth R (find p xs) (find q ys)
  zip_find R p q same [] [] h = tt
  zip_find R p q same [] (y ∷ ys) h = absurd h
  zip_find R p q same (x ∷ xs) [] h = absurd h
  zip_find R p q same (x ∷ xs) (y ∷ ys) h =
      elim (truth (p x)) [
        | inl e ↦
            subst (λ o. AreBoth R o (find q (y ∷ ys))) (sym (found_first p x xs e))
            (subst (λ o. AreBoth R (Some x) o) (sym (found_first q y ys (sym (same x y h.0) ∙ e))) h.0)
        | inr e ↦
            subst (λ o. AreBoth R o (find q (y ∷ ys))) (sym (passed p x xs e))
            (subst (λ o. AreBoth R (find p xs) o) (sym (passed q y ys (sym (same x y h.0) ∙ e)))
            (zip_find R p q same xs ys h.1))
      ]

  pub zip_with_all : (R : A → B → Type 0) (F : B → Type 0) (xs : List A) (ys : List B) → AllZip R xs ys
      → AllByRecursion F ys → AllZip (λ x y. R x y × F y) xs ys
  zip_with_all R F [] [] h all = tt
  zip_with_all R F [] (y ∷ ys) h all = absurd h
  zip_with_all R F (x ∷ xs) [] h all = absurd h
  zip_with_all R F (x ∷ xs) (y ∷ ys) h all = ((h.0, all.0), zip_with_all R F xs ys h.1 all.1)

  pub zip_with_left : (R : A → B → Type 0) (F : A → Type 0) (xs : List A) (ys : List B) → AllZip R xs ys
      → AllByRecursion F xs → AllZip (λ x y. R x y × F x) xs ys
  zip_with_left R F [] [] h all = tt
  zip_with_left R F [] (y ∷ ys) h all = absurd h
  zip_with_left R F (x ∷ xs) [] h all = absurd h
  zip_with_left R F (x ∷ xs) (y ∷ ys) h all = ((h.0, all.0), zip_with_left R F xs ys h.1 all.1)

  -- facts of one side, from the other
  pub zip_right : (R : A → B → Type 0) (F : A → Type 0) (G : B → Type 0) → ((x : A) (y : B) → R x y → F x → G y)
      → (xs : List A) (ys : List B) → AllZip R xs ys → AllByRecursion F xs → AllByRecursion G ys
  zip_right R F G to [] [] h all = tt
  zip_right R F G to [] (y ∷ ys) h all = absurd h
  zip_right R F G to (x ∷ xs) [] h all = absurd h
  zip_right R F G to (x ∷ xs) (y ∷ ys) h all = (to x y h.0 all.0, zip_right R F G to xs ys h.1 all.1)

  pub zip_left : (R : A → B → Type 0) (F : A → Type 0) (G : B → Type 0) → ((x : A) (y : B) → R x y → G y → F x)
      → (xs : List A) (ys : List B) → AllZip R xs ys → AllByRecursion G ys → AllByRecursion F xs
  zip_left R F G to [] [] h all = tt
  zip_left R F G to [] (y ∷ ys) h all = absurd h
  zip_left R F G to (x ∷ xs) [] h all = absurd h
  zip_left R F G to (x ∷ xs) (y ∷ ys) h all = (to x y h.0 all.0, zip_left R F G to xs ys h.1 all.1)

  pub zip_sums : (R : A → B → Type 0) (f : A → ℕ) (g : B → ℕ) → ((x : A) (y : B) → R x y → f x ≡ g y)
      → (xs : List A) (ys : List B) → AllZip R xs ys → sum_by f xs ≡ sum_by g ys
  zip_sums R f g same [] [] h = refl
  zip_sums R f g same [] (y ∷ ys) h = absurd h
  zip_sums R f g same (x ∷ xs) [] h = absurd h
  zip_sums R f g same (x ∷ xs) (y ∷ ys) h =
      omega (arith, sum_by-cons f x xs, sum_by-cons g y ys, same x y h.0, zip_sums R f g same xs ys h.1)

  -- what stands beside one list stands beside no other, where items stand beside one alone
  pub zip_once : (R : A → B → Type 0) → ((x : A) (y z : B) → R x y → R x z → y ≡ z) → (xs : List A) (ys zs : List B)
      → AllZip R xs ys → AllZip R xs zs → ys ≡ zs
  zip_once R once [] [] [] h k = refl
  zip_once R once [] [] (z ∷ zs) h k = absurd k
  zip_once R once [] (y ∷ ys) zs h k = absurd h
  zip_once R once (x ∷ xs) [] zs h k = absurd h
  zip_once R once (x ∷ xs) (y ∷ ys) [] h k = absurd k
  zip_once R once (x ∷ xs) (y ∷ ys) (z ∷ zs) h k =
      ap (λ (b : B). b ∷ ys) (once x y z h.0 k.0) ∙ ap (λ (bs : List B). z ∷ bs) (zip_once R once xs ys zs h.1 k.1)

  pub both_beside : (R : A → B → Type 0) (a : Option A) (b : Option B) (x : A) → AreBoth R a b → a ≡ Some x
      → IsBeside R x b
  both_beside R None None x h e = absurd cc
  both_beside R None (Some y) x h e = absurd h
  both_beside R (Some w) None x h e = absurd h
  both_beside R (Some w) (Some y) x h e =
      record { other = y; there = refl; beside = subst (λ z. R z y) (some_same w x e) h }
    where
      some_same : (w x : A) → ◌≡◌ {A = Option A} (Some w) (Some x) → w ≡ x
      some_same w x e = cc

  pub both_beside_left : (R : A → B → Type 0) (a : Option A) (b : Option B) (y : B) → AreBoth R a b → b ≡ Some y
      → IsBeside (λ (z : B) (x : A). R x z) y a
  both_beside_left R None None y h e = absurd cc
  both_beside_left R None (Some z) y h e = absurd h
  both_beside_left R (Some x) None y h e = absurd h
  both_beside_left R (Some x) (Some z) y h e =
      record { other = x; there = refl; beside = subst (λ w. R x w) (some_same z y e) h }
    where
      some_same : (w x : B) → ◌≡◌ {A = Option B} (Some w) (Some x) → w ≡ x
      some_same w x e = cc

  pub both_none : (R : A → B → Type 0) (a : Option A) (b : Option B) → AreBoth R a b → a ≡ None → b ≡ None
  both_none R None None h e = refl
  both_none R None (Some y) h e = absurd h
  both_none R (Some w) b h e = absurd cc

module _ {A B C D : Type 0} where
  pub zip_map : (R : A → B → Type 0) (S : C → D → Type 0) (f : A → C) (g : B → D)
      → ((x : A) (y : B) → R x y → S (f x) (g y)) → (xs : List A) (ys : List B) → AllZip R xs ys
      → AllZip S (map f xs) (map g ys)
  zip_map R S f g to [] [] h = tt
  zip_map R S f g to [] (y ∷ ys) h = absurd h
  zip_map R S f g to (x ∷ xs) [] h = absurd h
  zip_map R S f g to (x ∷ xs) (y ∷ ys) h = (to x y h.0, zip_map R S f g to xs ys h.1)
