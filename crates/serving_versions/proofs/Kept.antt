-- Filters that keep what is looked for.
use Rattle.std.proofs.Common.{◌≡◌, Bool, true, false, List, [], ◌∷◌, ◌++◌, map, reverse, Option}
use Rattle.std.proofs.Common.{Some, None, refl, sym, ap, ◌∙◌, ◌⊎◌, inl, inr, append-nil}
use Rattle.std.specs.Prelude.{cond, filter, find, is_some}
use Rattle.std.specs.List.{last_or}
use Rattle.std.specs.Option.{option_or}
use Rattle.std.proofs.lemmas.List.{reverse-append}
use Rattle.std.proofs.lemmas.List.Elements.{filter-append}
use Rattle.std.proofs.lemmas.List.Folds.{find-append}

truth : (b : Bool) → (b ≡ true) ⊎ (b ≡ false)
truth true = inl refl
truth false = inr refl

module _ {A : Type 0} where
  kept : (p : A → Bool) (x : A) (xs : List A) → p x ≡ true → filter p (x ∷ xs) ≡ x ∷ filter p xs
  kept p x xs e = rw e refl

  left_out : (p : A → Bool) (x : A) (xs : List A) → p x ≡ false → filter p (x ∷ xs) ≡ filter p xs
  left_out p x xs e = rw e refl

  here : (t : A → Bool) (x : A) (xs : List A) → t x ≡ true → find t (x ∷ xs) ≡ Some x
  here t x xs e = rw e refl

  later : (t : A → Bool) (x : A) (xs : List A) → t x ≡ false → find t (x ∷ xs) ≡ find t xs
  later t x xs e = rw e refl

  -- a filter that keeps what a search may find
  pub find_kept : (t p : A → Bool) → ((x : A) → t x ≡ true → p x ≡ true) → (xs : List A)
      → find t (filter p xs) ≡ find t xs
  find_kept t p keeps [] = refl
  find_kept t p keeps (x ∷ xs) =
      elim (truth (t x)) [
        | inl e ↦ ap (find t) (kept p x xs (keeps x e)) ∙ here t x (filter p xs) e ∙ sym (here t x xs e)
        | inr e ↦
            let rest = find_kept t p keeps xs ∙ sym (later t x xs e) in
            elim (truth (p x)) [
              | inl k ↦ ap (find t) (kept p x xs k) ∙ later t x (filter p xs) e ∙ rest
              | inr k ↦ ap (find t) (left_out p x xs k) ∙ rest
            ]
      ]

  or_there : (a b : Option A) → is_some a ≡ true → is_some (option_or a b) ≡ true
  or_there None b e = absurd cc
  or_there (Some x) b e = refl

  or_behind : (a : Option A) (x : A) → is_some (option_or a (Some x)) ≡ true
  or_behind None x = refl
  or_behind (Some y) x = refl

  -- what is found is found in a longer list
  pub find_in_front : (t : A → Bool) (xs ys : List A) → is_some (find t xs) ≡ true → is_some (find t (xs ++ ys)) ≡ true
  find_in_front t xs ys e = ap is_some (find-append t xs ys) ∙ or_there (find t xs) (find t ys) e

  pub find_last : (t : A → Bool) (xs : List A) (x : A) → t x ≡ true → is_some (find t (xs ++ x ∷ [])) ≡ true
  find_last t xs x e = ap is_some (find-append t xs (x ∷ []))
      ∙ ap (λ (o : Option A). is_some (option_or (find t xs) o)) (here t x [] e) ∙ or_behind (find t xs) x

  -- ---- the last

  pub last_push : (o : Option A) (xs : List A) (x : A) → last_or o (xs ++ x ∷ []) ≡ Some x
  last_push o [] x = refl
  last_push o (y ∷ xs) x = last_push (Some y) xs x

  same_passes : (p : A → Bool) (x y : A) → ◌≡◌ {A = Option A} (Some y) (Some x) → p x ≡ true → p y ≡ false → ⊥
  same_passes p x y e a b = cc

  last_from : (p : A → Bool) (x : A) → p x ≡ true → (xs : List A) (o left : Option A) → last_or o xs ≡ Some x
      → (o ≡ Some x → left ≡ Some x) → last_or left (filter p xs) ≡ Some x
  last_from p x passes [] o left is known = known is
  last_from p x passes (y ∷ ys) o left is known =
      elim (truth (p y)) [
        | inl e ↦ ap (last_or left) (kept p y ys e) ∙ last_from p x passes ys (Some y) (Some y) is (λ same. same)
        | inr e ↦ ap (last_or left) (left_out p y ys e)
            ∙ last_from p x passes ys (Some y) left is (λ same. absurd (same_passes p x y same passes e))
      ]

  -- a filter that keeps the last
  pub last_kept : (p : A → Bool) (xs : List A) (x : A) → p x ≡ true → last_or None xs ≡ Some x
      → last_or None (filter p xs) ≡ Some x
  last_kept p xs x passes is = last_from p x passes xs None None is (λ same. same)

  -- ---- from behind

  reverse_step : (b : Bool) (x : A) (xs : List A) → reverse xs ++ cond b (x ∷ []) [] ≡ reverse (cond b (x ∷ xs) xs)
  reverse_step true x xs = sym (reverse-append (x ∷ []) xs)
  reverse_step false x xs = append-nil (reverse xs)

  pub filter_reverse : (p : A → Bool) (xs : List A) → filter p (reverse xs) ≡ reverse (filter p xs)
  filter_reverse p [] = refl
  filter_reverse p (x ∷ xs) =
      ap (filter p) (reverse-append (x ∷ []) xs)
      ∙ filter-append p (reverse xs) (x ∷ [])
      ∙ ap (λ ys. ys ++ cond (p x) (x ∷ []) []) (filter_reverse p xs)
      ∙ reverse_step (p x) x (filter p xs)

map_step : {A B : Type 0} (f : A → B) (b : Bool) (x : A) (l : List A) (r : List B) → map f l ≡ r
    → map f (cond b (x ∷ l) l) ≡ cond b (f x ∷ r) r
map_step f true x l r e = ap (λ ys. f x ∷ ys) e
map_step f false x l r e = e

pub map_filter : {A B : Type 0} (f : A → B) (p : B → Bool) (xs : List A)
    → map f (filter (λ x. p (f x)) xs) ≡ filter p (map f xs)
map_filter f p [] = refl
map_filter f p (x ∷ xs) = map_step f (p (f x)) x _ _ (map_filter f p xs)
