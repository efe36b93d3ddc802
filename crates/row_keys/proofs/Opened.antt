-- Items opened one after another.
use Rattle.std.proofs.Common.{◌≡◌, ℕ, ◌+◌, ◌<◌, ◌≤◌, List, [], ◌∷◌, ◌++◌}
use Rattle.std.proofs.Common.{length, get_or, take, sym, ap, subst, ◌∙◌, arith}
use Rattle.std.specs.List.{AllZip}
use Rattle.std.proofs.lemmas.List.{take_all, take_more}
use Rattle.master_keys.proofs.SideBySide.{zip_at_item, zip_length, zip_more}

-- what the first items hold, and whatever all of them hold begins with it
pub record IsOpened {A B : Type 0} (R : A → B → Type 0) (items : List A) (keys : List B) (i : ℕ) : Type 0 where
  pub ok : AllZip R (take i items) keys
  pub only : (all : List B) → AllZip R items all → take i all ≡ keys

module _ {A B : Type 0} (R : A → B → Type 0) (items : List A) where
  pub opened_more : (keys new : List B) (i : ℕ) (x : A) (y : B) → i < length items → x ≡ get_or items i x → R x y
      → ((z : B) → R x z → y ≡ z) → new ≡ keys ++ y ∷ [] → IsOpened R items keys i → IsOpened R items new (i + 1)
  opened_more keys new i x y lt is here once is_new f = record {
    ok = subst (λ (ks : List B). AllZip R (take (i + 1) items) ks) (sym is_new)
        (zip_more R items keys i x y lt is f.ok here);
    only = λ all h.
        let len = zip_length R items all h in
        let same = once (get_or all i y) (zip_at_item R items all i x y h lt is) in
        take_more all i y (omega arith)
        ∙ ap (λ (front : List B). front ++ get_or all i y ∷ []) (f.only all h)
        ∙ ap (λ (z : B). keys ++ z ∷ []) (sym same)
        ∙ sym is_new;
  }

  pub opened_all : (keys : List B) (i : ℕ) → length items ≤ i → IsOpened R items keys i → AllZip R items keys
  opened_all keys i le f = subst (λ (xs : List A). AllZip R xs keys) (take_all i items le) f.ok

  pub opened_only : (keys all : List B) (i : ℕ) → length items ≤ i → IsOpened R items keys i
      → AllZip R items all → keys ≡ all
  opened_only keys all i le f h = let len =
      zip_length R items all h in sym (f.only all h) ∙ take_all i all (omega arith)

  -- what stands beside an item
  pub beside : (all : List B) (i : ℕ) (x : A) → i < length items → x ≡ get_or items i x → AllZip R items all
      → (y : B) × R x y
  beside all i x lt is h = next all i x lt is h (zip_length R items all h)
    where
      next : (all : List B) (i : ℕ) (x : A) → i < length items → x ≡ get_or items i x → AllZip R items all
          → length items ≡ length all → (y : B) × R x y
      next [] i x lt is h e = absurd (omega arith)
      next (b ∷ bs) i x lt is h e = (get_or (b ∷ bs) i b, zip_at_item R items (b ∷ bs) i x b h lt is)
