-- What is left of a chain without some of its versions.
use Rattle.std.proofs.Common.{◌≡◌, ◌≢◌, ℕ, zero, suc, arith, Bool, true, false, List, [], ◌∷◌, ◌++◌, map}
use Rattle.std.proofs.Common.{reverse, get_or, append-nil, Option, Some, None, refl, sym, ap, subst, ◌∙◌}
use Rattle.std.specs.Prelude.{cond, filter, nat_eq, not, option_map, unwrap_or}
use Rattle.std.specs.List.{AllZip, Contains, last_or, list_any}
use Rattle.std.specs.Ordering.{nat_cmp}
use Rattle.std.proofs.lemmas.Bool.{eqb-true}
use Rattle.std.proofs.lemmas.List.{reverse-append}
use Rattle.std.proofs.lemmas.List.Elements.{filter-append}
use Rattle.std.proofs.lemmas.List.Folds.{Any-from_list_any}
use Rattle.std.proofs.lemmas.List.Kept.{IsStrictlySortedBy-filter}
use Rattle.kdb_base.specs.Versions.{AreRising}
use Rattle.kdb_base.specs.declared.versions.AuxKey.{AuxKey}
use Rattle.kdb_base.specs.declared.versions.Master.{Master}
use Rattle.princ_keys.specs.declared.keys.KeyItem.{KeyItem}
use Rattle.princ_record.specs.declared.princs.Princ.{Princ}
use Rattle.master_keys.specs.Chain.{IsAuxOf, IsChain, IsKeyOf}
use Rattle.master_keys.specs.Purging.{live_masters, live_part, purged_record}
use Rattle.master_keys.specs.Versions.{is_live, last_version}

-- ---- filters

map_step : {A B : Type 0} (f : A → B) (b : Bool) (x : A) (l : List A) (r : List B) → map f l ≡ r
    → map f (cond b (x ∷ l) l) ≡ cond b (f x ∷ r) r
map_step f true x l r e = ap (λ ys. f x ∷ ys) e
map_step f false x l r e = e

map_filter : {A B : Type 0} (f : A → B) (p : B → Bool) (xs : List A)
    → map f (filter (λ x. p (f x)) xs) ≡ filter p (map f xs)
map_filter f p [] = refl
map_filter f p (x ∷ xs) = map_step f (p (f x)) x _ _ (map_filter f p xs)

-- a list by rising versions still is, without some
pub rising_filter : {A : Type 0} (version : A → ℕ) (p : ℕ → Bool) (old new : List A) → AreRising (map version old)
    → new ≡ filter (λ x. p (version x)) old → AreRising (map version new)
rising_filter version p old new h is =
    subst AreRising (sym (ap (map version) is ∙ map_filter version p old))
    (IsStrictlySortedBy-filter nat_cmp p (map version old) h)

last_kept : {A : Type 0} (p : A → Bool) (xs : List A) (x : A) → p x ≡ true
    → filter p (xs ++ x ∷ []) ≡ filter p xs ++ x ∷ []
last_kept p xs x is = filter-append p xs (x ∷ []) ∙ ap (λ (b : Bool). filter p xs ++ cond b (x ∷ []) []) is

reverse_step : {A : Type 0} (b : Bool) (x : A) (xs : List A)
    → reverse xs ++ cond b (x ∷ []) [] ≡ reverse (cond b (x ∷ xs) xs)
reverse_step true x xs = sym (reverse-append (x ∷ []) xs)
reverse_step false x xs = append-nil (reverse xs)

filter_reverse : {A : Type 0} (p : A → Bool) (xs : List A) → filter p (reverse xs) ≡ reverse (filter p xs)
filter_reverse p [] = refl
filter_reverse p (x ∷ xs) =
    ap (filter p) (reverse-append (x ∷ []) xs)
    ∙ filter-append p (reverse xs) (x ∷ [])
    ∙ ap (λ ys. ys ++ cond (p x) (x ∷ []) []) (filter_reverse p xs)
    ∙ reverse_step (p x) x (filter p xs)

zip_step : {A B : Type 0} (R : A → B → Type 0) (b : Bool) (x : A) (y : B) (xs : List A) (ys : List B) → R x y
    → AllZip R xs ys → AllZip R (cond b (x ∷ xs) xs) (cond b (y ∷ ys) ys)
zip_step R true x y xs ys r h = (r, h)
zip_step R false x y xs ys r h = h

-- two lists that lose the same places still stand side by side
zip_filter : {A B : Type 0} (R : A → B → Type 0) (p : A → Bool) (q : B → Bool) → ((x : A) (y : B) → R x y → p x ≡ q y)
    → (xs : List A) (ys : List B) → AllZip R xs ys → AllZip R (filter p xs) (filter q ys)
zip_filter R p q same [] [] h = tt
zip_filter R p q same [] (y ∷ ys) h = absurd h
zip_filter R p q same (x ∷ xs) [] h = absurd h
zip_filter R p q same (x ∷ xs) (y ∷ ys) h =
    subst (λ b. AllZip R (filter p (x ∷ xs)) (cond b (y ∷ filter q ys) (filter q ys))) (same x y h.0)
    (zip_step R (p x) x y (filter p xs) (filter q ys) h.0 (zip_filter R p q same xs ys h.1))

-- ---- the last version

last_or_push : {A : Type 0} (o : Option A) (xs : List A) (x : A) → last_or o (xs ++ x ∷ []) ≡ Some x
last_or_push o [] x = refl
last_or_push o (y ∷ xs) x = last_or_push (Some y) xs x

pub last_version_push : (older : List Master) (m : Master) → last_version (older ++ m ∷ []) ≡ m.version
unfolding last_version
last_version_push older m =
    ap (λ (o : Option Master). unwrap_or (option_map (λ (x : Master). x.version) o) 0) (last_or_push None older m)

-- the record names the last version
pub last_is_named : (entry : Princ) (masters : List Master) → IsChain entry masters → last_version masters ≡ entry.mkvno
last_is_named entry masters h = ap last_version h.under.masters_are
    ∙ last_version_push h.under.older (record { version = entry.mkvno; key = h.newest })

live_cases : (dead : List ℕ) (version : ℕ) (b : Bool) → list_any (λ v. nat_eq v version) dead ≡ b
    → (Contains dead version → ⊥) → not b ≡ true
live_cases dead version false is none = refl
live_cases dead version true is none =
    let found = Any-from_list_any (λ (v : ℕ). nat_eq v version) dead is in
    absurd (none (
      found.0,
      found.2,
      subst (λ (v : ℕ). get_or dead found.0 v ≡ v) (eqb-true found.1 version found.4) found.3,
    ))

pub live_if_absent : (dead : List ℕ) (version : ℕ) → (Contains dead version → ⊥) → is_live dead version ≡ true
unfolding is_live
live_if_absent dead version none = live_cases dead version (list_any (λ (v : ℕ). nat_eq v version) dead) refl none

-- ---- what is left

module _ (dead : List ℕ) (entry : Princ) (masters : List Master) (h : IsChain entry masters)
    (stays : is_live dead entry.mkvno ≡ true) where
  live_newest : live_masters dead masters
      ≡ live_masters dead h.under.older ++ record { version = entry.mkvno; key = h.newest } ∷ []
  unfolding live_masters
  live_newest =
      ap (filter (λ (m : Master). is_live dead m.version)) h.under.masters_are
      ∙ last_kept (λ (m : Master). is_live dead m.version) h.under.older
      (record { version = entry.mkvno; key = h.newest }) stays

  live_rising : AreRising (map (λ m. m.version) (live_masters dead masters))
  unfolding live_masters
  live_rising =
      rising_filter (λ (m : Master). m.version) (is_live dead) masters (live_masters dead masters) h.under.rising refl

  live_keys_of : AllZip (IsKeyOf h.newest) (filter (λ k. is_live dead k.kvno) entry.keys)
      (reverse (live_masters dead masters))
  unfolding live_masters
  live_keys_of =
      subst (λ (ms : List Master).
      AllZip (IsKeyOf h.newest) (filter (λ (k : KeyItem). is_live dead k.kvno) entry.keys) ms)
      (filter_reverse (λ (m : Master). is_live dead m.version) masters)
      (zip_filter (IsKeyOf h.newest) (λ (k : KeyItem). is_live dead k.kvno) (λ (m : Master). is_live dead m.version)
      (λ k m r. ap (is_live dead) r.version) entry.keys (reverse masters) h.under.keys)

  live_aux_of : AllZip (IsAuxOf h.newest) (filter (λ a. is_live dead a.version) h.under.part.aux)
      (live_masters dead h.under.older)
  unfolding live_masters
  live_aux_of =
      zip_filter (IsAuxOf h.newest) (λ (a : AuxKey). is_live dead a.version) (λ (m : Master). is_live dead m.version)
      (λ a m r. ap (is_live dead) r.version) h.under.part.aux h.under.older h.under.aux

  chain_left : IsChain (purged_record dead entry) (live_masters dead masters)
  unfolding purged_record live_part
  chain_left = record {
    newest = h.newest;
    under = record {
      older = live_masters dead h.under.older;
      masters_are = live_newest;
      rising = live_rising;
      keys = live_keys_of;
      part = live_part dead h.under.part;
      part_is = ap (option_map (live_part dead)) h.under.part_is;
      aux = live_aux_of;
    };
  }

-- without versions other than the newest, a chain is one
pub live_chain_is : (dead : List ℕ) (entry : Princ) (masters : List Master) → IsChain entry masters
    → (Contains dead (last_version masters) → ⊥) → IsChain (purged_record dead entry) (live_masters dead masters)
live_chain_is dead entry masters h none =
    chain_left dead entry masters h
    (live_if_absent dead entry.mkvno (subst (λ (v : ℕ). Contains dead v → ⊥) (last_is_named entry masters h) none))

-- ---- in a test

pub not_alone : (v w : ℕ) → v ≢ w → Contains (v ∷ []) w → ⊥
not_alone v w other (zero, lt, is) = other is
not_alone v w other (suc k, lt, is) = omega arith
