-- Lists by rising versions, and the same from behind.
use Rattle.std.proofs.Common.{◌≡◌, ℕ, ◌<◌, ◌≤◌, Bool, true, false, ◌&&◌, List, [], ◌∷◌, ◌++◌}
use Rattle.std.proofs.Common.{map, reverse, refl, sym, ap, subst, ◌∙◌, arith, inl, inr, ◌⊎◌}
use Rattle.std.specs.Prelude.{Some, filter, nat_le, ⊤}
use Rattle.std.specs.List.{AllByRecursion, list_all}
use Rattle.std.specs.List.Sorted.{IsStrictlySortedBy}
use Rattle.std.specs.Cmp.{ranked, nat_cmp_is}
use Rattle.std.specs.Ordering.{nat_cmp}
use Rattle.std.specs.declared.cmp.Ordering.TheVariants.{Less}
use Rattle.std.proofs.lemmas.Bool.{and_from, le-leb, ltb-true}
use Rattle.std.proofs.lemmas.List.{reverse-append}
use Rattle.kdb_base.specs.Versions.{AreRising}
use Rattle.kdb_base.specs.declared.versions.Activation.{Activation}
use Rattle.kdb_base.specs.declared.versions.Master.{Master}
use Rattle.key_activation.specs.Activations.{with_activation}
use Rattle.master_keys.specs.Versions.{last_version}
use Rattle.kdb_plain.specs.States.{master_in, may_follow, never_rise}
use Rattle.plain_keys.specs.declared.items.PlainItem.{PlainItem}

truth : (b : Bool) → (b ≡ true) ⊎ (b ≡ false)
truth true = inl refl
truth false = inr refl

-- ---- rising

module _ {X : Type 0} (version : X → ℕ) where
  abbrev pub AreAbove : ℕ → List X → Type 0
  AreAbove n xs = AllByRecursion (λ x. n < version x) xs

  abbrev pub AreBelow : ℕ → List X → Type 0
  AreBelow n xs = AllByRecursion (λ x. version x < n) xs

  -- `AreRising` over the items themselves
  abbrev pub Rises : List X → Type 0
  Rises [] = ⊤
  Rises (x ∷ xs) = AreAbove (version x) xs × Rises xs

  above : (n : ℕ) (xs : List X) → AllByRecursion (λ k. nat_cmp n k ≡ Less) (map version xs) → AreAbove n xs
  above n [] h = tt
  above n (x ∷ xs) h = (ranked n (version x) Less (sym h.0), above n xs h.1)

  pub rises : (xs : List X) → AreRising (map version xs) → Rises xs
  unfolding IsStrictlySortedBy
  rises [] h = tt
  rises (x ∷ xs) h = (above (version x) xs h.0, rises xs h.1)

  less : (n : ℕ) (xs : List X) → AreAbove n xs → AllByRecursion (λ k. nat_cmp n k ≡ Less) (map version xs)
  less n [] h = tt
  less n (x ∷ xs) h = (sym (nat_cmp_is n (version x) Less h.0), less n xs h.1)

  pub rising : (xs : List X) → Rises xs → AreRising (map version xs)
  unfolding IsStrictlySortedBy
  rising [] h = tt
  rising (x ∷ xs) h = (less (version x) xs h.0, rising xs h.1)

  farther : (m n : ℕ) (xs : List X) → m ≤ n → AreAbove n xs → AreAbove m xs
  farther m n [] le h = tt
  farther m n (x ∷ xs) le h = let lt = h.0 in (omega arith, farther m n xs le h.1)

  above_filter : (n : ℕ) (p : X → Bool) (xs : List X) → AreAbove n xs → AreAbove n (filter p xs)
  above_filter n p [] h = tt
  above_filter n p (x ∷ xs) h =
      elim (truth (p x)) [
        | inl e ↦ rw e (h.0, above_filter n p xs h.1)
        | inr e ↦ rw e (above_filter n p xs h.1)
      ]

  rises_filter : (p : X → Bool) (xs : List X) → Rises xs → Rises (filter p xs)
  rises_filter p [] h = tt
  rises_filter p (x ∷ xs) h =
      elim (truth (p x)) [
        | inl e ↦ rw e (above_filter (version x) p xs h.0, rises_filter p xs h.1)
        | inr e ↦ rw e (rises_filter p xs h.1)
      ]

  passed : (P : X → Type 0) (p : X → Bool) → ((x : X) → p x ≡ true → P x) → (xs : List X)
      → AllByRecursion P (filter p xs)
  passed P p is [] = tt
  passed P p is (x ∷ xs) =
      elim (truth (p x)) [
        | inl e ↦ rw e (is x e, passed P p is xs)
        | inr e ↦ rw e (passed P p is xs)
      ]

  above_joined : (n : ℕ) (xs ys : List X) → AreAbove n xs → AreAbove n ys → AreAbove n (xs ++ ys)
  above_joined n [] ys f g = g
  above_joined n (x ∷ xs) ys f g = (f.0, above_joined n xs ys f.1 g)

  joined : (xs : List X) (y : X) (ys : List X) → Rises xs → AreBelow (version y) xs → Rises (y ∷ ys)
      → Rises (xs ++ y ∷ ys)
  joined [] y ys f below g = g
  joined (x ∷ xs) y ys f below g =
      let lt = below.0 in (
        above_joined (version x) xs (y ∷ ys) f.0 (lt, farther (version x) (version y) ys (omega arith) g.0),
        joined xs y ys f.1 below.1 g,
      )

  -- some left out
  pub rising_filter : (p : X → Bool) (xs : List X) → AreRising (map version xs) → AreRising (map version (filter p xs))
  rising_filter p xs h = rising (filter p xs) (rises_filter p xs (rises xs h))

  -- one more behind
  pub rising_push : (xs : List X) (y : X) → AreRising (map version xs) → AreBelow (version y) xs
      → AreRising (map version (xs ++ y ∷ []))
  rising_push xs y h below = rising (xs ++ y ∷ []) (joined xs y [] (rises xs h) below (tt, tt))

  -- one between those below and those above
  pub rising_between : (low high : X → Bool) (y : X) (xs : List X) → AreRising (map version xs)
      → ((x : X) → low x ≡ true → version x < version y) → ((x : X) → high x ≡ true → version y < version x)
      → AreRising (map version (filter low xs ++ y ∷ filter high xs))
  rising_between low high y xs h below over =
      let all = rises xs h in
      rising (filter low xs ++ y ∷ filter high xs)
      (joined (filter low xs) y (filter high xs) (rises_filter low xs all)
      (passed (λ (x : X). version x < version y) low below xs)
      (passed (λ (x : X). version y < version x) high over xs, rises_filter high xs all))

pub activation_rising : (version secs : ℕ) (xs : List Activation) → AreRising (map (λ a. a.version) xs)
    → AreRising (map (λ a. a.version) (with_activation version secs xs))
unfolding with_activation
activation_rising version secs xs h =
    rising_between (λ (a : Activation). a.version) _ _ (record { version = version; secs = secs }) xs h
    (λ a e. ltb-true a.version version e) (λ a e. ltb-true version a.version e)

-- ---- the greatest is the last

up_to_last : (masters : List Master) → Rises (λ (m : Master). m.version) masters
    → AllByRecursion (λ (m : Master). m.version ≤ last_version masters) masters
unfolding last_version
up_to_last [] h = tt
up_to_last (m ∷ []) h = (omega arith, tt)
up_to_last (m ∷ n ∷ masters) h =
    let rest = up_to_last (n ∷ masters) h.1 in
    let next = rest.0 in
    let lt = h.0.0 in
    (omega arith, rest)

below_from : (n last : ℕ) (masters : List Master) → last < n → AllByRecursion (λ (m : Master). m.version ≤ last) masters
    → AreBelow (λ (m : Master). m.version) n masters
below_from n last [] lt h = tt
below_from n last (m ∷ masters) lt h = let le = h.0 in (omega arith, below_from n last masters lt h.1)

pub master_rising : (masters : List Master) (m : Master) → AreRising (map (λ (m : Master). m.version) masters)
    → last_version masters < m.version → AreRising (map (λ (m : Master). m.version) (masters ++ m ∷ []))
master_rising masters m h lt =
    rising_push (λ (m : Master). m.version) masters m h (below_from m.version (last_version masters) masters lt
    (up_to_last masters (rises (λ (m : Master). m.version) masters h)))

-- ---- from behind

abbrev Falls : List ℕ → Type 0
Falls [] = ⊤
Falls (v ∷ vs) = AllByRecursion (λ w. w ≤ v) vs × Falls vs

push_each : (P : ℕ → Type 0) (vs : List ℕ) (v : ℕ) → AllByRecursion P vs → P v → AllByRecursion P (vs ++ v ∷ [])
push_each P [] v h p = (p, tt)
push_each P (w ∷ vs) v h p = (h.0, push_each P vs v h.1 p)

push_falls : (vs : List ℕ) (v : ℕ) → Falls vs → AllByRecursion (λ w. v ≤ w) vs → Falls (vs ++ v ∷ [])
push_falls [] v h le = (tt, tt)
push_falls (w ∷ vs) v h le = (push_each (λ u. u ≤ w) vs v h.0 le.0, push_falls vs v h.1 le.1)

-- the versions of a list from behind
versions_behind : (x : Master) (xs : List Master) → map (λ (m : Master). m.version) (reverse (x ∷ xs))
    ≡ map (λ (m : Master). m.version) (reverse xs) ++ x.version ∷ []
versions_behind x xs = ap (map (λ (m : Master). m.version)) (reverse-append (x ∷ []) xs) ∙ pushed (reverse xs) x
  where
    pushed : (ys : List Master) (y : Master)
        → map (λ (m : Master). m.version) (ys ++ y ∷ []) ≡ map (λ (m : Master). m.version) ys ++ y.version ∷ []
    pushed [] y = refl
    pushed (z ∷ ys) y = ap (λ (vs : List ℕ). z.version ∷ vs) (pushed ys y)

each_behind : (n : ℕ) (masters : List Master) → AreAbove (λ (m : Master). m.version) n masters
    → AllByRecursion (λ w. n ≤ w) (map (λ (m : Master). m.version) (reverse masters))
each_behind n [] h = tt
each_behind n (m ∷ masters) h =
    let lt = h.0 in
    subst (λ (vs : List ℕ). AllByRecursion (λ w. n ≤ w) vs) (sym (versions_behind m masters))
    (push_each (λ w. n ≤ w) (map (λ (m : Master). m.version) (reverse masters)) m.version (each_behind n masters h.1)
    (omega arith))

falls_behind : (masters : List Master) → Rises (λ (m : Master). m.version) masters
    → Falls (map (λ (m : Master). m.version) (reverse masters))
falls_behind [] h = tt
falls_behind (m ∷ masters) h =
    subst Falls (sym (versions_behind m masters))
    (push_falls (map (λ (m : Master). m.version) (reverse masters)) m.version (falls_behind masters h.1)
    (each_behind m.version masters h.0))

versions_in : (keys : List PlainItem)
    → map (λ (m : Master). m.version) (map master_in keys) ≡ map (λ (k : PlainItem). k.kvno) keys
versions_in [] = refl
versions_in (k ∷ keys) = ap (λ (vs : List ℕ). k.kvno ∷ vs) (versions_in keys)

may_each : (k : PlainItem) (keys : List PlainItem)
    → AllByRecursion (λ w. w ≤ k.kvno) (map (λ (k : PlainItem). k.kvno) keys) → list_all (may_follow k) keys ≡ true
may_each k [] h = refl
may_each k (o ∷ keys) h =
    and_from (nat_le o.kvno k.kvno) (list_all (may_follow k) keys) (le-leb o.kvno k.kvno h.0) (may_each k keys h.1)

pub falls_never_rise : (keys : List PlainItem) → Falls (map (λ (k : PlainItem). k.kvno) keys) → never_rise keys ≡ true
unfolding never_rise
falls_never_rise [] h = refl
falls_never_rise (k ∷ keys) h =
    and_from (list_all (may_follow k) keys) (never_rise keys) (may_each k keys h.0) (falls_never_rise keys h.1)

-- keys that are the master keys from behind
pub masters_never_rise : (keys : List PlainItem) (masters : List Master) → map master_in keys ≡ reverse masters
    → AreRising (map (λ (m : Master). m.version) masters) → never_rise keys ≡ true
masters_never_rise keys masters is h =
    falls_never_rise keys (subst Falls (sym (ap (map (λ (m : Master). m.version)) is) ∙ versions_in keys)
    (falls_behind masters (rises (λ (m : Master). m.version) masters h)))
