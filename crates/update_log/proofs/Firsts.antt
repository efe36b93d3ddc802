-- The first number that passes a test, and the entry of the greatest serial.
use Rattle.std.proofs.Common.{◌≡◌, ℕ, zero, suc, ◌+◌, ◌<◌, ◌≤◌, ◌⊎◌, inl, inr, ⊎_elim, Bool, true}
use Rattle.std.proofs.Common.{false, cond, ltb, Option, Some, None, refl, sym, ◌∙◌, ap, subst, arith}
use Rattle.std.proofs.lemmas.Bool.{cases_eq, cases_lt, cond-true, cond-false, lt-ltb, le-ltb}
use Rattle.std.proofs.lemmas.Option.{same_Some}
use Rattle.princ_rows.specs.declared.entries.Logged.{Logged}
use Rattle.update_log.specs.Runs.{first_of, later, last_upto}

-- ---- the first that passes a test

pub first_none : (test : ℕ → Bool) (k n : ℕ) → ((i : ℕ) → k ≤ i → i < k + n → test i ≡ false) → first_of test k n ≡ None
unfolding first_of
first_none test k zero all = refl
first_none test k (suc n) all =
    cond-false (test k) (Some k) (first_of test (k + 1) n) (all k (omega arith) (omega arith))
    ∙ first_none test (k + 1) n (λ i ge lt. all i (omega (arith, ge)) (omega (arith, lt)))

none_step : (b : Bool) (k : ℕ) (rest : Option ℕ) → cond b (Some k) rest ≡ None → (b ≡ false) × (rest ≡ None)
none_step true k rest is = absurd cc
none_step false k rest is = (refl, is)

pub none_first : (test : ℕ → Bool) (k n : ℕ) → first_of test k n ≡ None → (i : ℕ) → k ≤ i → i < k + n → test i ≡ false
unfolding first_of
none_first test k zero none i ge lt = absurd (omega (arith, ge, lt))
none_first test k (suc n) none i ge lt =
    let step = none_step (test k) k (first_of test (k + 1) n) none in
    ⊎_elim
    (λ same. subst (λ (j : ℕ). test j ≡ false) (sym same) step.0)
    (λ other. none_first test (k + 1) n step.1 i (omega (arith, ge, other)) (omega (arith, lt)))
    (cases_eq i k)

-- the first that passes, where those before it do not
pub first_found : (test : ℕ → Bool) (k n i : ℕ) → k ≤ i → i < k + n → test i ≡ true
    → ((j : ℕ) → k ≤ j → j < i → test j ≡ false) → first_of test k n ≡ Some i
unfolding first_of
first_found test k zero i ge lt here before = absurd (omega (arith, ge, lt))
first_found test k (suc n) i ge lt here before = ⊎_elim
    (λ same.
    cond-true (test k) (Some k) (first_of test (k + 1) n) (subst (λ (j : ℕ). test j ≡ true) same here)
    ∙ ap Some (sym same))
    (λ other.
    cond-false (test k) (Some k) (first_of test (k + 1) n) (before k (omega arith) (omega (arith, ge, other)))
    ∙ first_found test (k + 1) n i (omega (arith, ge, other)) (omega (arith, lt)) here
    (λ j ge' lt'. before j (omega (arith, ge')) lt'))
    (cases_eq i k)

-- ---- the entry of the greatest serial

-- an entry comes before this one, or is it
abbrev pub Below : Logged → Option Logged → Type 0
Below l None = Unit {0}
Below l (Some a) = (a.entry.point.sno < l.entry.point.sno) ⊎ (a ≡ l)

pick_below : (l : Logged) (test : Bool) (a b : Option Logged) → Below l a → Below l b → Below l (cond test a b)
pick_below l true a b x y = x
pick_below l false a b x y = y

later_below : (l : Logged) (a b : Option Logged) → Below l a → Below l b → Below l (later a b)
later_below l None b x y = y
later_below l (Some a) None x y = x
later_below l (Some a) (Some b) x y = pick_below l (ltb a.entry.point.sno b.entry.point.sno) (Some b) (Some a) y x

pick_same : (l a : Logged) (test : Bool) → a ≡ l
    → (cond test (Some l) (Some a) ≡ Some l) × (cond test (Some a) (Some l) ≡ Some l)
pick_same l a true same = (refl, ap Some same)
pick_same l a false same = (ap Some same, refl)

later_here : (l : Logged) (a : Option Logged) → Below l a → later a (Some l) ≡ Some l
later_here l None below = refl
later_here l (Some a) (inl lt) = cond-true (ltb a.entry.point.sno l.entry.point.sno) (Some l) (Some a) (lt-ltb _ _ lt)
later_here l (Some a) (inr same) = (pick_same l a (ltb a.entry.point.sno l.entry.point.sno) same).0

later_stays : (l : Logged) (b : Option Logged) → Below l b → later (Some l) b ≡ Some l
later_stays l None below = refl
later_stays l (Some b) (inl lt) =
    cond-false (ltb l.entry.point.sno b.entry.point.sno) (Some b) (Some l) (le-ltb _ _ (omega (arith, lt)))
later_stays l (Some b) (inr same) = (pick_same l b (ltb l.entry.point.sno b.entry.point.sno) same).1

pub last_below : (at : ℕ → Option Logged) (l : Logged) (n : ℕ) → ((k : ℕ) → k < n → Below l (at k))
    → Below l (last_upto at n)
unfolding last_upto
last_below at l zero all = tt
last_below at l (suc n) all =
    later_below l (last_upto at n) (at n) (last_below at l n (λ k lt. all k (omega (arith, lt)))) (all n (omega arith))

pub last_found : (at : ℕ → Option Logged) (l : Logged) (n k : ℕ) → k < n → at k ≡ Some l
    → ((i : ℕ) → i < n → Below l (at i)) → last_upto at n ≡ Some l
unfolding last_upto
last_found at l zero k lt here all = absurd (omega (arith, lt))
last_found at l (suc n) k lt here all = ⊎_elim
    (λ same.
    ap (later (last_upto at n)) (ap at (sym same) ∙ here)
    ∙ later_here l (last_upto at n) (last_below at l n (λ i under. all i (omega (arith, under)))))
    (λ other.
    ap (λ (o : Option Logged). later o (at n)) (last_found at l n k (omega (arith, lt, other)) here
    (λ i under. all i (omega (arith, under)))) ∙ later_stays l (at n) (all n (omega arith)))
    (cases_eq k n)

-- ---- what is known of it

-- No entry has a greater serial, and it stands in one of the slots.
pub record IsLast (at : ℕ → Option Logged) (n : ℕ) (l : Logged) : Type 0 where
  pub slot : ℕ
  pub within : slot < n
  pub here : at slot ≡ Some l
  pub greatest : (k : ℕ) (a : Logged) → k < n → at k ≡ Some a → a.entry.point.sno ≤ l.entry.point.sno

-- No entry stands in so many slots.
pub record AreEmpty (at : ℕ → Option Logged) (n : ℕ) : Type 0 where
  pub none : (k : ℕ) → k < n → at k ≡ None

abbrev pub LastIs : (ℕ → Option Logged) → ℕ → Option Logged → Type 0
LastIs at n None = AreEmpty at n
LastIs at n (Some l) = IsLast at n l

-- with one slot more, in which none stands
more_none : (at : ℕ → Option Logged) (n : ℕ) (o : Option Logged) → LastIs at n o → at n ≡ None → LastIs at (suc n) o
more_none at n None empty none = record {
  none = λ k lt. ⊎_elim (λ same. ap at same ∙ none) (λ other. empty.none k (omega (arith, lt, other))) (cases_eq k n);
}
more_none at n (Some l) last none = record {
  slot = last.slot;
  within = let lt = last.within in omega (arith, lt);
  here = last.here;
  greatest = λ k a lt is. ⊎_elim
      (λ same. let no_entry : Some a ≡ None = sym is ∙ ap at same ∙ none in absurd cc)
      (λ other. last.greatest k a (omega (arith, lt, other)) is)
      (cases_eq k n);
}

-- with one slot more, whose entry is the greatest
more_here : (at : ℕ → Option Logged) (n : ℕ) (b : Logged) → at n ≡ Some b
    → ((k : ℕ) (a : Logged) → k < n → at k ≡ Some a → a.entry.point.sno ≤ b.entry.point.sno) → IsLast at (suc n) b
more_here at n b here below = record {
  slot = n;
  within = omega arith;
  here = here;
  greatest = λ k a lt is. ⊎_elim
      (λ same. let e : a ≡ b =
      same_Some a b (sym is ∙ ap at same ∙ here) in omega (arith, ap (λ (x : Logged). x.entry.point.sno) e))
      (λ other. below k a (omega (arith, lt, other)) is)
      (cases_eq k n);
}

-- or is not
more_stays : (at : ℕ → Option Logged) (n : ℕ) (l b : Logged) → IsLast at n l → at n ≡ Some b
    → b.entry.point.sno ≤ l.entry.point.sno → IsLast at (suc n) l
more_stays at n l b last here le = record {
  slot = last.slot;
  within = let lt = last.within in omega (arith, lt);
  here = last.here;
  greatest = λ k a lt is. ⊎_elim
      (λ same. let e : a ≡ b =
      same_Some a b (sym is ∙ ap at same ∙ here) in omega (arith, ap (λ (x : Logged). x.entry.point.sno) e, le))
      (λ other. last.greatest k a (omega (arith, lt, other)) is)
      (cases_eq k n);
}

last_step : (at : ℕ → Option Logged) (n : ℕ) (o here : Option Logged) → at n ≡ here → LastIs at n o
    → LastIs at (suc n) (later o here)
last_step at n None None is empty = more_none at n None empty is
last_step at n None (Some b) is empty =
    more_here at n b is (λ k a lt there. let no_entry : Some a ≡ None = sym there ∙ empty.none k lt in absurd cc)
last_step at n (Some l) None is last = more_none at n (Some l) last is
last_step at n (Some l) (Some b) is last = ⊎_elim
    (λ lt.
    subst (LastIs at (suc n))
    (sym (cond-true (ltb l.entry.point.sno b.entry.point.sno) (Some b) (Some l) (lt-ltb _ _ lt)))
    (more_here at n b is (λ k a under there. let le = last.greatest k a under there in omega (arith, le, lt))))
    (λ ge.
    subst (LastIs at (suc n))
    (sym (cond-false (ltb l.entry.point.sno b.entry.point.sno) (Some b) (Some l) (le-ltb _ _ ge)))
    (more_stays at n l b last is ge))
    (cases_lt l.entry.point.sno b.entry.point.sno)

pub last_is : (at : ℕ → Option Logged) (n : ℕ) → LastIs at n (last_upto at n)
unfolding last_upto
last_is at zero = record { none = λ k lt. absurd (omega (arith, lt)) }
last_is at (suc n) = last_step at n (last_upto at n) (at n) refl (last_is at n)
