-- The latest of a list: it is in the list, and no other is later.
use Rattle.std.proofs.Common.{◌≡◌, ℕ, zero, suc, ◌<◌, ◌≤◌, Bool, true, false, ◌&&◌, eqb, ltb, leb, List, []}
use Rattle.std.proofs.Common.{◌∷◌, Option, Some, None, refl, sym, ap, subst, ◌∙◌, arith, ◌⊎◌, inl, inr, eq-eqb}
use Rattle.std.specs.Prelude.{Contains, option_map}
use Rattle.std.specs.List.{AllByRecursion, fold}
use Rattle.std.proofs.lemmas.Bool.{and_parts, cases_lt, eqb-true, leb-true, le-leb, lt-leb, lt-ltb, le-ltb, ltb-true}
use Rattle.std.proofs.lemmas.List.Elements.{All-contains, All-from_recursion, All-weaker}
use Rattle.std.proofs.lemmas.Option.{same_Some, none-some}
use Rattle.kdb_base.specs.declared.versions.Activation.{Activation}
use Rattle.key_activation.specs.Activations.{begun, IsUpTo, IsActive, NoneBegun, is_later, later, latest, active}

pub truth : (b : Bool) → (b ≡ true) ⊎ (b ≡ false)
truth true = inl refl
truth false = inr refl

-- ---- the order

abbrev IsBelow : Activation → Activation → Type 0
IsBelow b a = IsUpTo b.secs b.version a

through : (c b a : Activation) → IsBelow c b → IsBelow b a → IsBelow c a
through c b a (inl x) (inl y) = inl (omega arith)
through c b a (inl x) (inr y) = let same = y.0 in inl (omega arith)
through c b a (inr x) (inl y) = let same = x.0 in inl (omega arith)
through c b a (inr x) (inr y) = let p = x.1 in let q = y.1 in inr (y.0 ∙ x.0, omega arith)

itself : (a : Activation) → IsBelow a a
itself a = inr (refl, omega arith)

later_below : (a b : Activation) → is_later a b ≡ true → IsBelow a b
later_below a b e =
    elim (cases_lt b.secs a.secs) [
      | inl lt ↦ inl lt
      | inr from ↦
          let none = le-ltb b.secs a.secs from in
          let tie : is_later a b ≡ (eqb b.secs a.secs && ltb b.version a.version) = rw none refl in
          let p = and_parts (eqb b.secs a.secs) (ltb b.version a.version) (sym tie ∙ e) in
          let less = ltb-true b.version a.version p.1 in
          inr (eqb-true b.secs a.secs p.0, omega arith)
    ]

not_later_below : (a b : Activation) → is_later a b ≡ false → IsBelow b a
not_later_below a b e =
    elim (cases_lt b.secs a.secs) [
      | inl lt ↦ let yes = lt-ltb b.secs a.secs lt in let is : is_later a b ≡ true = rw yes refl in absurd cc
      | inr from ↦
          elim (cases_lt a.secs b.secs) [
            | inl lt ↦ inl lt
            | inr to ↦
                let same : a.secs ≡ b.secs = omega arith in
                elim (cases_lt b.version a.version) [
                  | inl lt ↦
                      let none = le-ltb b.secs a.secs from in
                      let tie = eq-eqb b.secs a.secs (sym same) in
                      let less = lt-ltb b.version a.version lt in
                      let is : is_later a b ≡ true = rw (none, tie, less) refl in
                      absurd cc
                  | inr le ↦ inr (same, le)
                ]
          ]
    ]

record IsLaterOf (a b m : Activation) : Type 0 where
  one : (m ≡ a) ⊎ (m ≡ b)
  first : IsBelow m a
  second : IsBelow m b

later_of : (a b : Activation) → IsLaterOf a b (later a b)
unfolding later
later_of a b =
    elim (truth (is_later a b)) [
      | inl e ↦ rw e (record { one = inl refl; first = itself a; second = later_below a b e })
      | inr e ↦ rw e (record { one = inr refl; first = not_later_below a b e; second = itself b })
    ]

-- ---- the latest

behind : (x y : Activation) (xs : List Activation) → Contains xs y → Contains (x ∷ xs) y
behind x y xs h = let lt = h.1 in (suc h.0, omega arith, h.2)

record IsTop (first : Activation) (xs : List Activation) (m : Activation) : Type 0 where
  one : (m ≡ first) ⊎ Contains xs m
  above : IsBelow m first
  all : AllByRecursion (IsBelow m) xs

top : (a : Activation) (xs : List Activation) → IsTop a xs (fold later a xs)
top a [] = record { one = inl refl; above = itself a; all = tt }
top a (x ∷ xs) =
    let t = top (later a x) xs in
    let l = later_of a x in
    let m = fold later (later a x) xs in
    record {
      one = elim t.one [
        | inl is ↦
            elim l.one [
              | inl old ↦ inl (is ∙ old)
              | inr new ↦ inr (0, omega arith, sym (is ∙ new))
            ]
        | inr within ↦ inr (behind x m xs within)
      ];
      above = through m (later a x) a t.above l.first;
      all = (through m (later a x) x t.above l.second, t.all);
    }

record IsLatest (xs : List Activation) (m : Activation) : Type 0 where
  one : Contains xs m
  all : AllByRecursion (IsBelow m) xs

latest_is : (xs : List Activation) (m : Activation) → latest xs ≡ Some m → IsLatest xs m
unfolding latest
latest_is [] m e = absurd (none-some m e)
latest_is (x ∷ xs) m e =
    let t = top x xs in
    let is : fold later x xs ≡ m = same_Some (fold later x xs) m e in
    rw (← is) (record {
      one = elim t.one [
        | inl first ↦ (0, omega arith, sym first)
        | inr within ↦ behind x (fold later x xs) xs within
      ];
      all = (t.above, t.all);
    })

no_latest : (xs : List Activation) → latest xs ≡ None → xs ≡ []
unfolding latest
no_latest [] e = refl
no_latest (x ∷ xs) e = absurd (none-some (fold later x xs) (sym e))

-- ---- among those that began

-- the first, or one behind it
first_or : (x m : Activation) (xs ys : List Activation) (P : Activation → Type 0) → P x
    → (Contains ys m → Contains xs m × P m) → Contains (x ∷ ys) m → Contains (x ∷ xs) m × P m
first_or x m xs ys P here others (zero, lt, is) = ((0, omega arith, is), subst P is here)
first_or x m xs ys P here others (suc k, lt, is) = let f = others (k, omega arith, is) in (behind x m xs f.0, f.1)

begun_in : (secs : ℕ) (xs : List Activation) (m : Activation) → Contains (begun secs xs) m
    → Contains xs m × (m.secs ≤ secs)
unfolding begun
begun_in secs [] m h = let lt = h.1 in absurd (omega arith)
begun_in secs (x ∷ xs) m h =
    elim (truth (leb x.secs secs)) [
      | inl e ↦
          let kept : begun secs (x ∷ xs) ≡ x ∷ begun secs xs = rw e refl in
          first_or x m xs (begun secs xs) (λ a. a.secs ≤ secs) (leb-true x.secs secs e) (λ f. begun_in secs xs m f)
          (subst (λ (zs : List Activation). Contains zs m) kept h)
      | inr e ↦
          let left : begun secs (x ∷ xs) ≡ begun secs xs = rw e refl in
          let others = begun_in secs xs m (subst (λ (zs : List Activation). Contains zs m) left h) in
          (behind x m xs others.0, others.1)
    ]

begun_all : (P : Activation → Type 0) (secs : ℕ) (xs : List Activation) → AllByRecursion P (begun secs xs)
    → AllByRecursion (λ a. a.secs ≤ secs → P a) xs
unfolding begun
begun_all P secs [] h = tt
begun_all P secs (x ∷ xs) h =
    elim (truth (leb x.secs secs)) [
      | inl e ↦
          let kept : begun secs (x ∷ xs) ≡ x ∷ begun secs xs = rw e refl in
          let both : AllByRecursion P (x ∷ begun secs xs) =
          subst (λ (zs : List Activation). AllByRecursion P zs) kept h in
          (λ _. both.0, begun_all P secs xs both.1)
      | inr e ↦
          let left : begun secs (x ∷ xs) ≡ begun secs xs = rw e refl in
          let others : AllByRecursion P (begun secs xs) =
          subst (λ (zs : List Activation). AllByRecursion P zs) left h in
          (λ le. let yes = le-leb x.secs secs le in absurd cc, begun_all P secs xs others)
    ]

none_begun : (secs : ℕ) (xs : List Activation) → begun secs xs ≡ [] → AllByRecursion (λ a. secs < a.secs) xs
unfolding begun
none_begun secs [] e = tt
none_begun secs (x ∷ xs) e =
    elim (cases_lt secs x.secs) [
      | inl lt ↦
          let no = lt-leb x.secs secs lt in
          let left : begun secs (x ∷ xs) ≡ begun secs xs = rw no refl in
          (lt, none_begun secs xs (sym left ∙ e))
      | inr le ↦
          let yes = le-leb x.secs secs le in
          let kept : begun secs (x ∷ xs) ≡ x ∷ begun secs xs = rw yes refl in
          absurd cc
    ]

-- ---- the active version

by_latest : (list : List Activation) (secs version : ℕ) (o : Option Activation) → latest (begun secs list) ≡ o
    → option_map (λ a. a.version) o ≡ Some version → IsActive list secs version
by_latest list secs version None e is = absurd (none-some version is)
by_latest list secs version (Some m) e is =
    let t = latest_is (begun secs list) m e in
    let within = begun_in secs list m t.one in
    let same : m.version ≡ version = same_Some m.version version is in
    rw (← same) (record {
      at = m.secs;
      began = within.1;
      listed = within.0;
      latest = All-from_recursion (λ (a : Activation). a.secs ≤ secs → IsBelow m a) list
          (begun_all (IsBelow m) secs list t.all);
    })

pub active_some : (list : List Activation) (secs version : ℕ) → active list secs ≡ Some version
    → IsActive list secs version
unfolding active
active_some list secs version e = by_latest list secs version (latest (begun secs list)) refl e

by_none : (list : List Activation) (secs : ℕ) (o : Option Activation) → latest (begun secs list) ≡ o
    → option_map (λ a. a.version) o ≡ None → NoneBegun list secs
by_none list secs None e is =
    All-from_recursion (λ (a : Activation). secs < a.secs) list (none_begun secs list (no_latest (begun secs list) e))
by_none list secs (Some m) e is = absurd (none-some m.version (sym is))

pub active_none : (list : List Activation) (secs : ℕ) → active list secs ≡ None → NoneBegun list secs
unfolding active
active_none list secs e = by_none list secs (latest (begun secs list)) refl e

-- ---- no other version is active

apart : (list : List Activation) (secs version : ℕ) → IsActive list secs version → NoneBegun list secs → ⊥
apart list secs version h none =
    let after =
    All-contains (λ (a : Activation). secs < a.secs) list (record { version = version; secs = h.at }) none h.listed in
    let began = h.began in
    omega arith

one_version : (list : List Activation) (secs v w : ℕ) → IsActive list secs v → IsActive list secs w → v ≡ w
one_version list secs v w g h =
    let up = All-contains (λ (a : Activation). a.secs ≤ secs → IsUpTo g.at v a) list
    (record { version = w; secs = h.at }) g.latest h.listed h.began in
    let down = All-contains (λ (a : Activation). a.secs ≤ secs → IsUpTo h.at w a) list
    (record { version = v; secs = g.at }) h.latest g.listed g.began in
    between g.at h.at up down
  where
    between : (a b : ℕ) → (b < a) ⊎ ((b ≡ a) × (w ≤ v)) → (a < b) ⊎ ((a ≡ b) × (v ≤ w)) → v ≡ w
    between a b (inl x) (inl y) = absurd (omega arith)
    between a b (inl x) (inr y) = let same = y.0 in absurd (omega arith)
    between a b (inr x) (inl y) = let same = x.0 in absurd (omega arith)
    between a b (inr x) (inr y) = let p = x.1 in let q = y.1 in omega arith

by_answer : (list : List Activation) (secs version : ℕ) (o : Option ℕ) → active list secs ≡ o
    → IsActive list secs version → o ≡ Some version
by_answer list secs version None e h = absurd (apart list secs version h (active_none list secs e))
by_answer list secs version (Some w) e h = ap Some (one_version list secs w version (active_some list secs w e) h)

pub is_active : (list : List Activation) (secs version : ℕ) → IsActive list secs version
    → active list secs ≡ Some version
is_active list secs version h = by_answer list secs version (active list secs) refl h

by_no_answer : (list : List Activation) (secs : ℕ) (o : Option ℕ) → active list secs ≡ o
    → NoneBegun list secs → o ≡ None
by_no_answer list secs None e h = refl
by_no_answer list secs (Some w) e h = absurd (apart list secs w (active_some list secs w e) h)

pub is_none : (list : List Activation) (secs : ℕ) → NoneBegun list secs → active list secs ≡ None
is_none list secs h = by_no_answer list secs (active list secs) refl h

-- ---- later moments

pub none_before : (list : List Activation) (early late : ℕ) → early ≤ late → NoneBegun list late → NoneBegun list early
none_before list early late le h =
    All-weaker (λ (a : Activation). late < a.secs) (λ a. early < a.secs) (λ a lt. omega arith) list h

pub still_some : (list : List Activation) (early late : ℕ) → early ≤ late → (active list early ≡ None → ⊥)
    → active list late ≡ None → ⊥
still_some list early late le some none =
    some (is_none list early (none_before list early late le (active_none list late none)))
