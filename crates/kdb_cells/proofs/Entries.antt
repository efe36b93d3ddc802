-- Entries of keys with their units: how often a unit is led to, and to which unit a key leads.
use Rattle.std.proofs.Common.{◌≡◌, ◌≢◌, ℕ, zero, suc, ◌+◌, ◌≤◌, Bool, true, false, cond, eqb, Vec, List, []}
use Rattle.std.proofs.Common.{◌∷◌, ◌++◌, slice_get, Option, Some, None, refl, sym, ap, ◌∙◌, arith, inl, inr}
use Rattle.std.specs.declared.alloc.Global.{Global}
use Rattle.std.specs.Cmp.{IsEquivalence, on_equiv}
use Rattle.std.specs.Cmp.Lexicographic.{nat_list_eq_equiv, bytes_decides}
use Rattle.std.specs.List.{IsDistinct}
use Rattle.std.specs.Map.{keys_of, lookup, KeepsOthers}
use Rattle.std.specs.Str.{bytes_eq}
use Rattle.std.proofs.lemmas.Bool.{eqb-true, eq-eqb, cases_lt}
use Rattle.std.proofs.lemmas.Map.Entries.{place_from_lookup, lookup_from_place}
use Rattle.std.proofs.lemmas.List.Sums.{sum_by-cons, sum_by-append}
use Rattle.std.proofs.lemmas.Option.{same_Some}
use Rattle.kdb_cells.specs.Leads.{unless}
use Rattle.kdb_cells.specs.Indexes.{Entries, unit_of, one_at, led}

-- two keys have the same bytes
abbrev pub key_eq : Vec ℕ Global → Vec ℕ Global → Bool
key_eq x y = bytes_eq x.items y.items

pub key_equiv : IsEquivalence key_eq
key_equiv = on_equiv (λ (x : Vec ℕ Global). x.items) nat_list_eq_equiv

-- ---- how often a unit is led to

pub one_same : (i j : ℕ) → i ≡ j → one_at i j ≡ 1
one_same i j e = ap (λ (b : Bool). cond b 1 0) (eq-eqb i j e)

pub led-cons : (i : ℕ) (e : Vec ℕ Global × ℕ) (es : Entries) → led i (e ∷ es) ≡ one_at i e.1 + led i es
unfolding led
led-cons i e es = sum_by-cons (λ (x : Vec ℕ Global × ℕ). one_at i x.1) e es

abbrev LedAt : ℕ → Entries → Type 0
LedAt i es = (at : ℕ) × (k : Vec ℕ Global) × (slice_get es at ≡ Some (k, i))

-- an entry that leads there
pub place_led : (i : ℕ) (es : Entries) → 1 ≤ led i es → LedAt i es
unfolding led
place_led i [] le = absurd (omega (arith, le))
place_led i (e ∷ es) le = by (eqb i e.1) refl (λ more. place_led i es more)
  where
    by : (b : Bool) → eqb i e.1 ≡ b → (1 ≤ led i es → LedAt i es) → LedAt i (e ∷ es)
    by true same others =
        (0, e.0, ap (λ (j : ℕ). let x : Vec ℕ Global × ℕ = (e.0, j) in Some x) (sym (eqb-true i e.1 same)))
    by false other others = let rest =
        others (omega (arith, le, led-cons i e es, ap (λ (b : Bool). cond {A = ℕ} b 1 0) other)) in
        (suc rest.0, rest.1, rest.2)

pub led_place : (i at : ℕ) (k : Vec ℕ Global) (es : Entries) → slice_get es at ≡ Some (k, i) → 1 ≤ led i es
led_place i at k [] e = absurd cc
led_place i zero k (x ∷ es) e = let same = same_Some x (k, i) e in
    omega (arith, led-cons i x es, one_same i x.1 (sym (ap (λ (y : Vec ℕ Global × ℕ). y.1) same)))
led_place i (suc at) k (x ∷ es) e = omega (arith, led-cons i x es, led_place i at k es e)

-- where no entry leads to a unit, no key does
pub led_free : (i : ℕ) (es : Entries) → led i es ≡ 0 → (key : List ℕ) → unit_of es key ≢ Some i
unfolding unit_of
led_free i es none key e =
    let found = place_from_lookup (λ (k : Vec ℕ Global). bytes_eq key k.items) es i e in
    omega (arith, none, led_place i found.0 found.1 es found.2)

-- and the other way round
pub free_led : (i : ℕ) (es : Entries) → IsDistinct key_eq (keys_of es) → ((key : List ℕ) → unit_of es key ≢ Some i)
    → led i es ≡ 0
unfolding unit_of
free_led i es apart free =
    elim (cases_lt 0 (led i es)) [
      | inl some ↦ let found = place_led i es some in
          absurd (free found.1.items (lookup_from_place key_equiv es found.0 found.1 i apart found.2))
      | inr none ↦ omega (arith, none)
    ]

-- ---- an entry is put or taken out

-- what the keys lead to where one of them was given another unit or none
pub updated : (key : Vec ℕ Global) (w : Option ℕ) (es fs : Entries) → lookup (key_eq key) fs ≡ w
    → KeepsOthers key_eq (key_eq key) es fs → (k : List ℕ) → unit_of fs k ≡ cond (bytes_eq key.items k) w (unit_of es k)
unfolding unit_of KeepsOthers
updated key w es fs found keeps k = by (bytes_eq key.items k) refl
  where
    by : (b : Bool) → bytes_eq key.items k ≡ b → lookup (λ (x : Vec ℕ Global). bytes_eq k x.items) fs
        ≡ cond b w (lookup (λ (x : Vec ℕ Global). bytes_eq k x.items) es)
    by true e = ap (λ (t : List ℕ). lookup (λ (x : Vec ℕ Global). bytes_eq t x.items) fs)
        (sym ((bytes_decides key.items k).0 e)) ∙ found
    by false e = keeps (λ (x : Vec ℕ Global). bytes_eq k x.items)
        (λ x y t. ap (λ (l : List ℕ). bytes_eq l y.items) ((bytes_decides k x.items).0 t))
        (λ x t. ap (bytes_eq k) (sym ((bytes_decides key.items x.items).0 t)) ∙ nat_list_eq_equiv.symm k key.items ∙ e)

pub unless_other : (unit : ℕ) (o : Option ℕ) → o ≢ Some unit → o ≡ unless unit o
unless_other unit None other = refl
unless_other unit (Some i) other = by (eqb i unit) refl
  where
    by : (b : Bool) → eqb i unit ≡ b → Some i ≡ cond b None (Some i)
    by true e = absurd (other (ap Some (eqb-true i unit e)))
    by false e = refl

pub unless_same : (unit : ℕ) → unless unit (Some unit) ≡ None
unless_same unit = ap (λ (b : Bool). cond b None (Some unit)) (eq-eqb unit unit refl)

pub removed : (unit : ℕ) (key : Vec ℕ Global) (es fs : Entries) → lookup (key_eq key) es ≡ Some unit
    → lookup (key_eq key) fs ≡ None → KeepsOthers key_eq (key_eq key) es fs → led unit fs ≡ 0
    → (k : List ℕ) → unit_of fs k ≡ unless unit (unit_of es k)
unfolding unit_of
removed unit key es fs had gone keeps none k = by (bytes_eq key.items k) refl
  where
    by : (b : Bool) → bytes_eq key.items k ≡ b → unit_of fs k ≡ unless unit (unit_of es k)
    by true e =
        let here : unit_of es k ≡ Some unit = ap (unit_of es) (sym ((bytes_decides key.items k).0 e)) ∙ had in
        updated key None es fs gone keeps k ∙ ap (λ (c : Bool). cond c None (unit_of es k)) e ∙ sym (unless_same unit)
        ∙ ap (unless unit) (sym here)
    by false e =
        let same : unit_of fs k ≡ unit_of es k =
        updated key None es fs gone keeps k ∙ ap (λ (c : Bool). cond c None (unit_of es k)) e in
        same ∙ unless_other unit (unit_of es k) (λ leads. led_free unit fs none k (same ∙ leads))

-- one entry more
pub led_more : (i : ℕ) (es : Entries) (e : Vec ℕ Global × ℕ) → led i (es ++ e ∷ []) ≡ led i es + one_at i e.1
unfolding led
led_more i es e =
    let f : Vec ℕ Global × ℕ → ℕ = λ x. one_at i x.1 in
    let one : led i (e ∷ []) ≡ one_at i e.1 + led i [] = led-cons i e [] in
    omega (arith, sum_by-append f es (e ∷ []), one)
