-- The bytes of a word without a fault, by what they are.
use Rattle.std.proofs.Common.{◌≡◌, ℕ, ◌+◌, ◌==◌, Bool, true, false, ◌||◌, ◌&&◌, Option, Some}
use Rattle.std.proofs.Common.{None, List, [], ◌∷◌, ◌⊎◌, inl, inr, refl, ap, subst, if◌then◌else◌}
use Rattle.std.proofs.lemmas.Bool.{eqb-true}
use Rattle.std.proofs.lemmas.Bool.Decides.{eqb_tells}
use Rattle.princ_name.specs.Bytes.{is_refused, is_plain}
use Rattle.princ_name.specs.Faults.{fault_from}
use Rattle.princ_name.specs.ByteLaws.{tests_plain}

pub record IsPlainByte (at : ℕ) (realm : Bool) (c : ℕ) (rest : List ℕ) : Type 0 where
  pub plain : is_plain c ≡ true
  pub faultless : fault_from (at + 1) false realm rest ≡ None

pub record IsBackslash (at : ℕ) (realm : Bool) (c : ℕ) (rest : List ℕ) : Type 0 where
  pub is : c ≡ 92
  pub faultless : fault_from (at + 1) true realm rest ≡ None

pub record IsBetween (at : ℕ) (realm : Bool) (c : ℕ) (rest : List ℕ) : Type 0 where
  pub is : c ≡ 47
  pub before : realm ≡ false
  pub faultless : fault_from (at + 1) false false rest ≡ None

pub record IsAt (at : ℕ) (realm : Bool) (c : ℕ) (rest : List ℕ) : Type 0 where
  pub is : c ≡ 64
  pub before : realm ≡ false
  pub faultless : fault_from (at + 1) false true rest ≡ None

abbrev pub Kind : ℕ → Bool → ℕ → List ℕ → Type 0
Kind at realm c rest =
    IsPlainByte at realm c rest ⊎ (IsBackslash at realm c rest ⊎ (IsBetween at realm c rest ⊎ IsAt at realm c rest))

allowed_by : (at : ℕ) (after : Option ℕ) (r : Bool) → (if r then Some at else after) ≡ None
    → (r ≡ false) × (after ≡ None)
allowed_by at after true h = absurd (cc)
allowed_by at after false h = (refl, h)

chosen : (b : Bool) (x y : Option ℕ) → (if b then x else y) ≡ None
    → ((b ≡ true) × (x ≡ None)) ⊎ ((b ≡ false) × (y ≡ None))
chosen true x y h = inl (refl, h)
chosen false x y h = inr (refl, h)

no_realm : (slash sign realm : Bool) → ((slash || sign) && realm) ≡ false → (slash ≡ true) ⊎ (sign ≡ true)
    → realm ≡ false
no_realm true sign realm h is = h
no_realm false true realm h is = h
no_realm false false realm h (inl is) = absurd (cc)
no_realm false false realm h (inr is) = absurd (cc)

either_none : (x y : Bool) → x ≡ false → y ≡ false → (x || y) ≡ false
either_none x y hx hy = rw (hx, hy) refl

either_first : (x y : Bool) → x ≡ true → (x || y) ≡ true
either_first x y hx = rw hx refl

either_second : (x y : Bool) → x ≡ false → (x || y) ≡ y
either_second x y hx = rw hx refl

-- the last tests: a sign between texts, or a plain byte
kind_last : (at : ℕ) (realm : Bool) (c : ℕ) (rest : List ℕ) → is_refused c ≡ false → (c == 92) ≡ false
    → ((c == 47 || c == 64) && realm) ≡ false → fault_from (at + 1) false (c == 64 || realm) rest ≡ None
    → (IsBetween at realm c rest ⊎ IsAt at realm c rest) ⊎ IsPlainByte at realm c rest
kind_last at realm c rest hr hb sign h =
    let F : Bool → Type 0 = λ (r : Bool). fault_from (at + 1) false r rest ≡ None in
    elim (eqb_tells c 47) [
      | inl slash ↦
          let before = no_realm (c == 47) (c == 64) realm sign (inl slash.0) in
          let other : (c == 64) ≡ false = ap (λ (b : ℕ). b == 64) slash.1 in
          inl (inl (record {
            is = slash.1;
            before = before;
            faultless = subst F (either_none (c == 64) realm other before) h;
          }))
      | inr other ↦ elim (eqb_tells c 64) [
        | inl mark ↦ inl (inr (record {
          is = mark.1;
          before = no_realm (c == 47) (c == 64) realm sign (inr mark.0);
          faultless = subst F (either_first (c == 64) realm mark.0) h;
        }))
        | inr plain ↦ inr (record {
          plain = tests_plain c hr other.0 plain.0 hb;
          faultless = subst F (either_second (c == 64) realm plain.0) h;
        })
      ]
    ]

in_order : (at : ℕ) (realm : Bool) (c : ℕ) (rest : List ℕ)
    → (IsBetween at realm c rest ⊎ IsAt at realm c rest) ⊎ IsPlainByte at realm c rest → Kind at realm c rest
in_order at realm c rest (inl sign) = inr (inr sign)
in_order at realm c rest (inr plain) = inl plain

pub kind_of : (at : ℕ) (realm : Bool) (c : ℕ) (rest : List ℕ) → fault_from at false realm (c ∷ rest) ≡ None
    → Kind at realm c rest
unfolding fault_from
kind_of at realm c rest h =
    let allowed = allowed_by at _ (is_refused c) h in
    elim (chosen (c == 92) _ _ allowed.1) [
      | inl slash ↦ inr (inl (record { is = eqb-true c 92 slash.0; faultless = slash.1 }))
      | inr other ↦
          let sign = allowed_by at _ ((c == 47 || c == 64) && realm) other.1 in
          in_order at realm c rest (kind_last at realm c rest allowed.0 other.0 sign.0 sign.1)
    ]

-- a byte behind a backslash
pub allowed_behind : (at : ℕ) (realm : Bool) (c : ℕ) (rest : List ℕ) → fault_from at true realm (c ∷ rest) ≡ None
    → (is_refused c ≡ false) × (fault_from (at + 1) false realm rest ≡ None)
unfolding fault_from
allowed_behind at realm c rest h = allowed_by at _ (is_refused c) h

pub ended_behind : (at : ℕ) (realm : Bool) → fault_from at true realm [] ≡ None → ⊥
unfolding fault_from
ended_behind at realm h = cc
