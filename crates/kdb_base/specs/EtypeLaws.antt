-- Laws of the numbers of encryption types.
use Rattle.std.proofs.Common.{◌≡◌, ℕ, ◌^◌, ◌<◌, ◌≤◌, Some, None, refl, sym, ap, ◌∙◌, arith, inl, inr}
use Rattle.std.proofs.lemmas.Bool.{cases_eq, ne_eqb}
use Rattle.std.proofs.lemmas.Option.{same_Some}
use Rattle.kdb_base.specs.Etypes.{key_len, tag_len, number_of, etype_of}
use Rattle.kdb_base.specs.declared.keys.Etype.{Etype}
use Rattle.kdb_base.specs.declared.keys.Etype.TheVariants.{Aes128, Aes256, Aes128Sha2, Aes256Sha2}

-- a type has the number that it was read from
pub number_is : (n : ℕ) (t : Etype) → etype_of n ≡ Some t → number_of t ≡ n
number_is n t e =
    elim (cases_eq n 17) [
      | inl is ↦
          let here : etype_of n ≡ Some Aes128 = rw is refl in
          ap number_of (same_Some t Aes128 (sym e ∙ here)) ∙ sym is
      | inr not17 ↦ elim (cases_eq n 18) [
        | inl is ↦
            let here : etype_of n ≡ Some Aes256 = rw is refl in
            ap number_of (same_Some t Aes256 (sym e ∙ here)) ∙ sym is
        | inr not18 ↦ elim (cases_eq n 19) [
          | inl is ↦
              let here : etype_of n ≡ Some Aes128Sha2 = rw is refl in
              ap number_of (same_Some t Aes128Sha2 (sym e ∙ here)) ∙ sym is
          | inr not19 ↦ elim (cases_eq n 20) [
            | inl is ↦
                let here : etype_of n ≡ Some Aes256Sha2 = rw is refl in
                ap number_of (same_Some t Aes256Sha2 (sym e ∙ here)) ∙ sym is
            | inr not20 ↦
                let no17 = ne_eqb n 17 not17 in
                let no18 = ne_eqb n 18 not18 in
                let no19 = ne_eqb n 19 not19 in
                let no20 = ne_eqb n 20 not20 in
                let none : etype_of n ≡ None = rw (no17, no18, no19, no20) refl in
                absurd cc
          ]
        ]
      ]
    ]

-- the number of each type is read as the type
pub of_number : (t : Etype) → etype_of (number_of t) ≡ Some t
of_number Aes128 = refl
of_number Aes256 = refl
of_number Aes128Sha2 = refl
of_number Aes256Sha2 = refl

-- types of one number are one
pub same_etype : (a b : Etype) → number_of a ≡ number_of b → a ≡ b
same_etype a b e = same_Some a b (sym (of_number a) ∙ ap etype_of e ∙ of_number b)

pub small_number : (t : Etype) → number_of t < 2 ^ 16
small_number Aes128 = omega arith
small_number Aes256 = omega arith
small_number Aes128Sha2 = omega arith
small_number Aes256Sha2 = omega arith

-- no key has more than 32 bytes
pub key_fits : (t : Etype) → key_len t ≤ 32
key_fits Aes128 = omega arith
key_fits Aes256 = omega arith
key_fits Aes128Sha2 = omega arith
key_fits Aes256Sha2 = omega arith

-- no key has fewer than 16 bytes
pub key_long : (t : Etype) → 16 ≤ key_len t
key_long Aes128 = omega arith
key_long Aes256 = omega arith
key_long Aes128Sha2 = omega arith
key_long Aes256Sha2 = omega arith

-- no tag has more than 24 bytes
pub tag_fits : (t : Etype) → tag_len t ≤ 24
tag_fits Aes128 = omega arith
tag_fits Aes256 = omega arith
tag_fits Aes128Sha2 = omega arith
tag_fits Aes256Sha2 = omega arith
