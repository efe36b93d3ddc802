-- A realm prints as it is, and so a name in it is printed as its components are.
use Rattle.std.proofs.Common.{◌≡◌, ◌≢◌, ◌≤◌, ◌+◌, ◌∙◌, ℕ, true, false, ◌==◌, ◌||◌, ◌&&◌}
use Rattle.std.proofs.Common.{List, [], ◌∷◌, ◌++◌, length, refl, ap, inl, inr, arith}
use Rattle.std.specs.Prelude.{nat_le, nat_eq, nat_lt}
use Rattle.std.specs.List.{list_all}
use Rattle.std.proofs.lemmas.Bool.{and_parts, or_cases, eqb-true, leb-true}
use Rattle.std.proofs.lemmas.Bool.Decides.{eqb_tells}
use Rattle.std.proofs.lemmas.List.{length-append}
use Rattle.princ_name.specs.Bytes.{can_stand, is_refused, is_sign, printed_byte}
use Rattle.princ_name.specs.Names.{IsName, printed, printed_parts, printed_text}
use Rattle.princ_name.specs.RealmNames.{name_in}
use Rattle.princ_name.specs.Realms.{IsRealm, is_realm, is_realm_byte}

-- no control byte, and no sign of names
record IsClear (b : ℕ) : Type 0 where
  high : 32 ≤ b
  no_delete : b ≢ 127
  no_slash : b ≢ 47
  no_at : b ≢ 64
  no_backslash : b ≢ 92

clear_between : (low high b : ℕ) → (nat_le low b && nat_le b high) ≡ true → (low ≤ b) × (b ≤ high)
clear_between low high b e = let both =
    and_parts (nat_le low b) (nat_le b high) e in (leb-true low b both.0, leb-true b high both.1)

clear : (b : ℕ) → is_realm_byte b ≡ true → IsClear b
clear b e =
    elim (or_cases ((nat_le 97 b && nat_le b 122) || (nat_le 65 b && nat_le b 90) || (nat_le 48 b && nat_le b 57)
    || nat_eq b 46) (nat_eq b 45) e) [
      | inr is ↦ let same = eqb-true b 45 is in record {
        high = omega arith;
        no_delete = λ x. omega arith;
        no_slash = λ x. omega arith;
        no_at = λ x. omega arith;
        no_backslash = λ x. omega arith;
      }
      | inl four ↦
          elim (or_cases ((nat_le 97 b && nat_le b 122) || (nat_le 65 b && nat_le b 90) || (nat_le 48 b && nat_le b 57))
          (nat_eq b 46) four) [
            | inr is ↦ let same = eqb-true b 46 is in record {
              high = omega arith;
              no_delete = λ x. omega arith;
              no_slash = λ x. omega arith;
              no_at = λ x. omega arith;
              no_backslash = λ x. omega arith;
            }
            | inl three ↦
                elim (or_cases ((nat_le 97 b && nat_le b 122) || (nat_le 65 b && nat_le b 90))
                (nat_le 48 b && nat_le b 57) three) [
                  | inr is ↦ between 48 57 is (omega arith) (λ x. omega arith) (λ x. omega arith) (λ x. omega arith)
                      (λ x. omega arith)
                  | inl two ↦
                      elim (or_cases (nat_le 97 b && nat_le b 122) (nat_le 65 b && nat_le b 90) two) [
                        | inr is ↦ between 65 90 is (omega arith) (λ x. omega arith) (λ x. omega arith)
                            (λ x. omega arith) (λ x. omega arith)
                        | inl is ↦ between 97 122 is (omega arith) (λ x. omega arith) (λ x. omega arith)
                            (λ x. omega arith) (λ x. omega arith)
                      ]
                ]
          ]
    ]
  where
    Outside : ℕ → ℕ → ℕ → Type 0
    Outside low high n = (low ≤ n) × (n ≤ high) → ⊥

    between : (low high : ℕ) → (nat_le low b && nat_le b high) ≡ true → 32 ≤ low → Outside low high 127
        → Outside low high 47 → Outside low high 64 → Outside low high 92 → IsClear b
    between low high e from delete slash at backslash =
        let both = clear_between low high b e in
        record {
          high = omega (arith, from, both.0);
          no_delete = λ x. delete (omega (arith, x, both.0), omega (arith, x, both.1));
          no_slash = λ x. slash (omega (arith, x, both.0), omega (arith, x, both.1));
          no_at = λ x. at (omega (arith, x, both.0), omega (arith, x, both.1));
          no_backslash = λ x. backslash (omega (arith, x, both.0), omega (arith, x, both.1));
        }

differs : (b n : ℕ) → b ≢ n → (b == n) ≡ false
differs b n other = elim (eqb_tells b n) [
  | inl same ↦ absurd (other same.1)
  | inr apart ↦ apart.0
]

not_below : (b n : ℕ) → n ≤ b → nat_lt b n ≡ false
not_below b n le = grind (arith, le)

clear_prints : (b : ℕ) → IsClear b → printed_byte b ≡ b ∷ []
unfolding printed_byte is_sign
clear_prints b f =
    let high = f.high in
    rw (
      differs b 10 (λ x. omega arith),
      differs b 9 (λ x. omega arith),
      differs b 8 (λ x. omega arith),
      differs b 0 (λ x. omega arith),
      differs b 47 f.no_slash,
      differs b 64 f.no_at,
      differs b 92 f.no_backslash,
    ) refl

clear_stands : (b : ℕ) → IsClear b → can_stand b ≡ true
unfolding can_stand is_refused
clear_stands b f = rw (not_below b 32 f.high, differs b 127 f.no_delete) refl

pub prints_itself : (text : List ℕ) → list_all is_realm_byte text ≡ true → printed_text text ≡ text
unfolding printed_text
prints_itself [] e = refl
prints_itself (b ∷ text) e =
    let both = and_parts (is_realm_byte b) (list_all is_realm_byte text) e in
    rw (clear_prints b (clear b both.0)) (ap (λ (rest : List ℕ). b ∷ rest) (prints_itself text both.1))

pub all_stand : (text : List ℕ) → list_all is_realm_byte text ≡ true → list_all can_stand text ≡ true
all_stand [] e = refl
all_stand (b ∷ text) e =
    let both = and_parts (is_realm_byte b) (list_all is_realm_byte text) e in
    rw (clear_stands b (clear b both.0)) (all_stand text both.1)

pub record IsRealmText (realm : List ℕ) : Type 0 where
  pub some : 1 ≤ length realm
  pub short : length realm ≤ 64
  pub bytes : list_all is_realm_byte realm ≡ true

pub realm_text : (realm : List ℕ) → is_realm realm ≡ true → IsRealmText realm
realm_text realm e =
    let front = and_parts (nat_le 1 (length realm) && nat_le (length realm) 64) (list_all is_realm_byte realm) e in
    let sizes = and_parts (nat_le 1 (length realm)) (nat_le (length realm) 64) front.0 in
    record { some = leb-true 1 (length realm) sizes.0; short = leb-true (length realm) 64 sizes.1; bytes = front.1 }

-- ---- names in a realm

-- the printed components, an `@` and the realm
pub prints_in : (parts : List (List ℕ)) (realm : List ℕ) → IsRealm realm
    → printed (name_in parts realm) ≡ printed_parts parts ++ 64 ∷ realm
unfolding printed
prints_in parts realm is =
    ap (λ (text : List ℕ). printed_parts parts ++ 64 ∷ text) (prints_itself realm (realm_text realm is).bytes)

-- components with bytes of names, few enough and short enough, are those of a name in every realm
pub is_name_in : (parts : List (List ℕ)) (realm : List ℕ) → IsRealm realm → parts ≢ [] → length parts ≤ 16
    → list_all (list_all can_stand) parts ≡ true
    → length (printed_parts parts) ≤ 190 → IsName (name_in parts realm)
is_name_in parts realm is some few bytes most =
    let f = realm_text realm is in
    let one = f.some in
    let short = f.short in
    let text : length (printed (name_in parts realm)) ≡ length (printed_parts parts) + length (64 ∷ realm) =
    ap length (prints_in parts realm is) ∙ length-append (printed_parts parts) (64 ∷ realm) in
    record {
      some = some;
      few = few;
      bytes = bytes;
      realm = λ e. let none = ap length e in omega arith;
      realm_bytes = all_stand realm f.bytes;
      short = omega (arith, text, short, most);
    }
