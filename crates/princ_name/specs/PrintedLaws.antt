-- Printing part by part; and a printed name is the printed form of some name, and the test of bytes finds just those.
use Rattle.std.proofs.Common.{◌≡◌, ◌≢◌, ℕ, zero, suc, ◌-◌, ◌<◌, ◌≤◌, Bool, true, false, cond, ◌==◌}
use Rattle.std.proofs.Common.{◌&&◌, leb, ltb, List, [], ◌∷◌, ◌++◌, length, get_or, refl, sym, ap}
use Rattle.std.proofs.Common.{subst, ◌∙◌, append_assoc, append-nil, arith, ◌⊎◌, inl, inr}
use Rattle.std.specs.Prelude.{Contains, not, ◌||◌, nat_lt}
use Rattle.std.specs.List.{list_all}
use Rattle.std.proofs.lemmas.Bool.{and_parts, and_from, or_cases, eqb-true, ltb-true, lt-ltb, leb-true, le-leb}
use Rattle.std.proofs.lemmas.Bool.Decides.{eqb_tells}
use Rattle.princ_name.specs.Bytes.{is_plain, is_refused, is_sign, can_stand, printed_byte}
use Rattle.princ_name.specs.Names.{NameParts, IsName, printed, printed_text, printed_parts, behind_parts}
use Rattle.princ_name.specs.Printed.{IsPrinted, is_letter, prints, is_printed}
use Rattle.princ_name.specs.ByteLaws.{plain_tests, tests_plain}

pub behind-cons : (part : List ℕ) (parts : List (List ℕ))
    → behind_parts (part ∷ parts) ≡ 47 ∷ (printed_text part ++ behind_parts parts)
unfolding behind_parts
behind-cons part parts = refl

pub behind-nil : behind_parts [] ≡ []
unfolding behind_parts
behind-nil = refl

pub parts-cons : (part : List ℕ) (parts : List (List ℕ))
    → printed_parts (part ∷ parts) ≡ printed_text part ++ behind_parts parts
unfolding printed_parts
parts-cons part [] = sym (ap (λ w. printed_text part ++ w) behind-nil ∙ append-nil (printed_text part))
parts-cons part (next ∷ parts) =
    ap (λ w. printed_text part ++ 47 ∷ w) (parts-cons next parts)
    ∙ ap (λ w. printed_text part ++ w) (sym (behind-cons next parts))

-- one of two tests
pub either : (b x y : Bool) → cond b x y ≡ true → ((b ≡ true) × (x ≡ true)) ⊎ ((b ≡ false) × (y ≡ true))
either true x y e = inl (refl, e)
either false x y e = inr (refl, e)

-- some standing, from which the text prints
record Goes (text : List ℕ) : Type 0 where
  escape : Bool
  realm : Bool
  some : Bool
  left : ℕ
  rest : prints escape realm some left text ≡ true

goes : (escape realm some : Bool) (left c : ℕ) (text : List ℕ)
    → prints escape realm some left (c ∷ text) ≡ true → Goes text
unfolding prints
goes true realm some left c text e = record {
  escape = false;
  realm = realm;
  some = true;
  left = left;
  rest = (and_parts (is_letter c) (prints false realm true left text) e).1;
}
goes false realm some left c text e =
    elim (either (c == 92) _ _ e) [
      | inl slash ↦ record { escape = true; realm = realm; some = some; left = left; rest = slash.1 }
      | inr other ↦
          elim (either (c == 47) _ _ other.1) [
            | inl part ↦ record {
              escape = false;
              realm = realm;
              some = false;
              left = left - 1;
              rest = (and_parts (not realm && nat_lt 0 left) (prints false realm false (left - 1) text) part.1).1;
            }
            | inr more ↦
                elim (either (c == 64) _ _ more.1) [
                  | inl at ↦ record {
                    escape = false;
                    realm = true;
                    some = false;
                    left = left;
                    rest = (and_parts (not realm) (prints false true false left text) at.1).1;
                  }
                  | inr plain ↦ record {
                    escape = false;
                    realm = realm;
                    some = true;
                    left = left;
                    rest = (and_parts (is_plain c) (prints false realm true left text) plain.1).1;
                  }
                ]
          ]
    ]

not_zero : (escape realm some : Bool) (left : ℕ) (text : List ℕ) → prints escape realm some left (0 ∷ text) ≡ true → ⊥
unfolding prints is_letter is_plain is_sign is_refused
not_zero true realm some left text e = absurd cc
not_zero false realm some left text e = absurd cc

pub no_zero : (escape realm some : Bool) (left : ℕ) (text : List ℕ) → prints escape realm some left text ≡ true
    → (k : ℕ) → k < length text → get_or text k 0 ≡ 0 → ⊥
no_zero escape realm some left [] e k lt is = absurd (omega arith)
no_zero escape realm some left (c ∷ text) e zero lt is =
    not_zero escape realm some left text (ap (λ (b : ℕ). prints escape realm some left (b ∷ text)) (sym is) ∙ e)
no_zero escape realm some left (c ∷ text) e (suc k) lt is =
    let g = goes escape realm some left c text e in
    no_zero g.escape g.realm g.some g.left text g.rest k (omega arith) is

-- ---- bytes

abbrev StandsFor : ℕ → ℕ → Type 0
StandsFor c b = (can_stand b ≡ true) × (printed_byte b ≡ 92 ∷ c ∷ [])

form : (b n c : ℕ) → c ≡ n → StandsFor n b → (b : ℕ) × StandsFor c b
form b n c is f = (b, (f.0, f.1 ∙ ap (λ (k : ℕ). 92 ∷ k ∷ []) (sym is)))

letter : (c : ℕ) → is_letter c ≡ true → (b : ℕ) × StandsFor c b
unfolding is_letter is_sign is_refused can_stand printed_byte
letter c e =
    elim (or_cases (c == 110 || c == 116 || c == 98 || c == 48) (c == 47 || c == 64 || c == 92) e) [
      | inl four ↦
          elim (or_cases (c == 110 || c == 116 || c == 98) (c == 48) four) [
            | inl three ↦
                elim (or_cases (c == 110 || c == 116) (c == 98) three) [
                  | inl two ↦
                      elim (or_cases (c == 110) (c == 116) two) [
                        | inl is ↦ form 10 110 c (eqb-true _ _ is) (refl, refl)
                        | inr is ↦ form 9 116 c (eqb-true _ _ is) (refl, refl)
                      ]
                  | inr is ↦ form 8 98 c (eqb-true _ _ is) (refl, refl)
                ]
            | inr is ↦ form 0 48 c (eqb-true _ _ is) (refl, refl)
          ]
      | inr sign ↦
          elim (or_cases (c == 47 || c == 64) (c == 92) sign) [
            | inl two ↦
                elim (or_cases (c == 47) (c == 64) two) [
                  | inl is ↦ form 47 47 c (eqb-true _ _ is) (refl, refl)
                  | inr is ↦ form 64 64 c (eqb-true _ _ is) (refl, refl)
                ]
            | inr is ↦ form 92 92 c (eqb-true _ _ is) (refl, refl)
          ]
    ]

not_control : (c n : ℕ) → is_refused c ≡ false → is_refused n ≡ true → (c == n) ≡ false
not_control c n plain control =
    elim (eqb_tells c n) [
      | inl same ↦ let both : is_refused c ≡ is_refused n = ap is_refused same.1 in absurd cc
      | inr other ↦ other.0
    ]

control : (n : ℕ) → nat_lt n 32 ≡ true → is_refused n ≡ true
unfolding is_refused
control n e = rw e refl

plain : (c : ℕ) → is_plain c ≡ true → (can_stand c ≡ true) × (printed_byte c ≡ c ∷ [])
unfolding can_stand printed_byte is_sign
plain c e =
    let t = plain_tests c e in
    let newline = not_control c 10 t.0 (control 10 refl) in
    let tab = not_control c 9 t.0 (control 9 refl) in
    let backspace = not_control c 8 t.0 (control 8 refl) in
    let nul = not_control c 0 t.0 (control 0 refl) in
    (rw t.0 refl, rw (newline, tab, backspace, nul, t.1, t.2, t.3) refl)

-- ---- what prints is a printed form

abbrev before : Bool → List ℕ → List ℕ
before true text = 92 ∷ text
before false text = text

cons_some : {A : Type 0} (x : A) (xs : List A) → (x ∷ xs) ≢ []
cons_some x xs e = cc

record IsRealm (escape some : Bool) (text : List ℕ) : Type 0 where
  realm : List ℕ
  text_is : before escape text ≡ printed_text realm
  bytes : list_all can_stand realm ≡ true
  there : (some ≡ true) ⊎ (realm ≢ [])

realm_is : (escape some : Bool) (left : ℕ) (text : List ℕ) → prints escape true some left text ≡ true
    → IsRealm escape some text
unfolding prints printed_text
realm_is true some left [] e = absurd cc
realm_is false some left [] e = record { realm = []; text_is = refl; bytes = refl; there = inl e }
realm_is true some left (c ∷ text) e =
    let p = and_parts (is_letter c) (prints false true true left text) e in
    let b = letter c p.0 in
    let r = realm_is false true left text p.1 in
    record {
      realm = b.0 ∷ r.realm;
      text_is = ap (λ (t : List ℕ). 92 ∷ c ∷ t) r.text_is ∙ sym (ap (λ (f : List ℕ). f ++ printed_text r.realm) b.1.1);
      bytes = and_from (can_stand b.0) (list_all can_stand r.realm) b.1.0 r.bytes;
      there = inr (cons_some b.0 r.realm);
    }
realm_is false some left (c ∷ text) e =
    elim (either (c == 92) _ _ e) [
      | inl slash ↦
          let r = realm_is true some left text slash.1 in
          record {
            realm = r.realm;
            text_is = ap (λ (k : ℕ). k ∷ text) (eqb-true _ _ slash.0) ∙ r.text_is;
            bytes = r.bytes;
            there = r.there;
          }
      | inr other ↦
          elim (either (c == 47) _ _ other.1) [
            | inl part ↦ absurd cc
            | inr more ↦
                elim (either (c == 64) _ _ more.1) [
                  | inl at ↦ absurd cc
                  | inr last ↦
                      let p = and_parts (is_plain c) (prints false true true left text) last.1 in
                      let b = plain c p.0 in
                      let r = realm_is false true left text p.1 in
                      record {
                        realm = c ∷ r.realm;
                        text_is = ap (λ (t : List ℕ). c ∷ t) r.text_is
                            ∙ sym (ap (λ (f : List ℕ). f ++ printed_text r.realm) b.1);
                        bytes = and_from (can_stand c) (list_all can_stand r.realm) b.0 r.bytes;
                        there = inr (cons_some c r.realm);
                      }
                ]
          ]
    ]

abbrev tail : List (List ℕ) → List ℕ → List ℕ
tail others realm = behind_parts others ++ 64 ∷ printed_text realm

record AreParts (escape : Bool) (left : ℕ) (text : List ℕ) : Type 0 where
  first : List ℕ
  others : List (List ℕ)
  realm : List ℕ
  text_is : before escape text ≡ printed_text first ++ tail others realm
  few : length others ≤ left
  bytes : list_all can_stand first ≡ true
  others_bytes : list_all (list_all can_stand) others ≡ true
  realm_bytes : list_all can_stand realm ≡ true
  there : realm ≢ []

there_is : (realm : List ℕ) → (false ≡ true) ⊎ (realm ≢ []) → realm ≢ []
there_is realm (inl e) = absurd cc
there_is realm (inr h) = h

parts_are : (escape some : Bool) (left : ℕ) (text : List ℕ) → prints escape false some left text ≡ true
    → AreParts escape left text
unfolding prints printed_text behind_parts
parts_are true some left [] e = absurd cc
parts_are false some left [] e = absurd cc
parts_are true some left (c ∷ text) e =
    let p = and_parts (is_letter c) (prints false false true left text) e in
    let b = letter c p.0 in
    let r = parts_are false true left text p.1 in
    record {
      first = b.0 ∷ r.first;
      others = r.others;
      realm = r.realm;
      text_is = ap (λ (t : List ℕ). 92 ∷ c ∷ t) r.text_is
          ∙ sym (ap (λ (f : List ℕ). (f ++ printed_text r.first) ++ tail r.others r.realm) b.1.1);
      few = r.few;
      bytes = and_from (can_stand b.0) (list_all can_stand r.first) b.1.0 r.bytes;
      others_bytes = r.others_bytes;
      realm_bytes = r.realm_bytes;
      there = r.there;
    }
parts_are false some left (c ∷ text) e =
    elim (either (c == 92) _ _ e) [
      | inl slash ↦
          let r = parts_are true some left text slash.1 in
          record {
            first = r.first;
            others = r.others;
            realm = r.realm;
            text_is = ap (λ (k : ℕ). k ∷ text) (eqb-true _ _ slash.0) ∙ r.text_is;
            few = r.few;
            bytes = r.bytes;
            others_bytes = r.others_bytes;
            realm_bytes = r.realm_bytes;
            there = r.there;
          }
      | inr other ↦
          elim (either (c == 47) _ _ other.1) [
            | inl part ↦
                let p = and_parts (ltb 0 left) (prints false false false (left - 1) text) part.1 in
                let room : 0 < left = ltb-true _ _ p.0 in
                let r = parts_are false false (left - 1) text p.1 in
                let few = r.few in
                record {
                  first = [];
                  others = r.first ∷ r.others;
                  realm = r.realm;
                  text_is = ap (λ (k : ℕ). k ∷ text) (eqb-true _ _ part.0)
                      ∙ ap (λ (t : List ℕ). 47 ∷ t) (r.text_is
                      ∙ sym (append_assoc (printed_text r.first) (behind_parts r.others) (64 ∷ printed_text r.realm)));
                  few = omega arith;
                  bytes = refl;
                  others_bytes = and_from (list_all can_stand r.first)
                      (list_all (list_all can_stand) r.others) r.bytes r.others_bytes;
                  realm_bytes = r.realm_bytes;
                  there = r.there;
                }
            | inr more ↦
                elim (either (c == 64) _ _ more.1) [
                  | inl at ↦
                      let r = realm_is false false left text at.1 in
                      record {
                        first = [];
                        others = [];
                        realm = r.realm;
                        text_is = ap (λ (k : ℕ). k ∷ text) (eqb-true _ _ at.0) ∙ ap (λ (t : List ℕ). 64 ∷ t) r.text_is;
                        few = omega arith;
                        bytes = refl;
                        others_bytes = refl;
                        realm_bytes = r.bytes;
                        there = there_is r.realm r.there;
                      }
                  | inr last ↦
                      let p = and_parts (is_plain c) (prints false false true left text) last.1 in
                      let b = plain c p.0 in
                      let r = parts_are false true left text p.1 in
                      record {
                        first = c ∷ r.first;
                        others = r.others;
                        realm = r.realm;
                        text_is = ap (λ (t : List ℕ). c ∷ t) r.text_is
                            ∙ sym (ap (λ (f : List ℕ). (f ++ printed_text r.first) ++ tail r.others r.realm) b.1);
                        few = r.few;
                        bytes = and_from (can_stand c) (list_all can_stand r.first) b.0 r.bytes;
                        others_bytes = r.others_bytes;
                        realm_bytes = r.realm_bytes;
                        there = r.there;
                      }
                ]
          ]
    ]

whole_form : (first : List ℕ) (others : List (List ℕ)) (realm : List ℕ)
    → printed_text first ++ tail others realm ≡ printed (record { parts = first ∷ others; realm = realm })
unfolding printed
whole_form first others realm =
    sym (append_assoc (printed_text first) (behind_parts others) (64 ∷ printed_text realm))
    ∙ ap (λ (t : List ℕ). t ++ 64 ∷ printed_text realm) (sym (parts-cons first others))

pub test_printed : (text : List ℕ) → is_printed text ≡ true → IsPrinted text
unfolding is_printed
test_printed text e =
    let p = and_parts (leb (length text) 255) (prints false false false 15 text) e in
    let r = parts_are false false 15 text p.1 in
    let name : NameParts = record { parts = r.first ∷ r.others; realm = r.realm } in
    let text_is : text ≡ printed name = r.text_is ∙ whole_form r.first r.others r.realm in
    let few = r.few in (
      name,
      (
        record {
          some = cons_some r.first r.others;
          few = omega arith;
          bytes = and_from (list_all can_stand r.first) (list_all (list_all can_stand) r.others) r.bytes r.others_bytes;
          realm = r.there;
          realm_bytes = r.realm_bytes;
          short = subst (λ (t : List ℕ). length t ≤ 255) text_is (leb-true _ _ p.0);
        },
        text_is,
      ),
    )

-- ---- a printed form prints

letter_steps : (b n c : ℕ) (realm some : Bool) (left : ℕ) (rest : List ℕ) → b ≡ n → printed_byte n ≡ 92 ∷ c ∷ []
    → is_letter c ≡ true
    → prints false realm some left (printed_byte b ++ rest) ≡ prints false realm true left rest
unfolding prints
letter_steps b n c realm some left rest is f e = rw (is, f, e) refl

plain_steps : (b : ℕ) (realm some : Bool) (left : ℕ) (rest : List ℕ) → printed_byte b ≡ b ∷ [] → is_plain b ≡ true
    → (b == 92) ≡ false → (b == 47) ≡ false → (b == 64) ≡ false
    → prints false realm some left (printed_byte b ++ rest) ≡ prints false realm true left rest
unfolding prints
plain_steps b realm some left rest f e x y z = rw (f, x, y, z, e) refl

unrefused : (r x : Bool) → x ≡ false → not r || x ≡ true → r ≡ false
unrefused false x none h = refl
unrefused true x none h = absurd cc

other_steps : (b : ℕ) (realm some : Bool) (left : ℕ) (rest : List ℕ) → can_stand b ≡ true → (b == 10) ≡ false
    → (b == 9) ≡ false → (b == 8) ≡ false → (b == 0) ≡ false
    → (b == 47) ≡ false → (b == 64) ≡ false → (b == 92) ≡ false
    → prints false realm some left (printed_byte b ++ rest) ≡ prints false realm true left rest
unfolding can_stand printed_byte is_sign
other_steps b realm some left rest stands n t k z s a e =
    let allowed = unrefused (is_refused b) (b == 10 || b == 9 || b == 8 || b == 0) (rw (n, t, k, z) refl) stands in
    let f : printed_byte b ≡ b ∷ [] = rw (n, t, k, z, s, a, e) refl in
    plain_steps b realm some left rest f (tests_plain b allowed s a e) e s a

byte_steps : (b : ℕ) (realm some : Bool) (left : ℕ) (rest : List ℕ) → can_stand b ≡ true
    → prints false realm some left (printed_byte b ++ rest) ≡ prints false realm true left rest
unfolding printed_byte is_letter is_sign
byte_steps b realm some left rest stands = elim (eqb_tells b 10) [
  | inl h ↦ letter_steps b 10 110 realm some left rest h.1 refl refl
  | inr n ↦ elim (eqb_tells b 9) [
    | inl h ↦ letter_steps b 9 116 realm some left rest h.1 refl refl
    | inr t ↦ elim (eqb_tells b 8) [
      | inl h ↦ letter_steps b 8 98 realm some left rest h.1 refl refl
      | inr k ↦ elim (eqb_tells b 0) [
        | inl h ↦ letter_steps b 0 48 realm some left rest h.1 refl refl
        | inr z ↦ elim (eqb_tells b 47) [
          | inl h ↦ letter_steps b 47 47 realm some left rest h.1 refl refl
          | inr s ↦ elim (eqb_tells b 64) [
            | inl h ↦ letter_steps b 64 64 realm some left rest h.1 refl refl
            | inr a ↦ elim (eqb_tells b 92) [
              | inl h ↦ letter_steps b 92 92 realm some left rest h.1 refl refl
              | inr e ↦ other_steps b realm some left rest stands n.0 t.0 k.0 z.0 s.0 a.0 e.0
            ]
          ]
        ]
      ]
    ]
  ]
]

abbrev grown : Bool → List ℕ → Bool
grown some [] = some
grown some (b ∷ text) = true

grown_true : (text : List ℕ) → grown true text ≡ true
grown_true [] = refl
grown_true (b ∷ text) = refl

text_steps : (text : List ℕ) (realm some : Bool) (left : ℕ) (rest : List ℕ) → list_all can_stand text ≡ true
    → prints false realm some left (printed_text text ++ rest) ≡ prints false realm (grown some text) left rest
unfolding printed_text
text_steps [] realm some left rest e = refl
text_steps (b ∷ text) realm some left rest e =
    let p = and_parts (can_stand b) (list_all can_stand text) e in
    ap (prints false realm some left) (append_assoc (printed_byte b) (printed_text text) rest)
    ∙ byte_steps b realm some left (printed_text text ++ rest) p.0
    ∙ text_steps text realm true left rest p.1
    ∙ ap (λ (s : Bool). prints false realm s left rest) (grown_true text)

grown_some : (realm : List ℕ) → realm ≢ [] → grown false realm ≡ true
grown_some [] h = absurd (h refl)
grown_some (b ∷ realm) h = refl

realm_prints : (realm : List ℕ) (left : ℕ) → list_all can_stand realm ≡ true → realm ≢ []
    → prints false true false left (printed_text realm) ≡ true
unfolding prints
realm_prints realm left e some =
    ap (prints false true false left) (sym (append-nil (printed_text realm))) ∙ text_steps realm true false left [] e
    ∙ grown_some realm some

tail_prints : (others : List (List ℕ)) (realm : List ℕ) (some : Bool) (left : ℕ) → length others ≤ left
    → list_all (list_all can_stand) others ≡ true → list_all can_stand realm ≡ true → realm ≢ []
    → prints false false some left (tail others realm) ≡ true
unfolding prints behind_parts
tail_prints [] realm some left le e f there = realm_prints realm left f there
tail_prints (p ∷ others) realm some left le e f there =
    let b = and_parts (list_all can_stand p) (list_all (list_all can_stand) others) e in
    let room : ltb 0 left ≡ true = lt-ltb _ _ (omega arith) in
    let rest : prints false false false (left - 1) ((printed_text p ++ behind_parts others) ++ 64 ∷ printed_text realm)
    ≡ true =
    ap (prints false false false (left - 1))
    (append_assoc (printed_text p) (behind_parts others) (64 ∷ printed_text realm))
    ∙ text_steps p false false (left - 1) (tail others realm) b.0
    ∙ tail_prints others realm (grown false p) (left - 1) (omega arith) b.1 f there in
    and_from (ltb 0 left)
    (prints false false false (left - 1) ((printed_text p ++ behind_parts others) ++ 64 ∷ printed_text realm)) room rest

name_prints : (parts : List (List ℕ)) (realm : List ℕ) → IsName (record { parts = parts; realm = realm })
    → prints false false false 15 (printed (record { parts = parts; realm = realm })) ≡ true
name_prints [] realm f = absurd (f.some refl)
name_prints (first ∷ others) realm f =
    let b = and_parts (list_all can_stand first) (list_all (list_all can_stand) others) f.bytes in
    let few = f.few in
    ap (prints false false false 15) (sym (whole_form first others realm))
    ∙ text_steps first false false 15 (tail others realm) b.0
    ∙ tail_prints others realm (grown false first) 15 (omega arith) b.1 f.realm_bytes f.realm

pub printed_test : (text : List ℕ) → IsPrinted text → is_printed text ≡ true
unfolding is_printed
printed_test text p =
    let name = p.0 in
    let whole : is_printed (printed name) ≡ true = and_from (leb (length (printed name)) 255)
    (prints false false false 15 (printed name)) (le-leb _ _ p.1.0.short) (name_prints name.parts name.realm p.1.0) in
    ap is_printed p.1.1 ∙ whole

-- ---- what follows

pub printed_short : (text : List ℕ) → IsPrinted text → length text ≤ 255
printed_short text p = subst (λ (t : List ℕ). length t ≤ 255) (sym p.1.1) p.1.0.short

-- a printed name has no nul
pub printed_unbroken : (text : List ℕ) → IsPrinted text → ¬ Contains text 0
unfolding is_printed
printed_unbroken text f = λ (k, lt, is).
    no_zero false false false 15 text
    (and_parts (leb (length text) 255) (prints false false false 15 text) (printed_test text f)).1 k lt is
