-- Two names have two printed forms, whatever bytes they have, where one of them has two components.
use Rattle.std.proofs.Common.{◌≡◌, ◌≢◌, ◌⊎◌, ℕ, ◌==◌, Bool, true, false, List, [], ◌∷◌, ◌++◌, take}
use Rattle.std.proofs.Common.{drop, codes, inl, inr, refl, sym, ap, ◌∙◌, append_assoc, arith}
use Rattle.std.proofs.lemmas.Bool.Decides.{eqb_tells}
use Rattle.princ_name.specs.Bytes.{is_sign, escaped, printed_byte}
use Rattle.princ_name.specs.Names.{NameParts, printed, printed_parts, printed_text}
use Rattle.princ_rows.specs.EntryLaws.{same_bytes, bytes_same}
use Rattle.princ_name.specs.Printed.{is_master}
use Rattle.kdb_model.specs.Refusals.{is_protected}
use Rattle.kdb_plain.proofs.OwnNames.{master_prints}
use Rattle.master_keys.specs.First.{master_name}
use Rattle.princ_name.specs.Realms.{IsRealm}
use Rattle.std.proofs.lemmas.Bool.{false≢true}
use Rattle.std.proofs.lemmas.List.{take-append-drop}

abbrev pub name_of_two : List ℕ → List ℕ → List ℕ → NameParts
name_of_two first second realm = record { parts = first ∷ second ∷ []; realm = realm }

-- ---- one byte

record IsBare (b : ℕ) : Type 0 where
  piece : printed_byte b ≡ b ∷ []
  no_slash : b ≢ 47
  no_at : b ≢ 64
  no_backslash : b ≢ 92

record IsEscaped (b : ℕ) : Type 0 where
  letter : ℕ
  piece : printed_byte b ≡ 92 ∷ letter ∷ []
  stands_for : escaped letter ≡ b

escape : (b n letter : ℕ) → b ≡ n → printed_byte n ≡ 92 ∷ letter ∷ [] → escaped letter ≡ n → IsEscaped b
escape b n letter is piece meant =
    record { letter = letter; piece = ap printed_byte is ∙ piece; stands_for = meant ∙ sym is }

bare : (b : ℕ) → (b == 10) ≡ false → (b == 9) ≡ false → (b == 8) ≡ false → (b == 0) ≡ false → (b == 47) ≡ false
    → (b == 64) ≡ false → (b == 92) ≡ false → printed_byte b ≡ b ∷ []
unfolding printed_byte is_sign
bare b n t k z s a e = rw (n, t, k, z, s, a, e) refl

shape : (b : ℕ) → IsBare b ⊎ IsEscaped b
unfolding printed_byte is_sign escaped
shape b = elim (eqb_tells b 10) [
  | inl h ↦ inr (escape b 10 110 h.1 refl refl)
  | inr n ↦
      elim (eqb_tells b 9) [
        | inl h ↦ inr (escape b 9 116 h.1 refl refl)
        | inr t ↦
            elim (eqb_tells b 8) [
              | inl h ↦ inr (escape b 8 98 h.1 refl refl)
              | inr k ↦
                  elim (eqb_tells b 0) [
                    | inl h ↦ inr (escape b 0 48 h.1 refl refl)
                    | inr z ↦
                        elim (eqb_tells b 47) [
                          | inl h ↦ inr (escape b 47 47 h.1 refl refl)
                          | inr s ↦
                              elim (eqb_tells b 64) [
                                | inl h ↦ inr (escape b 64 64 h.1 refl refl)
                                | inr a ↦
                                    elim (eqb_tells b 92) [
                                      | inl h ↦ inr (escape b 92 92 h.1 refl refl)
                                      | inr e ↦ inl (record {
                                        piece = bare b n.0 t.0 k.0 z.0 s.0 a.0 e.0;
                                        no_slash = s.1;
                                        no_at = a.1;
                                        no_backslash = e.1;
                                      })
                                    ]
                              ]
                        ]
                  ]
            ]
      ]
]

bare_same : (b c : ℕ) (u v : List ℕ) → b ∷ u ≡ c ∷ v → (b ≡ c) × (u ≡ v)
bare_same b c u v e = (cc, cc)

escaped_same : (l m : ℕ) (u v : List ℕ) → 92 ∷ l ∷ u ≡ 92 ∷ m ∷ v → (l ≡ m) × (u ≡ v)
escaped_same l m u v e = (cc, cc)

-- what a byte prints ends where it ends
byte_same : (b c : ℕ) (u v : List ℕ) → printed_byte b ++ u ≡ printed_byte c ++ v → (b ≡ c) × (u ≡ v)
byte_same b c u v e = elim (shape b) [
  | inl x ↦
      elim (shape c) [
        | inl y ↦
            bare_same b c u v (ap (λ (p : List ℕ). p ++ u) (sym x.piece) ∙ e ∙ ap (λ (p : List ℕ). p ++ v) y.piece)
        | inr y ↦
            let same = bare_same b 92 u (y.letter ∷ v)
            (ap (λ (p : List ℕ). p ++ u) (sym x.piece) ∙ e ∙ ap (λ (p : List ℕ). p ++ v) y.piece) in
            absurd (x.no_backslash same.0)
      ]
  | inr x ↦
      elim (shape c) [
        | inl y ↦
            let same = bare_same 92 c (x.letter ∷ u) v
            (ap (λ (p : List ℕ). p ++ u) (sym x.piece) ∙ e ∙ ap (λ (p : List ℕ). p ++ v) y.piece) in
            absurd (y.no_backslash (sym same.0))
        | inr y ↦
            let same = escaped_same x.letter y.letter u v
            (ap (λ (p : List ℕ). p ++ u) (sym x.piece) ∙ e ∙ ap (λ (p : List ℕ). p ++ v) y.piece) in
            (sym x.stands_for ∙ ap escaped same.0 ∙ y.stands_for, same.1)
      ]
]

-- a sign between texts, which no byte prints at its front
abbrev IsMark : ℕ → Type 0
IsMark x = (x ≡ 47) ⊎ (x ≡ 64)

no_mark : (x : ℕ) → IsMark x → x ≢ 92
no_mark x (inl is) e = omega arith
no_mark x (inr is) e = omega arith

bare_mark : (b x : ℕ) → IsMark x → IsBare b → b ≢ x
bare_mark b x (inl is) bare e = bare.no_slash (e ∙ is)
bare_mark b x (inr is) bare e = bare.no_at (e ∙ is)

byte_no_mark : (b x : ℕ) (u v : List ℕ) → IsMark x → printed_byte b ++ u ≡ x ∷ v → ⊥
byte_no_mark b x u v mark e = elim (shape b) [
  | inl is ↦ bare_mark b x mark is (bare_same b x u v (ap (λ (p : List ℕ). p ++ u) (sym is.piece) ∙ e)).0
  | inr is ↦ no_mark x mark (sym (bare_same 92 x (is.letter ∷ u) v (ap (λ (p : List ℕ). p ++ u) (sym is.piece) ∙ e)).0)
]

byte_not_none : (b : ℕ) (u : List ℕ) → printed_byte b ++ u ≡ [] → ⊥
byte_not_none b u e = elim (shape b) [
  | inl is ↦ let none : b ∷ u ≡ [] = ap (λ (p : List ℕ). p ++ u) (sym is.piece) ∙ e in cc
  | inr is ↦ let none : 92 ∷ is.letter ∷ u ≡ [] = ap (λ (p : List ℕ). p ++ u) (sym is.piece) ∙ e in cc
]

-- ---- texts

text_more : (b : ℕ) (text rest : List ℕ)
    → printed_text (b ∷ text) ++ rest ≡ printed_byte b ++ (printed_text text ++ rest)
unfolding printed_text
text_more b text rest = append_assoc (printed_byte b) (printed_text text) rest

text_none : (rest : List ℕ) → printed_text [] ++ rest ≡ rest
unfolding printed_text
text_none rest = refl

record SameText (a b : List ℕ) (x y : ℕ) (u v : List ℕ) : Type 0 where
  text : a ≡ b
  mark : x ≡ y
  rest : u ≡ v

-- a text ends at the first sign
text_same : (a b : List ℕ) (x y : ℕ) (u v : List ℕ) → IsMark x → IsMark y
    → printed_text a ++ x ∷ u ≡ printed_text b ++ y ∷ v → SameText a b x y u v
text_same [] [] x y u v mx my e =
    let same = bare_same x y u v (sym (text_none (x ∷ u)) ∙ e ∙ text_none (y ∷ v)) in
    record { text = refl; mark = same.0; rest = same.1 }
text_same [] (c ∷ b) x y u v mx my e =
    absurd (byte_no_mark c x (printed_text b ++ y ∷ v) u mx (sym (sym (text_none (x ∷ u)) ∙ e ∙ text_more c b (y ∷ v))))
text_same (c ∷ a) [] x y u v mx my e =
    absurd (byte_no_mark c y (printed_text a ++ x ∷ u) v my (sym (text_more c a (x ∷ u)) ∙ e ∙ text_none (y ∷ v)))
text_same (c ∷ a) (d ∷ b) x y u v mx my e =
    let first = byte_same c d (printed_text a ++ x ∷ u) (printed_text b ++ y ∷ v)
    (sym (text_more c a (x ∷ u)) ∙ e ∙ text_more d b (y ∷ v)) in
    let others = text_same a b x y u v mx my first.1 in
    let text = others.text in
    record { text = let byte = first.0 in cc; mark = others.mark; rest = others.rest }

last_same : (a b : List ℕ) → printed_text a ≡ printed_text b → a ≡ b
unfolding printed_text
last_same [] [] e = refl
last_same [] (c ∷ b) e = absurd (byte_not_none c (printed_text b) (sym e))
last_same (c ∷ a) [] e = absurd (byte_not_none c (printed_text a) e)
last_same (c ∷ a) (d ∷ b) e =
    let first = byte_same c d (printed_text a) (printed_text b) e in
    let byte = first.0 in
    let text = last_same a b first.1 in cc

-- ---- names of two components

no_slash_at : (x y : ℕ) → x ≡ 47 → y ≡ 64 → x ≢ y
no_slash_at x y slash at e = omega arith

one_before : (a : List ℕ) (x : ℕ) (b u : List ℕ) → (a ++ x ∷ b) ++ u ≡ a ++ x ∷ (b ++ u)
one_before a x b u = append_assoc a (x ∷ b) u

-- two components, and what stands behind the @
both_same : (parts : List (List ℕ)) (a b r v : List ℕ)
    → printed_parts parts ++ 64 ∷ printed_text r ≡ printed_text a ++ 47 ∷ (printed_text b ++ 64 ∷ v)
    → (parts ≡ a ∷ b ∷ []) × (printed_text r ≡ v)
unfolding printed_parts
both_same [] a b r v e =
    let at = text_same [] a 64 47 (printed_text r) (printed_text b ++ 64 ∷ v) (inr refl) (inl refl)
    (text_none (64 ∷ printed_text r) ∙ e) in
    absurd (no_slash_at 47 64 refl refl (sym at.mark))
both_same (p ∷ []) a b r v e =
    let at = text_same p a 64 47 (printed_text r) (printed_text b ++ 64 ∷ v) (inr refl) (inl refl) e in
    absurd (no_slash_at 47 64 refl refl (sym at.mark))
both_same (p ∷ q ∷ []) a b r v e =
    let first = text_same p a 47 47 (printed_text q ++ 64 ∷ printed_text r) (printed_text b ++ 64 ∷ v) (inl refl)
    (inl refl) (sym (one_before (printed_text p) 47 (printed_text q) (64 ∷ printed_text r)) ∙ e) in
    let second = text_same q b 64 64 (printed_text r) v (inr refl) (inr refl) first.rest in
    let one = first.text in
    let two = second.text in
    (cc, second.rest)
both_same (p ∷ q ∷ o ∷ parts) a b r v e =
    let first =
    text_same p a 47 47 (printed_parts (q ∷ o ∷ parts) ++ 64 ∷ printed_text r) (printed_text b ++ 64 ∷ v) (inl refl)
    (inl refl) (sym (one_before (printed_text p) 47 (printed_parts (q ∷ o ∷ parts)) (64 ∷ printed_text r)) ∙ e) in
    let second = text_same q b 47 64 (printed_parts (o ∷ parts) ++ 64 ∷ printed_text r) v (inl refl) (inr refl)
    (sym (one_before (printed_text q) 47 (printed_parts (o ∷ parts)) (64 ∷ printed_text r)) ∙ first.rest) in
    absurd (no_slash_at 47 64 refl refl second.mark)

pub pair_same : (name : NameParts) (a b realm : List ℕ) → printed name ≡ printed (name_of_two a b realm)
    → (name.parts ≡ a ∷ b ∷ []) × (name.realm ≡ realm)
unfolding printed printed_parts
pair_same name a b realm e =
    let same = both_same name.parts a b name.realm (printed_text realm)
    (e ∙ one_before (printed_text a) 47 (printed_text b) (64 ∷ printed_text realm)) in
    (same.0, last_same name.realm realm same.1)

pub same_pair : (name : NameParts) (a b realm : List ℕ) → name.parts ≡ a ∷ b ∷ [] → name.realm ≡ realm
    → printed name ≡ printed (name_of_two a b realm)
unfolding printed
same_pair name a b realm parts is = rw (parts, is) refl

truth : (b : Bool) → (b ≡ true) ⊎ (b ≡ false)
truth true = inl refl
truth false = inr refl

front_is : (n : ℕ) (text front : List ℕ) → take n text ≡ front → text ≡ front ++ drop n text
front_is n text front e = sym (take-append-drop n text) ∙ ap (λ (f : List ℕ). f ++ drop n text) e

-- a printed name that begins as that of K/M has its components
master_parts : (name : NameParts) (v : List ℕ) → printed name ≡ 75 ∷ 47 ∷ 77 ∷ 64 ∷ v
    → name.parts ≡ codes "K" ∷ codes "M" ∷ []
unfolding printed printed_text printed_byte is_sign
master_parts name v e = (both_same name.parts (codes "K") (codes "M") name.realm v e).0

-- of the names of a realm, K/M is protected
master_protected : (realm : List ℕ) (name : NameParts) → IsRealm realm → name.realm ≡ realm
    → is_master (printed name) ≡ true → is_protected realm name ≡ true
unfolding is_master is_protected
master_protected realm name is own e =
    let parts = master_parts name (drop 4 (printed name)) (front_is 4 (printed name) (75 ∷ 47 ∷ 77 ∷ 64 ∷ [])
    (same_bytes (take 4 (printed name)) (75 ∷ 47 ∷ 77 ∷ 64 ∷ []) e)) in
    rw (bytes_same (printed name) (master_name realm)
    (same_pair name (codes "K") (codes "M") realm parts own ∙ sym (master_prints realm is))) refl

pub not_master : (realm : List ℕ) (name : NameParts) → IsRealm realm → name.realm ≡ realm
    → is_protected realm name ≡ false → is_master (printed name) ≡ false
not_master realm name is own e =
    elim (truth (is_master (printed name))) [
      | inl yes_it_is ↦ absurd (false≢true (sym e ∙ master_protected realm name is own yes_it_is))
      | inr other ↦ other
    ]
