-- The printed form of a name spells it.
use Rattle.std.proofs.Common.{◌≡◌, ◌≢◌, ℕ, ◌==◌, Bool, true, false, ◌||◌, ◌&&◌}
use Rattle.std.proofs.Common.{not, List, [], ◌∷◌, inl, inr, refl, sym, subst}
use Rattle.std.proofs.lemmas.Bool.Decides.{eqb_tells}
use Rattle.std.specs.List.{list_all}
use Rattle.princ_name.specs.Bytes.{is_refused, is_sign, escaped, can_stand, printed_byte}
use Rattle.princ_name.specs.Names.{NameParts, IsName, printed, printed_parts, printed_text}
use Rattle.princ_name.specs.Spelling.{SpellsByte, SpellsText, SpellsParts, Spells}
use Rattle.princ_name.specs.ByteLaws.{tests_plain}

-- a byte that is printed with a backslash
behind : (b n c : ℕ) → b ≡ n → is_refused c ≡ false → n ≡ escaped c → printed_byte n ≡ 92 ∷ c ∷ []
    → SpellsByte b (printed_byte b)
behind b n c is allowed meant form =
    subst (λ (k : ℕ). SpellsByte k (printed_byte k)) (sym is) (inr (c, allowed, meant, form))

newline : (b : ℕ) → b ≡ 10 → SpellsByte b (printed_byte b)
unfolding is_refused escaped printed_byte
newline b is = behind b 10 110 is refl refl refl

tab : (b : ℕ) → b ≡ 9 → SpellsByte b (printed_byte b)
unfolding is_refused escaped printed_byte
tab b is = behind b 9 116 is refl refl refl

backspace : (b : ℕ) → b ≡ 8 → SpellsByte b (printed_byte b)
unfolding is_refused escaped printed_byte
backspace b is = behind b 8 98 is refl refl refl

nul : (b : ℕ) → b ≡ 0 → SpellsByte b (printed_byte b)
unfolding is_refused escaped printed_byte
nul b is = behind b 0 48 is refl refl refl

slash : (b : ℕ) → b ≡ 47 → SpellsByte b (printed_byte b)
unfolding is_refused escaped printed_byte is_sign
slash b is = behind b 47 47 is refl refl refl

at_sign : (b : ℕ) → b ≡ 64 → SpellsByte b (printed_byte b)
unfolding is_refused escaped printed_byte is_sign
at_sign b is = behind b 64 64 is refl refl refl

backslash : (b : ℕ) → b ≡ 92 → SpellsByte b (printed_byte b)
unfolding is_refused escaped printed_byte is_sign
backslash b is = behind b 92 92 is refl refl refl

unrefused : (r x : Bool) → x ≡ false → (not r || x) ≡ true → r ≡ false
unrefused false x none h = refl
unrefused true x none h = absurd (cc)

other : (b : ℕ) → can_stand b ≡ true → (b == 10) ≡ false → (b == 9) ≡ false → (b == 8) ≡ false → (b == 0) ≡ false
    → (b == 47) ≡ false → (b == 64) ≡ false → (b == 92) ≡ false → SpellsByte b (printed_byte b)
unfolding can_stand printed_byte is_sign
other b stands n t k z s a e =
    let allowed = unrefused (is_refused b) (b == 10 || b == 9 || b == 8 || b == 0) (rw (n, t, k, z) refl) stands in
    inl (tests_plain b allowed s a e, rw (n, t, k, z, s, a, e) refl)

byte_printed : (b : ℕ) → can_stand b ≡ true → SpellsByte b (printed_byte b)
byte_printed b stands = elim (eqb_tells b 10) [
  | inl h ↦ newline b h.1
  | inr n ↦
      elim (eqb_tells b 9) [
        | inl h ↦ tab b h.1
        | inr t ↦
            elim (eqb_tells b 8) [
              | inl h ↦ backspace b h.1
              | inr k ↦
                  elim (eqb_tells b 0) [
                    | inl h ↦ nul b h.1
                    | inr z ↦
                        elim (eqb_tells b 47) [
                          | inl h ↦ slash b h.1
                          | inr s ↦
                              elim (eqb_tells b 64) [
                                | inl h ↦ at_sign b h.1
                                | inr a ↦
                                    elim (eqb_tells b 92) [
                                      | inl h ↦ backslash b h.1
                                      | inr e ↦ other b stands n.0 t.0 k.0 z.0 s.0 a.0 e.0
                                    ]
                              ]
                        ]
                  ]
            ]
      ]
]

both_true : (x y : Bool) → (x && y) ≡ true → (x ≡ true) × (y ≡ true)
both_true true y h = (refl, h)
both_true false y h = absurd (cc)

text_printed : (text : List ℕ) → list_all can_stand text ≡ true → SpellsText text (printed_text text)
unfolding SpellsText printed_text
text_printed [] h = refl
text_printed (b ∷ text) h =
    let both = both_true (can_stand b) (list_all can_stand text) h in
    (printed_byte b, printed_text text, byte_printed b both.0, text_printed text both.1, refl)

parts_printed : (parts : List (List ℕ)) → parts ≢ [] → list_all (list_all can_stand) parts ≡ true
    → SpellsParts SpellsText parts (printed_parts parts)
unfolding SpellsParts printed_parts
parts_printed [] some h = absurd (some refl)
parts_printed (part ∷ []) some h = text_printed part (both_true (list_all can_stand part) true h).0
parts_printed (part ∷ next ∷ parts) some h =
    let both = both_true (list_all can_stand part) (list_all (list_all can_stand) (next ∷ parts)) h in (
      printed_text part,
      printed_parts (next ∷ parts),
      text_printed part both.0,
      parts_printed (next ∷ parts) (λ none. cc) both.1,
      refl,
    )

pub name_printed : (name : NameParts) (given : List ℕ) → IsName name → Spells (printed name) given name
unfolding printed
name_printed name given is = inr (record {
  front = printed_parts name.parts;
  back = printed_text name.realm;
  spells_parts = parts_printed name.parts is.some is.bytes;
  spells_realm = text_printed name.realm is.realm_bytes;
  whole = refl;
})
