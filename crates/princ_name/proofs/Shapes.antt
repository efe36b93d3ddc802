-- What a word says is spelled, and it is all that the word spells.
use Rattle.std.proofs.Common.{◌≡◌, ◌≢◌, ℕ, ◌+◌, Bool, true, false, Option, Some, None, List, [], ◌∷◌, ◌++◌, length}
use Rattle.std.proofs.Common.{map, ◌&&◌, not, ◌==◌, ◌⊎◌, inl, inr, refl, sym, ap, subst, ◌∙◌, if◌then◌else◌, arith}
use Rattle.std.proofs.lemmas.List.{same_from_push}
use Rattle.std.specs.List.{list_all}
use Rattle.princ_name.specs.Bytes.{is_refused, is_plain, is_sign, escaped, can_stand}
use Rattle.princ_name.specs.Faults.{first_fault}
use Rattle.princ_name.specs.Reading.{Said, Says, says, said_texts}
use Rattle.princ_name.specs.Spelling.{SpellsByte, SpellsText, SpellsPart, SpellsParts, SpellsWord}
use Rattle.princ_name.specs.Whole.{SpellsAt, RealmAt, IsGiven, given_part}
use Rattle.princ_name.specs.declared.parts.Part.{Part}
use Rattle.princ_name.proofs.Sound.{WithRealm, sound}
use Rattle.princ_name.proofs.Complete.{read_without, read_with}

no_mark : (k : ℕ) (mark : Option ℕ) → mark ≡ Some k → mark ≡ None → ⊥
no_mark k mark some none = cc

-- a word that says no realm
shape_none : (word given : List ℕ) (texts parts : List Part) (last realm : Part) → Says word texts last None
    → parts ≡ texts ++ last ∷ [] → realm ≡ given_part given → IsGiven word given parts realm
unfolding first_fault
shape_none word given texts parts last realm h is same = elim (sound 0 0 false word refl h.faultless) [
  | inl none ↦ record {
    spelled = subst (λ (ps : List Part). SpellsParts SpellsPart ps word) (sym (is ∙ h.texts_are)) none.spelled;
    same = same;
  }
  | inr some ↦ absurd (no_mark _ _ some.place (sym h.realm_is))
]

realm_place : (word : List ℕ) (at : ℕ) (texts parts : List Part) (last realm : Part) → Says word texts last (Some at)
    → parts ≡ texts → realm ≡ last → WithRealm (says 0 false None word) 0 word → RealmAt word parts realm at
realm_place word at texts parts last realm h is same w =
    let both : texts ++ last ∷ [] ≡ ((says 0 false None word).first ∷ w.ps) ++ w.realm ∷ [] =
    h.texts_are ∙ ap (λ (o : List Part). (says 0 false None word).first ∷ o) w.others_are in
    let split = same_from_push texts ((says 0 false None word).first ∷ w.ps) last w.realm both in
    let place : Some at ≡ Some (0 + length w.front + 1) = h.realm_is ∙ w.place in
    record {
      spelled = record {
        front = w.front;
        back = w.back;
        spells_parts =
            subst (λ (ps : List Part). SpellsParts SpellsPart ps w.front) (sym (is ∙ split.0)) w.first_spelled;
        spells_realm = subst (λ (p : Part). SpellsPart p w.back) (sym (same ∙ split.1)) w.realm_spelled;
        whole = w.whole;
      };
      place = let inside : at ≡ 0 + length w.front + 1 = cc in omega (arith, inside);
    }

-- a word that says a realm
shape_some : (word given : List ℕ) (at : ℕ) (texts parts : List Part) (last realm : Part)
    → Says word texts last (Some at)
    → parts ≡ texts → realm ≡ last → RealmAt word parts realm at
unfolding first_fault
shape_some word given at texts parts last realm h is same = elim (sound 0 0 false word refl h.faultless) [
  | inl none ↦ absurd (no_mark at _ (sym h.realm_is) none.none)
  | inr some ↦ realm_place word at texts parts last realm h is same some
]

pub shape_given : (word given : List ℕ) (texts parts : List Part) (last realm : Part) (mark : Option ℕ) → mark ≡ None
    → parts ≡ texts ++ last ∷ [] → realm ≡ given_part given → Says word texts last mark
    → SpellsAt word given parts realm mark
unfolding SpellsAt
shape_given word given texts parts last realm None none is same h =
    shape_none word given texts parts last realm h is same
shape_given word given texts parts last realm (Some at) none is same h = absurd (cc)

pub shape_own : (word given : List ℕ) (texts parts : List Part) (last realm : Part) (mark : Option ℕ)
    → (mark ≡ None → ⊥)
    → parts ≡ texts → realm ≡ last → Says word texts last mark → SpellsAt word given parts realm mark
unfolding SpellsAt
shape_own word given texts parts last realm None some is same h = absurd (some refl)
shape_own word given texts parts last realm (Some at) some is same h =
    shape_some word given at texts parts last realm h is same

pub at_word : (word given : List ℕ) (parts : List Part) (realm : Part) (mark : Option ℕ)
    → SpellsAt word given parts realm mark
    → SpellsWord SpellsPart word (given_part given) parts realm
unfolding SpellsAt
at_word word given parts realm None h = inl (h.spelled, h.same)
at_word word given parts realm (Some at) h = inr h.spelled

-- what a spelled word is read as
pub record ReadsAs (word : List ℕ) (parts : List Part) (realm given : Part) : Type 0 where
  pub faultless : first_fault word ≡ None
  pub shape : (((says 0 false None word).realm_at ≡ None) × (said_texts (says 0 false None word) ≡ parts)
      × (realm ≡ given))
      ⊎ ((n : ℕ) × ((says 0 false None word).realm_at ≡ Some n)
      × (said_texts (says 0 false None word) ≡ parts ++ realm ∷ []))

pub word_read : (word : List ℕ) (given realm : Part) (parts : List Part) → SpellsWord SpellsPart word given parts realm
    → ReadsAs word parts realm given
unfolding SpellsParts
word_read word given realm [] (inl h) = absurd h.0
word_read word given realm [] (inr h) = absurd h.spells_parts
word_read word given realm (p ∷ ps) (inl h) =
    let read = read_without p ps word h.0 in
    record {
      faultless = read.1;
      shape = inl (ap (λ (s : Said). s.realm_at) read.0, ap (λ (s : Said). said_texts s) read.0, h.1);
    }
word_read word given realm (p ∷ ps) (inr h) =
    let read = read_with p ps realm word h in
    record {
      faultless = read.1;
      shape = inr (_, ap (λ (s : Said). s.realm_at) read.0, ap (λ (s : Said). said_texts s) read.0);
    }

-- one word spells one shape
pub same_shape : (word : List ℕ) (given r s : Part) (ps qs : List Part) → SpellsWord SpellsPart word given ps r
    → SpellsWord SpellsPart word given qs s
    → (ps ≡ qs) × (r ≡ s)
same_shape word given r s ps qs one two =
    elim ((word_read word given r ps one).shape) [
      | inl a ↦ elim ((word_read word given s qs two).shape) [
        | inl b ↦ (sym a.1 ∙ b.1, a.2 ∙ sym b.2)
        | inr b ↦ absurd (no_mark _ _ b.1 a.0)
      ]
      | inr a ↦ elim ((word_read word given s qs two).shape) [
        | inl b ↦ absurd (no_mark _ _ a.1 b.0)
        | inr b ↦ same_from_push ps qs r s (sym a.2 ∙ b.2)
      ]
    ]

-- the bytes of spelled texts may stand in names
stands_plain : (r s : Bool) (b : ℕ) → is_refused b ≡ r → is_sign b ≡ s → (not r && not s) ≡ true → can_stand b ≡ true
unfolding can_stand
stands_plain true s b hr hs h = absurd (cc)
stands_plain false s b hr hs h = rw hr refl

allowed_stands : (c : ℕ) → is_refused c ≡ false → can_stand c ≡ true
unfolding can_stand
allowed_stands c allowed = rw allowed refl

stands_newline : can_stand 10 ≡ true
unfolding can_stand is_refused
stands_newline = refl

stands_tab : can_stand 9 ≡ true
unfolding can_stand is_refused
stands_tab = refl

stands_backspace : can_stand 8 ≡ true
unfolding can_stand is_refused
stands_backspace = refl

stands_nul : can_stand 0 ≡ true
unfolding can_stand is_refused
stands_nul = refl

escaped_stands : (c : ℕ) → is_refused c ≡ false → can_stand (escaped c) ≡ true
unfolding escaped
escaped_stands c allowed =
    elim (c == 110) as (λ v.
    can_stand (if v then 10 else if c == 116 then 9 else if c == 98 then 8 else if c == 48 then 0 else c) ≡ true) [
      | true ↦ stands_newline
      | false ↦ elim (c == 116) as (λ v.
          can_stand (if v then 9 else if c == 98 then 8 else if c == 48 then 0 else c) ≡ true) [
            | true ↦ stands_tab
            | false ↦ elim (c == 98) as (λ v. can_stand (if v then 8 else if c == 48 then 0 else c) ≡ true) [
              | true ↦ stands_backspace
              | false ↦ elim (c == 48) as (λ v. can_stand (if v then 0 else c) ≡ true) [
                | true ↦ stands_nul
                | false ↦ allowed_stands c allowed
              ]
            ]
          ]
    ]

byte_stands : (b : ℕ) (piece : List ℕ) → SpellsByte b piece → can_stand b ≡ true
unfolding is_plain
byte_stands b piece (inl h) = stands_plain (is_refused b) (is_sign b) b refl refl h.0
byte_stands b piece (inr h) = ap can_stand h.2 ∙ escaped_stands h.0 h.1

and_both : (x y : Bool) → x ≡ true → y ≡ true → (x && y) ≡ true
and_both x y hx hy = rw (hx, hy) refl

text_stands : (text word : List ℕ) → SpellsText text word → list_all can_stand text ≡ true
unfolding SpellsText
text_stands [] word h = refl
text_stands (b ∷ text) word h = and_both _ _ (byte_stands b h.0 h.2) (text_stands text h.1 h.3)

pub parts_stand : (parts : List Part) (word : List ℕ) → SpellsParts SpellsPart parts word
    → list_all (list_all can_stand) (map (λ p. p.text) parts) ≡ true
unfolding SpellsParts
parts_stand [] word h = absurd h
parts_stand (p ∷ []) word h = and_both _ _ (text_stands p.text word h.text) refl
parts_stand (p ∷ q ∷ ps) word h = and_both _ _ (text_stands p.text h.0 h.2.text) (parts_stand (q ∷ ps) h.1 h.3)

parts_some : (parts : List Part) (word : List ℕ) → SpellsParts SpellsPart parts word → parts ≢ []
unfolding SpellsParts
parts_some [] word h = absurd h
parts_some (p ∷ ps) word h = λ none. cc

pub shape_stands : (word given : List ℕ) (parts : List Part) (realm : Part) (mark : Option ℕ)
    → SpellsAt word given parts realm mark
    → (parts ≢ []) × (list_all (list_all can_stand) (map (λ p. p.text) parts) ≡ true)
unfolding SpellsAt
shape_stands word given parts realm None h = (parts_some parts word h.spelled, parts_stand parts word h.spelled)
shape_stands word given parts realm (Some at) h =
    (parts_some parts h.spelled.front h.spelled.spells_parts, parts_stand parts h.spelled.front h.spelled.spells_parts)
