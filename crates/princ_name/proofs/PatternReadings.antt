-- The pattern of a word, as a function of its bytes, is the one that it spells.
use Rattle.std.proofs.Common.{◌≡◌, ◌≢◌, ℕ, ◌+◌, ◌-◌, Bool, true, false, Option, Some, None, List, [], ◌∷◌, ◌++◌, length}
use Rattle.std.proofs.Common.{take, slice_index_or, Ok, Err, inl, inr, refl, sym, ap, subst, ◌∙◌, length-append, arith}
use Rattle.std.specs.Option.{is_some}
use Rattle.std.specs.Str.{bytes_eq}
use Rattle.std.proofs.lemmas.Bool.{true≢false}
use Rattle.std.proofs.lemmas.List.{get_or_push}
use Rattle.std.proofs.lemmas.Slice.Eq.{bytes_eq-Decides}
use Rattle.std.proofs.Math.Seq.{take-append_seam}
use Rattle.princ_name.specs.Faults.{first_fault}
use Rattle.princ_name.specs.Names.{IsName}
use Rattle.princ_name.specs.PatternReadings.{ReadsPattern, pattern_by, pattern_in, pattern_said, within_limits}
use Rattle.princ_name.specs.Patterns.{AnswersPattern, SpellsPattern}
use Rattle.princ_name.specs.Reading.{empty_part, said_texts}
use Rattle.princ_name.specs.Readings.{said_in}
use Rattle.princ_name.specs.Shape.{PatternShape, Every, Parts}
use Rattle.princ_name.specs.Spelling.{SpellsPart, SpellsWord}
use Rattle.princ_name.specs.Whole.{given_part, name_of}
use Rattle.princ_name.specs.declared.faults.NameFault.{NameFault}
use Rattle.princ_name.specs.declared.faults.NameFault.TheVariants.{BadName, MemoryOut}
use Rattle.princ_name.specs.declared.parts.Part.{Part}
use Rattle.princ_name.proofs.OwnNames.{test_holds, holds_test}
use Rattle.princ_name.proofs.Shapes.{ReadsAs, word_read}
use Rattle.princ_name.proofs.Sound.{NoRealm, WithRealm, sound}

-- ---- the pattern of a word

last_said : (at : ℕ) (given : List ℕ) (parts : List Part) (realm : Part)
    → pattern_by (Some at) (parts ++ realm ∷ []) given ≡ Parts parts realm
unfolding pattern_by
last_said at given parts realm =
    let count : length (parts ++ realm ∷ []) - 1 ≡ length parts = omega (arith, length-append parts (realm ∷ [])) in
    ap (λ (n : ℕ). Parts (take n (parts ++ realm ∷ [])) (slice_index_or (parts ++ realm ∷ []) n empty_part)) count
    ∙ ap (λ (ps : List Part). Parts ps (slice_index_or (parts ++ realm ∷ []) (length parts) empty_part))
    (take-append_seam parts (realm ∷ []))
    ∙ ap (λ (p : Part). Parts parts p) (get_or_push parts realm empty_part (length parts) refl)

shape_said : (word given : List ℕ) (parts : List Part) (realm : Part) → ReadsAs word parts realm (given_part given)
    → pattern_said word given ≡ Parts parts realm
unfolding pattern_by
shape_said word given parts realm h = elim h.shape [
  | inl own ↦
      ap (λ (mark : Option ℕ). pattern_by mark (said_texts (said_in word)) given) own.0
      ∙ ap (λ (ps : List Part). Parts ps (given_part given)) own.1
      ∙ ap (λ (p : Part). Parts parts p) (sym own.2)
  | inr some ↦
      ap (λ (mark : Option ℕ). pattern_by mark (said_texts (said_in word)) given) some.1
      ∙ ap (λ (ps : List Part). pattern_by (Some some.0) ps given) some.2
      ∙ last_said some.0 given parts realm
]

not_star : (word : List ℕ) (b : Bool) → bytes_eq word (42 ∷ []) ≡ b → word ≢ 42 ∷ [] → b ≡ false
not_star word false is other = refl
not_star word true is other = absurd (other ((bytes_eq-Decides word (42 ∷ [])).0 is))

-- a word that spells a pattern has it
pub spelled_is : (word given : List ℕ) (pattern : PatternShape) → SpellsPattern word given pattern
    → pattern_in word given ≡ Some pattern
unfolding pattern_in SpellsPattern
spelled_is word given Every is = rw ((bytes_eq-Decides word (42 ∷ [])).1 is) refl
spelled_is word given (Parts parts realm) h =
    let read = word_read word (given_part given) realm parts h.1 in
    let said : pattern_said word given ≡ Parts parts realm = shape_said word given parts realm read in
    let other : bytes_eq word (42 ∷ []) ≡ false = not_star word (bytes_eq word (42 ∷ [])) refl h.0 in
    let good : within_limits (pattern_said word given) ≡ true =
    ap within_limits said ∙ holds_test (name_of parts realm) h.2 in
    rw (other, read.faultless, good) (ap Some said)

record Spelled (word given : List ℕ) : Type 0 where
  parts : List Part
  realm : Part
  said : pattern_said word given ≡ Parts parts realm
  spelled : SpellsWord SpellsPart word (given_part given) parts realm

spelled_without : (word given : List ℕ) → NoRealm (said_in word) word → Spelled word given
unfolding pattern_by
spelled_without word given h = record {
  parts = said_texts (said_in word);
  realm = given_part given;
  said = ap (λ (mark : Option ℕ). pattern_by mark (said_texts (said_in word)) given) h.none;
  spelled = inl (h.spelled, refl);
}

spelled_with : (word given : List ℕ) → WithRealm (said_in word) 0 word → Spelled word given
spelled_with word given h = record {
  parts = (said_in word).first ∷ h.ps;
  realm = h.realm;
  said = ap (λ (mark : Option ℕ). pattern_by mark (said_texts (said_in word)) given) h.place
      ∙ ap (λ (others : List Part). pattern_by (Some (0 + length h.front + 1)) ((said_in word).first ∷ others) given)
      h.others_are
      ∙ last_said (0 + length h.front + 1) given ((said_in word).first ∷ h.ps) h.realm;
  spelled = inr (record {
    front = h.front;
    back = h.back;
    spells_parts = h.first_spelled;
    spells_realm = h.realm_spelled;
    whole = h.whole;
  });
}

faultless_spelled : (word given : List ℕ) → first_fault word ≡ None → Spelled word given
unfolding first_fault
faultless_spelled word given faultless = elim (sound 0 0 false word refl faultless) [
  | inl h ↦ spelled_without word given h
  | inr h ↦ spelled_with word given h
]

not_some : (fault : Option ℕ) → is_some fault ≡ false → fault ≡ None
not_some None is = refl
not_some (Some at) is = absurd (cc)

-- ---- what a word has, it spells

-- how the word has no pattern, or the one that it has
data Found (word given : List ℕ) : Type 0 where
  has_star : word ≡ 42 ∷ [] → pattern_in word given ≡ Some Every → Found word given
  has_parts : (s : Spelled word given) → word ≢ 42 ∷ [] → IsName (name_of s.parts s.realm)
      → pattern_in word given ≡ Some (Parts s.parts s.realm) → Found word given
  has_none : pattern_in word given ≡ None → Found word given

found_within : (word given : List ℕ) → bytes_eq word (42 ∷ []) ≡ false → (s : Spelled word given)
    → first_fault word ≡ None
    → (b : Bool) → within_limits (pattern_said word given) ≡ b → Found word given
unfolding pattern_in
found_within word given other s faultless true good =
    has_parts s (λ is. absurd (true≢false (sym ((bytes_eq-Decides word (42 ∷ [])).1 is) ∙ other)))
    (test_holds (name_of s.parts s.realm) (sym (ap within_limits s.said) ∙ good))
    (rw (other, faultless, good) (ap Some s.said))
found_within word given other s faultless false bad = has_none (rw (other, faultless, bad) refl)

found_other : (word given : List ℕ) → bytes_eq word (42 ∷ []) ≡ false → (b : Bool) → is_some (first_fault word) ≡ b
    → Found word given
unfolding pattern_in
found_other word given other true faulty = has_none (rw (other, faulty) refl)
found_other word given other false faultless =
    let clean : first_fault word ≡ None = not_some (first_fault word) faultless in
    found_within word given other (faultless_spelled word given clean) clean
    (within_limits (pattern_said word given)) refl

found_by : (word given : List ℕ) (b : Bool) → bytes_eq word (42 ∷ []) ≡ b → Found word given
unfolding pattern_in
found_by word given true is = has_star ((bytes_eq-Decides word (42 ∷ [])).0 is) (rw is refl)
found_by word given false is = found_other word given is (is_some (first_fault word)) refl

found : (word given : List ℕ) → Found word given
found word given = found_by word given (bytes_eq word (42 ∷ [])) refl

spells_star : (word given : List ℕ) → word ≡ 42 ∷ [] → SpellsPattern word given Every
unfolding SpellsPattern
spells_star word given is = is

spells_found : (word given : List ℕ) (parts : List Part) (realm : Part) → word ≢ 42 ∷ []
    → SpellsWord SpellsPart word (given_part given) parts realm → IsName (name_of parts realm)
    → SpellsPattern word given (Parts parts realm)
unfolding SpellsPattern
spells_found word given parts realm other spelled name = (other, spelled, name)

pub is_spelled : (word given : List ℕ) (pattern : PatternShape) → pattern_in word given ≡ Some pattern
    → SpellsPattern word given pattern
is_spelled word given pattern is = elim (found word given) [
  | has_star lone has ↦
      let same : Every ≡ pattern = cc in
      subst (λ (p : PatternShape). SpellsPattern word given p) same (spells_star word given lone)
  | has_parts s other name has ↦
      let same : Parts s.parts s.realm ≡ pattern = cc in
      subst (λ (p : PatternShape). SpellsPattern word given p) same
      (spells_found word given s.parts s.realm other s.spelled name)
  | has_none has ↦ absurd (cc)
]

-- a word that spells no pattern has none
pub none_spelled : (word given : List ℕ) → ((pattern : PatternShape) → SpellsPattern word given pattern → ⊥)
    → None ≡ pattern_in word given
none_spelled word given absent = elim (found word given) [
  | has_star lone has ↦ absurd (absent Every (spells_star word given lone))
  | has_parts s other name has ↦
      absurd (absent (Parts s.parts s.realm) (spells_found word given s.parts s.realm other s.spelled name))
  | has_none has ↦ sym has
]

pub reads_spelled : (word given : List ℕ) (pattern : PatternShape) → SpellsPattern word given pattern
    → ReadsPattern (pattern_in word given) (Ok pattern)
unfolding ReadsPattern
reads_spelled word given pattern h = spelled_is word given pattern h

no_answer : (pattern : PatternShape) (offset : ℕ) → AnswersPattern pattern (Err (BadName offset)) → ⊥
unfolding AnswersPattern
no_answer pattern offset h = h

-- a fault that no spelled pattern has
pub reads_fault : (word given : List ℕ) (fault : NameFault)
    → ((pattern : PatternShape) → SpellsPattern word given pattern → AnswersPattern pattern (Err fault))
    → ReadsPattern (pattern_in word given) (Err fault)
unfolding ReadsPattern
reads_fault word given MemoryOut only = tt
reads_fault word given (BadName offset) only =
    sym (none_spelled word given (λ pattern h. no_answer pattern offset (only pattern h)))
