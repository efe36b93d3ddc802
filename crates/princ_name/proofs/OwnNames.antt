-- What is read of a word is the name of the given realm that it spells, and else the place of its refusal.
use Rattle.std.proofs.Common.{◌≡◌, ◌≢◌, ℕ, ◌+◌, ◌-◌, ◌≤◌, Bool, true, false, Option, Some}
use Rattle.std.proofs.Common.{None, List, [], ◌∷◌, ◌++◌, length, map, take, Ok, Err, ◌⊎◌}
use Rattle.std.proofs.Common.{inl, inr, refl, sym, ap, subst, ◌∙◌, arith, length-append}
use Rattle.std.specs.Prelude.{slice_index_or}
use Rattle.std.specs.Str.{bytes_eq}
use Rattle.std.proofs.lemmas.Bool.{and_parts, and_from, leb-true, le-leb}
use Rattle.std.proofs.lemmas.List.{map-append, get_or_push}
use Rattle.std.proofs.lemmas.Slice.Eq.{bytes_eq-Decides}
use Rattle.std.proofs.Math.Seq.{take-append_seam}
use Rattle.princ_name.specs.Answers.{AnswersReading, IsRefusedAt, SpellsNone, OtherRealm}
use Rattle.princ_name.specs.Faults.{first_fault, fault_place}
use Rattle.princ_name.specs.Names.{NameParts, IsName, printed}
use Rattle.princ_name.specs.Reading.{Said, said_texts}
use Rattle.princ_name.specs.Readings.{is_name, name_by, name_said, said_in, realm_place, own_name_in}
use Rattle.princ_name.specs.Spelling.{SpellsText, SpellsPart, SpellsParts, SpellsWithRealm, Spells, is_bare}
use Rattle.princ_name.specs.Whole.{given_part, name_of}
use Rattle.princ_name.specs.declared.parts.Part.{Part}
use Rattle.princ_name.specs.declared.faults.NameFault.{NameFault}
use Rattle.princ_name.specs.declared.faults.NameFault.TheVariants.{BadName, MemoryOut}
use Rattle.princ_name.proofs.Complete.{read_with}
use Rattle.princ_name.proofs.FaultlessWords.{faultless_name}
use Rattle.princ_name.proofs.PrintedSpells.{name_printed}
use Rattle.princ_name.proofs.Projections.{lifted, lifted_name, one_name, name_faultless}
use Rattle.princ_name.proofs.Shapes.{ReadsAs, word_read}

-- ---- the limits of names

some_counted : {A : Type 0} (xs : List A) → xs ≢ [] → 1 ≤ length xs
some_counted [] some = absurd (some refl)
some_counted (x ∷ xs) some = omega arith

counted_some : {A : Type 0} (xs : List A) → 1 ≤ length xs → xs ≢ []
counted_some [] counted = absurd (omega arith)
counted_some (x ∷ xs) counted = λ none. cc

pub test_holds : (name : NameParts) → is_name name ≡ true → IsName name
unfolding is_name
test_holds name h =
    let short = and_parts _ _ h in
    let realm_bytes = and_parts _ _ short.0 in
    let realm = and_parts _ _ realm_bytes.0 in
    let bytes = and_parts _ _ realm.0 in
    let counts = and_parts _ _ bytes.0 in
    record {
      some = counted_some name.parts (leb-true _ _ counts.0);
      few = leb-true _ _ counts.1;
      bytes = bytes.1;
      realm = counted_some name.realm (leb-true _ _ realm.1);
      realm_bytes = realm_bytes.1;
      short = leb-true _ _ short.1;
    }

pub holds_test : (name : NameParts) → IsName name → is_name name ≡ true
unfolding is_name
holds_test name is =
    let some = le-leb _ _ (some_counted name.parts is.some) in
    let realm = le-leb _ _ (some_counted name.realm is.realm) in
    and_from _ _ (and_from _ _ (and_from _ _ (and_from _ _ (and_from _ _ some (le-leb _ _ is.few)) is.bytes) realm)
    is.realm_bytes) (le-leb _ _ is.short)

-- ---- names with one printed form

pub printed_once : (a b : NameParts) → IsName a → IsName b → printed a ≡ printed b → a ≡ b
printed_once a b ha hb same =
    one_name (printed b) [] a b (subst (λ (word : List ℕ). Spells word [] a) same (name_printed a [] ha))
    (name_printed b [] hb)

-- ---- what a spelled word says

named_last : (at : ℕ) (texts : List (List ℕ)) (realm given : List ℕ)
    → name_by (Some at) (texts ++ realm ∷ []) given ≡ record { parts = texts; realm = realm }
unfolding name_by
named_last at texts realm given =
    let count : length (texts ++ realm ∷ []) - 1 ≡ length texts = omega (arith, length-append texts (realm ∷ [])) in
    ap (λ (n : ℕ). record { parts = take n (texts ++ realm ∷ []); realm = slice_index_or (texts ++ realm ∷ []) n [] })
    count
    ∙ ap (λ (ts : List (List ℕ)). record { parts = ts; realm = slice_index_or (texts ++ realm ∷ []) (length texts) [] })
    (take-append_seam texts (realm ∷ []))
    ∙ ap (λ (r : List ℕ). record { parts = texts; realm = r }) (get_or_push texts realm [] (length texts) refl)

named_given : (texts : List (List ℕ)) (given : List ℕ)
    → name_by None texts given ≡ record { parts = texts; realm = given }
unfolding name_by
named_given texts given = refl

abbrev texts_in : List Part → List (List ℕ)
texts_in parts = map (λ part. part.text) parts

said_as : (word given : List ℕ) (parts : List Part) (realm : Part) → ReadsAs word parts realm (given_part given)
    → name_said word given ≡ name_of parts realm
unfolding name_said
said_as word given parts realm h = elim h.shape [
  | inl own ↦
      ap (λ (mark : Option ℕ). name_by mark (texts_in (said_texts (said_in word))) given) own.0
      ∙ ap (λ (ps : List Part). name_by None (texts_in ps) given) own.1
      ∙ named_given (texts_in parts) given
      ∙ ap (λ (p : Part). name_of parts p) (sym own.2)
  | inr some ↦
      ap (λ (mark : Option ℕ). name_by mark (texts_in (said_texts (said_in word))) given) some.1
      ∙ ap (λ (ps : List Part). name_by (Some some.0) (texts_in ps) given) some.2
      ∙ ap (λ (ts : List (List ℕ)). name_by (Some some.0) ts given)
      (map-append (λ (part : Part). part.text) parts (realm ∷ []))
      ∙ named_last some.0 (texts_in parts) realm.text given
]

pub said_name : (word given : List ℕ) (name : NameParts) → Spells word given name → name_said word given ≡ name
said_name word given name h =
    let l = lifted_name word given name h in
    said_as word given l.parts l.realm (word_read word (given_part given) l.realm l.parts l.spelled) ∙ l.is

part_mark : (word : List ℕ) (parts : List Part) (realm : Part) (s : SpellsWithRealm SpellsPart word parts realm)
    → (said_in word).realm_at ≡ Some (length s.front + 1)
unfolding SpellsParts
part_mark word [] realm s = absurd s.spells_parts
part_mark word (p ∷ ps) realm s = ap (λ (said : Said). said.realm_at) (read_with p ps realm word s).0

-- the realm's place
place_said : (word : List ℕ) (parts : List (List ℕ)) (realm : List ℕ) (s : SpellsWithRealm SpellsText word parts realm)
    → realm_place word ≡ length s.front + 1
unfolding realm_place
place_said word parts realm s =
    let l = lifted parts s.front s.spells_parts in
    rw (part_mark word l.parts (record { text = realm; bare = is_bare s.back })
    (record {
      front = s.front;
      back = s.back;
      spells_parts = l.spelled;
      spells_realm = record { text = s.spells_realm; bare = refl };
      whole = s.whole;
    })) refl

-- ---- the three answers

no_test : (name : NameParts) → (IsName name → ⊥) → is_name name ≡ false
no_test name none = elim (is_name name) as (λ v. is_name name ≡ v → v ≡ false) [
  | true ↦ λ is. absurd (none (test_holds name is))
  | false ↦ λ is. refl
] refl

no_same : (xs ys : List ℕ) → xs ≢ ys → bytes_eq xs ys ≡ false
no_same xs ys differ = elim (bytes_eq xs ys) as (λ v. bytes_eq xs ys ≡ v → v ≡ false) [
  | true ↦ λ is. absurd (differ ((bytes_eq-Decides xs ys).0 is))
  | false ↦ λ is. refl
] refl

-- the name of the given realm is read
pub reading_of_name : (word given : List ℕ) (name : NameParts) → Spells word given name → IsName name
    → name.realm ≡ given → own_name_in word given ≡ Ok name
unfolding own_name_in
reading_of_name word given name h is own =
    rw (
      name_faultless word given name h,
      said_name word given name h,
      holds_test name is,
      (bytes_eq-Decides name.realm given).1 own,
    ) refl

faulty_none : (word given : List ℕ) (fault : Option ℕ) → first_fault word ≡ fault → SpellsNone word given
    → own_name_in word given ≡ Err (fault_place word)
unfolding own_name_in
faulty_none word given (Some at) some h = rw some refl
faulty_none word given None none h =
    let spelled = faultless_name word given none in
    rw (none, said_name word given spelled.0 spelled.1, no_test spelled.0 (h.none spelled.0 spelled.1)) refl

other_place : (word given : List ℕ) (place : ℕ) → OtherRealm word given place → own_name_in word given ≡ Err place
unfolding own_name_in
other_place word given place h =
    let spelled : Spells word given h.name = inr h.spelled in
    rw (
      name_faultless word given h.name spelled,
      said_name word given h.name spelled,
      holds_test h.name h.is_name,
      no_same h.name.realm given h.other,
    )
    (ap Err (place_said word h.name.parts h.name.realm h.spelled ∙ sym h.place))

-- the place of a refusal is read
pub reading_of_refusal : (word given : List ℕ) (place : ℕ) → IsRefusedAt word given place
    → own_name_in word given ≡ Err place
reading_of_refusal word given place (inl h) = faulty_none word given (first_fault word) refl h.0 ∙ ap Err (sym h.1)
reading_of_refusal word given place (inr h) = other_place word given place h

-- each word has a name of the given realm, or it is refused at a place
abbrev OwnName : List ℕ → List ℕ → NameParts → Type 0
OwnName word given name = Spells word given name × IsName name × (name.realm ≡ given)

abbrev Judged : List ℕ → List ℕ → Type 0
Judged word given = ((name : NameParts) × OwnName word given name) ⊎ ((place : ℕ) × IsRefusedAt word given place)

by_realm : (word given : List ℕ) (name : NameParts) (same : Bool) → bytes_eq name.realm given ≡ same
    → Spells word given name → IsName name → Judged word given
by_realm word given name true same h is = inl (name, (h, is, (bytes_eq-Decides name.realm given).0 same))
by_realm word given name false same (inl h) is = inl (name, (inl h, is, h.1))
by_realm word given name false same (inr h) is = inr (
  length h.front + 1,
  inr (record {
    name = name;
    spelled = h;
    is_name = is;
    other = λ own. let yes = (bytes_eq-Decides name.realm given).1 own in cc;
    place = refl;
  }),
)

by_limits : (word given : List ℕ) (name : NameParts) (within : Bool) → is_name name ≡ within → Spells word given name
    → Judged word given
by_limits word given name true is h = by_realm word given name (bytes_eq name.realm given) refl h (test_holds name is)
by_limits word given name false not_is h = inr (
  fault_place word,
  inl (
    record {
      none = λ other spelled is.
          let same = one_name word given other name spelled h in
          let yes = holds_test name (subst IsName same is) in
          cc;
    },
    refl,
  ),
)

by_fault : (word given : List ℕ) (fault : Option ℕ) → first_fault word ≡ fault → Judged word given
by_fault word given (Some at) some = inr (
  fault_place word,
  inl (record { none = λ name spelled is. let none = name_faultless word given name spelled in cc }, refl),
)
by_fault word given None none =
    let spelled = faultless_name word given none in
    by_limits word given spelled.0 (is_name spelled.0) refl spelled.1

same_name : (word given : List ℕ) (name : NameParts) → Judged word given → own_name_in word given ≡ Ok name
    → OwnName word given name
same_name word given name (inl h) is =
    let ok = reading_of_name word given h.0 h.1.0 h.1.1 h.1.2 in
    let same : h.0 ≡ name = cc in
    subst (λ (n : NameParts). OwnName word given n) same h.1
same_name word given name (inr h) is = let err = reading_of_refusal word given h.0 h.1 in absurd (cc)

same_place : (word given : List ℕ) (place : ℕ) → Judged word given → own_name_in word given ≡ Err place
    → IsRefusedAt word given place
same_place word given place (inl h) is = let ok = reading_of_name word given h.0 h.1.0 h.1.1 h.1.2 in absurd (cc)
same_place word given place (inr h) is =
    let err = reading_of_refusal word given h.0 h.1 in
    let same : h.0 ≡ place = cc in
    subst (λ (p : ℕ). IsRefusedAt word given p) same h.1

-- what is read is spelled, or refused
pub name_of_reading : (word given : List ℕ) (name : NameParts) → own_name_in word given ≡ Ok name
    → Spells word given name × IsName name × (name.realm ≡ given)
name_of_reading word given name is = same_name word given name (by_fault word given (first_fault word) refl) is

pub refusal_of_reading : (word given : List ℕ) (place : ℕ) → own_name_in word given ≡ Err place
    → IsRefusedAt word given place
refusal_of_reading word given place is = same_place word given place (by_fault word given (first_fault word) refl) is

-- ---- what a reader answers

pub answers_name : (word given : List ℕ) (name : NameParts) → Spells word given name → IsName name → name.realm ≡ given
    → AnswersReading (own_name_in word given) (Ok name)
unfolding AnswersReading
answers_name word given name h is own = reading_of_name word given name h is own

pub answers_fault : (word given : List ℕ) (fault : NameFault)
    → ((offset : ℕ) → fault ≡ BadName offset → IsRefusedAt word given offset)
    → AnswersReading (own_name_in word given) (Err fault)
unfolding AnswersReading
answers_fault word given MemoryOut refused = tt
answers_fault word given (BadName offset) refused = reading_of_refusal word given offset (refused offset refl)
