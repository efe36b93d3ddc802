-- What a word that was read whole says of the names that it spells.
use Rattle.std.proofs.Common.{◌≡◌, ◌≢◌, ℕ, Option, Some, None, List, Err, sym, ap, subst, ◌∙◌}
use Rattle.princ_name.specs.Answers.{AnswersName, SpellsNone, OtherRealm}
use Rattle.princ_name.specs.Names.{NameParts, IsName}
use Rattle.princ_name.specs.Spelling.{SpellsPart, SpellsWord, Spells}
use Rattle.princ_name.specs.Whole.{AnswersParts, IsWhole, RealmAt, SpellsAt, given_part, name_of}
use Rattle.princ_name.specs.declared.parts.Part.{Part}
use Rattle.princ_name.specs.declared.whole.Whole.{Whole}
use Rattle.princ_name.specs.declared.faults.NameFault.{NameFault}
use Rattle.princ_name.specs.declared.faults.NameFault.TheVariants.{BadName, MemoryOut}
use Rattle.princ_name.proofs.Shapes.{at_word}
use Rattle.princ_name.proofs.Projections.{lifted_name, one_name, word_texts, realm_texts}

-- no parts of the word are a name
abbrev pub PartsFail : List ℕ → List ℕ → NameFault → Type 0
PartsFail word given fault =
    (parts : List Part) (realm : Part) → SpellsWord SpellsPart word (given_part given) parts realm
    → IsName (name_of parts realm) → AnswersParts parts realm (Err fault)

pub fault_answers : (word given : List ℕ) (name : NameParts) (fault : NameFault) → PartsFail word given fault
    → Spells word given name → IsName name → AnswersName name (Err fault)
unfolding AnswersParts AnswersName
fault_answers word given name MemoryOut fails h is = tt
fault_answers word given name (BadName offset) fails h is =
    let l = lifted_name word given name h in
    fails l.parts l.realm l.spelled (subst IsName (sym l.is) is)

pub spells_none : (word given : List ℕ) (fault : NameFault) (offset : ℕ) → fault ≡ BadName offset
    → PartsFail word given fault → SpellsNone word given
unfolding AnswersParts
spells_none word given MemoryOut offset is fails = absurd (cc)
spells_none word given (BadName at) offset is fails = record {
  none = λ name h limits.
      let l = lifted_name word given name h in
      fails l.parts l.realm l.spelled (subst IsName (sym l.is) limits);
}

pub whole_spells : (word given : List ℕ) (w : Whole) → IsWhole word given w
    → Spells word given (name_of w.parts.items w.realm)
whole_spells word given w h =
    word_texts word given w.parts.items w.realm (at_word word given w.parts.items w.realm w.realm_at h.spelled)

pub whole_is : (word given : List ℕ) (w : Whole) (name : NameParts) → IsWhole word given w → Spells word given name
    → name_of w.parts.items w.realm ≡ name
whole_is word given w name h spells =
    one_name word given (name_of w.parts.items w.realm) name (whole_spells word given w h) spells

realm_told : (word given : List ℕ) (parts : List Part) (realm : Part) (mark : Option ℕ) (at : ℕ)
    → SpellsAt word given parts realm mark → mark ≡ Some at → RealmAt word parts realm at
unfolding SpellsAt
realm_told word given parts realm None at h is = absurd (cc)
realm_told word given parts realm (Some n) at h is = let same : n ≡ at =
    cc in subst (λ (k : ℕ). RealmAt word parts realm k) same h

pub other_realm : (word given : List ℕ) (w : Whole) (at offset : ℕ) → IsWhole word given w → w.realm_at ≡ Some at
    → at ≡ offset → w.realm.text ≢ given → OtherRealm word given offset
unfolding realm_texts
other_realm word given w at offset h is same differs =
    let told = realm_told word given w.parts.items w.realm w.realm_at at h.spelled is in
    record {
      name = name_of w.parts.items w.realm;
      spelled = realm_texts word w.parts.items w.realm told.spelled;
      is_name = h.name;
      other = differs;
      place = sym same ∙ told.place;
    }

own_by : (word given : List ℕ) (parts : List Part) (realm : Part) (mark : Option ℕ)
    → SpellsAt word given parts realm mark
    → (mark ≢ None → realm.text ≡ given) → realm.text ≡ given
unfolding SpellsAt
own_by word given parts realm None h same = ap (λ (p : Part). p.text) h.same
own_by word given parts realm (Some at) h same = same (λ none. cc)

pub own_realm : (word given : List ℕ) (w : Whole) → IsWhole word given w → (w.realm_at ≢ None → w.realm.text ≡ given)
    → w.realm.text ≡ given
own_realm word given w h same = own_by word given w.parts.items w.realm w.realm_at h.spelled same
