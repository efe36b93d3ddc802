-- A word that spells a name with its realm spells it in that realm.
use Rattle.std.proofs.Common.{◌≡◌, ◌∙◌, ℕ, List, [], refl, ap, subst, Ok, Err, inl, inr}
use Rattle.keytab_words.specs.Words.{whole_name_in}
use Rattle.princ_name.proofs.OwnNames.{reading_of_name, reading_of_refusal, said_name}
use Rattle.princ_name.specs.Answers.{AnswersName}
use Rattle.princ_name.specs.Faults.{fault_place}
use Rattle.princ_name.specs.Names.{IsName, NameParts}
use Rattle.princ_name.specs.Readings.{name_said, own_name_in}
use Rattle.princ_name.specs.Spelling.{Spells}
use Rattle.princ_name.specs.declared.faults.NameFault.{NameFault}
use Rattle.princ_name.specs.declared.faults.NameFault.TheVariants.{BadName}

-- a name has a realm, so the word names it
pub name_read : (word : List ℕ) (name : NameParts) → Spells word [] name → IsName name → whole_name_in word ≡ Ok name
name_read word name (inl given) is = absurd (is.realm given.1)
name_read word name (inr spelled) is =
    ap (λ (n : NameParts). own_name_in word n.realm) (said_name word [] name (inr spelled))
    ∙ reading_of_name word name.realm name (inr spelled) is refl

-- what spells no name spells none in its own realm
none_own : (word : List ℕ) → ((name : NameParts) → Spells word [] name → IsName name → ⊥)
    → (name : NameParts) → Spells word (name_said word []).realm name → IsName name → ⊥
none_own word none name (inr spelled) is = none name (inr spelled) is
none_own word none name (inl given) is =
    let bare : NameParts = record { parts = name.parts; realm = [] } in
    let said : name_said word [] ≡ bare = said_name word [] bare (inl (given.0, refl)) in
    is.realm (given.1 ∙ ap (λ (n : NameParts). n.realm) said)

pub fault_read : (word : List ℕ) (offset : ℕ) → ((name : NameParts) → Spells word [] name → IsName name → ⊥)
    → offset ≡ fault_place word → whole_name_in word ≡ Err offset
fault_read word offset none place =
    reading_of_refusal word (name_said word []).realm offset (inl (record { none = none_own word none }, place))

-- a refusal answers no name
pub no_answer : (name : NameParts) (fault : NameFault) (offset : ℕ) → fault ≡ BadName offset
    → AnswersName name (Err fault) → ⊥
unfolding AnswersName
no_answer name fault offset is h = let P : NameFault → Type 0 = λ f. AnswersName name (Err f) in subst P is h
