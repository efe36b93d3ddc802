-- The name of the administrator at the machine itself.
use Rattle.std.proofs.Common.{◌≡◌, ℕ, true, List, [], ◌∷◌, codes, refl, inl, subst, arith}
use Rattle.std.specs.Prelude.{Result, Ok}
use Rattle.std.specs.List.{list_all}
use Rattle.std.proofs.lemmas.Bool.{and_parts}
use Rattle.princ_name.specs.Answers.{AnswersName}
use Rattle.princ_name.specs.Bytes.{can_stand, is_plain, is_refused, is_sign, printed_byte}
use Rattle.princ_name.specs.Names.{IsName, NameParts, printed_parts, printed_text}
use Rattle.princ_name.specs.RealmLaws.{is_name_in}
use Rattle.princ_name.specs.Realms.{IsRealm}
use Rattle.princ_name.specs.Spelling.{Spells, SpellsParts, SpellsText}
use Rattle.princ_name.specs.declared.faults.NameFault.{NameFault}
use Rattle.kadm_session.specs.Steps.{local_client}

-- plain bytes spell themselves
plain_text : (text : List ℕ) → list_all is_plain text ≡ true → SpellsText text text
unfolding SpellsText
plain_text [] e = refl
plain_text (b ∷ text) e =
    let both = and_parts (is_plain b) (list_all is_plain text) e in
    (b ∷ [], text, inl (both.0, refl), plain_text text both.1, refl)

pub local_spelled : (realm : List ℕ) → Spells (codes "admin/local") realm (local_client realm)
unfolding SpellsParts is_plain is_refused is_sign
local_spelled realm =
    inl ((codes "admin", codes "local", plain_text (codes "admin") refl, plain_text (codes "local") refl, refl), refl)

pub local_named : (realm : List ℕ) → IsRealm realm → IsName (local_client realm)
unfolding printed_parts printed_text printed_byte is_sign can_stand is_refused
local_named realm is =
    is_name_in (codes "admin" ∷ codes "local" ∷ []) realm is (λ e. absurd cc) (omega arith) refl (omega arith)

pub answered : (result : Result NameParts NameFault) (answer name : NameParts) → result ≡ Ok answer
    → AnswersName name result → answer ≡ name
unfolding AnswersName
answered result answer name is h = subst (λ (r : Result NameParts NameFault). AnswersName name r) is h
