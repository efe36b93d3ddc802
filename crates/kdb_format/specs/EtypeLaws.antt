-- What is read as an encryption type is spelled so, and the other way round.
use Rattle.std.proofs.Common.{◌≡◌, ℕ, ◌^◌, ◌<◌, List, [], Option, Some, None, sym, ap, ◌∙◌}
use Rattle.std.specs.Prelude.{option_map}
use Rattle.std.proofs.lemmas.List.{append-nil}
use Rattle.std.proofs.lemmas.Option.{same_Some}
use Rattle.kdb_base.specs.Etypes.{number_of, etype_of}
use Rattle.kdb_base.specs.EtypeLaws.{number_is, of_number, small_number}
use Rattle.kdb_base.specs.declared.keys.Etype.{Etype}
use Rattle.kdb_format.specs.Readings.{Reading, known}
use Rattle.kdb_format.specs.Fields.{IsField}
use Rattle.kdb_format.specs.Laws.{same_field, first_field, big_field, little_field}
use Rattle.kdb_format.specs.Etypes.{etype_by, etype_at, etype_text, etype_le_at, etype_le_text}

known_is : {A : Type 0} (o : Option A) (bytes : List ℕ) (x : A) (rest : List ℕ) → known o bytes ≡ Some (x, rest)
    → (o ≡ Some x) × (bytes ≡ rest)
known_is None bytes x rest e = absurd cc
known_is {A = A} (Some y) bytes x rest e =
    let made : A × List ℕ = (y, bytes) in
    let same = same_Some made (x, rest) e in
    (ap (λ (z : A × List ℕ). Some z.0) same, ap (λ (z : A × List ℕ). z.1) same)

-- the type of a number that was read
type_field : (n : ℕ) → IsField (known (etype_of n)) (λ _. []) (λ t. (number_of t ≡ n) × Unit {0})
type_field n = record {
  spelled = λ bytes t rest fits e. (known_is (etype_of n) bytes t rest e).1;
  fits = λ bytes t rest fits e. (number_is n t (known_is (etype_of n) bytes t rest e).0, tt);
  again = λ t rest f.
      ap (option_map (λ (u : Etype). let x : Etype × List ℕ = (u, rest) in x)) (ap etype_of (sym f.0) ∙ of_number t);
}

-- every type, where two bytes spell its number
pub etype_by_field : {number_at : Reading ℕ} {number_text : ℕ → List ℕ}
    → IsField number_at number_text (λ n. n < 2 ^ 16)
    → IsField (etype_by number_at) (λ t. number_text (number_of t)) (λ _. Unit {0})
etype_by_field {number_text = number_text} field = same_field (first_field field number_of (λ n _. type_field n))
    (λ t f. (append-nil (number_text (number_of t)), tt))
    (λ t _. (small_number t, tt))

pub etype_field : IsField etype_at etype_text (λ _. Unit {0})
unfolding etype_at etype_text
etype_field = etype_by_field (big_field 2)

pub etype_le_field : IsField etype_le_at etype_le_text (λ _. Unit {0})
unfolding etype_le_at etype_le_text
etype_le_field = etype_by_field (little_field 2)
