-- The types of a list are some, and each is there once.
use Rattle.std.proofs.Common.{◌≡◌, ◌≢◌, ℕ, ◌≤◌, ◌&&◌, Bool, true, false, nat_eq, nat_le, Option, Some, None}
use Rattle.std.proofs.Common.{option_map, List, [], ◌∷◌, length, refl, sym, ap, subst, ◌∙◌, arith, if◌then◌else◌}
use Rattle.std.specs.List.{count_by, slice_split}
use Rattle.std.specs.Option.{option_and_then}
use Rattle.std.proofs.lemmas.Bool.Decides.{nat_tests}
use Rattle.std.proofs.lemmas.List.Splits.{length-slice_split}
use Rattle.kadm_values.specs.EtypeWords.{all_listed, are_once, before_listed, etypes_in}
use Rattle.kadm_values.specs.EtypeWords.{is_comma, known_etypes, listed_in, same_etype}
use Rattle.kdb_base.specs.Etypes.{number_of}
use Rattle.kdb_base.specs.declared.keys.Etype.{Etype}
use Rattle.kdb_base.specs.declared.keys.Etype.TheVariants.{Aes128, Aes256, Aes128Sha2, Aes256Sha2}
use Rattle.keytab_words.specs.Words.{AreTypes}
use Rattle.plain_keys.specs.Keys.{AreOnce}

-- ---- each is there once

once_here : (etypes : List Etype) (etype : Etype) → nat_le (count_by (same_etype etype) etypes) 1 ≡ true
    → count_by (λ other. nat_eq (number_of other) (number_of etype)) etypes ≤ 1
once_here etypes etype e = grind (arith, nat_tests)

four : (a b c d : Bool) → (a && (b && (c && (d && true)))) ≡ true → (a ≡ true) × (b ≡ true) × (c ≡ true) × (d ≡ true)
four true true true true e = (refl, refl, refl, refl)
four true true true false e = cc
four true true false d e = cc
four true false c d e = cc
four false b c d e = cc

abbrev is_once : List Etype → Etype → Bool
is_once etypes etype = nat_le (count_by (same_etype etype) etypes) 1

once_tested : (etypes : List Etype) → are_once etypes ≡ true → AreOnce etypes
unfolding are_once known_etypes
once_tested etypes once Aes128 =
    once_here etypes Aes128 (four (is_once etypes Aes128) (is_once etypes Aes256) (is_once etypes Aes128Sha2)
    (is_once etypes Aes256Sha2) once).0
once_tested etypes once Aes256 =
    once_here etypes Aes256 (four (is_once etypes Aes128) (is_once etypes Aes256) (is_once etypes Aes128Sha2)
    (is_once etypes Aes256Sha2) once).1
once_tested etypes once Aes128Sha2 =
    once_here etypes Aes128Sha2 (four (is_once etypes Aes128) (is_once etypes Aes256) (is_once etypes Aes128Sha2)
    (is_once etypes Aes256Sha2) once).2
once_tested etypes once Aes256Sha2 =
    once_here etypes Aes256Sha2 (four (is_once etypes Aes128) (is_once etypes Aes256) (is_once etypes Aes128Sha2)
    (is_once etypes Aes256Sha2) once).3

-- ---- there are some

parts_some : (text : List ℕ) → slice_split is_comma text ≡ [] → ⊥
parts_some text none = (let many = length-slice_split is_comma text in let e = ap length none in omega arith)

listed_some : (here : Option Etype) (behind : Option (List Etype)) (etypes : List Etype)
    → before_listed here behind ≡ Some etypes → etypes ≢ []
listed_some None behind etypes e = cc
listed_some (Some etype) None etypes e = cc
listed_some (Some etype) (Some others) etypes e = λ none. (cc)

all_some : (items : List (List ℕ)) (etypes : List Etype) → (items ≡ [] → ⊥)
    → all_listed items ≡ Some etypes → etypes ≢ []
unfolding all_listed
all_some [] etypes some e = absurd (some refl)
all_some (item ∷ items) etypes some e = listed_some (listed_in item) (all_listed items) etypes e

-- ---- those of a list

once_good : (text : List ℕ) (es etypes : List Etype) (once : Bool) → all_listed (slice_split is_comma text) ≡ Some es
    → are_once es ≡ once
    → (if once then Some es else None) ≡ Some etypes → AreTypes etypes
once_good text es etypes true all once e =
    let same : es ≡ etypes = cc in
    subst (λ (x : List Etype). AreTypes x) same
    (record { some = all_some (slice_split is_comma text) es (parts_some text) all; once = once_tested es once })
once_good text es etypes false all once e = cc

list_by : (text : List ℕ) (r : Option (List Etype)) (etypes : List Etype) → all_listed (slice_split is_comma text) ≡ r
    → option_and_then (λ es. if are_once es then Some es else None) r ≡ Some etypes → AreTypes etypes
list_by text None etypes all e = cc
list_by text (Some es) etypes all e = once_good text es etypes (are_once es) all refl e

pub listed_types : (word : List ℕ) (etypes : List Etype) → Some etypes ≡ etypes_in word → AreTypes etypes
unfolding etypes_in
listed_types word etypes e = list_by word (all_listed (slice_split is_comma word)) etypes refl (sym e)

pub list_told : {A : Type 0} (items : A → List Etype) (r : Option A) (v : A) (found : Option (List Etype)) → r ≡ Some v
    → option_map items r ≡ found → Some (items v) ≡ found
list_told items r v found is told = sym (ap (option_map items) is) ∙ told
