-- What is read of words is what they spell.
use Rattle.std.proofs.Common.{◌≡◌, ◌∙◌, ℕ, List, [], ◌∷◌, Option, Some, None, refl, sym, ap, inl, inr}
use Rattle.std.specs.Prelude.{option_map, Result, Ok, Err}
use Rattle.kadm_options.proofs.OptionValueLemmas.{number_spelled, spelled_number}
use Rattle.kadm_options.specs.OptionValues.{number_within}
use Rattle.keytab_words.proofs.WholeNames.{name_read}
use Rattle.keytab_words.specs.Words.{whole_name_in}
use Rattle.kprop_runs.specs.Words.{AskFor, asked_by, asked_in, asks, client_in}
use Rattle.kprop_runs.specs.Words.{least_size, most_rounds, most_size, named_by}
use Rattle.kprop_runs.specs.declared.words.Asked.{Asked}
use Rattle.princ_name.proofs.OwnNames.{name_of_reading, said_name}
use Rattle.princ_name.specs.Names.{IsName, NameParts, printed}
use Rattle.princ_name.specs.Readings.{name_said}
use Rattle.princ_name.specs.Spelling.{Spells, SpellsText, SpellsWithRealm}

some_is : {A : Type 0} (a b : A) → Some a ≡ Some b → a ≡ b
some_is a b e = cc

-- ---- the name

-- a word spells this name with its realm, and this is its printed form
record Names (word text : List ℕ) : Type 0 where
  client : NameParts
  spelled : SpellsWithRealm SpellsText word client.parts client.realm
  is_name : IsName client
  text_is : text ≡ printed client

-- a word that names no realm says none, and each name has one
names : (word text : List ℕ) (client : NameParts) → Spells word (name_said word []).realm client → IsName client
    → text ≡ printed client → Names word text
names word text client (inr spelled) is text_is =
    record { client = client; spelled = spelled; is_name = is; text_is = text_is }
names word text client (inl given) is text_is =
    let bare : NameParts = record { parts = client.parts; realm = [] } in
    let said : name_said word [] ≡ bare = said_name word [] bare (inl (given.0, refl)) in
    absurd (is.realm (given.1 ∙ ap (λ (n : NameParts). n.realm) said))

named : (word text : List ℕ) (r : Result NameParts ℕ) → whole_name_in word ≡ r
    → option_map printed (named_by r) ≡ Some text → Names word text
named word text (Err place) is e = absurd cc
named word text (Ok client) is e =
    let spelled = name_of_reading word (name_said word []).realm client is in
    names word text client spelled.0 spelled.1 (sym (some_is (printed client) text e))

-- ---- the words

asked_spelled : (name rounds size : List ℕ) (r s : Option ℕ) (c : Option (List ℕ)) (a : Asked)
    → number_within 0 most_rounds rounds ≡ r
    → number_within least_size most_size size ≡ s → client_in name ≡ c → asked_by r s c ≡ Some a
    → AskFor (name ∷ rounds ∷ size ∷ []) a
asked_spelled name rounds size None s c a ri si ci e = absurd cc
asked_spelled name rounds size (Some r) None c a ri si ci e = absurd cc
asked_spelled name rounds size (Some r) (Some s) None a ri si ci e = absurd cc
asked_spelled name rounds size (Some r) (Some s) (Some text) a ri si ci e =
    let is : asks r s text ≡ a = some_is (asks r s text) a e in
    let client = named name text (whole_name_in name) refl ci in
    record {
      name = name;
      rounds = rounds;
      size = size;
      words_are = refl;
      client = client.client;
      spelled = client.spelled;
      is_name = client.is_name;
      name_is = sym (ap (λ (x : Asked). x.name) is) ∙ client.text_is;
      rounds_are = number_spelled 0 most_rounds rounds a.rounds (ri ∙ ap (λ (x : Asked). Some x.rounds) is);
      size_is = number_spelled least_size most_size size a.size (si ∙ ap (λ (x : Asked). Some x.size) is);
    }

pub spelled : (words : List (List ℕ)) (a : Asked) → asked_in words ≡ Some a → AskFor words a
unfolding asked_in
spelled [] a e = absurd cc
spelled (name ∷ []) a e = absurd cc
spelled (name ∷ rounds ∷ []) a e = absurd cc
spelled (name ∷ rounds ∷ size ∷ []) a e =
    asked_spelled name rounds size (number_within 0 most_rounds rounds) (number_within least_size most_size size)
    (client_in name) a refl refl refl e
spelled (name ∷ rounds ∷ size ∷ more ∷ words) a e = absurd cc

pub read : (words : List (List ℕ)) (a : Asked) → AskFor words a → asked_in words ≡ Some a
unfolding asked_in
read words a f =
    ap asked_in f.words_are
    ∙ ap (λ (r : Option ℕ). asked_by r (number_within least_size most_size f.size) (client_in f.name))
    (spelled_number 0 most_rounds f.rounds a.rounds f.rounds_are)
    ∙ ap (λ (s : Option ℕ). asked_by (Some a.rounds) s (client_in f.name))
    (spelled_number least_size most_size f.size a.size f.size_is)
    ∙ ap (λ (r : Result NameParts ℕ). asked_by (Some a.rounds) (Some a.size) (option_map printed (named_by r)))
    (name_read f.name f.client (inr f.spelled) f.is_name)
    ∙ ap (λ (n : List ℕ). Some (asks a.rounds a.size n)) (sym f.name_is)
