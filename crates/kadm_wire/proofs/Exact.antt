-- What is read of a command's options and other words is what these give, and they give nothing else.
use Rattle.std.proofs.Common.{◌≡◌, ℕ, ◌<◌, ◌==◌, if◌then◌else◌, arith, Bool, true, false, Option, Some}
use Rattle.std.proofs.Common.{None, Result, Ok, Err, List, [], ◌∷◌, ◌⊎◌, inl, inr, refl, sym, ap, ◌∙◌}
use Rattle.std.specs.Option.{option_and_then}
use Rattle.std.proofs.lemmas.Bool.Decides.{nat_tests}
use Rattle.kadm_options.specs.OptionValues.{SpellsWithin, first_bad_in, number_within}
use Rattle.kadm_options.specs.declared.options.Given.{Given}
use Rattle.kadm_options.proofs.OptionValueLemmas.{bad_found, found_bad, found_readable}
use Rattle.kadm_options.proofs.OptionValueLemmas.{number_spelled, readable_found, spelled_number}
use Rattle.kadm_values.specs.Readings.{time_in}
use Rattle.kadm_values.proofs.ReadingLemmas.{time_in-spells, spells-time_in}
use Rattle.kdb_base.specs.declared.outcomes.Field.{Field}
use Rattle.kdb_base.specs.declared.outcomes.Refusal.TheVariants.{BadLine, BadName, BadValue}
use Rattle.policy_rules.specs.Names.{is_policy_name}
use Rattle.princ_name.specs.Names.{NameParts}
use Rattle.princ_name.specs.Readings.{own_name_in}
use Rattle.princ_name.proofs.OwnNames.{name_of_reading, reading_of_name, reading_of_refusal, refusal_of_reading}
use Rattle.tagged_data.specs.Strings.{is_string_key, is_string_value}
use Rattle.kadm_wire.specs.LineReadings.{command_reading, delete_reading, lone_reading, names_reading}
use Rattle.kadm_wire.specs.LineReadings.{policy_reading, princ_reading, rename_reading, set_reading}
use Rattle.kadm_wire.specs.LineReadings.{use_from_reading, use_reading, whole_reading}
use Rattle.kadm_wire.specs.Lines.{Gives, GivesWhole, Is}
use Rattle.kadm_wire.specs.Reads.{IfGood, IfNamed, IfReadable, IfSpelled, SpellsActivation}
use Rattle.kadm_wire.specs.Reads.{SpellsOwnName, activation_in, is_glob_word, unless_bad}
use Rattle.kadm_wire.specs.Reads.{unless_never, when_good, with_name, with_value}
use Rattle.kadm_wire.specs.Shapes.{Shape}
use Rattle.kadm_wire.specs.Verbs.{is_whole}
use Rattle.kadm_wire.specs.declared.readings.Reading.{Reading}
use Rattle.kadm_wire.specs.declared.readings.Reading.TheVariants.{Refuses}
use Rattle.kadm_wire.specs.declared.verbs.Verb.{Verb}
use Rattle.kadm_wire.specs.declared.verbs.Verb.TheVariants as verb

-- ---- one thing is read

pub record Exact (said : Reading) (Reads : Reading → Type 0) : Type 0 where
  pub is : Reads said
  pub only : (r : Reading) → Reads r → r ≡ said

says : (said : Reading) → Exact said (Is said)
says said = record { is = refl; only = λ r e. e }

-- ---- names

own_name : (realm word : List ℕ) (name : NameParts) → own_name_in word realm ≡ Ok name → SpellsOwnName word realm name
own_name realm word name e = let read =
    name_of_reading word realm name e in record { spelled = read.0; limits = read.1; own = read.2 }

name_read : (realm word : List ℕ) (name : NameParts) → SpellsOwnName word realm name → own_name_in word realm ≡ Ok name
name_read realm word name s = reading_of_name word realm name s.spelled s.limits s.own

named_is : (realm word : List ℕ) (found : Result NameParts ℕ) (next : NameParts → Reading)
    (Next : NameParts → Reading → Type 0) → own_name_in word realm ≡ found
    → ((name : NameParts) → Exact (next name) (Next name)) → IfNamed realm word Next (with_name found next)
named_is realm word (Ok name) next Next e exact = inl (name, own_name realm word name e, (exact name).is)
named_is realm word (Err offset) next Next e exact = inr (offset, refusal_of_reading word realm offset e, refl)

named_only : (realm word : List ℕ) (next : NameParts → Reading) (Next : NameParts → Reading → Type 0)
    → ((name : NameParts) → Exact (next name) (Next name))
    → (r : Reading) → IfNamed realm word Next r → r ≡ with_name (own_name_in word realm) next
named_only realm word next Next exact r (inl g) =
    (exact g.0).only r g.2
    ∙ sym (ap (λ (found : Result NameParts ℕ). with_name found next) (name_read realm word g.0 g.1))
named_only realm word next Next exact r (inr g) =
    g.2 ∙ sym (ap (λ (found : Result NameParts ℕ). with_name found next) (reading_of_refusal word realm g.0 g.1))

named : (realm word : List ℕ) (next : NameParts → Reading) (Next : NameParts → Reading → Type 0)
    → ((name : NameParts) → Exact (next name) (Next name))
    → Exact (with_name (own_name_in word realm) next) (IfNamed realm word Next)
named realm word next Next exact = record {
  is = named_is realm word (own_name_in word realm) next Next refl exact;
  only = named_only realm word next Next exact;
}

-- ---- values of options

readable_is : (options : List Given) (bad : Option Field) (next : Reading) (Next : Reading → Type 0)
    → first_bad_in options ≡ bad → Exact next Next
    → IfReadable options Next (unless_bad bad next)
readable_is options None next Next e exact = inl (found_readable options e, exact.is)
readable_is options (Some field) next Next e exact = inr (field, found_bad options field e, refl)

readable_only : (options : List Given) (next : Reading) (Next : Reading → Type 0) → Exact next Next → (r : Reading)
    → IfReadable options Next r
    → r ≡ unless_bad (first_bad_in options) next
readable_only options next Next exact r (inl g) =
    exact.only r g.1 ∙ sym (ap (λ (bad : Option Field). unless_bad bad next) (readable_found options g.0))
readable_only options next Next exact r (inr g) =
    g.2 ∙ sym (ap (λ (bad : Option Field). unless_bad bad next) (bad_found options g.0 g.1))

readable : (options : List Given) (next : Reading) (Next : Reading → Type 0) → Exact next Next
    → Exact (unless_bad (first_bad_in options) next) (IfReadable options Next)
readable options next Next exact = record {
  is = readable_is options (first_bad_in options) next Next refl exact;
  only = readable_only options next Next exact;
}

-- ---- other values

record Reads {A : Type 0} (found : Option A) (SpellsIt : A → Type 0) : Type 0 where
  spelled : (x : A) → found ≡ Some x → SpellsIt x
  read : (x : A) → SpellsIt x → found ≡ Some x

value_is : {A : Type 0} (found : Option A) (SpellsIt : A → Type 0) (field : Field) (next : A → Reading)
    (Next : A → Reading → Type 0) → Reads found SpellsIt
    → ((x : A) → Exact (next x) (Next x)) → IfSpelled SpellsIt field Next (with_value found field next)
value_is {A} None SpellsIt field next Next reads exact = inr (λ x s. (let e = reads.read x s in cc), refl)
value_is {A} (Some x) SpellsIt field next Next reads exact = inl (x, reads.spelled x refl, (exact x).is)

value_none : {A : Type 0} (found : Option A) (SpellsIt : A → Type 0) (field : Field) (next : A → Reading)
    → Reads found SpellsIt
    → ((x : A) → SpellsIt x → ⊥) → with_value found field next ≡ Refuses (BadValue field)
value_none {A} None SpellsIt field next reads none = refl
value_none {A} (Some x) SpellsIt field next reads none = absurd (none x (reads.spelled x refl))

value_only : {A : Type 0} (found : Option A) (SpellsIt : A → Type 0) (field : Field) (next : A → Reading)
    (Next : A → Reading → Type 0) → Reads found SpellsIt
    → ((x : A) → Exact (next x) (Next x)) → (r : Reading) → IfSpelled SpellsIt field Next r
    → r ≡ with_value found field next
value_only {A} found SpellsIt field next Next reads exact r (inl g) =
    (exact g.0).only r g.2 ∙ sym (ap (λ (o : Option A). with_value o field next) (reads.read g.0 g.1))
value_only {A} found SpellsIt field next Next reads exact r (inr g) =
    g.1 ∙ sym (value_none found SpellsIt field next reads g.0)

valued : {A : Type 0} (found : Option A) (SpellsIt : A → Type 0) (field : Field) (next : A → Reading)
    (Next : A → Reading → Type 0) → Reads found SpellsIt
    → ((x : A) → Exact (next x) (Next x)) → Exact (with_value found field next) (IfSpelled SpellsIt field Next)
valued {A} found SpellsIt field next Next reads exact = record {
  is = value_is found SpellsIt field next Next reads exact;
  only = value_only found SpellsIt field next Next reads exact;
}

good_only : (good : Bool) (field : Field) (next : Reading) (Next : Reading → Type 0) → Exact next Next → (r : Reading)
    → IfGood good field Next r
    → r ≡ when_good good field next
good_only true field next Next exact r (inl g) = exact.only r g.1
good_only true field next Next exact r (inr g) = absurd (let e = g.0 in cc)
good_only false field next Next exact r (inl g) = absurd (let e = g.0 in cc)
good_only false field next Next exact r (inr g) = g.1

good_is : (good : Bool) (field : Field) (next : Reading) (Next : Reading → Type 0) → Exact next Next
    → IfGood good field Next (when_good good field next)
good_is true field next Next exact = inl (refl, exact.is)
good_is false field next Next exact = inr (refl, refl)

good : (test : Bool) (field : Field) (next : Reading) (Next : Reading → Type 0) → Exact next Next
    → Exact (when_good test field next) (IfGood test field Next)
good test field next Next exact =
    record { is = good_is test field next Next exact; only = good_only test field next Next exact }

version_reads : (word : List ℕ) → Reads (number_within 1 65535 word) (SpellsWithin 1 65535 word)
version_reads word = record { spelled = number_spelled 1 65535 word; read = spelled_number 1 65535 word }

is_set : (secs found : ℕ) (never : Bool) → (secs == 0) ≡ never → (if never then None else Some secs) ≡ Some found
    → (secs ≡ found) × (0 < found)
is_set secs found true is e = cc
is_set secs found false is e = let same : secs ≡ found = cc in (same, rw (← same) (grind (arith, nat_tests)))

set_spelled : (word : List ℕ) (r : Option ℕ) (found : ℕ) → time_in word ≡ r
    → option_and_then unless_never r ≡ Some found → SpellsActivation word found
set_spelled word None found is e = cc
set_spelled word (Some secs) found is e =
    let set = is_set secs found (secs == 0) refl e in
    record { spelled = time_in-spells word found (is ∙ ap (λ (n : ℕ). Some n) set.0); set = set.1 }

pub activation_spelled : (word : List ℕ) (found : ℕ) → activation_in word ≡ Some found → SpellsActivation word found
unfolding activation_in
activation_spelled word found e = set_spelled word (time_in word) found refl e

spelled_activation : (word : List ℕ) (secs : ℕ) → SpellsActivation word secs → activation_in word ≡ Some secs
unfolding activation_in
spelled_activation word secs s =
    let other : (secs == 0) ≡ false = (let h = s.set in grind (arith, nat_tests)) in
    rw (spells-time_in word secs s.spelled, other) refl

activation_reads : (word : List ℕ) → Reads (activation_in word) (SpellsActivation word)
activation_reads word = record { spelled = activation_spelled word; read = spelled_activation word }

-- ---- commands

pub command_exact : (realm : List ℕ) (v : Verb) (options : List Given) (words : List (List ℕ))
    → Exact (command_reading realm v options words) (Gives realm v options words)
unfolding command_reading Gives princ_reading rename_reading set_reading delete_reading policy_reading names_reading
    use_reading use_from_reading lone_reading
command_exact realm (verb.OnPrinc v) options (word ∷ []) = named realm word _ _ (λ name. readable options _ _ (says _))
command_exact realm (verb.OnPolicy v) options (word ∷ []) =
    readable options _ _ (good (is_policy_name word) _ _ _ (says _))
command_exact realm (verb.OnNames v) options [] = says _
command_exact realm (verb.OnNames v) options (word ∷ []) = good (is_glob_word word) _ _ _ (says _)
command_exact realm (verb.Alone v) options [] = readable options _ _ (says _)
command_exact realm verb.RenPrinc options (word ∷ new ∷ []) =
    named realm word _ _ (λ name. named realm new _ _ (λ new_name. says _))
command_exact realm verb.SetString options (word ∷ key ∷ value ∷ []) =
    named realm word _ _ (λ name. good (is_string_key key) _ _ _ (good (is_string_value value) _ _ _ (says _)))
command_exact realm verb.DelString options (word ∷ key ∷ []) =
    named realm word _ _ (λ name. good (is_string_key key) _ _ _ (says _))
command_exact realm verb.UseMaster options (word ∷ []) = valued _ _ _ _ _ (version_reads word) (λ version. says _)
command_exact realm verb.UseMaster options (word ∷ time ∷ []) =
    valued _ _ _ _ _ (version_reads word) (λ version. valued _ _ _ _ _ (activation_reads time) (λ secs. says _))
command_exact realm v options words = says (Refuses BadLine)

whole_is : (realm : List ℕ) (shape : Shape) (whole : Bool) → is_whole shape.verb shape.options ≡ whole
    → GivesWhole realm shape
    (if whole then command_reading realm shape.verb shape.options shape.others else Refuses BadLine)
whole_is realm shape true is = inl (is, (command_exact realm shape.verb shape.options shape.others).is)
whole_is realm shape false is = inr (is, refl)

whole_only : (realm : List ℕ) (shape : Shape) (whole : Bool) (r : Reading) → is_whole shape.verb shape.options ≡ whole
    → GivesWhole realm shape r
    → r ≡ (if whole then command_reading realm shape.verb shape.options shape.others else Refuses BadLine)
whole_only realm shape true r is (inl g) = (command_exact realm shape.verb shape.options shape.others).only r g.1
whole_only realm shape true r is (inr g) = absurd (let e = g.0 in cc)
whole_only realm shape false r is (inl g) = absurd (let e = g.0 in cc)
whole_only realm shape false r is (inr g) = g.1

pub whole_exact : (realm : List ℕ) (shape : Shape)
    → Exact (whole_reading realm shape.verb shape.options shape.others) (GivesWhole realm shape)
whole_exact realm shape = record {
  is = whole_is realm shape (is_whole shape.verb shape.options) refl;
  only = λ r g. whole_only realm shape (is_whole shape.verb shape.options) r refl g;
}
