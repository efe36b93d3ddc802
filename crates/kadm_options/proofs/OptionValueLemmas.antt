-- The values that are read from options are those that the options spell.
use Rattle.std.proofs.Common.{◌≡◌, ℕ, ◌≤◌, ◌&&◌, nat_le, arith, ◌⊎◌, ◌↔◌, Bool, true, false, Option, Some, None}
use Rattle.std.proofs.Common.{is_some, List, [], ◌∷◌, inl, inr, refl, sym, ap, subst, ◌∙◌, if◌then◌else◌}
use Rattle.std.specs.List.{filter_map, slice_get}
use Rattle.std.specs.Option.{option_and_then, option_or}
use Rattle.std.proofs.lemmas.Bool.Decides.{nat_tests}
use Rattle.policy_rules.specs.Names.{is_policy_name}
use Rattle.kadm_options.specs.OptionValues.{SpellsValue, SpellsWithin, GivesWord, SpellsWordOf, kept_within}
use Rattle.kadm_options.specs.OptionValues.{number_within, word_by, word_given, HasValue, IsReadable, IsBad}
use Rattle.kadm_options.specs.OptionValues.{AreReadable, IsFirstBad, is_named, GivesSeconds, SpellsField, seconds_of}
use Rattle.kadm_options.specs.OptionValues.{is_readable, bad_in, first_bad_in, seconds_by, seconds_given}
use Rattle.kadm_values.specs.Readings.{duration_in, number_in, time_in}
use Rattle.kadm_values.specs.EtypeWords.{etype_named, etypes_in}
use Rattle.kadm_options.specs.declared.options.Given.{Given}
use Rattle.kadm_options.specs.declared.options.Given.TheVariants as given
use Rattle.kadm_options.specs.declared.options.OptionName.{OptionName}
use Rattle.kadm_options.specs.declared.options.Setting.{Setting}
use Rattle.kadm_options.specs.declared.options.ValueKind.{ValueKind}
use Rattle.kadm_options.specs.declared.options.ValueKind.TheVariants.{Time, Duration, PolicyName, Word}
use Rattle.kadm_options.specs.declared.options.ValueKind.TheVariants.{EtypeList, OneEtype, Number}
use Rattle.kdb_base.specs.declared.keys.Etype.{Etype}
use Rattle.kdb_base.specs.declared.outcomes.Field.{Field}
use Rattle.kadm_values.proofs.EtypeLemmas.{list_spelled, named_spelled, spelled_list, spelled_named}
use Rattle.kadm_values.proofs.ReadingLemmas.{duration_in-spells, spells-duration_in, number_in-spells}
use Rattle.kadm_values.proofs.ReadingLemmas.{spells-number_in, time_in-spells, spells-time_in}

-- ---- one value

pub seconds_of-spells : (kind : ValueKind) (word : List ℕ) (secs : ℕ) → seconds_of kind word ≡ Some secs
    → SpellsValue kind word secs
unfolding seconds_of
seconds_of-spells Time word secs e = time_in-spells word secs e
seconds_of-spells Duration word secs e = duration_in-spells word secs e
seconds_of-spells _ word secs e = cc

pub spells-seconds_of : (kind : ValueKind) (word : List ℕ) (secs : ℕ) → SpellsValue kind word secs
    → seconds_of kind word ≡ Some secs
unfolding seconds_of
spells-seconds_of Time word secs s = spells-time_in word secs s
spells-seconds_of Duration word secs s = spells-duration_in word secs s
spells-seconds_of _ word secs s = absurd s

-- so a word spells one value at most
pub one_value : (kind : ValueKind) (word : List ℕ) (a b : ℕ) → SpellsValue kind word a → SpellsValue kind word b → a ≡ b
one_value kind word a b sa sb =
    let first = spells-seconds_of kind word a sa in
    let second = spells-seconds_of kind word b sb in
    (let same : Some a ≡ Some b = sym first ∙ second in cc)

time_found : (word : List ℕ) (r : Option ℕ) → time_in word ≡ r → is_some r ≡ true → HasValue Time word
unfolding HasValue
time_found word None e is = cc
time_found word (Some secs) e is = (secs, time_in-spells word secs e)

duration_found : (word : List ℕ) (r : Option ℕ) → duration_in word ≡ r → is_some r ≡ true → HasValue Duration word
unfolding HasValue
duration_found word None e is = cc
duration_found word (Some secs) e is = (secs, duration_in-spells word secs e)

-- ---- numbers

kept : (least most number : ℕ) (low high : Bool) → nat_le least number ≡ low → nat_le number most ≡ high
    → (if low && high then Some number else None) ≡ Some number → (least ≤ number) × (number ≤ most)
kept least most number true true from to e = (grind (arith, nat_tests), grind (arith, nat_tests))
kept least most number true false from to e = cc
kept least most number false high from to e = cc

same_kept : (least most number found : ℕ) (low high : Bool) → (if low && high then Some number else None) ≡ Some found
    → number ≡ found
same_kept least most number found true true e = cc
same_kept least most number found true false e = cc
same_kept least most number found false high e = cc

within_spelled : (least most : ℕ) (word : List ℕ) (r : Option ℕ) (found : ℕ) → number_in word ≡ r
    → option_and_then (kept_within least most) r ≡ Some found
    → SpellsWithin least most word found
within_spelled least most word None found e is = cc
within_spelled least most word (Some number) found e is =
    let same = same_kept least most number found (nat_le least number) (nat_le number most) is in
    let within = kept least most number (nat_le least number) (nat_le number most) refl refl
    (is ∙ ap (λ (n : ℕ). Some n) (sym same)) in
    record {
      spelled = number_in-spells word found (e ∙ ap (λ (n : ℕ). Some n) same);
      from = rw (← same) within.0;
      to = rw (← same) within.1;
    }

pub number_spelled : (least most : ℕ) (word : List ℕ) (number : ℕ) → number_within least most word ≡ Some number
    → SpellsWithin least most word number
unfolding number_within
number_spelled least most word number e = within_spelled least most word (number_in word) number refl e

pub spelled_number : (least most : ℕ) (word : List ℕ) (number : ℕ) → SpellsWithin least most word number
    → number_within least most word ≡ Some number
unfolding number_within
spelled_number least most word number s =
    let low : nat_le least number ≡ true = (let h = s.from in grind (arith, nat_tests)) in
    let high : nat_le number most ≡ true = (let h = s.to in grind (arith, nat_tests)) in
    rw (spells-number_in word number s.spelled, low, high) refl

number_found : (least most : ℕ) (word : List ℕ) (r : Option ℕ) → number_within least most word ≡ r → is_some r ≡ true
    → HasValue (Number least most) word
unfolding HasValue
number_found least most word None e is = cc
number_found least most word (Some number) e is = (number, number_spelled least most word number e)

-- ---- encryption types

etypes_found : (word : List ℕ) (r : Option (List Etype)) → etypes_in word ≡ r → is_some r ≡ true
    → HasValue EtypeList word
unfolding HasValue
etypes_found word None e is = cc
etypes_found word (Some etypes) e is = (etypes, list_spelled word etypes e)

etype_found : (word : List ℕ) (r : Option Etype) → etype_named word ≡ r → is_some r ≡ true → HasValue OneEtype word
unfolding HasValue
etype_found word None e is = cc
etype_found word (Some etype) e is = (etype, named_spelled word etype e)

-- ---- whether a word spells a value

readable_has : (kind : ValueKind) (word : List ℕ) → is_readable kind word ≡ true → HasValue kind word
unfolding is_readable HasValue
readable_has Time word e = time_found word (time_in word) refl e
readable_has Duration word e = duration_found word (duration_in word) refl e
readable_has PolicyName word e = e
readable_has Word word e = tt
readable_has EtypeList word e = etypes_found word (etypes_in word) refl e
readable_has OneEtype word e = etype_found word (etype_named word) refl e
readable_has (Number least most) word e = number_found least most word (number_within least most word) refl e

has_readable : (kind : ValueKind) (word : List ℕ) → HasValue kind word → is_readable kind word ≡ true
unfolding is_readable HasValue
has_readable Time word h = ap (λ (r : Option ℕ). is_some r) (spells-time_in word h.0 h.1)
has_readable Duration word h = ap (λ (r : Option ℕ). is_some r) (spells-duration_in word h.0 h.1)
has_readable PolicyName word h = h
has_readable Word word h = refl
has_readable EtypeList word h = ap (λ (r : Option (List Etype)). is_some r) (spelled_list word h.0 h.1)
has_readable OneEtype word h = ap (λ (r : Option Etype). is_some r) (spelled_named word h.0 h.1)
has_readable (Number least most) word h = ap (λ (r : Option ℕ). is_some r) (spelled_number least most word h.0 h.1)

-- ---- the first of a list that gives something

head_first : {A B : Type 0} (f : A → Option B) (x : A) (xs : List A) (r : Option B) → f x ≡ r
    → slice_get (filter_map f (x ∷ xs)) 0 ≡ option_or r (slice_get (filter_map f xs) 0)
head_first {A} {B} f x xs None e = rw e refl
head_first {A} {B} f x xs (Some y) e = rw e refl

-- ---- the first bad value

abbrev Judges : Given → Option Field → Type 0
Judges option None = IsReadable option
Judges option (Some field) = IsBad option field

value_judged : (setting : Setting) (word : List ℕ) (good : Bool) → is_readable setting.kind word ≡ good
    → Judges (given.Value setting word) (if good then None else Some setting.field)
value_judged setting word true e = readable_has setting.kind word e
value_judged setting word false e = (λ has. (let good = has_readable setting.kind word has in cc), refl)

judged : (option : Given) → Judges option (bad_in option)
judged (given.Flag change) = tt
judged (given.Alone option) = tt
judged (given.Value setting word) = value_judged setting word (is_readable setting.kind word) refl

abbrev JudgesAll : List Given → Option Field → Type 0
JudgesAll options None = AreReadable options
JudgesAll options (Some field) = IsFirstBad options field

judges_more : (option : Given) (options : List Given) (first rest : Option Field) → Judges option first
    → JudgesAll options rest → JudgesAll (option ∷ options) (option_or first rest)
unfolding AreReadable IsFirstBad
judges_more option options None None one all = (one, all)
judges_more option options None (Some field) one all = inr (one, all)
judges_more option options (Some field) rest one all = inl one

all_judged : (options : List Given) → JudgesAll options (first_bad_in options)
unfolding first_bad_in AreReadable
all_judged [] = tt
all_judged (option ∷ options) =
    subst (λ (r : Option Field). JudgesAll (option ∷ options) r)
    (sym (head_first bad_in option options (bad_in option) refl))
    (judges_more option options (bad_in option) (first_bad_in options) (judged option) (all_judged options))

one_bad : (option : Given) (field : Field) → IsReadable option → IsBad option field → ⊥
one_bad (given.Flag change) field readable bad = bad
one_bad (given.Alone option) field readable bad = bad
one_bad (given.Value setting word) field readable bad = bad.0 readable

not_bad : (options : List Given) (field : Field) → AreReadable options → IsFirstBad options field → ⊥
unfolding AreReadable IsFirstBad
not_bad [] field all bad = bad
not_bad (option ∷ options) field all (inl bad) = one_bad option field all.0 bad
not_bad (option ∷ options) field all (inr later) = not_bad options field all.1 later.1

same_bad : (option : Given) (a b : Field) → IsBad option a → IsBad option b → a ≡ b
same_bad (given.Flag change) a b ba bb = absurd ba
same_bad (given.Alone option) a b ba bb = absurd ba
same_bad (given.Value setting word) a b ba bb = ba.1 ∙ sym bb.1

one_first_bad : (options : List Given) (a b : Field) → IsFirstBad options a → IsFirstBad options b → a ≡ b
unfolding IsFirstBad
one_first_bad [] a b ba bb = absurd ba
one_first_bad (option ∷ options) a b (inl ba) (inl bb) = same_bad option a b ba bb
one_first_bad (option ∷ options) a b (inl ba) (inr bb) = absurd (one_bad option a bb.0 ba)
one_first_bad (option ∷ options) a b (inr ba) (inl bb) = absurd (one_bad option b ba.0 bb)
one_first_bad (option ∷ options) a b (inr ba) (inr bb) = one_first_bad options a b ba.1 bb.1

bad_by : (options : List Given) (r : Option Field) (field : Field) → JudgesAll options r → IsFirstBad options field
    → r ≡ Some field
bad_by options None field all bad = absurd (not_bad options field all bad)
bad_by options (Some other) field all bad = ap (λ (f : Field). Some f) (one_first_bad options other field all bad)

readable_by : (options : List Given) (r : Option Field) → JudgesAll options r → AreReadable options → r ≡ None
readable_by options None all readable = refl
readable_by options (Some field) all readable = absurd (not_bad options field readable all)

pub found_bad : (options : List Given) (field : Field) → first_bad_in options ≡ Some field → IsFirstBad options field
found_bad options field e = subst (λ (r : Option Field). JudgesAll options r) e (all_judged options)

pub bad_found : (options : List Given) (field : Field) → IsFirstBad options field → first_bad_in options ≡ Some field
bad_found options field bad = bad_by options (first_bad_in options) field (all_judged options) bad

pub found_readable : (options : List Given) → first_bad_in options ≡ None → AreReadable options
found_readable options e = subst (λ (r : Option Field). JudgesAll options r) e (all_judged options)

pub readable_found : (options : List Given) → AreReadable options → first_bad_in options ≡ None
readable_found options readable = readable_by options (first_bad_in options) (all_judged options) readable

-- ---- seconds

-- whether an option gives seconds, and which
abbrev Tells : OptionName → Given → Option ℕ → Type 0
Tells option first None = (secs : ℕ) → GivesSeconds option first secs → ⊥
Tells option first (Some secs) = GivesSeconds option first secs

named_told : (option : OptionName) (setting : Setting) (word : List ℕ) (r : Option ℕ)
    → is_named option setting.option ≡ true → seconds_of setting.kind word ≡ r
    → Tells option (given.Value setting word) r
named_told option setting word None is e = λ secs s. (let some = spells-seconds_of setting.kind word secs s.1 in cc)
named_told option setting word (Some secs) is e = (is, seconds_of-spells setting.kind word secs e)

value_told : (option : OptionName) (setting : Setting) (word : List ℕ) (named : Bool)
    → is_named option setting.option ≡ named
    → Tells option (given.Value setting word) (if named then seconds_of setting.kind word else None)
value_told option setting word true is = named_told option setting word (seconds_of setting.kind word) is refl
value_told option setting word false is = λ secs s. (let yes = s.0 in cc)

told : (option : OptionName) (first : Given) → Tells option first (seconds_by option first)
told option (given.Flag change) = λ secs s. s
told option (given.Alone other) = λ secs s. s
told option (given.Value setting word) = value_told option setting word (is_named option setting.option) refl

one_told : (option : OptionName) (first : Given) (a b : ℕ) → GivesSeconds option first a
    → GivesSeconds option first b → a ≡ b
one_told option (given.Flag change) a b sa sb = absurd sa
one_told option (given.Alone other) a b sa sb = absurd sa
one_told option (given.Value setting word) a b sa sb = one_value setting.kind word a b sa.1 sb.1

field_more : (option : OptionName) (first : Given) (options : List Given) (here rest : Option ℕ)
    → Tells option first here → SpellsField option options rest
    → SpellsField option (first ∷ options) (option_or here rest)
unfolding SpellsField
field_more option first options None rest tells behind = inr (tells, behind)
field_more option first options (Some secs) rest tells behind = inl (secs, tells, refl)

field_read : (option : OptionName) (options : List Given) → SpellsField option options (seconds_given option options)
unfolding seconds_given SpellsField
field_read option [] = refl
field_read option (first ∷ options) =
    subst (λ (r : Option ℕ). SpellsField option (first ∷ options) r)
    (sym (head_first (seconds_by option) first options (seconds_by option first) refl))
    (field_more option first options (seconds_by option first) (seconds_given option options) (told option first)
    (field_read option options))

one_field : (option : OptionName) (options : List Given) (a b : Option ℕ) → SpellsField option options a
    → SpellsField option options b → a ≡ b
unfolding SpellsField
one_field option [] a b sa sb = sa ∙ sym sb
one_field option (first ∷ options) a b (inl sa) (inl sb) =
    sa.2 ∙ ap (λ (n : ℕ). Some n) (one_told option first sa.0 sb.0 sa.1 sb.1) ∙ sym sb.2
one_field option (first ∷ options) a b (inl sa) (inr sb) = absurd (sb.0 sa.0 sa.1)
one_field option (first ∷ options) a b (inr sa) (inl sb) = absurd (sa.0 sb.0 sb.1)
one_field option (first ∷ options) a b (inr sa) (inr sb) = one_field option options a b sa.1 sb.1

pub field_found : (option : OptionName) (options : List Given) (found : Option ℕ) → seconds_given option options ≡ found
    → SpellsField option options found
field_found option options found e =
    subst (λ (r : Option ℕ). SpellsField option options r) e (field_read option options)

pub found_field : (option : OptionName) (options : List Given) (found : Option ℕ) → SpellsField option options found
    → seconds_given option options ≡ found
found_field option options found s =
    one_field option options (seconds_given option options) found (field_read option options) s

-- ---- words

abbrev TellsWord : OptionName → Given → Option (List ℕ) → Type 0
TellsWord option first None = (word : List ℕ) → GivesWord option first word → ⊥
TellsWord option first (Some word) = GivesWord option first word

word_told : (option : OptionName) (setting : Setting) (word : List ℕ) (named : Bool)
    → is_named option setting.option ≡ named
    → TellsWord option (given.Value setting word) (if named then Some word else None)
word_told option setting word true is = (is, refl)
word_told option setting word false is = λ found s. (let yes = s.0 in cc)

tells_word : (option : OptionName) (first : Given) → TellsWord option first (word_by option first)
tells_word option (given.Flag change) = λ word s. s
tells_word option (given.Alone other) = λ word s. s
tells_word option (given.Value setting word) = word_told option setting word (is_named option setting.option) refl

word_more : (option : OptionName) (first : Given) (options : List Given) (here rest : Option (List ℕ))
    → TellsWord option first here → SpellsWordOf option options rest
    → SpellsWordOf option (first ∷ options) (option_or here rest)
unfolding SpellsWordOf
word_more option first options None rest tells behind = inr (tells, behind)
word_more option first options (Some word) rest tells behind = inl (word, tells, refl)

word_read : (option : OptionName) (options : List Given) → SpellsWordOf option options (word_given option options)
unfolding word_given SpellsWordOf
word_read option [] = refl
word_read option (first ∷ options) =
    subst (λ (r : Option (List ℕ)). SpellsWordOf option (first ∷ options) r)
    (sym (head_first (word_by option) first options (word_by option first) refl))
    (word_more option first options (word_by option first) (word_given option options) (tells_word option first)
    (word_read option options))

one_word_told : (option : OptionName) (first : Given) (a b : List ℕ) → GivesWord option first a
    → GivesWord option first b → a ≡ b
one_word_told option (given.Flag change) a b sa sb = absurd sa
one_word_told option (given.Alone other) a b sa sb = absurd sa
one_word_told option (given.Value setting word) a b sa sb = sa.1 ∙ sym sb.1

one_word : (option : OptionName) (options : List Given) (a b : Option (List ℕ)) → SpellsWordOf option options a
    → SpellsWordOf option options b → a ≡ b
unfolding SpellsWordOf
one_word option [] a b sa sb = sa ∙ sym sb
one_word option (first ∷ options) a b (inl sa) (inl sb) =
    sa.2 ∙ ap (λ (w : List ℕ). Some w) (one_word_told option first sa.0 sb.0 sa.1 sb.1) ∙ sym sb.2
one_word option (first ∷ options) a b (inl sa) (inr sb) = absurd (sb.0 sa.0 sa.1)
one_word option (first ∷ options) a b (inr sa) (inl sb) = absurd (sa.0 sb.0 sb.1)
one_word option (first ∷ options) a b (inr sa) (inr sb) = one_word option options a b sa.1 sb.1

pub word_found : (option : OptionName) (options : List Given) (found : Option (List ℕ))
    → word_given option options ≡ found → SpellsWordOf option options found
word_found option options found e =
    subst (λ (r : Option (List ℕ)). SpellsWordOf option options r) e (word_read option options)

pub found_word : (option : OptionName) (options : List Given) (found : Option (List ℕ))
    → SpellsWordOf option options found → word_given option options ≡ found
found_word option options found s =
    one_word option options (word_given option options) found (word_read option options) s
