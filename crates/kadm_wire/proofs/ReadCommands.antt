-- What is read is a command of the realm: its flags are known, and its values are in their ranges.
use Rattle.std.proofs.Common.{◌≡◌, ◌≢◌, ℕ, ◌^◌, ◌<◌, ◌≤◌, ◌&&◌, Bool, true, false, cond, nat_eq, nat_le, nat_lt}
use Rattle.std.proofs.Common.{Option, Some, None, option_map, IfSome, find, unwrap_or, Result, Ok, Err, List}
use Rattle.std.proofs.Common.{[], ◌∷◌, length, inl, inr, refl, sym, ap, subst, ◌∙◌, arith, if◌then◌else◌}
use Rattle.std.specs.Prelude.{IfOk, IsTrue, ◌==◌}
use Rattle.std.specs.List.{count_by, filter_map, list_all, slice_split}
use Rattle.std.specs.Option.{option_and_then}
use Rattle.std.specs.Str.{bytes_eq}
use Rattle.std.proofs.lemmas.Bool.{and_parts, and_from}
use Rattle.std.proofs.lemmas.Bool.Decides.{nat_tests}
use Rattle.std.proofs.lemmas.List.Sums.{AllPass-from_list_all}
use Rattle.kadm_commands.specs.Commands.{AreEtypes, AreOptions, IsActivationTime, IsCommand, IsKvno}
use Rattle.kadm_commands.specs.Commands.{IsModPolicy, IsNewKeys, IsOwnName, IsPolicyChoice, Within}
use Rattle.kadm_commands.specs.declared.commands.Command.{Command}
use Rattle.kadm_commands.specs.declared.options.PrincOptions.{PrincOptions}
use Rattle.kadm_commands.specs.declared.policies.PolicyChoice.{PolicyChoice}
use Rattle.kadm_options.specs.Options.{SpellsOptions, flag_opening, is_given}
use Rattle.kadm_options.specs.Options.{opening_among, opening_word, option_named, or_flag}
use Rattle.kadm_options.specs.OptionValues.{GivesSeconds, SpellsField, SpellsValue, first_bad_in}
use Rattle.kadm_options.specs.OptionValues.{flag_of, number_within, seconds_given, word_given}
use Rattle.kadm_options.specs.declared.options.Given.{Given}
use Rattle.kadm_options.specs.declared.options.Given.TheVariants as given
use Rattle.kadm_options.specs.declared.options.Opening.{Opening}
use Rattle.kadm_options.specs.declared.options.Opening.TheVariants as opening
use Rattle.kadm_options.specs.declared.options.OptionName.{OptionName}
use Rattle.kadm_options.specs.declared.options.OptionName.TheVariants as option
use Rattle.kadm_options.specs.declared.options.ValueKind.{ValueKind}
use Rattle.kadm_options.specs.declared.options.ValueKind.TheVariants.{Time, Duration}
use Rattle.kadm_options.proofs.OptionValueLemmas.{field_found, number_spelled}
use Rattle.kadm_values.specs.Durations.{SpellsDuration}
use Rattle.kadm_values.specs.EtypeWords.{all_listed, are_once, before_listed, etypes_in}
use Rattle.kadm_values.specs.EtypeWords.{is_comma, known_etypes, listed_in, same_etype}
use Rattle.kadm_values.specs.Flags.{FlagRow, flag_rows, flag_named, signed_bit, flag_change}
use Rattle.kadm_values.specs.Times.{SpellsTime}
use Rattle.kadm_values.specs.declared.flags.FlagChange.{FlagChange}
use Rattle.kdb_base.specs.Etypes.{number_of}
use Rattle.kdb_base.specs.declared.keys.Etype.{Etype}
use Rattle.kdb_base.specs.declared.keys.Etype.TheVariants.{Aes128, Aes256, Aes128Sha2, Aes256Sha2}
use Rattle.kdb_base.specs.declared.outcomes.Field.{Field}
use Rattle.kdb_base.specs.declared.outcomes.Refusal.{Refusal}
use Rattle.plain_keys.specs.Keys.{AreOnce}
use Rattle.policy_rules.specs.Names.{is_policy_name}
use Rattle.policy_rules.specs.Ranges.{is_min_length, is_min_classes, is_history}
use Rattle.princ_name.specs.Names.{NameParts}
use Rattle.princ_name.specs.Readings.{own_name_in}
use Rattle.princ_name.proofs.OwnNames.{name_of_reading}
use Rattle.princ_record.specs.Policies.{IsPolicy}
use Rattle.princ_record.specs.Princs.{are_attributes}
use Rattle.tagged_data.specs.Strings.{is_string_key, is_string_value}
use Rattle.kadm_wire.specs.Commands.{chosen_policy, default_etypes, etypes_by, fields_given, keys_by}
use Rattle.kadm_wire.specs.Commands.{keys_given, lone_command, names_command, new_keys, number_given}
use Rattle.kadm_wire.specs.Commands.{policy_by, policy_command, princ_command, rules_changed, rules_given}
use Rattle.kadm_wire.specs.LineReadings.{answer, are_short, command_reading, delete_reading, is_comment}
use Rattle.kadm_wire.specs.LineReadings.{line_reading, lone_reading, names_reading, policy_reading, princ_reading}
use Rattle.kadm_wire.specs.LineReadings.{reading, rename_reading, set_reading, shape_reading, split_reading}
use Rattle.kadm_wire.specs.LineReadings.{use_from_reading, use_reading, words_answer, words_reading}
use Rattle.kadm_wire.specs.Lines.{longest_line}
use Rattle.kadm_wire.specs.Reads.{activation_in, is_glob_word, unless_bad, when_good, with_name, with_value}
use Rattle.kadm_wire.specs.Shapes.{Shape, shape_in}
use Rattle.kadm_wire.specs.Verbs.{adding_options, changing_options, field_options, force_options}
use Rattle.kadm_wire.specs.Verbs.{has_flags, is_whole, key_options, lone_options, master_options}
use Rattle.kadm_wire.specs.Verbs.{named_by, names_options, options_for, options_of_policy}
use Rattle.kadm_wire.specs.Verbs.{policy_options, princ_options, purging_options, short_force_options}
use Rattle.kadm_wire.specs.declared.readings.Reading.{Reading}
use Rattle.kadm_wire.specs.declared.readings.Reading.TheVariants.{Skipped, Says, Refuses}
use Rattle.kadm_wire.specs.declared.verbs.PrincVerb.{PrincVerb}
use Rattle.kadm_wire.specs.declared.verbs.PrincVerb.TheVariants as princ
use Rattle.kadm_wire.specs.declared.verbs.PolicyVerb.{PolicyVerb}
use Rattle.kadm_wire.specs.declared.verbs.PolicyVerb.TheVariants as policy
use Rattle.kadm_wire.specs.declared.verbs.NamesVerb.TheVariants as names
use Rattle.kadm_wire.specs.declared.verbs.LoneVerb.TheVariants as lone
use Rattle.kadm_wire.specs.declared.verbs.Verb.{Verb}
use Rattle.kadm_wire.specs.declared.verbs.Verb.TheVariants as verb
use Rattle.kadm_words.specs.Splitting.{words_in}
use Rattle.kdb_base.specs.declared.outcomes.Refusal.TheVariants.{BadLine, LineTooLong}
use Rattle.kadm_commands.specs.declared.policies.PolicyChoice.TheVariants as choice
use Rattle.kadm_commands.specs.declared.commands.Command.TheVariants as command
use Rattle.std.proofs.lemmas.List.Splits.{length-slice_split}
use Rattle.kadm_wire.proofs.Exact.{activation_spelled}
use Rattle.kadm_wire.proofs.ShapeLemmas.{shape_spelled}
use Rattle.kadm_wire.proofs.WordLemmas.{given_within}

-- ---- values

time_below : (word : List ℕ) (value : ℕ) → SpellsTime word value → value < 2 ^ 32
unfolding SpellsTime
time_below word value (inl never) = let zero = never.1 in omega arith
time_below word value (inr (inl number)) = number.fits
time_below word value (inr (inr civil)) = civil.at.fits

duration_below : (word : List ℕ) (value : ℕ) → SpellsDuration word value → value < 2 ^ 32
unfolding SpellsDuration
duration_below word value (inl number) = number.fits
duration_below word value (inr sum) = sum.fits

value_below : (kind : ValueKind) (word : List ℕ) (secs : ℕ) → SpellsValue kind word secs → secs < 2 ^ 32
value_below Time word secs s = time_below word secs s
value_below Duration word secs s = duration_below word secs s
value_below _ word secs s = absurd s

gives_below : (o : OptionName) (first : Given) (secs : ℕ) → GivesSeconds o first secs → secs < 2 ^ 32
gives_below o (given.Flag change) secs s = absurd s
gives_below o (given.Alone other) secs s = absurd s
gives_below o (given.Value setting word) secs s = value_below setting.kind word secs s.1

abbrev IsBelow : Option ℕ → Type 0
IsBelow r = IfSome r (λ n. n < 2 ^ 32)

field_below : (o : OptionName) (options : List Given) (r : Option ℕ) → SpellsField o options r
    → IfSome r (λ n. n < 2 ^ 32)
unfolding SpellsField
field_below o [] r s = subst (λ (x : Option ℕ). IsBelow x) (sym s) tt
field_below o (first ∷ options) r (inl s) = subst (λ (x : Option ℕ). IsBelow x) (sym s.2) (gives_below o first s.0 s.1)
field_below o (first ∷ options) r (inr s) = field_below o options r s.1

-- ---- flags

first_passes : {A : Type 0} (q : A → Bool) (here : Bool) (y x : A) (rest : Option A) → cond here (Some y) rest ≡ Some x
    → q y ≡ true → (rest ≡ Some x → q x ≡ true) → q x ≡ true
first_passes {A} q true y x rest e passes behind = let same : y ≡ x = cc in subst (λ (z : A). q z ≡ true) same passes
first_passes {A} q false y x rest e passes behind = behind e

-- what is found among items that pass a test passes it
found_passes : {A : Type 0} (p q : A → Bool) (xs : List A) (x : A) → find p xs ≡ Some x
    → list_all q xs ≡ true → q x ≡ true
found_passes p q [] x e all = cc
found_passes p q (y ∷ ys) x e all =
    let parts = and_parts (q y) (list_all q ys) all in
    first_passes q (p y) y x (find p ys) e parts.0 (λ found. found_passes p q ys x found parts.1)

row_known : (word : List ℕ) (row : FlagRow) → flag_named word ≡ Some row → are_attributes row.bit ≡ true
unfolding flag_named flag_rows are_attributes
row_known word row e = found_passes (λ r. bytes_eq r.word word) (λ r. are_attributes r.bit) flag_rows row e refl

signed_known : (plus : Bool) (word : List ℕ) (r : Option FlagRow) (change : FlagChange) → flag_named word ≡ r
    → signed_bit plus r ≡ Some change → are_attributes change.bit ≡ true
signed_known plus word None change named e = cc
signed_known plus word (Some row) change named e =
    let bit : row.bit ≡ change.bit = cc in
    subst (λ (n : ℕ). are_attributes n ≡ true) bit (row_known word row named)

sign_known : (plus minus : Bool) (word : List ℕ) (change : FlagChange)
    → cond plus (signed_bit true (flag_named word)) (cond minus (signed_bit false (flag_named word)) None) ≡ Some change
    → are_attributes change.bit ≡ true
sign_known true minus word change e = signed_known true word (flag_named word) change refl e
sign_known false true word change e = signed_known false word (flag_named word) change refl e
sign_known false false word change e = cc

change_known : (word : List ℕ) (change : FlagChange) → flag_change word ≡ Some change → are_attributes change.bit ≡ true
unfolding flag_change
change_known [] change e = cc
change_known (sign ∷ word) change e = sign_known (nat_eq sign 43) (nat_eq sign 45) word change e

is_no_flag : Opening → Bool
is_no_flag (opening.Flag change) = false
is_no_flag (opening.Alone o) = true
is_no_flag (opening.Value setting) = true

no_flags : (v : Verb) → list_all is_no_flag (options_for v) ≡ true
unfolding options_for princ_options options_of_policy names_options lone_options adding_options
    key_options changing_options field_options purging_options policy_options master_options force_options
    short_force_options is_no_flag
no_flags (verb.OnPrinc princ.Add) = refl
no_flags (verb.OnPrinc princ.Modify) = refl
no_flags (verb.OnPrinc princ.ChangeKeys) = refl
no_flags (verb.OnPrinc princ.Delete) = refl
no_flags (verb.OnPrinc princ.Show) = refl
no_flags (verb.OnPrinc princ.PurgeKeys) = refl
no_flags (verb.OnPrinc princ.ShowStrings) = refl
no_flags (verb.OnPrinc princ.Extract) = refl
no_flags (verb.OnPolicy policy.Add) = refl
no_flags (verb.OnPolicy policy.Modify) = refl
no_flags (verb.OnPolicy policy.Delete) = refl
no_flags (verb.OnPolicy policy.Show) = refl
no_flags (verb.OnNames names.List) = refl
no_flags (verb.OnNames names.Rekey) = refl
no_flags (verb.Alone lone.ListPolicies) = refl
no_flags (verb.Alone lone.GetPrivs) = refl
no_flags (verb.Alone lone.AddMaster) = refl
no_flags (verb.Alone lone.ListMasters) = refl
no_flags (verb.Alone lone.PurgeMasters) = refl
no_flags (verb.Alone lone.Stash) = refl
no_flags (verb.Alone lone.Dump) = refl
no_flags verb.RenPrinc = refl
no_flags verb.SetString = refl
no_flags verb.DelString = refl
no_flags verb.UseMaster = refl

read_known : (word : List ℕ) (r : Option FlagChange) (change : FlagChange) → flag_change word ≡ r
    → option_map (λ c. opening.Flag c) r ≡ Some (opening.Flag change) → are_attributes change.bit ≡ true
read_known word None change is e = cc
read_known word (Some found) change is e =
    let same : found ≡ change = cc in
    subst (λ (c : FlagChange). are_attributes c.bit ≡ true) same (change_known word found is)

flag_known : (flags : Bool) (word : List ℕ) (change : FlagChange) → flag_opening flags word ≡ Some (opening.Flag change)
    → are_attributes change.bit ≡ true
flag_known true word change e = read_known word (flag_change word) change refl e
flag_known false word change e = cc

named_known : (known : List Opening) (flags : Bool) (word : List ℕ) (r : Option Opening) (change : FlagChange)
    → list_all is_no_flag known ≡ true
    → opening_among known word ≡ r → or_flag r flags word ≡ Some (opening.Flag change)
    → are_attributes change.bit ≡ true
unfolding is_no_flag
named_known known flags word None change none is e = flag_known flags word change e
named_known known flags word (Some found) change none is e =
    absurd (let not =
    found_passes (λ o. bytes_eq (opening_word o) word) is_no_flag known (opening.Flag change) (is ∙ e) none in cc)

option_known : (v : Verb) (word : List ℕ) (change : FlagChange) → named_by v word ≡ Some (opening.Flag change)
    → are_attributes change.bit ≡ true
unfolding option_named
option_known v word change e =
    named_known (options_for v) (has_flags v) word (opening_among (options_for v) word) change (no_flags v) refl e

abbrev is_known : FlagChange → Bool
is_known change = are_attributes change.bit

flags_known : (v : Verb) (options : List Given) (rest words : List (List ℕ))
    → SpellsOptions (named_by v) options rest words
    → list_all is_known (filter_map flag_of options) ≡ true
unfolding SpellsOptions
flags_known v [] rest words s = refl
flags_known v (given.Flag change ∷ options) rest words led =
    and_from _ _ (option_known v led.word change led.says) (flags_known v options rest led.behind led.others)
flags_known v (given.Alone o ∷ options) rest words led = flags_known v options rest led.behind led.others
flags_known v (given.Value setting value ∷ options) rest words led = flags_known v options rest led.behind led.others

-- ---- values of options

seconds_below : (o : OptionName) (options : List Given) → IfSome (seconds_given o options) (λ n. n < 2 ^ 32)
seconds_below o options =
    field_below o options (seconds_given o options) (field_found o options (seconds_given o options) refl)

or_zero : (r : Option ℕ) → IfSome r (λ n. n < 2 ^ 32) → unwrap_or r 0 < 2 ^ 32
or_zero None below = omega arith
or_zero (Some n) below = below

fields_good : (options : List Given) → list_all is_known (filter_map flag_of options) ≡ true
    → AreOptions (fields_given options)
fields_good options known = record {
  flags = AllPass-from_list_all is_known (filter_map flag_of options) known;
  expire = seconds_below option.Expire options;
  pw_expire = seconds_below option.PwExpire options;
  max_life = seconds_below option.MaxLife options;
  max_renew = seconds_below option.MaxRenewLife options;
}

-- a number in its range, by the test of the range
number_good : (test : ℕ → Bool) (least most : ℕ) (r : Option (List ℕ)) (found : Option ℕ)
    → option_and_then (number_within least most) r ≡ found
    → ((n : ℕ) → least ≤ n → n ≤ most → test n ≡ true) → IfSome found (λ n. test n ≡ true)
number_good test least most r None e good = tt
number_good test least most r (Some n) e good = let within =
    given_within least most r n (sym e) in good n within.0 within.1

or_least : (test : ℕ → Bool) (least : ℕ) (found : Option ℕ) → IfSome found (λ n. test n ≡ true) → test least ≡ true
    → test (unwrap_or found least) ≡ true
or_least test least None good first = first
or_least test least (Some n) good first = good

length_good : (n : ℕ) → 1 ≤ n → n ≤ 255 → is_min_length n ≡ true
length_good n from to =
    let low : nat_le 1 n ≡ true = grind (arith, nat_tests) in
    let high : nat_le n 255 ≡ true = grind (arith, nat_tests) in
    rw (low, high) refl

classes_good : (n : ℕ) → 1 ≤ n → n ≤ 5 → is_min_classes n ≡ true
classes_good n from to =
    let low : nat_le 1 n ≡ true = grind (arith, nat_tests) in
    let high : nat_le n 5 ≡ true = grind (arith, nat_tests) in
    rw (low, high) refl

history_good : (n : ℕ) → 1 ≤ n → n ≤ 16 → is_history n ≡ true
history_good n from to =
    let low : nat_le 1 n ≡ true = grind (arith, nat_tests) in
    let high : nat_le n 16 ≡ true = grind (arith, nat_tests) in
    rw (low, high) refl

lengths : (options : List Given) → IfSome (number_given option.MinLength 1 255 options) (λ n. is_min_length n ≡ true)
lengths options = number_good is_min_length 1 255 (word_given option.MinLength options) _ refl length_good

classes : (options : List Given) → IfSome (number_given option.MinClasses 1 5 options) (λ n. is_min_classes n ≡ true)
classes options = number_good is_min_classes 1 5 (word_given option.MinClasses options) _ refl classes_good

histories : (options : List Given) → IfSome (number_given option.History 1 16 options) (λ n. is_history n ≡ true)
histories options = number_good is_history 1 16 (word_given option.History options) _ refl history_good

kvno_good : (r : Option (List ℕ)) (found : Option ℕ) → option_and_then (number_within 1 65535) r ≡ found
    → IfSome found IsKvno
kvno_good r None e = tt
kvno_good r (Some n) e = let within =
    given_within 1 65535 r n (sym e) in record { from_one = within.0; short = omega (arith, within.1) }

-- ---- encryption types

once_here : (etypes : List Etype) (etype : Etype) → nat_le (count_by (same_etype etype) etypes) 1 ≡ true
    → count_by (λ other. nat_eq (number_of other) (number_of etype)) etypes ≤ 1
once_here etypes etype e = grind (arith, nat_tests)

four : (a b c d : Bool) → (a && (b && (c && (d && true)))) ≡ true → (a ≡ true) × (b ≡ true) × (c ≡ true) × (d ≡ true)
four true true true true e = (refl, refl, refl, refl)
four true true true false e = cc
four true true false d e = cc
four true false c d e = cc
four false b c d e = cc

abbrev is_once : List Etype → Etype → Bool
is_once etypes etype = nat_le (count_by (same_etype etype) etypes) 1

once_tested : (etypes : List Etype) → are_once etypes ≡ true → AreOnce etypes
unfolding are_once known_etypes
once_tested etypes once Aes128 =
    once_here etypes Aes128 (four (is_once etypes Aes128) (is_once etypes Aes256) (is_once etypes Aes128Sha2)
    (is_once etypes Aes256Sha2) once).0
once_tested etypes once Aes256 =
    once_here etypes Aes256 (four (is_once etypes Aes128) (is_once etypes Aes256) (is_once etypes Aes128Sha2)
    (is_once etypes Aes256Sha2) once).1
once_tested etypes once Aes128Sha2 =
    once_here etypes Aes128Sha2 (four (is_once etypes Aes128) (is_once etypes Aes256) (is_once etypes Aes128Sha2)
    (is_once etypes Aes256Sha2) once).2
once_tested etypes once Aes256Sha2 =
    once_here etypes Aes256Sha2 (four (is_once etypes Aes128) (is_once etypes Aes256) (is_once etypes Aes128Sha2)
    (is_once etypes Aes256Sha2) once).3

default_good : AreEtypes default_etypes
unfolding default_etypes are_once known_etypes
default_good = record { some = λ none. (cc); once = once_tested default_etypes refl }

-- ---- a list has a type

parts_some : (text : List ℕ) → slice_split is_comma text ≡ [] → ⊥
parts_some text none = (let many = length-slice_split is_comma text in let e = ap length none in omega arith)

listed_some : (here : Option Etype) (behind : Option (List Etype)) (etypes : List Etype)
    → before_listed here behind ≡ Some etypes → etypes ≢ []
listed_some None behind etypes e = cc
listed_some (Some etype) None etypes e = cc
listed_some (Some etype) (Some others) etypes e = λ none. (cc)

all_some : (items : List (List ℕ)) (etypes : List Etype) → (items ≡ [] → ⊥)
    → all_listed items ≡ Some etypes → etypes ≢ []
unfolding all_listed
all_some [] etypes some e = absurd (some refl)
all_some (item ∷ items) etypes some e = listed_some (listed_in item) (all_listed items) etypes e

once_good : (text : List ℕ) (es etypes : List Etype) (once : Bool) → all_listed (slice_split is_comma text) ≡ Some es
    → are_once es ≡ once
    → (if once then Some es else None) ≡ Some etypes → AreEtypes etypes
once_good text es etypes true all once e =
    let same : es ≡ etypes = cc in
    subst (λ (x : List Etype). AreEtypes x) same
    (record { some = all_some (slice_split is_comma text) es (parts_some text) all; once = once_tested es once })
once_good text es etypes false all once e = cc

list_by : (text : List ℕ) (r : Option (List Etype)) (etypes : List Etype) → all_listed (slice_split is_comma text) ≡ r
    → option_and_then (λ es. if are_once es then Some es else None) r ≡ Some etypes → AreEtypes etypes
list_by text None etypes all e = cc
list_by text (Some es) etypes all e = once_good text es etypes (are_once es) all refl e

list_good : (word : List ℕ) (r : Option (List Etype)) → etypes_in word ≡ r → AreEtypes (unwrap_or r default_etypes)
unfolding etypes_in
list_good word None e = default_good
list_good word (Some etypes) e = list_by word (all_listed (slice_split is_comma word)) etypes refl e

etypes_good : (r : Option (List ℕ)) → AreEtypes (etypes_by r)
etypes_good None = default_good
etypes_good (Some word) = list_good word (etypes_in word) refl

keys_good : (password : Option (List ℕ)) (etypes : List Etype) → AreEtypes etypes → IsNewKeys (keys_by password etypes)
keys_good None etypes good = good
keys_good (Some word) etypes good = good

new_good : (options : List Given) → IsNewKeys (new_keys options)
unfolding new_keys
new_good options = keys_good (word_given option.Password options) _ (etypes_good (word_given option.Enctypes options))

choice_good : (options : List Given) (none : Bool) → IfSome (if none then None else Some (new_keys options)) IsNewKeys
choice_good options true = tt
choice_good options false = new_good options

given_good : (options : List Given) → IfSome (keys_given options) IsNewKeys
unfolding keys_given
given_good options = choice_good options (is_given option.NoKey options)

-- ---- policies

named_policy : (word : List ℕ) (named : Bool) → is_policy_name word ≡ named
    → IfSome (if named then Some (choice.Named word) else None) IsPolicyChoice
named_policy word true e = e
named_policy word false e = tt

policy_word : (r : Option (List ℕ)) → IfSome (policy_by r) IsPolicyChoice
policy_word None = tt
policy_word (Some word) = named_policy word (is_policy_name word) refl

cleared_or : (r : Option (List ℕ)) (cleared : Bool)
    → IfSome (if cleared then Some choice.Cleared else policy_by r) IsPolicyChoice
cleared_or r true = tt
cleared_or r false = policy_word r

policy_good : (options : List Given) → IfSome (chosen_policy options) IsPolicyChoice
unfolding chosen_policy
policy_good options = cleared_or (word_given option.Policy options) (is_given option.ClearPolicy options)

rules_good : (options : List Given) (name : List ℕ) → is_policy_name name ≡ true → IsPolicy (rules_given options name)
unfolding rules_given
rules_good options name named = record {
  named = named;
  max_life = or_zero (seconds_given option.MaxLife options) (seconds_below option.MaxLife options);
  min_life = or_zero (seconds_given option.MinLife options) (seconds_below option.MinLife options);
  length = or_least is_min_length 1 (number_given option.MinLength 1 255 options) (lengths options) refl;
  classes = or_least is_min_classes 1 (number_given option.MinClasses 1 5 options) (classes options) refl;
  remembered = or_least is_history 1 (number_given option.History 1 16 options) (histories options) refl;
}

changed_good : (options : List Given) (name : List ℕ) → is_policy_name name ≡ true
    → IsModPolicy (rules_changed options name)
unfolding rules_changed
changed_good options name named = record {
  named = named;
  max_life = seconds_below option.MaxLife options;
  min_life = seconds_below option.MinLife options;
  min_length = lengths options;
  min_classes = classes options;
  history = histories options;
}

-- ---- commands

princ_good : (realm : List ℕ) (v : PrincVerb) (options : List Given) (name : NameParts)
    → list_all is_known (filter_map flag_of options) ≡ true → IsOwnName realm name
    → IsCommand realm (princ_command v options name)
unfolding princ_command IsCommand
princ_good realm princ.Add options name known own =
    (own, given_good options, policy_good options, fields_good options known)
princ_good realm princ.Modify options name known own = (own, policy_good options, fields_good options known)
princ_good realm princ.ChangeKeys options name known own = (own, new_good options)
princ_good realm princ.Delete options name known own = own
princ_good realm princ.Show options name known own = own
princ_good realm princ.PurgeKeys options name known own = (own, kvno_good (word_given option.KeepKvno options) _ refl)
princ_good realm princ.ShowStrings options name known own = own
princ_good realm princ.Extract options name known own = own

policy_command_good : (realm : List ℕ) (v : PolicyVerb) (options : List Given) (name : List ℕ)
    → is_policy_name name ≡ true → IsCommand realm (policy_command v options name)
unfolding policy_command IsCommand
policy_command_good realm policy.Add options name named = rules_good options name named
policy_command_good realm policy.Modify options name named = changed_good options name named
policy_command_good realm policy.Delete options name named = named
policy_command_good realm policy.Show options name named = named

names_good : (realm : List ℕ) (v : _) (glob : Option (List ℕ)) → IsCommand realm (names_command v glob)
unfolding names_command IsCommand
names_good realm names.List glob = tt
names_good realm names.Rekey glob = tt

lone_good : (realm : List ℕ) (v : _) (options : List Given) → IsCommand realm (lone_command v options)
unfolding lone_command IsCommand
lone_good realm lone.ListPolicies options = tt
lone_good realm lone.GetPrivs options = tt
lone_good realm lone.AddMaster options = tt
lone_good realm lone.ListMasters options = tt
lone_good realm lone.PurgeMasters options = tt
lone_good realm lone.Stash options = tt
lone_good realm lone.Dump options = tt

-- ---- readings

abbrev IsGood : List ℕ → Reading → Type 0
IsGood realm Skipped = Unit {0}
IsGood realm (Says c) = IsCommand realm c
IsGood realm (Refuses refusal) = Unit {0}

with_name_good : (realm word : List ℕ) (found : Result NameParts ℕ) (next : NameParts → Reading)
    → own_name_in word realm ≡ found
    → ((name : NameParts) → IsOwnName realm name → IsGood realm (next name)) → IsGood realm (with_name found next)
with_name_good realm word (Ok name) next e good =
    let read = name_of_reading word realm name e in good name (record { is_name = read.1; own = read.2 })
with_name_good realm word (Err offset) next e good = tt

unless_bad_good : (realm : List ℕ) (bad : Option Field) (next : Reading) → IsGood realm next
    → IsGood realm (unless_bad bad next)
unless_bad_good realm None next good = good
unless_bad_good realm (Some field) next good = tt

when_good_good : (realm : List ℕ) (test : Bool) (field : Field) (next : Reading) → (test ≡ true → IsGood realm next)
    → IsGood realm (when_good test field next)
when_good_good realm true field next good = good refl
when_good_good realm false field next good = tt

with_value_good : (realm : List ℕ) {A : Type 0} (found : Option A) (field : Field) (next : A → Reading)
    → ((x : A) → found ≡ Some x → IsGood realm (next x))
    → IsGood realm (with_value found field next)
with_value_good realm {A} None field next good = tt
with_value_good realm {A} (Some x) field next good = good x refl

use_good : (realm word : List ℕ) (version : ℕ) (secs : Option ℕ) → number_within 1 65535 word ≡ Some version
    → IfSome secs IsActivationTime
    → IsCommand realm (command.UseMaster (record { version = version; secs = secs }))
unfolding IsCommand
use_good realm word version secs e set = (kvno_good (Some word) (Some version) e, set)

time_good : (word : List ℕ) (secs : ℕ) → activation_in word ≡ Some secs → IsActivationTime secs
time_good word secs e = let s =
    activation_spelled word secs e in record { set = s.set; short = time_below word secs s.spelled }

command_good : (realm : List ℕ) (v : Verb) (options : List Given) (words : List (List ℕ))
    → list_all is_known (filter_map flag_of options) ≡ true
    → IsGood realm (command_reading realm v options words)
unfolding command_reading princ_reading rename_reading set_reading delete_reading policy_reading names_reading
    use_reading use_from_reading lone_reading IsCommand
command_good realm (verb.OnPrinc v) options (word ∷ []) known =
    with_name_good realm word _ _ refl
    (λ name own. unless_bad_good realm (first_bad_in options) _ (princ_good realm v options name known own))
command_good realm (verb.OnPolicy v) options (word ∷ []) known =
    unless_bad_good realm (first_bad_in options) _
    (when_good_good realm (is_policy_name word) _ _ (λ named. policy_command_good realm v options word named))
command_good realm (verb.OnNames v) options [] known = names_good realm v None
command_good realm (verb.OnNames v) options (word ∷ []) known =
    when_good_good realm (is_glob_word word) _ _ (λ good. names_good realm v _)
command_good realm (verb.Alone v) options [] known =
    unless_bad_good realm (first_bad_in options) _ (lone_good realm v options)
command_good realm verb.RenPrinc options (word ∷ new ∷ []) known =
    with_name_good realm word _ _ refl
    (λ name own. with_name_good realm new _ _ refl (λ new_name new_own. (own, new_own)))
command_good realm verb.SetString options (word ∷ key ∷ value ∷ []) known =
    with_name_good realm word _ _ refl (λ name own. when_good_good realm (is_string_key key) _ _ (λ k.
    when_good_good realm (is_string_value value) _ _ (λ val. (own, k, val))))
command_good realm verb.DelString options (word ∷ key ∷ []) known =
    with_name_good realm word _ _ refl (λ name own. when_good_good realm (is_string_key key) _ _ (λ k. (own, k)))
command_good realm verb.UseMaster options (word ∷ []) known =
    with_value_good realm _ _ _ (λ version e. use_good realm word version None e tt)
command_good realm verb.UseMaster options (word ∷ time ∷ []) known =
    with_value_good realm _ _ _ (λ version e.
    with_value_good realm _ _ _ (λ secs f. use_good realm word version (Some secs) e (time_good time secs f)))
command_good realm v options words known = tt

whole_good : (realm : List ℕ) (shape : Shape) (whole : Bool)
    → list_all is_known (filter_map flag_of shape.options) ≡ true
    → IsGood realm (if whole then command_reading realm shape.verb shape.options shape.others else Refuses BadLine)
whole_good realm shape true known = command_good realm shape.verb shape.options shape.others known
whole_good realm shape false known = tt

shape_good : (realm : List ℕ) (words : List (List ℕ)) (r : Option Shape) → shape_in words ≡ r
    → IsGood realm (shape_reading realm r)
shape_good realm words None e = tt
shape_good realm words (Some shape) e =
    let s = shape_spelled shape words e in
    whole_good realm shape (is_whole shape.verb shape.options)
    (flags_known shape.verb shape.options s.rest s.arguments s.options)

split_good : (realm : List ℕ) (r : Option (List (List ℕ))) → IsGood realm (split_reading realm r)
unfolding words_reading
split_good realm None = tt
split_good realm (Some []) = tt
split_good realm (Some (word ∷ words)) = shape_good realm (word ∷ words) (shape_in (word ∷ words)) refl

comment_good : (realm line : List ℕ) (comment : Bool)
    → IsGood realm (if comment then Skipped else split_reading realm (words_in line))
comment_good realm line true = tt
comment_good realm line false = split_good realm (words_in line)

long_good : (realm line : List ℕ) (long : Bool)
    → IsGood realm (if long then Refuses LineTooLong
    else (if is_comment line then Skipped else split_reading realm (words_in line)))
long_good realm line true = tt
long_good realm line false = comment_good realm line (is_comment line)

line_good : (realm line : List ℕ) → IsGood realm (line_reading realm line)
unfolding line_reading
line_good realm line = long_good realm line (nat_lt longest_line (length line))

pub said_command : (realm line : List ℕ) (said : Reading) (c : Command) → said ≡ line_reading realm line → said ≡ Says c
    → IsCommand realm c
said_command realm line said c is same = subst (λ (r : Reading). IsGood realm r) (sym is ∙ same) (line_good realm line)

answer_good : (realm : List ℕ) (said : Reading) (c : Command) → IsGood realm said → answer said ≡ Ok (Some c)
    → IsCommand realm c
answer_good realm Skipped c good e = cc
answer_good realm (Says other) c good e = let same : other ≡ c =
    cc in subst (λ (c : Command). IsCommand realm c) same good
answer_good realm (Refuses refusal) c good e = cc

pub answered_command : (realm line : List ℕ) (c : Command) → reading realm line ≡ Ok (Some c) → IsCommand realm c
unfolding reading
answered_command realm line c e = answer_good realm (line_reading realm line) c (line_good realm line) e

words_good : (realm : List ℕ) (words : List (List ℕ)) → IsGood realm (words_reading realm words)
unfolding words_reading
words_good realm [] = tt
words_good realm (word ∷ words) = shape_good realm (word ∷ words) (shape_in (word ∷ words)) refl

short_command : (realm : List ℕ) (words : List (List ℕ)) (short : Bool) (c : Command)
    → (if short then answer (words_reading realm words) else Err BadLine) ≡ Ok (Some c) → IsCommand realm c
short_command realm words true c e = answer_good realm (words_reading realm words) c (words_good realm words) e
short_command realm words false c e = absurd cc

words_command : (realm : List ℕ) (words : List (List ℕ)) (c : Command) → words_answer realm words ≡ Ok (Some c)
    → IsCommand realm c
unfolding words_answer
words_command realm words c e = short_command realm words (are_short words) c e

pub words_told : {E : Type 0} (realm : List ℕ) (words : List (List ℕ)) (r : Result (Result (Option Command) Refusal) E)
    (c : Command) → IfOk r (λ said. said ≡ words_answer realm words) → r ≡ Ok (Ok (Some c)) → IsCommand realm c
words_told {E} realm words r c said e =
    words_command realm words c (sym (subst
    (λ (x : Result (Result (Option Command) Refusal) E). IfOk x (λ said. said ≡ words_answer realm words)) e said))
