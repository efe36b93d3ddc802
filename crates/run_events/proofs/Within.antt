-- Words that a run takes are within their limits.
use Rattle.std.proofs.Common.{ℕ, ◌≡◌, ◌≤◌, Bool, true, false, List, [], ◌∷◌}
use Rattle.std.proofs.Common.{Option, Some, None, Result, Ok, Err, refl, arith}
use Rattle.std.specs.Option.{option_and_then}
use Rattle.std.specs.Prelude.{codes, if◌then◌else◌, unwrap_or}
use Rattle.std.specs.Str.{bytes_eq}
use Rattle.first_rows.specs.Parts.{IsSpec}
use Rattle.kadm_options.proofs.OptionValueLemmas.{number_spelled}
use Rattle.kadm_options.specs.OptionValues.{first_bad_in, number_within, word_given}
use Rattle.kadm_options.specs.Options.{is_dashes}
use Rattle.kadm_options.specs.declared.options.Given.{Given}
use Rattle.kadm_options.specs.declared.options.OptionName.TheVariants as option
use Rattle.kadm_top.specs.Words.{admin_by, admin_options, create_by, create_in, create_options, destroy_by}
use Rattle.kadm_top.specs.Words.{destroy_options, generate_by, is_line_word, keytab_by, kind_named, line_refusal}
use Rattle.kadm_top.specs.Words.{load_by, log_in, no_more, options_alone, renew_by, report_by, report_in}
use Rattle.kadm_top.specs.Words.{size_given, spec_of, tell_by, unless_bad, unless_refused, words_behind, words_in}
use Rattle.kadm_top.specs.declared.words.Account.{Account}
use Rattle.kadm_top.specs.declared.words.Account.TheVariants.{Dump, Log}
use Rattle.kadm_top.specs.declared.words.Words.{Words}
use Rattle.kadm_top.specs.declared.words.Words.TheVariants as words
use Rattle.kadm_wire.specs.LineReadings.{words_answer}
use Rattle.kdb_base.specs.declared.outcomes.Field.{Field}
use Rattle.kdb_base.specs.declared.outcomes.Field.TheVariants as field
use Rattle.kdb_base.specs.declared.outcomes.Refusal.{Refusal}
use Rattle.kdb_base.specs.declared.outcomes.Refusal.TheVariants.{BadValue}
use Rattle.kdb_histories.specs.Calls.{IsSize}
use Rattle.keytab_words.specs.Words.{ktadd_in, ktremove_in}
use Rattle.keytab_words.specs.declared.words.KeytabWords.{KeytabWords}
use Rattle.made_scripts.specs.Words.{script_in}
use Rattle.made_scripts.specs.declared.words.Script.{Script}
use Rattle.princ_name.specs.Realms.{is_realm}
use Rattle.tab_reports.specs.declared.reports.ReportKind.{ReportKind}

-- the log size that is asked for is above 0, and what a database is made with has a realm and a log size that it may
-- have
abbrev pub AreWithin : Result Words Refusal → Type 0
AreWithin (Ok (words.Admin size)) = IsSize size
AreWithin (Ok (words.Create spec)) = IsSpec spec
AreWithin (Ok other) = Unit {0}
AreWithin (Err refusal) = Unit {0}

if_both : (b : Bool) (x y : Result Words Refusal) → AreWithin x → AreWithin y → AreWithin (if b then x else y)
if_both true x y p q = p
if_both false x y p q = q

-- ---- a log size

abbrev IsSizeWithin : Option ℕ → Type 0
IsSizeWithin None = Unit {0}
IsSizeWithin (Some n) = (2 ≤ n) × (n ≤ 10000)

number_is : (word : List ℕ) (r : Option ℕ) → number_within 2 10000 word ≡ r → IsSizeWithin r
number_is word None e = tt
number_is word (Some n) e = let s = number_spelled 2 10000 word n e in (s.from, s.to)

size_is : (word : Option (List ℕ)) → IsSizeWithin (option_and_then (number_within 2 10000) word)
size_is None = tt
size_is (Some word) = number_is word (number_within 2 10000 word) refl

above_none : (size : Option ℕ) → IsSizeWithin size → IsSize size
above_none None h = tt
above_none (Some n) h = let least = h.0 in omega (arith, least)

least_is : (size : Option ℕ) → IsSizeWithin size → 2 ≤ unwrap_or size 1000
least_is None h = omega arith
least_is (Some n) h = h.0

most_is : (size : Option ℕ) → IsSizeWithin size → unwrap_or size 1000 ≤ 10000
most_is None h = omega arith
most_is (Some n) h = h.1

-- ---- one command after another

bad_or : (bad : Option Field) (said : Words) → AreWithin (Ok said) → AreWithin (unless_bad bad said)
bad_or None said p = p
bad_or (Some field) said p = tt

admin_is : (options : Option (List Given)) → AreWithin (admin_by options)
admin_is None = tt
admin_is (Some options) =
    bad_or (first_bad_in options) (words.Admin (size_given options))
    (above_none (size_given options) (size_is (word_given option.UlogSize options)))

create_is : (realm : List ℕ) (options : Option (List Given)) → AreWithin (create_by realm options)
create_is realm None = tt
create_is realm (Some options) = by (is_realm realm) refl
  where
    by : (b : Bool) → is_realm realm ≡ b → AreWithin (if b
        then unless_bad (first_bad_in options) (words.Create (spec_of realm options)) else Err (BadValue field.Realm))
    by true e =
        let size = size_is (word_given option.UlogSize options) in
        bad_or (first_bad_in options) (words.Create (spec_of realm options))
        (record { realm = e; least = least_is (size_given options) size; most = most_is (size_given options) size })
    by false e = tt

create_words : (said : List (List ℕ)) → AreWithin (create_in said)
create_words [] = tt
create_words (realm ∷ said) = create_is realm (options_alone create_options said)

tell_is : (account : Account) (options : Option (List Given)) → AreWithin (tell_by account options)
tell_is account None = tt
tell_is account (Some options) = tt

load_is : (options : Option (List Given)) → AreWithin (load_by options)
load_is None = tt
load_is (Some options) = tt

destroy_is : (options : Option (List Given)) → AreWithin (destroy_by options)
destroy_is None = tt
destroy_is (Some options) = tt

renew_is : (b : Bool) → AreWithin (renew_by b)
renew_is true = tt
renew_is false = tt

keytab_is : (r : Result KeytabWords Refusal) → AreWithin (keytab_by r)
keytab_is (Ok said) = tt
keytab_is (Err refusal) = tt

generate_is : (r : Result Script Refusal) → AreWithin (generate_by r)
generate_is (Ok script) = tt
generate_is (Err refusal) = tt

kind_is : (kind : Option ReportKind) → AreWithin (report_by kind)
kind_is None = tt
kind_is (Some kind) = tt

log_is : (said : List (List ℕ)) → AreWithin (log_in said)
unfolding log_in
log_is [] = tell_is Log (options_alone [] [])
log_is (word ∷ said) =
    if_both (bytes_eq word (codes "-R")) _ _ (renew_is (no_more said)) (tell_is Log (options_alone [] (word ∷ said)))

report_is : (said : List (List ℕ)) → AreWithin (report_in said)
unfolding report_in
report_is [] = tt
report_is (kind ∷ []) = kind_is (kind_named kind)
report_is (dashes ∷ kind ∷ []) = if_both (is_dashes dashes) _ _ (kind_is (kind_named kind)) tt
report_is (_ ∷ _ ∷ _ ∷ _) = tt

refused_or : (said : List (List ℕ)) (why : Option Refusal) → AreWithin (unless_refused said why)
refused_or said None = tt
refused_or said (Some why) = tt

behind_is : (word : List ℕ) (said : List (List ℕ)) → AreWithin (words_behind word said)
behind_is word said =
    if_both (bytes_eq word (codes "admin")) _ _ (admin_is (options_alone admin_options said))
    (if_both (bytes_eq word (codes "create")) _ _ (create_words said)
    (if_both (bytes_eq word (codes "dump")) _ _ (tell_is Dump (options_alone [] said))
    (if_both (bytes_eq word (codes "load")) _ _ (load_is (options_alone [] said))
    (if_both (bytes_eq word (codes "kproplog")) _ _ (log_is said)
    (if_both (bytes_eq word (codes "report")) _ _ (report_is said)
    (if_both (bytes_eq word (codes "ktadd")) _ _ (keytab_is (ktadd_in said))
    (if_both (bytes_eq word (codes "ktremove")) _ _ (keytab_is (ktremove_in said))
    (if_both (bytes_eq word (codes "generate")) _ _ (generate_is (script_in said))
    (if_both (bytes_eq word (codes "destroy")) _ _ (destroy_is (options_alone destroy_options said)) tt)))))))))

pub are_within : (said : List (List ℕ)) → AreWithin (words_in said)
unfolding words_in
are_within [] = tt
are_within (word ∷ said) =
    if_both (is_line_word word) _ _ (refused_or (word ∷ said) (line_refusal (words_answer [] (word ∷ said))))
    (behind_is word said)
