-- What restrictions force is a principal's to have, and what their flags do to it is what flags of a command do.
use Rattle.std.proofs.Common.{◌≡◌, ◌^◌, ◌<◌, Bool, true, false, ◌&&◌, ◌||◌, not, List, [], ◌∷◌, ℕ, length}
use Rattle.std.proofs.Common.{Option, Some, None, option_map, fold, find, refl, sym, ap, subst, ◌∙◌, arith}
use Rattle.std.specs.Prelude.{IfSome, bit_and, bit_or, cond, if◌then◌else◌, is_none, nat_eq, ◌==◌}
use Rattle.std.specs.Int.{bit_not}
use Rattle.std.specs.Int.Width.{w32}
use Rattle.std.specs.List.{filter_map, list_all}
use Rattle.std.specs.Str.{bytes_eq}
use Rattle.std.proofs.lemmas.Bool.{and_from, and_parts}
use Rattle.std.proofs.lemmas.Nat.{and_le_l, or_of_32}
use Rattle.princ_record.proofs.Attributes.{attributes_short, either_known, part_known}
use Rattle.acl_text.proofs.BitLemmas.{flags_apart, flags_by_bits}
use Rattle.acl_text.specs.Limits.{IsLimits}
use Rattle.acl_text.specs.Restricting.{restricted}
use Rattle.acl_text.specs.Restrictions.{are_restrictions, limits_among, limits_by}
use Rattle.acl_text.specs.Restrictions.{limits_from, limits_in, limits_of, restrictions}
use Rattle.acl_text.specs.declared.limits.Limits.{Limits}
use Rattle.acl_text.specs.declared.limits.Wanted.{Wanted}
use Rattle.kadm_options.proofs.OptionLemmas.{read_is_spelled}
use Rattle.kadm_options.proofs.OptionValueLemmas.{found_readable}
use Rattle.kadm_options.specs.OptionValues.{AreReadable, HasValue, first_bad_in}
use Rattle.kadm_options.specs.OptionValues.{flag_of, is_named, policy_by, policy_given}
use Rattle.kadm_options.specs.Options.{OptionParts, SpellsOptions, are_single, opening_among, opening_of}
use Rattle.kadm_options.specs.Options.{opening_word, option_named, option_word, options_in, or_flag}
use Rattle.kadm_options.specs.declared.options.Given.{Given}
use Rattle.kadm_options.specs.declared.options.Given.TheVariants as given
use Rattle.kadm_options.specs.declared.options.Opening.{Opening}
use Rattle.kadm_options.specs.declared.options.Opening.TheVariants as opening
use Rattle.kadm_options.specs.declared.options.OptionName.TheVariants.{Policy, ClearPolicy}
use Rattle.kadm_options.specs.declared.options.ValueKind.{ValueKind}
use Rattle.kadm_options.specs.declared.options.ValueKind.TheVariants as kind
use Rattle.kadm_values.specs.Flags.{FlagRow, flag_change, flag_named, flag_rows, signed_bit, with_flag, with_flags}
use Rattle.kadm_values.specs.declared.flags.FlagChange.{FlagChange}
use Rattle.princ_record.specs.Princs.{IsPolicyOr, are_attributes}

-- ---- what a word may say

passes_here : {A : Type 0} (q : A → Bool) (here : Bool) (y x : A) (rest : Option A)
    → cond here (Some y) rest ≡ Some x → q y ≡ true → (rest ≡ Some x → q x ≡ true) → q x ≡ true
passes_here {A} q true y x rest e passes behind = let same : y ≡ x = cc in subst (λ (z : A). q z ≡ true) same passes
passes_here {A} q false y x rest e passes behind = behind e

-- what is found among items that pass a test passes it
found_passes : {A : Type 0} (p q : A → Bool) (xs : List A) (x : A) → find p xs ≡ Some x
    → list_all q xs ≡ true → q x ≡ true
found_passes p q [] x e all = absurd (cc)
found_passes p q (y ∷ ys) x e all =
    let parts = and_parts (q y) (list_all q ys) all in
    passes_here q (p y) y x (find p ys) e parts.0 (λ found. found_passes p q ys x found parts.1)

row_known : (word : List ℕ) (row : FlagRow) → flag_named word ≡ Some row → are_attributes row.bit ≡ true
unfolding flag_named flag_rows are_attributes
row_known word row e = found_passes (λ r. bytes_eq r.word word) (λ r. are_attributes r.bit) flag_rows row e refl

signed_known : (plus : Bool) (word : List ℕ) (r : Option FlagRow) (change : FlagChange)
    → flag_named word ≡ r → signed_bit plus r ≡ Some change → are_attributes change.bit ≡ true
signed_known plus word None change named e = absurd (cc)
signed_known plus word (Some row) change named e =
    let bit : row.bit ≡ change.bit = cc in
    subst (λ (n : ℕ). are_attributes n ≡ true) bit (row_known word row named)

sign_known : (plus minus : Bool) (word : List ℕ) (change : FlagChange)
    → cond plus (signed_bit true (flag_named word)) (cond minus (signed_bit false (flag_named word)) None) ≡ Some change
    → are_attributes change.bit ≡ true
sign_known true minus word change e = signed_known true word (flag_named word) change refl e
sign_known false true word change e = signed_known false word (flag_named word) change refl e
sign_known false false word change e = absurd (cc)

change_known : (word : List ℕ) (change : FlagChange) → flag_change word ≡ Some change → are_attributes change.bit ≡ true
unfolding flag_change
change_known [] change e = absurd (cc)
change_known (sign ∷ word) change e = sign_known (nat_eq sign 43) (nat_eq sign 45) word change e

is_policy_kind : ValueKind → Bool
is_policy_kind kind.PolicyName = true
is_policy_kind _ = false

-- a flag has a known bit, and a policy is a policy's name
is_fit : Opening → Bool
is_fit (opening.Flag change) = are_attributes change.bit
is_fit (opening.Alone option) = true
is_fit (opening.Value setting) = not (is_named Policy setting.option) || is_policy_kind setting.kind

all_fit : list_all is_fit restrictions ≡ true
unfolding restrictions is_fit is_policy_kind option_word
all_fit = refl

flag_fit : (word : List ℕ) (found : Option FlagChange) (o : Opening) → flag_change word ≡ found
    → option_map (λ c. opening.Flag c) found ≡ Some o → is_fit o ≡ true
unfolding is_fit
flag_fit word None o is e = absurd (cc)
flag_fit word (Some change) o is e =
    let same : opening.Flag change ≡ o = cc in
    subst (λ (x : Opening). is_fit x ≡ true) same (change_known word change is)

word_fit : (word : List ℕ) (found : Option Opening) (o : Opening) → opening_among restrictions word ≡ found
    → or_flag found true word ≡ Some o → is_fit o ≡ true
word_fit word None o is e = flag_fit word (flag_change word) o refl e
word_fit word (Some known) o is e =
    found_passes (λ x. bytes_eq (opening_word x) word) is_fit restrictions o (is ∙ e) all_fit

named_fit : (word : List ℕ) (o : Opening) → option_named restrictions true word ≡ Some o → is_fit o ≡ true
unfolding option_named
named_fit word o e = word_fit word (opening_among restrictions word) o refl e

abbrev given_fit : Given → Bool
given_fit option = is_fit (opening_of option)

abbrev AreFit : List Given → Type 0
AreFit options = list_all given_fit options ≡ true

fit_parts : (option : Given) (options : List Given) → AreFit (option ∷ options)
    → (given_fit option ≡ true) × AreFit options
fit_parts option options fit = and_parts (given_fit option) (list_all given_fit options) fit

options_fit : (options : List Given) (rest words : List (List ℕ))
    → SpellsOptions (option_named restrictions true) options rest words
    → AreFit options
unfolding SpellsOptions
options_fit [] rest words s = refl
options_fit (option ∷ options) rest words led =
    and_from _ _ (named_fit led.word (opening_of option) led.says) (options_fit options rest led.behind led.others)

-- ---- flags

-- what holds of some attributes and stays with each known flag holds behind all flags
flags_keep : (P : ℕ → Type 0)
    → ((n : ℕ) (change : FlagChange) → are_attributes change.bit ≡ true → P n → P (with_flag n change))
    → (options : List Given) (n : ℕ) → AreFit options → P n → P (fold with_flag n (filter_map flag_of options))
unfolding is_fit
flags_keep P each [] n fit old = old
flags_keep P each (given.Flag change ∷ options) n fit old =
    let both = fit_parts (given.Flag change) options fit in
    flags_keep P each options (with_flag n change) both.1 (each n change both.0 old)
flags_keep P each (given.Alone option ∷ options) n fit old =
    flags_keep P each options n (fit_parts (given.Alone option) options fit).1 old
flags_keep P each (given.Value setting word ∷ options) n fit old =
    flags_keep P each options n (fit_parts (given.Value setting word) options fit).1 old

set_known : (set : Bool) (n bit : ℕ) → are_attributes bit ≡ true → are_attributes n ≡ true
    → are_attributes (if set then bit_or n bit else bit_and n (bit_not w32 bit)) ≡ true
set_known true n bit known old = either_known n bit old known
set_known false n bit known old = part_known n (bit_not w32 bit) old

none_known : are_attributes 0 ≡ true
unfolding are_attributes
none_known = refl

flags_known : (options : List Given) → AreFit options
    → are_attributes (with_flags 0 (filter_map flag_of options)) ≡ true
unfolding with_flags
flags_known options fit =
    flags_keep (λ n. are_attributes n ≡ true) (λ n change known old. set_known change.set n change.bit known old)
    options 0 fit none_known

set_short : (set : Bool) (n bit : ℕ) → bit < 2 ^ 32 → n < 2 ^ 32
    → (if set then bit_or n bit else bit_and n (bit_not w32 bit)) < 2 ^ 32
set_short true n bit short old = or_of_32 n bit old short
set_short false n bit short old = let less = and_le_l n (bit_not w32 bit) in omega arith

flags_short : (options : List Given) → AreFit options → with_flags 4294967295 (filter_map flag_of options) < 2 ^ 32
unfolding with_flags
flags_short options fit =
    flags_keep (λ n. n < 2 ^ 32) (λ n change known old.
    set_short change.set n change.bit (attributes_short change.bit known) old) options 4294967295 fit
    (omega arith)

-- ---- policies

first_policy : (here : Bool) (policy : Option (List ℕ)) (option : Given) (options : List Given)
    → policy_by option ≡ (if here then Some policy else None) → (here ≡ true → IsPolicyOr policy)
    → IfSome (policy_given options) IsPolicyOr
    → IfSome (policy_given (option ∷ options)) IsPolicyOr
unfolding policy_given
first_policy true policy option options e fits behind = rw e (fits refl)
first_policy false policy option options e fits behind = rw e behind

word_fits : (here : Bool) (k : ValueKind) (word : List ℕ) → (not here || is_policy_kind k) ≡ true
    → HasValue k word → here ≡ true
    → IsPolicyOr (Some word)
unfolding HasValue is_policy_kind
word_fits true kind.PolicyName word fit value is = value
word_fits true kind.Time word fit value is = absurd (cc)
word_fits true kind.Duration word fit value is = absurd (cc)
word_fits true kind.Word word fit value is = absurd (cc)
word_fits true kind.EtypeList word fit value is = absurd (cc)
word_fits true kind.OneEtype word fit value is = absurd (cc)
word_fits true (kind.Number least most) word fit value is = absurd (cc)
word_fits false k word fit value is = absurd (cc)

policy_fits : (options : List Given) → AreFit options → AreReadable options → IfSome (policy_given options) IsPolicyOr
unfolding is_fit policy_given AreReadable
policy_fits [] fit readable = tt
policy_fits (given.Flag change ∷ options) fit readable =
    policy_fits options (fit_parts (given.Flag change) options fit).1 readable.1
policy_fits (given.Alone option ∷ options) fit readable =
    first_policy (is_named ClearPolicy option) None (given.Alone option) options refl (λ is. tt)
    (policy_fits options (fit_parts (given.Alone option) options fit).1 readable.1)
policy_fits (given.Value setting word ∷ options) fit readable =
    let both = fit_parts (given.Value setting word) options fit in
    first_policy (is_named Policy setting.option) (Some word) (given.Value setting word) options refl
    (word_fits (is_named Policy setting.option) setting.kind word both.0 readable.0)
    (policy_fits options both.1 readable.1)

-- ---- restrictions

none_bad : {A : Type 0} (o : Option A) → is_none o ≡ true → o ≡ None
none_bad None e = refl
none_bad (Some x) e = absurd (cc)

options_limit : (options : List Given) → AreFit options → are_restrictions options ≡ true → IsLimits (limits_of options)
unfolding limits_of are_restrictions
options_limit options fit are =
    let both = and_parts (are_single options) (is_none (first_bad_in options)) are in
    record {
      set = flags_known options fit;
      policy = policy_fits options fit (found_readable options (none_bad (first_bad_in options) both.1));
    }

-- what words restrict, by their options
record Restricts (words : List (List ℕ)) (parts : OptionParts) (limits : Limits) : Type 0 where
  found : options_in (option_named restrictions true) words ≡ Some parts
  are : are_restrictions parts.options ≡ true
  limits_are : limits_of parts.options ≡ limits

restricts : (words : List (List ℕ)) (parts : OptionParts) (limits : Limits) (whole good : Bool)
    → options_in (option_named restrictions true) words ≡ Some parts → are_restrictions parts.options ≡ good
    → (if whole && good then Some (limits_of parts.options) else None) ≡ Some limits → Restricts words parts limits
restricts words parts limits true true found are is = record { found = found; are = are; limits_are = cc }
restricts words parts limits true false found are is = absurd (cc)
restricts words parts limits false good found are is = absurd (cc)

from_parts : (words : List (List ℕ)) (parts : OptionParts) (limits : Limits)
    → options_in (option_named restrictions true) words ≡ Some parts
    → limits_from (Some parts) ≡ Some limits → Restricts words parts limits
unfolding limits_by
from_parts words parts limits found is =
    restricts words parts limits (length parts.rest == 0) (are_restrictions parts.options) found refl is

of_parts : (words : List (List ℕ)) (parts : OptionParts) (limits : Limits)
    → options_in (option_named restrictions true) words ≡ Some parts
    → limits_among words ≡ Some limits → Restricts words parts limits
unfolding limits_among
of_parts words parts limits found is = from_parts words parts limits found (sym (ap limits_from found) ∙ is)

found_parts : (words : List (List ℕ)) (limits : Limits) (found : Option OptionParts)
    → options_in (option_named restrictions true) words ≡ found
    → limits_from found ≡ Some limits → (parts : OptionParts) × Restricts words parts limits
found_parts words limits None found is = absurd (cc)
found_parts words limits (Some parts) found is = (parts, from_parts words parts limits found is)

some_parts : (words : List (List ℕ)) (limits : Limits) → limits_among words ≡ Some limits
    → (parts : OptionParts) × Restricts words parts limits
unfolding limits_among
some_parts words limits is = found_parts words limits (options_in (option_named restrictions true) words) refl is

parts_fit : (words : List (List ℕ)) (parts : OptionParts) (limits : Limits) → Restricts words parts limits
    → AreFit parts.options
parts_fit words parts limits r = options_fit parts.options parts.rest words
    (read_is_spelled (option_named restrictions true) words parts r.found).options

words_limit : (words : List (List ℕ)) (limits : Limits) → limits_among words ≡ Some limits → IsLimits limits
words_limit words limits is =
    let some = some_parts words limits is in
    subst IsLimits some.1.limits_are (options_limit some.0.options (parts_fit words some.0 limits some.1) some.1.are)

found_limits : (words : List (List ℕ)) (found : Option Limits) (limits : Option Limits) → limits_among words ≡ found
    → option_map (λ l. Some l) found ≡ Some limits → IfSome limits IsLimits
found_limits words None limits is e = absurd (cc)
found_limits words (Some l) limits is e =
    let same : Some l ≡ limits = cc in
    subst (λ (o : Option Limits). IfSome o IsLimits) same (words_limit words l is)

-- what words restrict
pub limits_fit : (words : List (List ℕ)) (limits : Option Limits) → limits_in words ≡ Some limits
    → IfSome limits IsLimits
unfolding limits_in
limits_fit [] limits is = let same : None ≡ limits = cc in subst (λ (o : Option Limits). IfSome o IsLimits) same tt
limits_fit (word ∷ words) limits is = found_limits (word ∷ words) (limits_among (word ∷ words)) limits refl is

-- ---- flags in force

in_words : (words : List (List ℕ)) (found : Option Limits) (limits : Limits) → limits_among words ≡ found
    → option_map (λ l. Some l) found ≡ Some (Some limits)
    → limits_among words ≡ Some limits
in_words words None limits is e = absurd (cc)
in_words words (Some other) limits is e = let same : Some other ≡ Some limits = cc in is ∙ same

are_among : (words : List (List ℕ)) (limits : Limits) → limits_in words ≡ Some (Some limits)
    → limits_among words ≡ Some limits
unfolding limits_in
are_among [] limits is = absurd (cc)
are_among (word ∷ words) limits is = in_words (word ∷ words) (limits_among (word ∷ words)) limits refl is

bits_apart : (options : List Given) → bit_and (limits_of options).set (limits_of options).clear ≡ 0
unfolding limits_of
bits_apart options = flags_apart (filter_map flag_of options)

-- no bit is forced both on and off
pub all_apart : (words : List (List ℕ)) (limits : Limits) → limits_in words ≡ Some (Some limits)
    → bit_and limits.set limits.clear ≡ 0
all_apart words limits is =
    let some = some_parts words limits (are_among words limits is) in
    ap (λ (l : Limits). bit_and l.set l.clear) (sym some.1.limits_are) ∙ bits_apart some.0.options

not_twice : (n : ℕ) → n < 2 ^ 32 → bit_not w32 (bit_not w32 n) ≡ n
not_twice n short = omega arith

in_force : (options : List Given) (secs : ℕ) (wanted : Wanted) → AreFit options → wanted.attributes < 2 ^ 32
    → (restricted (limits_of options) secs wanted).attributes
    ≡ with_flags wanted.attributes (filter_map flag_of options)
unfolding limits_of restricted
in_force options secs wanted fit short =
    let changes = filter_map flag_of options in
    ap (λ (n : ℕ). bit_and (bit_or wanted.attributes (with_flags 0 changes)) n)
    (not_twice (with_flags 4294967295 changes) (flags_short options fit))
    ∙ flags_by_bits wanted.attributes changes short

-- the flags of restrictions are put in force as those of a command
pub flags_in_force : (words : List (List ℕ)) (parts : OptionParts) (limits : Limits) (secs : ℕ) (wanted : Wanted)
    → options_in (option_named restrictions true) words ≡ Some parts → limits_in words ≡ Some (Some limits)
    → wanted.attributes < 2 ^ 32
    → (restricted limits secs wanted).attributes ≡ with_flags wanted.attributes (filter_map flag_of parts.options)
flags_in_force words parts limits secs wanted found is short =
    let r = of_parts words parts limits found (are_among words limits is) in
    ap (λ (l : Limits). (restricted l secs wanted).attributes) (sym r.limits_are)
    ∙ in_force parts.options secs wanted (parts_fit words parts limits r) short
