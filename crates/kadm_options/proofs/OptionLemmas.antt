-- What is read word by word is what the words spell.
use Rattle.std.proofs.Common.{◌≡◌, ℕ, Bool, true, false, Option, Some, None}
use Rattle.std.proofs.Common.{List, [], ◌∷◌, ◌++◌, refl, sym, ap, subst, ◌∙◌}
use Rattle.kadm_options.specs.Options.{OptionParts, SpellsParts, EndsOptions, SpellsOptions, ends_options}
use Rattle.kadm_options.specs.Options.{opening_of, value_words, no_options, joined, by_opening, options_from}
use Rattle.kadm_options.specs.declared.options.Given.{Given}
use Rattle.kadm_options.specs.declared.options.Given.TheVariants as given
use Rattle.kadm_options.specs.declared.options.Opening.{Opening}
use Rattle.kadm_options.specs.declared.options.Opening.TheVariants as opening
use Rattle.kadm_options.specs.declared.options.Setting.{Setting}
use Rattle.kadm_options.proofs.OptionStepLemmas.{at_end, at_option, at_value}

-- ---- what is spelled is read

plain_read : (named : List ℕ → Option Opening) (rest : List (List ℕ)) → EndsOptions rest
    → options_from named None rest ≡ Some (no_options rest)
unfolding EndsOptions options_from
plain_read named [] plain = refl
plain_read named (word ∷ words) plain = at_end named word words plain

option_read : (named : List ℕ → Option Opening) (option : Given) (word : List ℕ) (behind : List (List ℕ))
    (parts : OptionParts) → ends_options word ≡ false
    → named word ≡ Some (opening_of option) → options_from named None behind ≡ Some parts
    → options_from named None (word ∷ (value_words option ++ behind)) ≡ joined (option ∷ []) (Some parts)
option_read named (given.Flag change) word behind parts on says e =
    at_option named word behind _ on says ∙ ap (joined (given.Flag change ∷ [])) e
option_read named (given.Alone option) word behind parts on says e =
    at_option named word behind _ on says ∙ ap (joined (given.Alone option ∷ [])) e
option_read named (given.Value setting value) word behind parts on says e =
    at_option named word (value ∷ behind) _ on says ∙ at_value named setting value behind
    ∙ ap (joined (given.Value setting value ∷ [])) e

options_read : (named : List ℕ → Option Opening) (options : List Given) (rest words : List (List ℕ)) → EndsOptions rest
    → SpellsOptions named options rest words
    → options_from named None words ≡ Some (record { options = options; rest = rest })
unfolding SpellsOptions
options_read named [] rest words plain e = rw e (plain_read named rest plain)
options_read named (option ∷ options) rest words plain led =
    rw led.words_are
    (option_read named option led.word led.behind (record { options = options; rest = rest }) led.goes_on led.says
    (options_read named options rest led.behind plain led.others))

pub spelled_is_read : (named : List ℕ → Option Opening) (words : List (List ℕ)) (parts : OptionParts)
    → SpellsParts named parts words
    → options_from named None words ≡ Some parts
spelled_is_read named words parts s = options_read named parts.options parts.rest words s.ends s.options

-- ---- what is read is spelled

record Joined (options : List Given) (r : Option OptionParts) (parts : OptionParts) : Type 0 where
  more : OptionParts
  r_is : r ≡ Some more
  options_are : parts.options ≡ options ++ more.options
  rest_is : parts.rest ≡ more.rest

joined_some : (options : List Given) (r : Option OptionParts) (parts : OptionParts) → joined options r ≡ Some parts
    → Joined options r parts
joined_some options None parts e = cc
joined_some options (Some more) parts e =
    let is : record { options = options ++ more.options; rest = more.rest } ≡ parts = cc in
    record {
      more = more;
      r_is = refl;
      options_are = ap (λ (p : OptionParts). p.options) (sym is);
      rest_is = ap (λ (p : OptionParts). p.rest) (sym is);
    }

record Spelled (named : List ℕ → Option Opening) (words : List (List ℕ)) (options : List Given)
    (rest : List (List ℕ)) : Type 0 where
  spelled : SpellsOptions named options rest words
  ends : EndsOptions rest

abbrev Read : (List ℕ → Option Opening) → Option Setting → List (List ℕ) → OptionParts → Type 0
Read named None words parts = Spelled named words parts.options parts.rest
Read named (Some setting) words parts =
    (value : List ℕ) × (behind : List (List ℕ)) × (options : List Given) × (words ≡ value ∷ behind)
    × (parts.options ≡ given.Value setting value ∷ options)
    × Spelled named behind options parts.rest

AllRead : (List ℕ → Option Opening) → List (List ℕ) → Type 0
AllRead named words = (pending : Option Setting) (parts : OptionParts) → options_from named pending words ≡ Some parts
    → Read named pending words parts

read_end : (named : List ℕ → Option Opening) (word : List ℕ) (words : List (List ℕ)) (parts : OptionParts)
    → ends_options word ≡ true
    → options_from named None (word ∷ words) ≡ Some parts → Spelled named (word ∷ words) parts.options parts.rest
unfolding SpellsOptions EndsOptions
read_end named word words parts ends e =
    let is : no_options (word ∷ words) ≡ parts = (let all = sym (at_end named word words ends) ∙ e in cc) in
    let P : OptionParts → Type 0 = λ p. Spelled named (word ∷ words) p.options p.rest in
    subst P is (record { spelled = refl; ends = ends })

-- an option before options
led : (named : List ℕ → Option Opening) (option : Given) (word : List ℕ) (words behind : List (List ℕ))
    (options all : List Given) (rest : List (List ℕ))
    → ends_options word ≡ false → named word ≡ Some (opening_of option) → words ≡ value_words option ++ behind
    → all ≡ option ∷ options
    → Spelled named behind options rest → Spelled named (word ∷ words) all rest
unfolding SpellsOptions
led named option word words behind options all rest on says are is s =
    let P : List Given → Type 0 = λ os. Spelled named (word ∷ words) os rest in
    subst P (sym is) (record {
      spelled = record {
        word = word;
        behind = behind;
        goes_on = on;
        says = says;
        words_are = ap (λ (ws : List (List ℕ)). word ∷ ws) are;
        others = s.spelled;
      };
      ends = s.ends;
    })

led_one : (named : List ℕ → Option Opening) (option : Given) (word : List ℕ) (words : List (List ℕ))
    (parts : OptionParts) → ends_options word ≡ false
    → named word ≡ Some (opening_of option) → words ≡ value_words option ++ words → AllRead named words
    → joined (option ∷ []) (options_from named None words) ≡ Some parts
    → Spelled named (word ∷ words) parts.options parts.rest
unfolding AllRead
led_one named option word words parts on says are all e =
    let j = joined_some (option ∷ []) (options_from named None words) parts e in
    let P : List (List ℕ) → Type 0 = λ ws. Spelled named (word ∷ words) parts.options ws in
    subst P (sym j.rest_is) (led named option word words words j.more.options parts.options j.more.rest on says are
    j.options_are (all None j.more j.r_is))

read_option : (named : List ℕ → Option Opening) (word : List ℕ) (words : List (List ℕ)) (parts : OptionParts)
    (o : Option Opening) → AllRead named words
    → ends_options word ≡ false → named word ≡ o
    → by_opening o (options_from named None words) (λ setting. options_from named (Some setting) words) ≡ Some parts
    → Spelled named (word ∷ words) parts.options parts.rest
unfolding AllRead
read_option named word words parts None all on says e = cc
read_option named word words parts (Some (opening.Flag change)) all on says e =
    led_one named (given.Flag change) word words parts on says refl all e
read_option named word words parts (Some (opening.Alone option)) all on says e =
    led_one named (given.Alone option) word words parts on says refl all e
read_option named word words parts (Some (opening.Value setting)) all on says e =
    let r = all (Some setting) parts e in
    led named (given.Value setting r.0) word words r.1 r.2 parts.options parts.rest on says r.3 r.4 r.5

read_word : (named : List ℕ → Option Opening) (word : List ℕ) (words : List (List ℕ)) (parts : OptionParts)
    (ends : Bool) → AllRead named words
    → ends_options word ≡ ends → options_from named None (word ∷ words) ≡ Some parts
    → Spelled named (word ∷ words) parts.options parts.rest
read_word named word words parts true all is e = read_end named word words parts is e
read_word named word words parts false all is e =
    read_option named word words parts (named word) all is refl
    (sym (at_option named word words (named word) is refl) ∙ e)

read_value : (named : List ℕ → Option Opening) (setting : Setting) (word : List ℕ) (words : List (List ℕ))
    (parts : OptionParts) → AllRead named words
    → joined (given.Value setting word ∷ []) (options_from named None words) ≡ Some parts
    → Read named (Some setting) (word ∷ words) parts
unfolding AllRead
read_value named setting word words parts all e =
    let j = joined_some (given.Value setting word ∷ []) (options_from named None words) parts e in
    let P : List (List ℕ) → Type 0 = λ ws. Spelled named words j.more.options ws in
    (word, words, j.more.options, refl, j.options_are, subst P (sym j.rest_is) (all None j.more j.r_is))

all_read : (named : List ℕ → Option Opening) (words : List (List ℕ)) → AllRead named words
unfolding AllRead options_from SpellsOptions EndsOptions
all_read named [] None parts e =
    let is : no_options [] ≡ parts = cc in
    let P : OptionParts → Type 0 = λ p. Spelled named [] p.options p.rest in
    subst P is (record { spelled = refl; ends = tt })
all_read named [] (Some setting) parts e = cc
all_read named (word ∷ words) None parts e =
    read_word named word words parts (ends_options word) (all_read named words) refl e
all_read named (word ∷ words) (Some setting) parts e =
    read_value named setting word words parts (all_read named words) e

pub read_is_spelled : (named : List ℕ → Option Opening) (words : List (List ℕ)) (parts : OptionParts)
    → options_from named None words ≡ Some parts
    → SpellsParts named parts words
unfolding AllRead
read_is_spelled named words parts e = let s =
    all_read named words None parts e in record { options = s.spelled; ends = s.ends }
