-- Restrictions as options in front of words, behind which no words are left.
use Rattle.std.proofs.Common.{◌≡◌, ℕ, ◌-◌, true, Option, Some, None, option_map}
use Rattle.std.proofs.Common.{Result, IfOk, List, length, sym, ap, subst, ◌∙◌}
use Rattle.std.proofs.lemmas.List.{length-drop}
use Rattle.kadm_options.specs.OptionSteps.{parts_of}
use Rattle.kadm_options.specs.Options.{options_from, option_named}
use Rattle.kadm_options.specs.declared.arguments.LeadingOptions.{LeadingOptions}
use Rattle.kadm_options.specs.declared.options.Given.{Given}
use Rattle.kadm_options.specs.declared.options.Opening.{Opening}
use Rattle.acl_text.specs.Restrictions.{limits_among, limits_by, limits_from, restrictions}
use Rattle.acl_text.specs.declared.limits.Limits.{Limits}

limits_are : (known : List Opening) (words : List (List ℕ)) (read r : Option LeadingOptions) → known ≡ restrictions
    → option_map (parts_of words) read ≡ options_from (option_named known true) None words → read ≡ r
    → limits_from (option_map (parts_of words) r) ≡ limits_among words
unfolding limits_among
limits_are known words read r is parts read_is =
    ap limits_from (sym (ap (option_map (parts_of words)) read_is) ∙ parts
    ∙ ap (λ (k : List Opening). options_from (option_named k true) None words) is)

pub limits_found : {E : Type 0} (known : List Opening) (words : List (List ℕ)) (read : Option LeadingOptions)
    (found : LeadingOptions) (options : List Given)
    (r : Result (Option Limits) E) → known ≡ restrictions
    → option_map (parts_of words) read ≡ options_from (option_named known true) None words → read ≡ Some found
    → options ≡ found.options.items → IfOk r (λ limits. limits ≡ limits_by options (length words - found.count))
    → IfOk r (λ limits. limits ≡ limits_among words)
limits_found {E} known words read found options r is parts read_is options_are h =
    let same : limits_by options (length words - found.count) ≡ limits_among words =
    ap (λ (os : List Given). limits_by os (length words - found.count)) options_are
    ∙ ap (λ (n : ℕ). limits_by found.options.items n) (sym (length-drop found.count words))
    ∙ limits_are known words read (Some found) is parts read_is in
    subst (λ (l : Option Limits). IfOk r (λ limits. limits ≡ l)) same h

pub none_found : (known : List Opening) (words : List (List ℕ)) (read : Option LeadingOptions) → known ≡ restrictions
    → option_map (parts_of words) read ≡ options_from (option_named known true) None words → read ≡ None
    → None ≡ limits_among words
none_found known words read is parts read_is = limits_are known words read None is parts read_is
