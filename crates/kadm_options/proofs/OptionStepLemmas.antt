-- What taking a word does, whatever follows, and what comes of the words in the end.
use Rattle.std.proofs.Common.{◌≡◌, ℕ, true, false, ◌≤◌, Option, Some, None, is_some, List, [], ◌∷◌}
use Rattle.std.proofs.Common.{◌++◌, length, drop, refl, sym, ap, ◌∙◌, append_assoc, append-nil}
use Rattle.std.proofs.lemmas.List.{at_drop_all, drop_all}
use Rattle.kadm_options.specs.OptionSteps.{parts_of, options_of, pending_of, parts_with, IsTaken, IsBroken, EndsBefore}
use Rattle.kadm_options.specs.Options.{OptionParts, ends_options, no_options, joined, by_opening, options_from}
use Rattle.kadm_options.specs.declared.arguments.LeadingOptions.{LeadingOptions}
use Rattle.kadm_options.specs.declared.arguments.Reader.{Reader}
use Rattle.kadm_options.specs.declared.options.Given.{Given}
use Rattle.kadm_options.specs.declared.options.Given.TheVariants as given
use Rattle.kadm_options.specs.declared.options.Opening.{Opening}
use Rattle.kadm_options.specs.declared.options.Opening.TheVariants as opening
use Rattle.kadm_options.specs.declared.options.Setting.{Setting}

pub at_end : (named : List ℕ → Option Opening) (word : List ℕ) (words : List (List ℕ)) → ends_options word ≡ true
    → options_from named None (word ∷ words) ≡ Some (no_options (word ∷ words))
unfolding options_from
at_end named word words e = rw e refl

pub at_option : (named : List ℕ → Option Opening) (word : List ℕ) (words : List (List ℕ)) (o : Option Opening)
    → ends_options word ≡ false → named word ≡ o
    → options_from named None (word ∷ words)
    ≡ by_opening o (options_from named None words) (λ setting. options_from named (Some setting) words)
unfolding options_from
at_option named word words o e f = rw (e, f) refl

pub at_value : (named : List ℕ → Option Opening) (setting : Setting) (word : List ℕ) (words : List (List ℕ))
    → options_from named (Some setting) (word ∷ words)
    ≡ joined (given.Value setting word ∷ []) (options_from named None words)
unfolding options_from
at_value named setting word words = refl

joined-push : (options more : List Given) (r : Option OptionParts)
    → joined (options ++ more) r ≡ joined options (joined more r)
joined-push options more None = refl
joined-push options more (Some parts) = ap (λ (os : List Given). Some (record { options = os; rest = parts.rest }))
    (append_assoc options more parts.options)

joined-none : (options : List Given) (rest : List (List ℕ))
    → joined options (Some (no_options rest)) ≡ Some (record { options = options; rest = rest })
joined-none options rest = ap (λ (os : List Given). Some (record { options = os; rest = rest })) (append-nil options)

-- ---- the steps

opened : (named : List ℕ → Option Opening) (o : Opening) (options : List Given) (words : List (List ℕ))
    → joined (options ++ options_of o) (options_from named (pending_of o) words)
    ≡ joined options
    (by_opening (Some o) (options_from named None words) (λ setting. options_from named (Some setting) words))
opened named (opening.Flag change) options words =
    joined-push options (given.Flag change ∷ []) (options_from named None words)
opened named (opening.Alone option) options words =
    joined-push options (given.Alone option ∷ []) (options_from named None words)
opened named (opening.Value setting) options words =
    ap (λ (os : List Given). joined os (options_from named (Some setting) words)) (append-nil options)

pub takes_opening : (named : List ℕ → Option Opening) (word : List ℕ) (o : Opening) (old new : Reader)
    → old.pending ≡ None → ends_options word ≡ false
    → named word ≡ Some o → new.options.items ≡ old.options.items ++ options_of o → new.pending ≡ pending_of o
    → IsTaken named word old new
takes_opening named word o old new was e says options pending = record {
  same = λ words.
      rw (was, options, pending) (opened named o old.options.items words
      ∙ ap (joined old.options.items) (sym (at_option named word words (Some o) e says)));
}

pub takes_value : (named : List ℕ → Option Opening) (word : List ℕ) (setting : Setting) (old new : Reader)
    → old.pending ≡ Some setting
    → new.options.items ≡ old.options.items ++ given.Value setting word ∷ [] → new.pending ≡ None
    → IsTaken named word old new
takes_value named word setting old new was options pending = record {
  same = λ words.
      rw (was, options, pending)
      (joined-push old.options.items (given.Value setting word ∷ []) (options_from named None words)
      ∙ ap (joined old.options.items) (sym (at_value named setting word words)));
}

pub breaks : (named : List ℕ → Option Opening) (word : List ℕ) (old : Reader) → old.pending ≡ None
    → ends_options word ≡ false → named word ≡ None
    → IsBroken named word old
breaks named word old was e says =
    record { none = λ words. rw was (ap (joined old.options.items) (at_option named word words None e says)) }

pub ends_before : (named : List ℕ → Option Opening) (word : List ℕ) (old : Reader) → old.pending ≡ None
    → ends_options word ≡ true → EndsBefore named word old old
ends_before named word old was e = record {
  ends = λ words.
      rw was (ap (joined old.options.items) (at_end named word words e) ∙ joined-none old.options.items (word ∷ words));
}

-- ---- the end of the words

waits : (named : List ℕ → Option Opening) (options : List Given) (pending : Option Setting) → is_some pending ≡ true
    → joined options (options_from named pending []) ≡ None
unfolding options_from
waits named options None is = cc
waits named options (Some setting) is = refl

waits_not : (named : List ℕ → Option Opening) (options : List Given) (pending : Option Setting)
    → is_some pending ≡ false
    → joined options (options_from named pending []) ≡ Some (record { options = options; rest = [] })
unfolding options_from
waits_not named options None is = joined-none options []
waits_not named options (Some setting) is = cc

all_taken : (named : List ℕ → Option Opening) (r : Reader) (words : List (List ℕ)) (i : ℕ) → length words ≤ i
    → parts_with named r (drop i words) ≡ options_from named None words
    → options_from named None words ≡ joined r.options.items (options_from named r.pending [])
all_taken named r words i all same = sym same ∙ at_drop_all (λ ws. parts_with named r ws) words i all

pub ends_waiting : (named : List ℕ → Option Opening) (r : Reader) (words : List (List ℕ)) (i : ℕ) → length words ≤ i
    → parts_with named r (drop i words) ≡ options_from named None words → is_some r.pending ≡ true
    → None ≡ options_from named None words
ends_waiting named r words i all same is =
    sym (all_taken named r words i all same ∙ waits named r.options.items r.pending is)

pub ends_whole : (named : List ℕ → Option Opening) (r : Reader) (words : List (List ℕ)) (i : ℕ) (found : LeadingOptions)
    → length words ≤ i
    → parts_with named r (drop i words) ≡ options_from named None words → is_some r.pending ≡ false
    → found.options.items ≡ r.options.items
    → length words ≤ found.count → Some (parts_of words found) ≡ options_from named None words
ends_whole named r words i found all same is options count =
    rw (options, drop_all found.count words count)
    (sym (all_taken named r words i all same ∙ waits_not named r.options.items r.pending is))
