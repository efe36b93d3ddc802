-- What is found in the table of commands.
use Rattle.std.proofs.Common.{◌≡◌, ℕ, List, map, Option, Some, None, option_map, find, ap, ◌∙◌, refl}
use Rattle.std.specs.Str.{bytes_eq}
use Rattle.kadm_wire.specs.Verbs.{VerbRow, verb_row, verb_rows, verb_named}
use Rattle.kadm_wire.specs.declared.verbs.Verb.{Verb}
use Rattle.kadm_wire.specs.declared.verbs.VerbWord.{VerbWord}
use Rattle.kadm_values.proofs.FlagLemmas.{find-map}

verb_of : (r : Option VerbWord)
    → option_map (λ row. row.verb) r ≡ option_map (λ (row : VerbRow). row.verb) (option_map verb_row r)
verb_of None = refl
verb_of (Some row) = refl

pub verb_found : (r : Option VerbWord) (table : List VerbWord) (word : List ℕ) → map verb_row table ≡ verb_rows
    → r ≡ find (λ row. bytes_eq row.word.now word) table → option_map (λ row. row.verb) r ≡ verb_named word
unfolding verb_named
verb_found r table word is found =
    verb_of r ∙ ap (λ (o : Option VerbRow). option_map (λ row. row.verb) o)
    (ap (option_map verb_row) found ∙ find-map verb_row (λ (row : VerbRow). bytes_eq row.word word) table
    ∙ ap (λ (rows : List VerbRow). find (λ row. bytes_eq row.word word) rows) is)
