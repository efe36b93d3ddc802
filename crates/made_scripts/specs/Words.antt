-- What the words of a script to be made say.
use Rattle.std.specs.Prelude.{ℕ, List, [], ◌∷◌, Option, Some, None, Result, Ok, Err, if◌then◌else◌}
use Rattle.kadm_options.specs.Options.{is_dashes}
use Rattle.kadm_options.specs.OptionValues.{number_within}
use Rattle.kdb_base.specs.declared.outcomes.Field.TheVariants as field
use Rattle.kdb_base.specs.declared.outcomes.Refusal.{Refusal}
use Rattle.kdb_base.specs.declared.outcomes.Refusal.TheVariants.{BadLine, BadValue}
use Rattle.made_scripts.specs.declared.words.Script.{Script}

-- any number of 32 bits
abbrev pub seed_in : List ℕ → Option ℕ
seed_in word = number_within 0 4294967295 word

abbrev pub count_in : List ℕ → Option ℕ
count_in word = number_within 1 1000 word

-- the seed is judged before the count
abbrev pub script_with : Option ℕ → Option ℕ → Result Script Refusal
script_with None count = Err (BadValue field.Seed)
script_with (Some seed) None = Err (BadValue field.Count)
script_with (Some seed) (Some count) = Ok (record { seed = seed; count = count })

abbrev pub script_by : List ℕ → List ℕ → Result Script Refusal
script_by seed count = script_with (seed_in seed) (count_in count)

-- `SEED COUNT` alone, or behind two dashes
unfoldable pub script_in : List (List ℕ) → Result Script Refusal
script_in [] = Err BadLine
script_in (_ ∷ []) = Err BadLine
script_in (seed ∷ count ∷ []) = script_by seed count
script_in (dashes ∷ seed ∷ count ∷ []) = if is_dashes dashes then script_by seed count else Err BadLine
script_in (_ ∷ _ ∷ _ ∷ _ ∷ _) = Err BadLine
