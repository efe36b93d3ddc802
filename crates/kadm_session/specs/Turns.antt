-- One turn of a session: a line was answered, or the input had ended.
use Rattle.std.specs.Prelude.{Bool, Option, Some, None}

-- what holds where a line was answered, by whether that was a refusal, and what holds at the end
abbrev pub GoesOn : Option Bool → (Bool → Type 0) → Type 0 → Type 0
GoesOn (Some refused) P Q = P refused
GoesOn None P Q = Q
