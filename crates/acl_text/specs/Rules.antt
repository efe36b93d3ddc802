-- The rules of a text (kadm5.acl of the MIT Kerberos administration guide).
use Rattle.std.specs.Prelude.{ℕ, Bool, List, [], ◌∷◌, find, Option, Some, None, is_none}
use Rattle.std.specs.Prelude.{option_and_then, Result, Ok, Err, if◌then◌else◌}
use Rattle.std.specs.List.{filter_map}
use Rattle.princ_name.specs.PatternReadings.{pattern_in}
use Rattle.princ_name.specs.Shape.{PatternShape}
use Rattle.acl_text.specs.Letters.{are_letters}
use Rattle.acl_text.specs.Patterns.{target_in}
use Rattle.acl_text.specs.Restrictions.{limits_in}
use Rattle.acl_text.specs.Texts.{lines_of, said_lines, words_of}
use Rattle.acl_text.specs.declared.rules.AclLine.{AclLine}
use Rattle.acl_text.specs.declared.texts.Line.{Line}

infixl 10 ◌>>=◌
abbrev pub ◌>>=◌ : {A B : Type 0} → Option A → (A → Option B) → Option B
found >>= f = option_and_then f found

abbrev pub only_letters : List ℕ → Option (List ℕ)
only_letters word = if are_letters word then Some word else None

-- a target and restrictions, or neither
abbrev pub rule_behind : ℕ → List ℕ → PatternShape → List ℕ → List (List ℕ) → Option AclLine
rule_behind number realm client letters [] =
    Some (record { number = number; client = client; letters = letters; target = None; limits = None })
rule_behind number realm client letters (word ∷ words) = do
  target ← target_in word realm client
  limits ← limits_in words
  Some (record { number = number; client = client; letters = letters; target = Some target; limits = limits })

-- the rule of the words of a line: a client pattern, letters, and then a target pattern and restrictions
unfoldable pub rule_of : List ℕ → ℕ → List (List ℕ) → Option AclLine
rule_of realm number [] = None
rule_of realm number (client ∷ []) = None
rule_of realm number (client ∷ letters ∷ words) = do
  pattern ← pattern_in client realm
  known ← only_letters letters
  rule_behind number realm pattern known words

unfoldable pub rule_in : List ℕ → Line → Option AclLine
rule_in realm line = rule_of realm line.number (words_of line.text)

abbrev pub is_bad : List ℕ → Line → Bool
is_bad realm line = is_none (rule_in realm line)

abbrev pub unless_bad : Option Line → List AclLine → Result (List AclLine) ℕ
unless_bad None rules = Ok rules
unless_bad (Some line) rules = Err line.number

-- the rules of lines, or the number of the first line that has none
unfoldable pub rules_of : List ℕ → List Line → Result (List AclLine) ℕ
rules_of realm lines = unless_bad (find (is_bad realm) lines) (filter_map (rule_in realm) lines)

-- the rules of a text in a database of this realm, or the number of its first bad line; lines that are empty and
-- comments say nothing
unfoldable pub rules_in : List ℕ → List ℕ → Result (List AclLine) ℕ
rules_in realm text = rules_of realm (said_lines (lines_of text))
