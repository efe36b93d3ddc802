-- How lines come to rules, one by one.
use Rattle.std.specs.Prelude.{ℕ, ◌≡◌, ◌^◌, ◌<◌, ◌++◌, true, List, [], ◌∷◌, find, None}
use Rattle.std.specs.List.{filter_map}
use Rattle.acl_text.specs.Rules.{is_bad, rule_in}
use Rattle.acl_text.specs.Texts.{is_said, said_lines}
use Rattle.acl_text.specs.declared.rules.AclLine.{AclLine}
use Rattle.acl_text.specs.declared.texts.Line.{Line}

-- the number of a line that says something fits
abbrev pub IsNumbered : Line → Type 0
IsNumbered line = is_said line ≡ true → line.number < 2 ^ 32

-- the line is skipped or has a rule, which is added
pub record TakesLine (realm : List ℕ) (line : Line) (old new : List AclLine) : Type 0 where
  pub good : find (is_bad realm) (said_lines (line ∷ [])) ≡ None
  pub added : new ≡ old ++ filter_map (rule_in realm) (said_lines (line ∷ []))

-- the line says something and is no rule
pub record IsBadLine (realm : List ℕ) (line : Line) (number : ℕ) : Type 0 where
  pub said : is_said line ≡ true
  pub bad : is_bad realm line ≡ true
  pub number_is : number ≡ line.number
