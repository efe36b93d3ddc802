-- Who may do what.
use Rattle.std.specs.Prelude.{ℕ, Bool, true, false, ◌&&◌, List, find, Option, Some, None}
use Rattle.princ_name.specs.Names.{NameParts}
use Rattle.princ_name.specs.Shape.{PatternShape, Every, Parts}
use Rattle.acl_text.specs.Letters.{grants}
use Rattle.acl_text.specs.Patterns.{meant_target, pattern_matches}
use Rattle.acl_text.specs.declared.limits.Limits.{Limits}
use Rattle.acl_text.specs.declared.rules.AclLine.{AclLine}

pub record Decision : Type 0 where
  pub line : ℕ
  pub allowed : Bool
  pub limits : Option Limits

abbrev pub is_every : PatternShape → Bool
is_every Every = true
is_every (Parts parts realm) = false

-- a line without a target is of every target, and an operation without a target is of lines with none but `*`
abbrev pub target_fits : Option PatternShape → PatternShape → NameParts → Option NameParts → Bool
target_fits None client name target = true
target_fits (Some pattern) client name None = is_every pattern
target_fits (Some pattern) client name (Some target) = pattern_matches (meant_target client name pattern) target

-- whether a line is about the client and the target
unfoldable pub applies : NameParts → Option NameParts → AclLine → Bool
applies client target line = pattern_matches line.client client && target_fits line.target line.client client target

abbrev pub decided_by : ℕ → Option AclLine → Decision
decided_by letter None = record { line = 0; allowed = false; limits = None }
decided_by letter (Some line) =
    record { line = line.number; allowed = grants line.letters letter; limits = line.limits }

-- the first line that is about them decides, and where there is none nothing is allowed
unfoldable pub decision : List AclLine → NameParts → ℕ → Option NameParts → Decision
decision lines client letter target = decided_by letter (find (applies client target) lines)
