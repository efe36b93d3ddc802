-- The restrictions under which a command is judged.
use Rattle.std.specs.Prelude.{ℕ, List, Option, Some, option_and_then, option_map}
use Rattle.acl_text.specs.Decisions.{decision}
use Rattle.acl_text.specs.declared.limits.Limits.{Limits}
use Rattle.acl_text.specs.declared.rules.AclLine.{AclLine}
use Rattle.command_plans.specs.declared.given.Given.{Given}
use Rattle.princ_name.specs.Names.{NameParts}

-- those of the line that decides on an operation on a principal
abbrev pub limits_given : Given → ℕ → NameParts → Option Limits
limits_given g letter name =
    option_and_then (λ (lines : List AclLine). (decision lines g.client.now letter (Some name)).limits)
    (option_map (λ acl. acl.now) g.acl)
