-- Who may take updates and dumps (the letter p of kadm5.acl).
use Rattle.std.specs.Prelude.{ℕ, Bool, false, not, List, Option, Some, None}
use Rattle.acl_text.specs.Decisions.{decision}
use Rattle.acl_text.specs.declared.rules.AclLine.{AclLine}
use Rattle.princ_name.specs.Names.{NameParts}

abbrev pub pull_letter : ℕ
pull_letter = 112

-- The access list, where there is one, does not allow it to the client.
abbrev pub denies_pull : Option (List AclLine) → NameParts → Bool
denies_pull None client = false
denies_pull (Some lines) client = not (decision lines client pull_letter None).allowed
