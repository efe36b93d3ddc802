-- Causes as they are told of rows.
use Rattle.std.specs.Prelude.{Bool, false, List, Option, Some, None, if◌then◌else◌}
use Rattle.acl_text.specs.declared.rules.AclLine.{AclLine}
use Rattle.kdb_base.specs.declared.outcomes.Refusal.{Refusal}
use Rattle.kdb_model.specs.Access.{Asking, denied_in}
use Rattle.kdb_model.specs.Fields.{has_bit, lockdown_keys}
use Rattle.princ_name.specs.Names.{NameParts}
use Rattle.princ_record.specs.declared.princs.Princ.{Princ}

-- the refusal of operations, where there is an access list and it does not allow them all
abbrev pub denial_of : Option (List AclLine) → NameParts → List Asking → Option Refusal
denial_of None client asked = None
denial_of (Some lines) client asked = denied_in lines client asked

-- but of operations that everybody has
abbrev pub denial_unless : Bool → Option (List AclLine) → NameParts → List Asking → Option Refusal
denial_unless everybody None client asked = None
denial_unless everybody (Some lines) client asked = if everybody then None else denied_in lines client asked

abbrev pub is_locked_record : Option Princ → Bool
is_locked_record None = false
is_locked_record (Some p) = has_bit lockdown_keys p.attributes
