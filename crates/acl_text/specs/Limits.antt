-- Restrictions that a line can have.
use Rattle.std.specs.Prelude.{IfSome, IsTrue}
use Rattle.acl_text.specs.declared.limits.Limits.{Limits}
use Rattle.acl_text.specs.declared.rules.AclLine.{AclLine}
use Rattle.princ_record.specs.Princs.{IsPolicyOr, are_attributes}

-- only attributes that have a flag are forced on, and a policy by a name that a policy may have
pub record IsLimits (l : Limits) : Type 0 where
  pub set : IsTrue (are_attributes l.set)
  pub policy : IfSome l.policy IsPolicyOr

-- a rule without restrictions, or with such ones
abbrev pub HasLimits : AclLine → Type 0
HasLimits line = IfSome line.limits IsLimits
