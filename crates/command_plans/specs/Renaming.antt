-- The record that a rename gives another name.
use Rattle.std.specs.Prelude.{ℕ, ◌≡◌, Bool, true, false, ◌&&◌, List, [], ◌∷◌, Option, Some, None, is_some, option_map}
use Rattle.std.specs.List.{list_any}
use Rattle.kadm_commands.specs.declared.commands.RenPrinc.{RenPrinc}
use Rattle.command_plans.specs.Causes.{denial_of, is_locked_record}
use Rattle.command_plans.specs.declared.given.Given.{Given}
use Rattle.kdb_base.specs.declared.outcomes.Refusal.{Refusal}
use Rattle.kdb_base.specs.declared.outcomes.Refusal.TheVariants.{Duplicate, LockedDown, Protected}
use Rattle.kdb_model.specs.Access.{Asking, adding, asking, deleting}
use Rattle.kdb_model.specs.Refusals.{is_protected, when}
use Rattle.princ_name.specs.Names.{NameParts, printed}
use Rattle.princ_record.specs.declared.princs.Princ.{Princ}
use Rattle.princ_rows.specs.Rows.{AreRows}
use Rattle.row_keys.specs.Lookups.{record_named}

-- a deletion, and an addition without restrictions
abbrev pub both_asked : NameParts → NameParts → List Asking
both_asked old new = asking deleting old ∷ record { letter = adding; target = Some new; plainly = true } ∷ []

-- the client may delete the one and add the other, neither has the database's own keys, the new name is free, and the
-- keys are not locked down
pub record IsRenamed (g : Given) (c : RenPrinc) (p : Princ) : Type 0 where
  pub allowed : denial_of (option_map (λ acl. acl.now) g.acl) g.client.now (both_asked c.name c.new_name) ≡ None
  pub unprotected : list_any (is_protected g.realm.now) (c.name ∷ c.new_name ∷ []) ≡ false
  pub free : record_named (printed c.new_name) g.rows.now.princs ≡ None
  pub there : record_named (printed c.name) g.rows.now.princs ≡ Some p
  pub unlocked : (is_some (option_map (λ acl. acl.now) g.acl) && is_locked_record (Some p)) ≡ false
  pub rows : AreRows g.rows.now
