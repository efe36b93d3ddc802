-- The record whose keys a command changes.
use Rattle.std.specs.Prelude.{◌≡◌, false, [], ◌∷◌, Option, Some, None, is_none, option_map}
use Rattle.std.specs.List.{list_any}
use Rattle.command_plans.specs.Causes.{denial_unless}
use Rattle.command_plans.specs.declared.given.Given.{Given}
use Rattle.kdb_base.specs.declared.outcomes.Refusal.{Refusal}
use Rattle.kdb_base.specs.declared.outcomes.Refusal.TheVariants.{Protected, UnknownPrincipal}
use Rattle.kdb_model.specs.Access.{asking, changing, same_name}
use Rattle.kdb_model.specs.Refusals.{first, is_protected, when}
use Rattle.princ_name.specs.Names.{NameParts, printed}
use Rattle.princ_record.specs.declared.princs.Princ.{Princ}
use Rattle.princ_rows.specs.Rows.{AreRows}
use Rattle.row_keys.specs.Lookups.{record_named}

-- the refusal of a change of keys by the access list; everybody may change the own ones
abbrev pub change_denial : Given → NameParts → Option Refusal
change_denial g name = denial_unless (same_name g.client.now name) (option_map (λ acl. acl.now) g.acl) g.client.now
    (asking changing name ∷ [])

-- the record of a principal other than K/M and kadmin/history, whose keys the client may change
pub record IsKeyTarget (g : Given) (name : NameParts) (p : Princ) : Type 0 where
  pub allowed : change_denial g name ≡ None
  pub unprotected : list_any (is_protected g.realm.now) (name ∷ []) ≡ false
  pub there : record_named (printed name) g.rows.now.princs ≡ Some p
  pub rows : AreRows g.rows.now

-- why there is none such
abbrev pub key_target_refusal : Given → NameParts → Option Refusal
key_target_refusal g name = first (
    change_denial g name
    ∷ when (list_any (is_protected g.realm.now) (name ∷ [])) Protected
    ∷ when (is_none (record_named (printed name) g.rows.now.princs)) UnknownPrincipal
    ∷ []
    )
