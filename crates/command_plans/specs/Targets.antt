-- The record that a command changes, and a record that is put.
use Rattle.std.specs.Prelude.{ℕ, ◌≡◌, ◌≤◌, ◌<◌, ◌^◌, false, [], ◌∷◌, length, Option}
use Rattle.std.specs.Prelude.{Some, None, Result, Ok, Err, is_none, option_map}
use Rattle.std.specs.List.{list_any}
use Rattle.command_plans.specs.Causes.{denial_of}
use Rattle.command_plans.specs.declared.given.Given.{Given}
use Rattle.command_plans.specs.declared.planned.Planned.{Planned}
use Rattle.command_plans.specs.declared.planned.Planned.TheVariants.{Change}
use Rattle.kdb_base.specs.Limits.{longest_row}
use Rattle.kdb_base.specs.declared.outcomes.Refusal.{Refusal}
use Rattle.kdb_base.specs.declared.outcomes.Refusal.TheVariants.{Protected, RecordTooLarge, UnknownPrincipal}
use Rattle.kdb_model.specs.Access.{asking}
use Rattle.kdb_model.specs.Fields.{By}
use Rattle.kdb_model.specs.Refusals.{first, is_protected, when}
use Rattle.princ_rows.specs.declared.entries.Op.{Op}
use Rattle.princ_name.specs.Names.{NameParts, printed}
use Rattle.princ_name.specs.Printed.{IsPrinted}
use Rattle.princ_record.specs.Princs.{princ}
use Rattle.princ_record.specs.declared.princs.Princ.{Princ}
use Rattle.princ_rows.specs.Rows.{AreRows}
use Rattle.row_keys.specs.Lookups.{record_named}

-- who changes a record, and when
abbrev pub by_given : Given → By
by_given g = record { client = printed g.client.now; secs = g.moment.secs }

-- The record of a principal other than K/M and kadmin/history, to which the client may do what the letter says.
pub record IsTarget (g : Given) (letter : ℕ) (name : NameParts) (p : Princ) : Type 0 where
  pub allowed : denial_of (option_map (λ acl. acl.now) g.acl) g.client.now (asking letter name ∷ []) ≡ None
  pub unprotected : list_any (is_protected g.realm.now) (name ∷ []) ≡ false
  pub there : record_named (printed name) g.rows.now.princs ≡ Some p
  pub rows : AreRows g.rows.now

-- why there is none such
abbrev pub target_refusal : Given → ℕ → NameParts → Option Refusal
target_refusal g letter name = first (
    denial_of (option_map (λ acl. acl.now) g.acl) g.client.now (asking letter name ∷ [])
    ∷ when (list_any (is_protected g.realm.now) (name ∷ [])) Protected
    ∷ when (is_none (record_named (printed name) g.rows.now.princs)) UnknownPrincipal
    ∷ []
    )

-- the record is longer than a row may be, and so long
pub record IsTooLong (p : Princ) (why : Refusal) : Type 0 where
  pub long : longest_row < length (princ p)
  pub told : length (princ p) < 2 ^ 64
  pub why_is : why ≡ RecordTooLarge (length (princ p))

-- a change that puts this record, if it is short enough
abbrev pub IsPut : (Princ → Op) → Princ → Result Planned Refusal → Type 0
IsPut change p (Ok planned) = (planned ≡ Change (change p)) × (length (princ p) ≤ longest_row)
IsPut change p (Err why) = IsTooLong p why

-- a client with a printed name, and a second in range
pub record IsBy (by : By) : Type 0 where
  pub client : IsPrinted by.client
  pub secs : by.secs < 2 ^ 32
