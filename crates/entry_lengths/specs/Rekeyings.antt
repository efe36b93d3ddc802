-- The change of a state that a rekeying of one principal makes, and what is asked of a rekeying and of work that comes
-- back.
use Rattle.std.specs.Prelude.{ℕ, ◌≡◌, true, false, List, length, Option, Some, option_and_then, option_map}
use Rattle.kdb_base.specs.Moment.{Moment}
use Rattle.kdb_histories.specs.Asks.{at_clock}
use Rattle.kdb_model.specs.Rekeying.{Work, active_at, may_settle, under_version}
use Rattle.kdb_plain.specs.States.{princ_named}
use Rattle.kdb_plain.specs.declared.changes.PlainOp.{PlainOp}
use Rattle.kdb_plain.specs.declared.changes.PlainOp.TheVariants.{PutPrinc}
use Rattle.kdb_plain.specs.declared.princs.PlainPrinc.{PlainPrinc}
use Rattle.kdb_plain.specs.declared.states.State.{State}
use Rattle.princ_name.specs.Names.{NameParts, printed}
use Rattle.princ_name.specs.Printed.{is_master}
use Rattle.princ_record.specs.declared.princs.Princ.{Princ}
use Rattle.princ_rows.specs.Rows.{RowLists}
use Rattle.row_keys.specs.Lookups.{record_named}

-- the principal of this name under the version that is active at the moment of the rekeying, where both are there
unfoldable pub rekeyed_in : State → NameParts → Moment → Option PlainOp
rekeyed_in s name clock =
    option_and_then (λ (version : ℕ). option_map (λ (q : PlainPrinc). PutPrinc (under_version version q)) (princ_named (printed name) s.princs))
    (active_at s (at_clock clock false))

-- the name of another principal than K/M, and the random bytes of a rekeying
pub record MayRekey (name : NameParts) (random : List ℕ) : Type 0 where
  pub other : is_master (printed name) ≡ false
  pub block : length random ≡ 512

-- nothing of what was taken has changed
pub record MaySettle (rows : RowLists) (s : State) (name : NameParts) (clock : Moment) (work : Work) : Type 0 where
  pub stored : Princ
  pub there : record_named (printed name) rows.princs ≡ Some stored
  pub unchanged : may_settle s.masters (active_at s (at_clock clock false)) stored work.taken ≡ true
