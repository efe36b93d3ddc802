-- Which change of rows is which change of a state.
use Rattle.std.specs.Prelude.{◌≡◌, ◌≢◌, ◌⊎◌, List}
use Rattle.std.specs.List.{All}
use Rattle.kdb_base.specs.Key.{Key}
use Rattle.kdb_base.specs.declared.versions.Master.{Master}
use Rattle.master_keys.specs.First.{master_name}
use Rattle.princ_rows.specs.declared.entries.Op.{Op}
use Rattle.princ_rows.specs.declared.entries.Op.TheVariants as op
use Rattle.kdb_plain.specs.Changes.{IsOrdinary}
use Rattle.kdb_plain.specs.declared.changes.PlainOp.{PlainOp}
use Rattle.kdb_plain.specs.declared.changes.PlainOp.TheVariants.{PutPrinc, DropPrinc, Rename}
use Rattle.kdb_plain.specs.declared.changes.PlainOp.TheVariants.{PutPolicy, DropPolicy, PutMasters}
use Rattle.kdb_plain.specs.States.{first_key, history_key, history_name, master_of}
use Rattle.kdb_plain.specs.declared.princs.PlainPrinc.{PlainPrinc}
use Rattle.kdb_plain.specs.declared.states.State.{State}
use Rattle.row_keys.specs.Shows.{ShowsChain, ShowsPrinc}

-- in a state with these master keys and this history key
abbrev pub ShowsOp : List Master → Key → Op → PlainOp → Type 0
ShowsOp masters history (op.PutPrinc p) (PutPrinc q) = ShowsPrinc masters history p q
ShowsOp masters history (op.DropPrinc name) (DropPrinc other) = name ≡ other
ShowsOp masters history (op.Rename old p) (Rename other q) = (old ≡ other) × ShowsPrinc masters history p q
ShowsOp masters history (op.PutPolicy p) (PutPolicy q) = p ≡ q
ShowsOp masters history (op.DropPolicy name) (DropPolicy other) = name ≡ other
ShowsOp masters history (op.PutPrinc p) (PutMasters q kept activations) =
    ShowsPrinc kept history p q × ShowsChain kept activations p
ShowsOp masters history _ _ = ⊥

-- kadmin/history is put with the key that it has
pub record MayPut (s : State) (q : PlainPrinc) : Type 0 where
  pub other_than_master : q.name ≢ master_name s.realm
  pub same_history_key : q.name ≡ history_name s.realm → first_key q.keys ≡ history_key s.realm s.princs

-- K/M is put, and the version of every other principal keeps its key
pub record MayPutMasters (s : State) (q : PlainPrinc) (kept : List Master) : Type 0 where
  pub is_master : q.name ≡ master_name s.realm
  pub same_keys : All (λ (o : PlainPrinc). (o.name ≡ master_name s.realm)
      ⊎ (master_of kept o.mkvno ≡ master_of s.masters o.mkvno)) s.princs

-- the change leaves the database's own keys
abbrev pub SparesKeys : State → PlainOp → Type 0
SparesKeys s (PutPrinc q) = MayPut s q
SparesKeys s (DropPrinc name) = IsOrdinary s.realm name
SparesKeys s (Rename old q) = IsOrdinary s.realm old × IsOrdinary s.realm q.name
SparesKeys s (PutPolicy p) = Unit {0}
SparesKeys s (DropPolicy name) = Unit {0}
SparesKeys s (PutMasters q kept activations) = MayPutMasters s q kept
