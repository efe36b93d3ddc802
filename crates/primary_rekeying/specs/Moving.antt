-- One principal rekeyed: what a take gives, and what a rekeying and a settling answer and make.
use Rattle.std.specs.Prelude.{ℕ, Bool, ◌≡◌, ◌<◌, ◌≤◌, true, false, nat_eq, List, length}
use Rattle.std.specs.Prelude.{Option, Some, None, Result, Ok, Err, option_and_then}
use Rattle.kdb_base.specs.Key.{Key}
use Rattle.kdb_base.specs.Limits.{longest_row}
use Rattle.kdb_base.specs.Moment.{Moment}
use Rattle.kdb_base.specs.declared.outcomes.Refusal.TheVariants.{RecordTooLarge, TimeEnd}
use Rattle.kdb_base.specs.declared.outcomes.Stop.{Stop}
use Rattle.kdb_base.specs.declared.outcomes.Stop.TheVariants as stop
use Rattle.kdb_histories.specs.Asks.{Answer, Ask, Moved, NotMoved, at_clock}
use Rattle.kdb_model.specs.Rekeying as model
use Rattle.kdb_model.specs.Rekeying.{Take, TakenAlready, TakenGone, active_at, under_version}
use Rattle.key_activation.specs.Activations.{active}
use Rattle.kdb_plain.specs.Lengths.{in_64_bits}
use Rattle.kdb_plain.specs.States.{history_key, princ_named}
use Rattle.kdb_plain.specs.declared.princs.PlainPrinc.{PlainPrinc}
use Rattle.kdb_plain.specs.declared.states.State.{State}
use Rattle.primary_core.specs.Deciding.{ends_time, rows_changed}
use Rattle.primary_core.specs.Opened.{IsAnswered, MayMake, Opened, place_of}
use Rattle.primary_rekeying.specs.declared.taking.TakeAnswer.{TakeAnswer}
use Rattle.primary_rekeying.specs.declared.taking.TakeAnswer.TheVariants.{Ready, Already, Gone, Closed}
use Rattle.princ_rows.specs.declared.entries.Op.TheVariants.{PutPrinc}
use Rattle.princ_name.specs.Printed.{is_master}
use Rattle.princ_record.specs.Princs.{IsPrinc, princ}
use Rattle.princ_record.specs.declared.facts.ChainPart.{ChainPart}
use Rattle.princ_record.specs.declared.princs.Princ.{Princ}
use Rattle.rekey_work.specs.declared.works.Settled.{Settled}
use Rattle.rekey_work.specs.declared.works.Settled.TheVariants as settled
use Rattle.row_keys.specs.Lookups.{record_named}
use Rattle.row_keys.specs.Shows.{ShowsPrinc}

-- ---- the active version

-- the version that is active at these seconds, by K/M's record
abbrev pub active_by : Option Princ → ℕ → Option ℕ
active_by entry secs = option_and_then (λ (part : ChainPart). active part.activations secs)
    (option_and_then (λ (p : Princ). p.chain) entry)

-- ---- a take

-- the answer of an open primary, as the model has it
abbrev pub IsTake : TakeAnswer → Take → Type 0
IsTake (Ready taken) take = take ≡ model.Ready taken
IsTake Already take = take ≡ TakenAlready
IsTake Gone take = take ≡ TakenGone
IsTake Closed take = ⊥

-- ---- answers

-- what is answered, unless memory runs out or the disk fails
abbrev pub answer_of : Result Settled Stop → Option Answer
answer_of (Ok settled) = Some (Moved settled)
answer_of (Err (stop.Refused why)) = Some (NotMoved why)
answer_of (Err (stop.Halt halt)) = None

-- a record is stored
abbrev pub is_updated : Settled → Bool
is_updated (settled.Updated made) = true
is_updated settled.Already = false
is_updated settled.Gone = false
is_updated (settled.Changed found active) = false

-- ---- a record that is to be stored

-- What the ask comes to where this record is to be stored: a refusal where its row is too long or where no later time
-- is left, and else its change.
pub record IsStored (o : Opened) (ask : Ask) (made : Princ) : Type 0 where
  pub large : longest_row < length (princ made)
      → IsAnswered o ask (NotMoved (RecordTooLarge (in_64_bits (length (princ made))))) None
  pub late : length (princ made) ≤ longest_row → ends_time (PutPrinc made) (place_of o) ≡ true
      → IsAnswered o ask (NotMoved TimeEnd) None
  pub stored : length (princ made) ≤ longest_row → ends_time (PutPrinc made) (place_of o) ≡ false
      → IsAnswered o ask (Moved (settled.Updated made)) (Some (rows_changed (PutPrinc made)))

-- what was found out: what is answered, or a record that is to be stored first
abbrev pub IsFoundOut : Opened → Ask → Settled → Type 0
IsFoundOut o ask (settled.Updated made) = IsStored o ask made
IsFoundOut o ask settled.Already = IsAnswered o ask (Moved settled.Already) None
IsFoundOut o ask settled.Gone = IsAnswered o ask (Moved settled.Gone) None
IsFoundOut o ask (settled.Changed found active) = IsAnswered o ask (Moved (settled.Changed found active)) None

-- the record may be stored, where its row is not too long and a later time is left where one is wanted
pub record MayStore (o : Opened) (clock : Moment) (made : Princ) : Type 0 where
  pub spelled : IsPrinc made
  pub may : length (princ made) ≤ longest_row → ends_time (PutPrinc made) (place_of o) ≡ false
      → MayMake o clock (rows_changed (PutPrinc made))

-- ---- of which record that holds

-- The record by this name shows a principal under another version than the active one, and this record shows it under
-- that one.
pub record IsMoving (o : Opened) (s : State) (name : List ℕ) (clock : Moment) (made : Princ) : Type 0 where
  pub history : Key
  pub history_is : history_key s.realm s.princs ≡ Some history
  pub plain : PlainPrinc
  pub named : princ_named name s.princs ≡ Some plain
  pub version : ℕ
  pub active : active_at s (at_clock clock false) ≡ Some version
  pub other : nat_eq plain.mkvno version ≡ false
  pub shows : ShowsPrinc s.masters history made (under_version version plain)

-- The record has a spelling and the name of one that is stored, which is not K/M's.
pub record IsInPlace (o : Opened) (name : List ℕ) (made : Princ) : Type 0 where
  pub other : is_master name ≡ false
  pub spelled : IsPrinc made
  pub name_is : made.name ≡ name
  pub stored : Princ
  pub there : record_named name o.kept.rows.princs ≡ Some stored
