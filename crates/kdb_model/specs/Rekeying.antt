-- Rekeying one principal beside commands: taken under the lock, wrapped anew outside it, and settled under it. MIT's
-- kdb5_util update_princ_encryption does it name by name; that it may be done beside commands is this project's own.
use Rattle.std.specs.Prelude.{ℕ, Bool, false, ◌&&◌, nat_eq, nat_lt, List, Option, Some, None, if◌then◌else◌}
use Rattle.std.specs.Str.{bytes_eq}
use Rattle.kdb_base.specs.Key.{Key, is_same_key}
use Rattle.kdb_base.specs.Limits.{longest_row}
use Rattle.kdb_base.specs.Moment.{Moment}
use Rattle.kdb_base.specs.Moments.{later_moment}
use Rattle.kdb_base.specs.declared.outcomes.Refusal.{Refusal}
use Rattle.kdb_base.specs.declared.outcomes.Refusal.TheVariants.{RecordTooLarge, TimeEnd}
use Rattle.kdb_base.specs.declared.versions.Master.{Master}
use Rattle.kdb_model.specs.Calls.{is_last, point_after}
use Rattle.kdb_model.specs.Refusals.{len_in}
use Rattle.kdb_model.specs.Steps.{with_point}
use Rattle.kdb_plain.specs.Changes.{put_princ}
use Rattle.kdb_plain.specs.Lengths.{in_64_bits}
use Rattle.kdb_plain.specs.States.{master_of, princ_named}
use Rattle.kdb_plain.specs.declared.princs.PlainPrinc.{PlainPrinc}
use Rattle.kdb_plain.specs.declared.states.State.{State}
use Rattle.key_activation.specs.Activations.{active}
use Rattle.princ_name.specs.Names.{NameParts, printed}
use Rattle.princ_record.specs.Princs.{princ}
use Rattle.princ_record.specs.declared.princs.Princ.{Princ}

-- what the clock says, and whether the log is to start anew before a change
pub record At : Type 0 where
  pub clock : Moment
  pub due : Bool

-- the version that is active at the moment of a rekeying
abbrev pub active_at : State → At → Option ℕ
active_at s at = active s.activations (later_moment s.point.time at.clock).secs

-- ---- wholly under the lock

pub data Rekeyed : Type 0 where
  Updated : State → Rekeyed
  -- it is under the active version
  Already : Rekeyed
  Gone : Rekeyed
  Refused : Refusal → Rekeyed

-- its keys are wrapped under this version, and nothing else of it changes
abbrev pub under_version : ℕ → PlainPrinc → PlainPrinc
under_version version q = record q { mkvno = version }

unfoldable pub moved : State → At → PlainPrinc → Rekeyed
moved s at q = if nat_lt longest_row (len_in s q) then Refused (RecordTooLarge (in_64_bits (len_in s q)))
    else if at.due && is_last s.point.time then Refused TimeEnd
    else Updated (with_point (point_after s at.clock at.due) (put_princ q s))

unfoldable pub rekey_to : State → At → Option ℕ → PlainPrinc → Rekeyed
rekey_to s at None q = Already
rekey_to s at (Some version) q = if nat_eq q.mkvno version then Already else moved s at (under_version version q)

abbrev pub rekey_found : State → At → Option PlainPrinc → Rekeyed
rekey_found s at None = Gone
rekey_found s at (Some q) = rekey_to s at (active_at s at) q

-- of a name other than K/M's
unfoldable pub rekey : State → NameParts → At → Rekeyed
rekey s name at = rekey_found s at (princ_named (printed name) s.princs)

-- ---- taking

-- what a worker is given: the record as it is kept, the active version, and the master keys of both versions
pub record Taking : Type 0 where
  pub princ : Princ
  pub version : ℕ
  pub old : Key
  pub fresh : Key

pub data Take : Type 0 where
  Ready : Taking → Take
  TakenAlready : Take
  TakenGone : Take

unfoldable pub ready : Princ → ℕ → Option Key → Option Key → Take
ready p version (Some old) (Some fresh) = Ready (record { princ = p; version = version; old = old; fresh = fresh })
ready p version _ _ = TakenAlready

unfoldable pub take_to : List Master → Princ → Option ℕ → Take
take_to masters p None = TakenAlready
take_to masters p (Some version) = if nat_eq p.mkvno version then TakenAlready
    else ready p version (master_of masters p.mkvno) (master_of masters version)

-- of the record that rows have by a name. A valid state has an active version, and lists it and that of the record.
unfoldable pub take_of : State → At → Option Princ → Take
take_of s at None = TakenGone
take_of s at (Some p) = take_to s.masters p (active_at s at)

-- ---- settling

-- what was taken, and what was made of it
pub record Work : Type 0 where
  pub taken : Taking
  pub made : Princ

pub data Settled : Type 0 where
  -- the record that is stored
  Stored : State → Princ → Settled
  SettledGone : Settled
  -- the record found, where it is another than the one taken; the active version, where it is another
  Changed : Option Princ → Option ℕ → Settled
  NotStored : Refusal → Settled

-- two records are one where their spellings are
abbrev pub is_record : Princ → Princ → Bool
is_record a b = bytes_eq (princ a) (princ b)

abbrev pub is_version : Option ℕ → ℕ → Bool
is_version None version = false
is_version (Some found) version = nat_eq found version

abbrev pub is_key : Option Key → Key → Bool
is_key None key = false
is_key (Some found) key = is_same_key found key

-- both versions still have the keys taken
unfoldable pub has_keys : List Master → Taking → Bool
has_keys masters taken =
    is_key (master_of masters taken.princ.mkvno) taken.old && is_key (master_of masters taken.version) taken.fresh

-- of the record that stands by the name, the master keys and the active version: nothing of what was taken has changed
unfoldable pub may_settle : List Master → Option ℕ → Princ → Taking → Bool
may_settle masters active stored taken =
    is_record stored taken.princ && is_version active taken.version && has_keys masters taken

abbrev pub unless_same : {A : Type 0} → Bool → Option A → Option A
unless_same same found = if same then None else found

-- the record, where it is another
abbrev pub other_record : Princ → Taking → Option Princ
other_record stored taken = unless_same (is_record stored taken.princ) (Some stored)

-- the active version, where it is another
abbrev pub other_version : Option ℕ → Taking → Option ℕ
other_version active taken = unless_same (is_version active taken.version) active

unfoldable pub settled_by : Princ → Rekeyed → Settled
settled_by made (Updated state) = Stored state made
settled_by made Already = Changed None None
settled_by made Gone = SettledGone
settled_by made (Refused why) = NotStored why

-- Of the record that rows have by the name now. A rekeying is neither gone nor done already here: the record is there,
-- and it names another version than the active one.
unfoldable pub settle : State → NameParts → At → Option Princ → Work → Settled
settle s name at None work = SettledGone
settle s name at (Some stored) work = if may_settle s.masters (active_at s at) stored work.taken
    then settled_by work.made (rekey s name at)
    else Changed (other_record stored work.taken) (other_version (active_at s at) work.taken)
