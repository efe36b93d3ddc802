-- What a rekeying is made of: the record that is taken, what is made of it outside the lock, and what becomes of that.
use Rattle.std.specs.Prelude.{ℕ, ◌≡◌, ◌≢◌, ◌<◌, ◌≤◌, List, length, Option, Some, None, if◌then◌else◌}
use Rattle.std.specs.List.{All, AllZip}
use Rattle.kdb_base.specs.Key.{Key}
use Rattle.kdb_base.specs.Limits.{most_keys}
use Rattle.kdb_base.specs.declared.versions.Master.{Master}
use Rattle.kdb_model.specs.Rekeying as model
use Rattle.kdb_model.specs.Rekeying.{At, Take, Ready, SettledGone, TakenAlready, Taking, Work}
use Rattle.kdb_model.specs.Rekeying.{may_settle, other_record, other_version, rekey, settled_by}
use Rattle.kdb_plain.specs.States.{master_of}
use Rattle.kdb_plain.specs.declared.states.State.{State}
use Rattle.master_keys.specs.Rewrapping.{Holds, HoldsOne}
use Rattle.princ_name.specs.Names.{NameParts}
use Rattle.princ_record.specs.Princs.{IsPrinc}
use Rattle.princ_keys.specs.declared.keys.KeyItem.{KeyItem}
use Rattle.princ_record.specs.declared.princs.Princ.{Princ}
use Rattle.rekey_work.specs.declared.works.Settled.{Settled}
use Rattle.rekey_work.specs.declared.works.Settled.TheVariants as settled

-- a record other than K/M's that has a spelling and whose keys a master key opens, and another version than the one
-- that it names
pub record IsTaking (t : Taking) : Type 0 where
  pub spelled : IsPrinc t.princ
  pub ordinary : t.princ.chain ≡ None
  pub few : length t.princ.keys ≤ most_keys
  pub opens : All (HoldsOne t.old) t.princ.keys
  pub numbered : 0 < t.version
  pub moves : t.version ≢ t.princ.mkvno

-- the same key, wrapped anew
pub record IsRewrappedItem (old fresh : Key) (before now : KeyItem) : Type 0 where
  pub kvno : now.kvno ≡ before.kvno
  pub etype : now.etype ≡ before.etype
  pub salt : now.salt ≡ before.salt
  pub plain : Key
  pub opened : Holds old before plain
  pub sealed : Holds fresh now plain

-- what is made has the version, and other wrapped bytes of the same keys, and is otherwise what was taken. It speaks of
-- no state.
pub record IsWork (w : Work) : Type 0 where
  pub taken : IsTaking w.taken
  pub spelled : IsPrinc w.made
  pub same : w.made ≡ record w.taken.princ { mkvno = w.taken.version; keys = w.made.keys }
  pub keys : AllZip (IsRewrappedItem w.taken.old w.taken.fresh) w.taken.princ.keys w.made.keys

-- the master key of the record's version opens each of its keys
pub record IsOpenedBy (masters : List Master) (p : Princ) : Type 0 where
  pub master : Key
  pub listed : master_of masters p.mkvno ≡ Some master
  pub opens : All (HoldsOne master) p.keys

-- what is taken, as the model has it
abbrev pub taken_as : Option Taking → Take
taken_as None = TakenAlready
taken_as (Some t) = Ready t

-- what changed meanwhile, where anything did: the record that stands by the name now, and the active version
abbrev pub changes : List Master → ℕ → Princ → Taking → Option Settled
changes masters active stored taken = if may_settle masters (Some active) stored taken then None
    else Some (settled.Changed (other_record stored taken) (other_version (Some active) taken))

abbrev pub settled_of : Option Settled → Work → Settled
settled_of None work = settled.Updated work.made
settled_of (Some changed) work = changed

-- what becomes of work that comes back to the record that stands by the name now, under these master keys and this
-- active version
unfoldable pub settled_with : Option Princ → List Master → ℕ → Work → Settled
settled_with None masters active work = settled.Gone
settled_with (Some stored) masters active work = if may_settle masters (Some active) stored work.taken
    then settled.Updated work.made
    else settled.Changed (other_record stored work.taken) (other_version (Some active) work.taken)

-- what the model has for it: what is to be stored is a rekeying, which may be refused
abbrev pub as_modelled : State → NameParts → At → Settled → model.Settled
as_modelled s name at (settled.Updated made) = settled_by made (rekey s name at)
as_modelled s name at settled.Already = model.Changed None None
as_modelled s name at settled.Gone = SettledGone
as_modelled s name at (settled.Changed p version) = model.Changed p version
