-- Which rows show a state: names, fields and policies are the same, and each wrapped key holds the plain one.
use Rattle.std.specs.Prelude.{◌≡◌, List, Some}
use Rattle.std.specs.List.{AllZip}
use Rattle.kdb_base.specs.Key.{Key}
use Rattle.kdb_base.specs.declared.versions.Activation.{Activation}
use Rattle.kdb_base.specs.declared.versions.Master.{Master}
use Rattle.master_keys.specs.Chain.{IsChain}
use Rattle.master_keys.specs.First.{master_name}
use Rattle.master_keys.specs.Rewrapping.{Holds}
use Rattle.master_keys.specs.Wrapping.{Unwraps}
use Rattle.princ_record.specs.declared.facts.ChainPart.{ChainPart}
use Rattle.princ_keys.specs.declared.keys.KeyItem.{KeyItem}
use Rattle.princ_record.specs.declared.princs.Princ.{Princ}
use Rattle.princ_keys.specs.declared.remembered.OldKey.{OldKey}
use Rattle.princ_keys.specs.declared.remembered.OldSet.{OldSet}
use Rattle.princ_rows.specs.Rows.{RowLists}
use Rattle.kdb_plain.specs.Heads.{head, plain_head}
use Rattle.kdb_plain.specs.States.{history_key, master_of}
use Rattle.plain_keys.specs.declared.items.PlainItem.{PlainItem}
use Rattle.plain_keys.specs.declared.items.PlainSet.{PlainSet}
use Rattle.kdb_plain.specs.declared.princs.PlainPrinc.{PlainPrinc}
use Rattle.kdb_plain.specs.declared.states.State.{State}
use Rattle.row_keys.specs.Lookups.{record_named}

-- under the master key, the item holds this plain key
pub record ShowsItem (master : Key) (item : KeyItem) (k : PlainItem) : Type 0 where
  pub kvno : item.kvno ≡ k.kvno
  pub salt : item.salt ≡ k.salt
  pub holds : Holds master item k.key

-- under the history key, the remembered key is this one
abbrev pub ShowsOldKey : Key → OldKey → Key → Type 0
ShowsOldKey history kept key = Unwraps history kept.etype kept.wrapped key

pub record ShowsSet (history : Key) (kept : OldSet) (plain : PlainSet) : Type 0 where
  pub kvno : kept.kvno ≡ plain.kvno
  pub keys : AllZip (ShowsOldKey history) kept.keys plain.keys

-- the fields are the same, the keys are under the master key, the remembered ones under the history key
pub record ShowsUnder (master history : Key) (p : Princ) (q : PlainPrinc) : Type 0 where
  pub fields : head p ≡ plain_head q
  pub keys : AllZip (ShowsItem master) p.keys q.keys
  pub old : AllZip (ShowsSet history) p.old q.old

-- the master key is that of the version which the record names
pub record ShowsPrinc (masters : List Master) (history : Key) (p : Princ) (q : PlainPrinc) : Type 0 where
  pub master : Key
  pub named : master_of masters p.mkvno ≡ Some master
  pub under : ShowsUnder master history p q

-- K/M's chain leads to these master keys, and its activations are these
pub record ShowsChain (masters : List Master) (activations : List Activation) (entry : Princ) : Type 0 where
  pub chain : IsChain entry masters
  pub part : ChainPart
  pub part_is : entry.chain ≡ Some part
  pub activations_are : part.activations ≡ activations

-- The realm is told by K/M's name alone; nothing is said of a point, a time or validity.
pub record Shows (rows : RowLists) (s : State) : Type 0 where
  pub history : Key
  pub history_is : history_key s.realm s.princs ≡ Some history
  pub princs : AllZip (ShowsPrinc s.masters history) rows.princs s.princs
  pub policies : rows.policies ≡ s.policies
  pub entry : Princ
  pub there : record_named (master_name s.realm) rows.princs ≡ Some entry
  pub chain : ShowsChain s.masters s.activations entry
