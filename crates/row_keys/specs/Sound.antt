-- What an opening and a load ask of rows beyond their grammar. Rows of which this holds show a state, and it is valid
-- at the time.
use Rattle.std.specs.Prelude.{ℕ, ◌≡◌, ◌≢◌, ◌<◌, List, [], ◌∷◌, length, take}
use Rattle.std.specs.Prelude.{get_or, Some, None, is_some, IfSome, IsTrue}
use Rattle.std.specs.List.{All}
use Rattle.kdb_base.specs.Key.{Key}
use Rattle.kdb_base.specs.Moment.{Moment}
use Rattle.kdb_base.specs.declared.moments.Point.{Point}
use Rattle.kdb_base.specs.declared.versions.Activation.{Activation}
use Rattle.kdb_base.specs.declared.versions.Master.{Master}
use Rattle.key_activation.specs.Activations.{active}
use Rattle.master_keys.specs.Chain.{IsChain}
use Rattle.master_keys.specs.First.{master_name}
use Rattle.master_keys.specs.Rewrapping.{Holds, HoldsOne}
use Rattle.master_keys.specs.Wrapping.{Unwraps}
use Rattle.princ_record.specs.declared.facts.ChainPart.{ChainPart}
use Rattle.princ_keys.specs.declared.keys.KeyItem.{KeyItem}
use Rattle.princ_record.specs.declared.princs.Princ.{Princ}
use Rattle.princ_keys.specs.declared.remembered.OldKey.{OldKey}
use Rattle.princ_keys.specs.declared.remembered.OldSet.{OldSet}
use Rattle.princ_rows.specs.Rows.{RowLists}
use Rattle.kdb_plain.specs.States.{IsListed, IsValid, has_policy, history_name, master_of}
use Rattle.kdb_plain.specs.declared.states.State.{State}
use Rattle.row_keys.specs.Lookups.{record_named}
use Rattle.row_keys.specs.Shows.{Shows}

-- what rows are judged by: the master keys that were found, the realm, and the seconds of a time
pub record Judged : Type 0 where
  pub masters : List Master
  pub realm : List ℕ
  pub secs : ℕ

abbrev pub judged : List Master → List ℕ → ℕ → Judged
judged masters realm secs = record { masters = masters; realm = realm; secs = secs }

-- ---- a record

-- the version that it names is listed, and each of its keys is wrapped under that master key
pub record OpensKeys (masters : List Master) (p : Princ) : Type 0 where
  pub master : Key
  pub named : master_of masters p.mkvno ≡ Some master
  pub keys : All (HoldsOne master) p.keys

-- the record has one key, and it is this one
pub record HasOneKey (masters : List Master) (p : Princ) (key : Key) : Type 0 where
  pub item : KeyItem
  pub one : p.keys ≡ item ∷ []
  pub master : Key
  pub named : master_of masters p.mkvno ≡ Some master
  pub holds : Holds master item key

-- kadmin/history is there with one key, and it is this one
pub record HasHistoryKey (masters : List Master) (realm : List ℕ) (princs : List Princ) (key : Key) : Type 0 where
  pub entry : Princ
  pub there : record_named (history_name realm) princs ≡ Some entry
  pub has : HasOneKey masters entry key

-- under the history key, the remembered key is some key
abbrev pub HoldsOldOne : Key → OldKey → Type 0
HoldsOldOne history k = (key : Key) × Unwraps history k.etype k.wrapped key

abbrev pub AreHeldUnder : Key → OldSet → Type 0
AreHeldUnder history s = All (HoldsOldOne history) s.keys

-- a remembered key is wrapped under the history key
pub record IsRemembered (masters : List Master) (realm : List ℕ) (princs : List Princ) (k : OldKey) : Type 0 where
  pub history : Key
  pub history_is : HasHistoryKey masters realm princs history
  pub held : HoldsOldOne history k

abbrev pub AreRemembered : List Master → List ℕ → List Princ → List OldSet → Type 0
AreRemembered masters realm princs old = All (λ (s : OldSet). All (IsRemembered masters realm princs) s.keys) old

-- K/M's chain leads to the master keys, its activations name listed versions, and one of them has begun
pub record IsSoundChain (masters : List Master) (secs : ℕ) (p : Princ) : Type 0 where
  pub chain : IsChain p masters
  pub part : ChainPart
  pub part_is : p.chain ≡ Some part
  pub listed : All (λ (a : Activation). IsListed masters a.version) part.activations
  pub begun : IsTrue (is_some (active part.activations secs))

-- where kadmin/history is missing, remembered keys are no fault of the record that has them
abbrev pub OpensOld : List Master → List ℕ → List Princ → List OldSet → Type 0
OpensOld masters realm princs old = record_named (history_name realm) princs ≢ None
    → AreRemembered masters realm princs old

-- what is asked of K/M and of kadmin/history alone
pub record IsSoundOwn (j : Judged) (p : Princ) : Type 0 where
  pub chain : p.name ≡ master_name j.realm → IsSoundChain j.masters j.secs p
  pub history : p.name ≡ history_name j.realm → length p.keys ≡ 1

pub record IsSound (j : Judged) (rows : RowLists) (p : Princ) : Type 0 where
  pub keys : OpensKeys j.masters p
  pub policy : IfSome p.policy (λ name. IsTrue (has_policy name rows.policies))
  pub old : OpensOld j.masters j.realm rows.princs p.old
  pub own : IsSoundOwn j p

-- ---- all of them

-- K/M and kadmin/history are there
pub record HasOwn (j : Judged) (rows : RowLists) : Type 0 where
  pub master : record_named (master_name j.realm) rows.princs ≢ None
  pub history : record_named (history_name j.realm) rows.princs ≢ None

pub record AreSound (j : Judged) (rows : RowLists) : Type 0 where
  pub each : All (IsSound j rows) rows.princs
  pub own : HasOwn j rows

-- the first record that is not sound stands at this place
pub record IsFirstUnsound (j : Judged) (rows : RowLists) (at : ℕ) : Type 0 where
  pub in_range : at < length rows.princs
  pub before : All (IsSound j rows) (take at rows.princs)
  pub here : (d : Princ) → IsSound j rows (get_or rows.princs at d) → ⊥

-- each record is sound, and K/M or kadmin/history is missing
pub record LacksOwn (j : Judged) (rows : RowLists) : Type 0 where
  pub each : All (IsSound j rows) rows.princs
  pub missing : HasOwn j rows → ⊥

-- ---- what they show

-- a state of this realm and this point, with these master keys, which the rows show, and which is valid at the seconds
pub record ShowsValid (j : Judged) (rows : RowLists) (point : Point) (s : State) : Type 0 where
  pub realm_is : s.realm ≡ j.realm
  pub masters_are : s.masters ≡ j.masters
  pub point_is : s.point ≡ point
  pub shows : Shows rows s
  pub valid : (time : Moment) → time.secs ≡ j.secs → IsValid time s

pub record HasState (j : Judged) (rows : RowLists) (point : Point) : Type 0 where
  pub state : State
  pub is : ShowsValid j rows point state
