-- The master keys by which rows are read: those that the first key of the stash opens whose version K/M lists. Whoever
-- holds one of the listed master keys opens all (MIT's kdb5_util add_mkey). That the order of the file decides is this
-- project's own rule.
use Rattle.std.specs.Prelude.{ℕ, ◌≡◌, ◌⊎◌, Bool, nat_eq, List, [], ◌∷◌, find, Option, Some, None, option_map}
use Rattle.std.specs.List.{list_any}
use Rattle.kdb_base.specs.declared.outcomes.Refusal.{Refusal}
use Rattle.kdb_base.specs.declared.outcomes.Refusal.TheVariants.{Damaged, StashMissing, StashWrong, UnknownMaster}
use Rattle.kdb_base.specs.declared.versions.Master.{Master}
use Rattle.master_keys.specs.Chain.{Opens}
use Rattle.master_keys.specs.First.{master_name}
use Rattle.princ_keys.specs.declared.keys.KeyItem.{KeyItem}
use Rattle.princ_record.specs.declared.princs.Princ.{Princ}
use Rattle.princ_rows.specs.Rows.{RowLists}
use Rattle.row_keys.specs.Lookups.{record_named}
use Rattle.row_keys.specs.Sound.{AreSound, judged}
use Rattle.stash_file.specs.Stashes.{IsBadAt, IsStash}
use Rattle.stash_file.specs.declared.keys.StashKey.{StashKey}

-- ---- the stash

-- the keys of a stash in the order of its file; where there is no stash there are none
abbrev pub HasKeys : Option (List ℕ) → List StashKey → Type 0
HasKeys None keys = keys ≡ []
HasKeys (Some text) keys = IsStash text keys

-- a place where the stash breaks the grammar
abbrev pub IsBroken : Option (List ℕ) → ℕ → Type 0
IsBroken None place = ⊥
IsBroken (Some text) place = IsBadAt text place

-- ---- K/M

-- the record of K/M in a database of this realm
abbrev pub own_record : List ℕ → RowLists → Option Princ
own_record realm rows = record_named (master_name realm) rows.princs

-- the keys of K/M's record; where there is no record there are none
abbrev pub keys_in : Option Princ → List KeyItem
keys_in None = []
keys_in (Some entry) = entry.keys

-- the record has a key of the version
unfoldable pub lists : List KeyItem → ℕ → Bool
lists items version = list_any (λ k. nat_eq k.kvno version) items

abbrev pub master_in : StashKey → Master
master_in k = record { version = k.version; key = k.key }

-- the first key, in the order of the file, whose version the record lists
unfoldable pub first_listed : List KeyItem → List StashKey → Option Master
first_listed items keys = option_map master_in (find (λ k. lists items k.version) keys)

-- ---- what the keys of a stash open

-- the first key whose version is listed opens these master keys
pub record KeysOpen (entry : Option Princ) (keys : List StashKey) (masters : List Master) : Type 0 where
  pub found : Master
  pub first : first_listed (keys_in entry) keys ≡ Some found
  pub own : Princ
  pub there : entry ≡ Some own
  pub opens : Opens own found.version found.key masters

-- there is no key
pub record HasNoKey (keys : List StashKey) (why : Refusal) : Type 0 where
  pub none : keys ≡ []
  pub why_is : why ≡ StashMissing

-- no key's version is listed, and that of the first key is told
pub record NoneListed (entry : Option Princ) (keys : List StashKey) (why : Refusal) : Type 0 where
  pub first : StashKey
  pub others : List StashKey
  pub keys_are : keys ≡ first ∷ others
  pub none : first_listed (keys_in entry) keys ≡ None
  pub why_is : why ≡ UnknownMaster first.version

-- the first key whose version is listed opens nothing
pub record OpensNothing (entry : Option Princ) (keys : List StashKey) (why : Refusal) : Type 0 where
  pub found : Master
  pub first : first_listed (keys_in entry) keys ≡ Some found
  pub own : Princ
  pub there : entry ≡ Some own
  pub wrong : (masters : List Master) → Opens own found.version found.key masters → ⊥
  pub why_is : why ≡ StashWrong

-- why the keys of a stash are refused
abbrev pub IsKeyCause : Option Princ → List StashKey → Refusal → Type 0
IsKeyCause entry keys why = HasNoKey keys why ⊎ (NoneListed entry keys why ⊎ OpensNothing entry keys why)

-- ---- what a stash opens

-- the stash opens these master keys, by the record of K/M
pub record StashOpens (stash : Option (List ℕ)) (entry : Option Princ) (masters : List Master) : Type 0 where
  pub keys : List StashKey
  pub spelled : HasKeys stash keys
  pub opened : KeysOpen entry keys masters

-- the keys of the stash are refused
pub record KeysRefused (stash : Option (List ℕ)) (entry : Option Princ) (why : Refusal) : Type 0 where
  pub keys : List StashKey
  pub spelled : HasKeys stash keys
  pub cause : IsKeyCause entry keys why

-- the stash breaks the grammar at a place of its file
pub record IsDamage (stash : Option (List ℕ)) (file : ℕ) (why : Refusal) : Type 0 where
  pub place : ℕ
  pub broken : IsBroken stash place
  pub why_is : why ≡ Damaged file place

-- why a stash in this file is refused
abbrev pub IsStashCause : Option (List ℕ) → ℕ → Option Princ → Refusal → Type 0
IsStashCause stash file entry why = IsDamage stash file why ⊎ KeysRefused stash entry why

-- ---- what rows are read by

-- the stash opens these master keys, and the rows are not sound under them
pub record AreUnsound (stash : Option (List ℕ)) (entry : Option Princ) (realm : List ℕ) (secs : ℕ) (rows : RowLists)
    (why : Refusal) : Type 0 where
  pub masters : List Master
  pub opened : StashOpens stash entry masters
  pub unsound : AreSound (judged masters realm secs) rows → ⊥
  pub why_is : why ≡ StashWrong

-- why an opening of these rows is refused
abbrev pub IsOpeningCause : Option (List ℕ) → ℕ → Option Princ → List ℕ → ℕ → RowLists → Refusal → Type 0
IsOpeningCause stash file entry realm secs rows why =
    IsStashCause stash file entry why ⊎ AreUnsound stash entry realm secs rows why
