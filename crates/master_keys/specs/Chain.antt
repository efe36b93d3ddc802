-- The master keys of a database, as MIT's kdb5_util add_mkey leaves them at K/M: the entry has each of them by version,
-- the greatest first, wrapped under the newest, and its auxiliary list has the newest, wrapped under each older one. So
-- whoever holds one of them opens all.
use Rattle.std.specs.Prelude.{◌≡◌, ◌≢◌, ℕ, List, [], ◌∷◌, ◌++◌, map, reverse, Some}
use Rattle.std.specs.List.{AllZip, Contains}
use Rattle.kdb_base.specs.Key.{Key}
use Rattle.kdb_base.specs.Versions.{AreRising}
use Rattle.kdb_base.specs.declared.versions.AuxKey.{AuxKey}
use Rattle.kdb_base.specs.declared.versions.Master.{Master}
use Rattle.princ_record.specs.declared.facts.ChainPart.{ChainPart}
use Rattle.princ_keys.specs.declared.keys.KeyItem.{KeyItem}
use Rattle.princ_record.specs.declared.princs.Princ.{Princ}
use Rattle.master_keys.specs.Wrapping.{Unwraps}

-- ---- the whole chain

-- a key of the entry is this master key, wrapped under the newest
pub record IsKeyOf (newest : Key) (item : KeyItem) (master : Master) : Type 0 where
  pub version : item.kvno ≡ master.version
  pub unwraps : Unwraps newest item.etype item.wrapped master.key

-- an auxiliary key is the newest master key, wrapped under this older one
pub record IsAuxOf (newest : Key) (aux : AuxKey) (older : Master) : Type 0 where
  pub version : aux.version ≡ older.version
  pub unwraps : Unwraps older.key aux.etype aux.wrapped newest

-- these are the master keys of the entry, and this key is the newest of them
pub record IsChainUnder (newest : Key) (entry : Princ) (masters : List Master) : Type 0 where
  pub older : List Master
  pub masters_are : masters ≡ older ++ record { version = entry.mkvno; key = newest } ∷ []
  pub rising : AreRising (map (λ m. m.version) masters)
  pub keys : AllZip (IsKeyOf newest) entry.keys (reverse masters)
  pub part : ChainPart
  pub part_is : entry.chain ≡ Some part
  pub aux : AllZip (IsAuxOf newest) part.aux older

-- these are the master keys of the entry
pub record IsChain (entry : Princ) (masters : List Master) : Type 0 where
  pub newest : Key
  pub under : IsChainUnder newest entry masters

-- ---- the path from one key

-- the master keys have this version with this key
abbrev pub Lists : List Master → ℕ → Key → Type 0
Lists masters version key = Contains masters (record { version = version; key = key })

-- the auxiliary list has this newest key, wrapped under the key of this older version
pub record HasAux (entry : Princ) (older : Master) (newest : Key) : Type 0 where
  pub part : ChainPart
  pub part_is : entry.chain ≡ Some part
  pub aux : AuxKey
  pub there : Contains part.aux aux
  pub is : IsAuxOf newest aux older

-- the key of this version leads to the newest: it is that one, or the auxiliary list has that one under it
pub record LeadsTo (entry : Princ) (version : ℕ) (key newest : Key) : Type 0 where
  pub itself : version ≡ entry.mkvno → newest ≡ key
  pub by_aux : version ≢ entry.mkvno → HasAux entry (record { version = version; key = key }) newest

-- the key of this version opens these master keys of the entry: it leads to the newest, under which the entry has them
-- by falling versions, and the one of this version is this key
pub record Opens (entry : Princ) (version : ℕ) (key : Key) (masters : List Master) : Type 0 where
  pub newest : Key
  pub leads : LeadsTo entry version key newest
  pub rising : AreRising (map (λ m. m.version) masters)
  pub keys : AllZip (IsKeyOf newest) entry.keys (reverse masters)
  pub lists : Lists masters version key

-- the entry has a key of this version
abbrev pub HasVersion : List KeyItem → ℕ → Type 0
HasVersion keys version = Contains (map (λ k. k.kvno) keys) version
