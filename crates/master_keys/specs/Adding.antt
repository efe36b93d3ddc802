-- A new newest master key, as MIT's kdb5_util add_mkey makes it: the record has it first, wrapped under itself, and
-- each older key wrapped anew under it, and its auxiliary list has it under each of the older ones.
use Rattle.std.specs.Prelude.{◌≢◌, ℕ, ◌+◌, List, [], ◌∷◌, ◌++◌, length, map, Option, Some, None, option_map, reverse}
use Rattle.std.specs.List.{All, Contains}
use Rattle.kdb_base.specs.Key.{Key}
use Rattle.kdb_base.specs.declared.keys.Salt.TheVariants.{Normal}
use Rattle.kdb_base.specs.declared.versions.Activation.{Activation}
use Rattle.kdb_base.specs.declared.versions.AuxKey.{AuxKey}
use Rattle.kdb_base.specs.declared.versions.Master.{Master}
use Rattle.princ_record.specs.declared.facts.ChainPart.{ChainPart}
use Rattle.princ_keys.specs.declared.keys.KeyItem.{KeyItem}
use Rattle.princ_record.specs.declared.princs.Princ.{Princ}
use Rattle.master_keys.specs.Rewrapping.{confounder, with_keys}
use Rattle.master_keys.specs.Versions.{last_version}
use Rattle.master_keys.specs.Wrapping.{wrapped}

-- the version of the new key: the greatest and one
unfoldable pub next_version : List Master → ℕ
next_version masters = last_version masters + 1

-- the new key under itself, with the first confounder
unfoldable pub newest_item : ℕ → Key → List ℕ → KeyItem
newest_item version key random =
    record { kvno = version; etype = key.etype; salt = Normal; wrapped = wrapped key key (confounder random 0) }

-- the keys, the newest first
unfoldable pub newest_first : List Master → List Key
newest_first masters = map (λ m. m.key) (reverse masters)

-- the new key under a master key, with these 16 bytes
unfoldable pub aux_key : Key → List ℕ → Master → AuxKey
aux_key key bytes master =
    record { version = master.version; etype = key.etype; wrapped = wrapped master.key key bytes }

-- the new key under each of the master keys, with the confounders from a place on
unfoldable pub aux_keys : Key → List ℕ → ℕ → List Master → List AuxKey
aux_keys key random place [] = []
aux_keys key random place (master ∷ masters) =
    aux_key key (confounder random place) master ∷ aux_keys key random (place + 1) masters

-- the keys of the record: the new one, and the old ones in their order
unfoldable pub added_keys : ℕ → List KeyItem → List Master → Key → List ℕ → List KeyItem
added_keys version items masters key random =
    newest_item version key random ∷ with_keys key random 1 items (newest_first masters)

abbrev pub with_aux : List AuxKey → ChainPart → ChainPart
with_aux aux part = record part { aux = aux }

-- the record with the new key, and all else as it was
unfoldable pub added_record : Princ → List Master → Key → List ℕ → Princ
added_record entry masters key random = record entry {
  mkvno = next_version masters;
  keys = added_keys (next_version masters) entry.keys masters key random;
  chain = option_map (with_aux (aux_keys key random (1 + length entry.keys) masters)) entry.chain;
}

-- the master keys with the new one behind them
unfoldable pub added_masters : List Master → Key → List Master
added_masters masters key = masters ++ record { version = next_version masters; key = key } ∷ []

-- ---- activations

-- from when on versions may be active; none where nothing stands at K/M alone
abbrev pub activations_in : Option ChainPart → List Activation
activations_in None = []
activations_in (Some part) = part.activations

-- each activation names a listed version
abbrev pub AreListed : List Master → List Activation → Type 0
AreListed masters activations = All (λ a. Contains (map (λ m. m.version) masters) a.version) activations

-- no activation names the version
abbrev pub IsInactive : ℕ → List Activation → Type 0
IsInactive version activations = All (λ a. a.version ≢ version) activations
