-- The keys of a principal, each wrapped under a master key, and the salts of their passwords.
use Rattle.std.proofs.Common.{ℕ, ◌^◌, ◌<◌, ◌≤◌, Bool, true, false, ◌&&◌, List, [], ◌∷◌, ◌++◌, length}
use Rattle.std.specs.Prelude.{IsTrue, not, ◌||◌, nat_eq, nat_lt, nat_le, if◌then◌else◌}
use Rattle.std.specs.List.{All, list_all}
use Rattle.kdb_base.specs.Etypes.{number_of}
use Rattle.kdb_base.specs.declared.keys.Salt.{Salt}
use Rattle.kdb_base.specs.declared.keys.Salt.TheVariants.{Normal, Special}
use Rattle.kdb_base.specs.Limits.{most_keys}
use Rattle.kdb_format.specs.Etypes.{etype_at, etype_text}
use Rattle.kdb_format.specs.Readings.{Reading, ◌>>=◌, done, checked, refuse, big_at, counted_at, counted_list_at}
use Rattle.kdb_format.specs.Spellings.{big, counted, counted_list}
use Rattle.princ_keys.specs.declared.keys.KeyItem.{KeyItem}

-- ---- salts

-- a normal salt has type 0 and no bytes, a special one type 4
abbrev pub salt_kind : Salt → ℕ
salt_kind Normal = 0
salt_kind (Special bytes) = 4

abbrev pub salt_bytes : Salt → List ℕ
salt_bytes Normal = []
salt_bytes (Special bytes) = bytes

abbrev pub is_empty : List ℕ → Bool
is_empty bytes = nat_eq (length bytes) 0

unfoldable pub salt_of : ℕ → Reading Salt
salt_of kind =
    if nat_eq kind 0 then (do bytes ← checked is_empty counted_at; done Normal)
    else if nat_eq kind 4 then (do bytes ← counted_at; done (Special bytes))
    else refuse

unfoldable pub salt_at : Reading Salt
salt_at = do
  kind ← big_at 2
  salt_of kind

unfoldable pub salt : Salt → List ℕ
salt s = big 2 (salt_kind s) ++ counted (salt_bytes s)

pub record IsSalt (s : Salt) : Type 0 where
  pub short : length (salt_bytes s) < 2 ^ 16

-- ---- keys

unfoldable pub key_at : Reading KeyItem
key_at = do
  kvno ← checked (nat_lt 0) (big_at 2)
  etype ← etype_at
  salt ← salt_at
  wrapped ← counted_at
  done (record { kvno = kvno; etype = etype; salt = salt; wrapped = wrapped })

unfoldable pub key : KeyItem → List ℕ
key k = big 2 k.kvno ++ (etype_text k.etype ++ (salt k.salt ++ counted k.wrapped))

-- versions are from 1
pub record IsKey (k : KeyItem) : Type 0 where
  pub from_one : 0 < k.kvno
  pub kvno : k.kvno < 2 ^ 16
  pub salt : IsSalt k.salt
  pub wrapped : length k.wrapped < 2 ^ 16

-- a later key has no higher version, and of the same version another type
abbrev pub may_follow : KeyItem → KeyItem → Bool
may_follow k later =
    nat_lt later.kvno k.kvno || (nat_eq later.kvno k.kvno && not (nat_eq (number_of later.etype) (number_of k.etype)))

unfoldable pub are_ordered : List KeyItem → Bool
are_ordered [] = true
are_ordered (k ∷ keys) = list_all (may_follow k) keys && are_ordered keys

-- at most as many keys as a principal may have, in that order
unfoldable pub are_keys : List KeyItem → Bool
are_keys keys = nat_le (length keys) most_keys && are_ordered keys

unfoldable pub keys_at : Reading (List KeyItem)
keys_at = checked are_keys (counted_list_at 2 key_at)

unfoldable pub keys_text : List KeyItem → List ℕ
keys_text keys = counted_list 2 key keys

pub record AreKeys (keys : List KeyItem) : Type 0 where
  pub few : length keys ≤ most_keys
  pub each : All IsKey keys
  pub ordered : IsTrue (are_ordered keys)

-- ---- the keys of K/M

-- the first key has this version
unfoldable pub begins_at : ℕ → List KeyItem → Bool
begins_at version [] = false
begins_at version (k ∷ keys) = nat_eq k.kvno version

-- a later key has a lower version
abbrev pub is_below : KeyItem → KeyItem → Bool
is_below k later = nat_lt later.kvno k.kvno

unfoldable pub are_falling : List KeyItem → Bool
are_falling [] = true
are_falling (k ∷ keys) = list_all (is_below k) keys && are_falling keys

unfoldable pub are_masters : ℕ → List KeyItem → Bool
are_masters version keys = begins_at version keys && are_falling keys

-- the master keys by falling versions, each version once, and the record's version is that of the newest
pub record AreMasters (version : ℕ) (keys : List KeyItem) : Type 0 where
  pub newest : IsTrue (begins_at version keys)
  pub falling : IsTrue (are_falling keys)

-- the keys of K/M, or of another principal
unfoldable pub fit_name : Bool → ℕ → List KeyItem → Bool
fit_name master version keys = not master || are_masters version keys
