-- The keys that commands make, keep and remember.
use Rattle.std.specs.Prelude.{ℕ, ◌+◌, ◌-◌, ◌≤◌, Bool, true, false, ◌&&◌, nat_eq, nat_le, List, []}
use Rattle.std.specs.Prelude.{◌∷◌, ◌++◌, map, filter, take, drop, Option, unwrap_or, if◌then◌else◌}
use Rattle.std.specs.List.{count_by, flat_map, sum_by}
use Rattle.kdb_base.specs.Etypes.{key_len, number_of, product_rounds}
use Rattle.kdb_base.specs.Key.{Key, is_same_key}
use Rattle.kdb_base.specs.declared.extracts.Extract.{Extract}
use Rattle.kdb_base.specs.declared.keys.Etype.{Etype}
use Rattle.kdb_base.specs.declared.keys.Salt.{Salt}
use Rattle.kdb_base.specs.declared.keys.Salt.TheVariants.{Normal, Special}
use Rattle.krb_profile.specs.Profile.{string_key}
use Rattle.policy_rules.specs.Reuse.{is_reused as is_among_keys}
use Rattle.princ_name.specs.Names.{NameParts}
use Rattle.plain_keys.specs.declared.items.PlainItem.{PlainItem}
use Rattle.plain_keys.specs.declared.items.PlainSet.{PlainSet}
use Rattle.plain_keys.specs.declared.new_keys.NewKeys.{NewKeys}
use Rattle.plain_keys.specs.declared.new_keys.NewKeys.TheVariants.{Random, Password}

-- ---- versions: those of a principal's keys never rise, so the first key has the greatest

-- 0 without a key
abbrev pub newest_kvno : List PlainItem → ℕ
newest_kvno [] = 0
newest_kvno (k ∷ keys) = k.kvno

abbrev pub has_kvno : ℕ → PlainItem → Bool
has_kvno kvno k = nat_eq k.kvno kvno

-- the keys of the greatest version
unfoldable pub newest_keys : List PlainItem → List Key
newest_keys keys = map (λ k. k.key) (filter (has_kvno (newest_kvno keys)) keys)

-- the keys of the greatest version, with that version, as they are handed out
abbrev pub extract_of : PlainItem → Extract
extract_of k = record { kvno = k.kvno; key = k.key }

unfoldable pub extracts : List PlainItem → List Extract
extracts keys = map extract_of (filter (has_kvno (newest_kvno keys)) keys)

-- ---- keys that stay

-- the old keys that stand behind new ones, where they are kept
abbrev pub kept_keys : Bool → List PlainItem → List PlainItem
kept_keys keep keys = if keep then keys else []

-- the version from which on keys stay: the one that is named, or the greatest
abbrev pub least_kvno : Option ℕ → List PlainItem → ℕ
least_kvno named keys = unwrap_or named (newest_kvno keys)

abbrev pub is_from : ℕ → PlainItem → Bool
is_from kvno k = nat_le kvno k.kvno

-- the keys of this version and of later ones
unfoldable pub keys_from : ℕ → List PlainItem → List PlainItem
keys_from kvno keys = filter (is_from kvno) keys

-- ---- new keys

-- the bytes of a new random key, and behind them those of the confounder with which it is kept
abbrev pub drawn_len : Etype → ℕ
drawn_len etype = key_len etype + 16

-- random keys of these types, from the front of a block of random bytes
unfoldable pub random_keys : List ℕ → List Etype → List Key
random_keys random [] = []
random_keys random (etype ∷ etypes) =
    record { etype = etype; bytes = take (key_len etype) random } ∷ random_keys (drop (drawn_len etype) random) etypes

-- the salt of a name without another one: the realm and the components, with nothing between
unfoldable pub normal_salt : NameParts → List ℕ
normal_salt name = name.realm ++ flat_map (λ part. part) name.parts

abbrev pub password_key : List ℕ → List ℕ → Etype → Key
password_key password salt etype =
    record { etype = etype; bytes = string_key etype password salt (product_rounds etype) }

-- the keys of a password in each of these types
unfoldable pub password_keys : List ℕ → List ℕ → List Etype → List Key
password_keys password salt etypes = map (password_key password salt) etypes

abbrev pub made_keys : List ℕ → NameParts → NewKeys → List Key
made_keys random name (Random etypes) = random_keys random etypes
made_keys random name (Password password etypes) = password_keys password (normal_salt name) etypes

-- the bytes that making the keys wants at the front of a random block: those of random keys, each with the 16 behind
-- it, and none for a password's. A record with these keys may draw more: each of them is kept with a confounder of 16
-- bytes, a password's too
abbrev pub bytes_to_make : NewKeys → ℕ
bytes_to_make (Random etypes) = sum_by drawn_len etypes
bytes_to_make (Password password etypes) = 0

-- each encryption type at most once
abbrev pub AreOnce : List Etype → Type 0
AreOnce etypes = (etype : Etype) → count_by (λ other. nat_eq (number_of other) (number_of etype)) etypes ≤ 1

abbrev pub is_password : NewKeys → Bool
is_password (Random etypes) = false
is_password (Password password etypes) = true

abbrev pub item_of : ℕ → Key → PlainItem
item_of kvno key = record { kvno = kvno; salt = Normal; key = key }

-- new keys of this version, each with the normal salt
unfoldable pub items_of : ℕ → List Key → List PlainItem
items_of kvno keys = map (item_of kvno) keys

-- ---- remembered keys

abbrev pub newest_set : List PlainItem → PlainSet
newest_set keys = record { kvno = newest_kvno keys; keys = newest_keys keys }

-- the keys of the greatest version before those of earlier ones, where there is a key
abbrev pub with_newest : List PlainItem → List PlainSet → List PlainSet
with_newest [] old = old
with_newest (k ∷ keys) old = newest_set (k ∷ keys) ∷ old

-- what is remembered of keys that are replaced: the standing password counts in a history, so one set less stays
unfoldable pub remembered : ℕ → List PlainItem → List PlainSet → List PlainSet
remembered history keys old = take (history - 1) (with_newest keys old)

-- the keys of all remembered sets
abbrev pub old_keys : List PlainSet → List Key
old_keys old = flat_map (λ s. s.keys) old

-- the item is of this version, and its key is this one
abbrev pub is_item : ℕ → Key → PlainItem → Bool
is_item kvno key k = has_kvno kvno k && is_same_key k.key key

-- some new key is, in its encryption type and its bytes, one of the greatest version, or a remembered one
unfoldable pub is_reused : List Key → List PlainItem → List PlainSet → Bool
is_reused fresh keys old = is_among_keys fresh (newest_keys keys) (old_keys old)

-- ---- a new name

-- the salt of a key whose principal had this name, once the principal has another one
abbrev pub settled_salt : NameParts → Salt → Salt
settled_salt name Normal = Special (normal_salt name)
settled_salt name (Special bytes) = Special bytes

abbrev pub settled_item : NameParts → PlainItem → PlainItem
settled_item name k = record k { salt = settled_salt name k.salt }

-- the keys of a principal that had this name, under another name
unfoldable pub settled_items : NameParts → List PlainItem → List PlainItem
settled_items name keys = map (settled_item name) keys
