-- Keys wrapped with the random bytes of a command, from the front of its block: each key takes 16 for its confounder,
-- and before them its own bytes where it is a new random key.
use Rattle.std.specs.Prelude.{ℕ, ◌+◌, Bool, false, List, [], ◌∷◌, ◌++◌, take, drop, if◌then◌else◌}
use Rattle.std.specs.List.{sum_by}
use Rattle.kdb_base.specs.Etypes.{key_len}
use Rattle.kdb_base.specs.Key.{Key}
use Rattle.master_keys.specs.Wrapping.{wrapped}
use Rattle.princ_keys.specs.declared.keys.KeyItem.{KeyItem}
use Rattle.plain_keys.specs.declared.items.PlainItem.{PlainItem}

-- what stands in the block before a key's confounder
abbrev pub front_len : Bool → PlainItem → ℕ
front_len drawn k = if drawn then key_len k.key.etype else 0

-- what a key takes of the block
abbrev pub taken_len : Bool → PlainItem → ℕ
taken_len drawn k = front_len drawn k + 16

-- what the keys take of it
unfoldable pub taken_lens : Bool → List PlainItem → ℕ
taken_lens drawn keys = sum_by (taken_len drawn) keys

abbrev pub confounder_of : Bool → List ℕ → PlainItem → List ℕ
confounder_of drawn random k = take 16 (drop (front_len drawn k) random)

-- the key, wrapped with this confounder
unfoldable pub wrapped_item : Key → List ℕ → PlainItem → KeyItem
wrapped_item master confounder k =
    record { kvno = k.kvno; etype = k.key.etype; salt = k.salt; wrapped = wrapped master k.key confounder }

-- one after another
unfoldable pub wrapped_items : Key → Bool → List ℕ → List PlainItem → List KeyItem
wrapped_items master drawn random [] = []
wrapped_items master drawn random (k ∷ keys) =
    wrapped_item master (confounder_of drawn random k) k
    ∷ wrapped_items master drawn (drop (taken_len drawn k) random) keys

-- new keys, and behind them old ones that stay and are wrapped anew
unfoldable pub rekeyed_items : Key → Bool → List ℕ → List PlainItem → List PlainItem → List KeyItem
rekeyed_items master drawn random fresh kept =
    wrapped_items master drawn random fresh ++ wrapped_items master false (drop (taken_lens drawn fresh) random) kept
