-- Plain keys by their parts.
use Rattle.std.proofs.Common.{◌≡◌, ℕ, List, refl}
use Rattle.kdb_base.specs.Key.{Key}
use Rattle.kdb_base.specs.declared.keys.Salt.{Salt}
use Rattle.plain_keys.specs.declared.items.PlainItem.{PlainItem}
use Rattle.plain_keys.specs.declared.items.PlainSet.{PlainSet}

pub item_is : (k : PlainItem) (kvno : ℕ) (salt : Salt) (key : Key) → kvno ≡ k.kvno → salt ≡ k.salt → key ≡ k.key
    → ◌≡◌ {A = PlainItem} (record { kvno = kvno; salt = salt; key = key }) k
item_is k kvno salt key a b c = rw (a, b, c) refl

pub set_is : (s : PlainSet) (kvno : ℕ) (keys : List Key) → kvno ≡ s.kvno → keys ≡ s.keys
    → ◌≡◌ {A = PlainSet} (record { kvno = kvno; keys = keys }) s
set_is s kvno keys a b = rw (a, b) refl
