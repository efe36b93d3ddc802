-- A record's keys wrapped anew under another master key, as MIT's kdb5_util update_princ_encryption does it.
use Rattle.std.specs.Prelude.{◌≡◌, ℕ, ◌+◌, ◌*◌, List, [], ◌∷◌}
use Rattle.std.specs.List.{AllZip, Any, slice_range}
use Rattle.kdb_base.specs.Key.{Key}
use Rattle.princ_keys.specs.declared.keys.KeyItem.{KeyItem}
use Rattle.princ_record.specs.declared.princs.Princ.{Princ}
use Rattle.master_keys.specs.Wrapping.{Unwraps, wrapped}

-- the 16 random bytes that belong to a place
unfoldable pub confounder : List ℕ → ℕ → List ℕ
confounder random place = slice_range random (16 * place) (16 * (place + 1))

-- under the master key, the item holds this key
abbrev pub Holds : Key → KeyItem → Key → Type 0
Holds master item key = Unwraps master item.etype item.wrapped key

-- the item holds a key
abbrev pub HoldsOne : Key → KeyItem → Type 0
HoldsOne master item = (key : Key) × Holds master item key

-- some item holds no key
abbrev pub HoldNotAll : Key → List KeyItem → Type 0
HoldNotAll master items = Any (λ item. (key : Key) → ¬ Holds master item key) items

-- the item with this key in it, wrapped under the master key with these 16 bytes
unfoldable pub with_key : Key → List ℕ → KeyItem → Key → KeyItem
with_key master bytes item key = record item { wrapped = wrapped master key bytes }

-- the items with these keys in them, by place, each with the confounder of its place
unfoldable pub with_keys : Key → List ℕ → ℕ → List KeyItem → List Key → List KeyItem
with_keys master random place [] keys = []
with_keys master random place (item ∷ items) [] = []
with_keys master random place (item ∷ items) (key ∷ keys) =
    with_key master (confounder random place) item key ∷ with_keys master random (place + 1) items keys

-- the record with each of its keys under another master key, of this version, and all else as it was
pub record IsRewrapped (princ : Princ) (old : Key) (version : ℕ) (fresh : Key) (random : List ℕ)
    (result : Princ) : Type 0 where
  pub plain : List Key
  pub held : AllZip (Holds old) princ.keys plain
  pub is : result ≡ record princ { mkvno = version; keys = with_keys fresh random 0 princ.keys plain }
  pub holds : AllZip (Holds fresh) result.keys plain
