-- Keys that stay as they are wrapped show the plain keys that stay.
use Rattle.std.proofs.Common.{ℕ, List, ap}
use Rattle.std.specs.Prelude.{nat_le}
use Rattle.std.specs.List.{AllZip}
use Rattle.kdb_base.specs.Key.{Key}
use Rattle.princ_name.specs.Names.{NameParts}
use Rattle.princ_keys.specs.declared.keys.KeyItem.{KeyItem}
use Rattle.plain_keys.specs.Keys.{is_from, keys_from, settled_item, settled_items, settled_salt}
use Rattle.plain_keys.specs.declared.items.PlainItem.{PlainItem}
use Rattle.row_keys.specs.KeptKeys.{is_kept_from, kept_from, settled_kept, settled_keys}
use Rattle.row_keys.specs.Shows.{ShowsItem}
use Rattle.row_keys.proofs.Sides.{zip_filter, zip_map}

pub from_shows : (master : Key) (kvno : ℕ) (items : List KeyItem) (plain : List PlainItem)
    → AllZip (ShowsItem master) items plain → AllZip (ShowsItem master) (kept_from kvno items) (keys_from kvno plain)
unfolding kept_from keys_from
from_shows master kvno items plain h =
    zip_filter (ShowsItem master) (is_kept_from kvno) (is_from kvno)
    (λ item k f. ap (λ n. nat_le kvno n) f.kvno) items plain h

pub settled_shows : (master : Key) (name : NameParts) (items : List KeyItem) (plain : List PlainItem)
    → AllZip (ShowsItem master) items plain
    → AllZip (ShowsItem master) (settled_keys name items) (settled_items name plain)
unfolding settled_keys settled_items
settled_shows master name items plain h =
    zip_map (ShowsItem master) (ShowsItem master) (settled_kept name) (settled_item name)
    (λ item k f. record { kvno = f.kvno; salt = ap (settled_salt name) f.salt; holds = f.holds }) items plain h
