-- The versions of the keys that commands make, keep and leave never rise.
use Rattle.std.proofs.Common.{◌≡◌, ℕ, ◌+◌, ◌≤◌, Bool, true, false, ◌&&◌, List, [], ◌∷◌}
use Rattle.std.proofs.Common.{◌++◌, map, refl, sym, ap, ◌∙◌, ◌⊎◌, inl, inr, arith}
use Rattle.std.specs.Prelude.{filter, nat_le}
use Rattle.std.specs.List.{list_all}
use Rattle.std.proofs.lemmas.Bool.{and_from, and_parts, le-leb, leb-true}
use Rattle.kdb_base.specs.Key.{Key}
use Rattle.plain_keys.specs.Keys.{item_of, items_of, keys_from, kept_keys}
use Rattle.plain_keys.specs.Keys.{newest_kvno, settled_item, settled_items, is_from}
use Rattle.kdb_plain.specs.States.{may_follow, never_rise}
use Rattle.plain_keys.specs.declared.items.PlainItem.{PlainItem}
use Rattle.princ_name.specs.Names.{NameParts}
use Rattle.kdb_model.proofs.Stepping.{truth}

abbrev up_to : ℕ → PlainItem → Bool
up_to kvno k = nat_le k.kvno kvno

each_new : (kvno : ℕ) (keys : List Key) (old : List PlainItem) → list_all (up_to kvno) old ≡ true
    → list_all (up_to kvno) (map (item_of kvno) keys ++ old) ≡ true
each_new kvno [] old low = low
each_new kvno (key ∷ keys) old low =
    and_from (nat_le kvno kvno) (list_all (up_to kvno) (map (item_of kvno) keys ++ old))
    (le-leb kvno kvno (omega arith)) (each_new kvno keys old low)

-- new keys of one version before keys of versions up to it
pub front_falls : (kvno : ℕ) (keys : List Key) (old : List PlainItem) → list_all (up_to kvno) old ≡ true
    → never_rise old ≡ true → never_rise (items_of kvno keys ++ old) ≡ true
unfolding never_rise items_of
front_falls kvno [] old low falls = falls
front_falls kvno (key ∷ keys) old low falls =
    and_from (list_all (up_to kvno) (map (item_of kvno) keys ++ old)) (never_rise (map (item_of kvno) keys ++ old))
    (each_new kvno keys old low) (front_falls kvno keys old low falls)

-- new keys alone
pub new_falls : (kvno : ℕ) (keys : List Key) → never_rise (items_of kvno keys) ≡ true
unfolding never_rise items_of
new_falls kvno [] = refl
new_falls kvno (key ∷ keys) = and_from (list_all (up_to kvno) (map (item_of kvno) keys))
    (never_rise (map (item_of kvno) keys)) (alone keys) (new_falls kvno keys)
  where
    alone : (ks : List Key) → list_all (up_to kvno) (map (item_of kvno) ks) ≡ true
    alone [] = refl
    alone (k ∷ ks) = and_from (nat_le kvno kvno) (list_all (up_to kvno) (map (item_of kvno) ks))
        (le-leb kvno kvno (omega arith)) (alone ks)

higher : (low high : ℕ) (keys : List PlainItem) → low ≤ high → list_all (up_to low) keys ≡ true
    → list_all (up_to high) keys ≡ true
higher low high [] le e = refl
higher low high (k ∷ keys) le e =
    let parts = and_parts (nat_le k.kvno low) (list_all (up_to low) keys) e in
    and_from (nat_le k.kvno high) (list_all (up_to high) keys)
    (le-leb k.kvno high (omega (arith, leb-true k.kvno low parts.0))) (higher low high keys le parts.1)

-- keys that fall are up to the first
pub up_to_newest : (keys : List PlainItem) → never_rise keys ≡ true
    → list_all (up_to (newest_kvno keys + 1)) keys ≡ true
unfolding never_rise
up_to_newest [] e = refl
up_to_newest (k ∷ keys) e =
    let parts = and_parts (list_all (may_follow k) keys) (never_rise keys) e in
    and_from (nat_le k.kvno (k.kvno + 1)) (list_all (up_to (k.kvno + 1)) keys)
    (le-leb k.kvno (k.kvno + 1) (omega arith)) (higher k.kvno (k.kvno + 1) keys (omega arith) parts.0)

pub kept_low : (keep : Bool) (keys : List PlainItem) → never_rise keys ≡ true
    → list_all (up_to (newest_kvno keys + 1)) (kept_keys keep keys) ≡ true
kept_low true keys e = up_to_newest keys e
kept_low false keys e = refl

pub kept_falls : (keep : Bool) (keys : List PlainItem) → never_rise keys ≡ true
    → never_rise (kept_keys keep keys) ≡ true
unfolding never_rise
kept_falls true keys e = e
kept_falls false keys e = refl

-- ---- some left out

all_filter : (t p : PlainItem → Bool) (keys : List PlainItem) → list_all t keys ≡ true
    → list_all t (filter p keys) ≡ true
all_filter t p [] e = refl
all_filter t p (k ∷ keys) e =
    let parts = and_parts (t k) (list_all t keys) e in
    elim (truth (p k)) [
      | inl is ↦ rw is (and_from (t k) (list_all t (filter p keys)) parts.0 (all_filter t p keys parts.1))
      | inr not ↦ rw not (all_filter t p keys parts.1)
    ]

filter_falls : (p : PlainItem → Bool) (keys : List PlainItem) → never_rise keys ≡ true
    → never_rise (filter p keys) ≡ true
unfolding never_rise
filter_falls p [] e = refl
filter_falls p (k ∷ keys) e =
    let parts = and_parts (list_all (may_follow k) keys) (never_rise keys) e in
    elim (truth (p k)) [
      | inl is ↦ rw is (and_from (list_all (may_follow k) (filter p keys)) (never_rise (filter p keys))
          (all_filter (may_follow k) p keys parts.0) (filter_falls p keys parts.1))
      | inr not ↦ rw not (filter_falls p keys parts.1)
    ]

pub from_falls : (kvno : ℕ) (keys : List PlainItem) → never_rise keys ≡ true → never_rise (keys_from kvno keys) ≡ true
unfolding keys_from
from_falls kvno keys e = filter_falls (is_from kvno) keys e

-- ---- other salts

each_settled : (name : NameParts) (kvno : ℕ) (keys : List PlainItem)
    → list_all (up_to kvno) (map (settled_item name) keys) ≡ list_all (up_to kvno) keys
each_settled name kvno [] = refl
each_settled name kvno (k ∷ keys) = ap (λ (b : Bool). nat_le k.kvno kvno && b) (each_settled name kvno keys)

pub settled_falls : (name : NameParts) (keys : List PlainItem) → never_rise keys ≡ true
    → never_rise (settled_items name keys) ≡ true
unfolding never_rise settled_items
settled_falls name [] e = refl
settled_falls name (k ∷ keys) e =
    let parts = and_parts (list_all (may_follow k) keys) (never_rise keys) e in
    and_from (list_all (up_to k.kvno) (map (settled_item name) keys)) (never_rise (map (settled_item name) keys))
    (each_settled name k.kvno keys ∙ parts.0) (settled_falls name keys parts.1)
