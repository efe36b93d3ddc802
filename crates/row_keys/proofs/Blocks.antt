-- What keys take of a block.
use Rattle.std.proofs.Common.{◌≡◌, ℕ, ◌*◌, ◌≤◌, Bool, true, false, List, []}
use Rattle.std.proofs.Common.{◌∷◌, drop, take, length, map, refl, ap, arith}
use Rattle.std.specs.List.{sum_by}
use Rattle.std.proofs.lemmas.List.Sums.{sum_by-cons}
use Rattle.kdb_base.specs.Etypes.{key_len}
use Rattle.kdb_base.specs.Key.{Key}
use Rattle.kdb_base.specs.declared.keys.Etype.{Etype}
use Rattle.kdb_base.specs.EtypeLaws.{key_fits}
use Rattle.plain_keys.specs.Keys.{drawn_len, item_of, items_of, password_keys, random_keys}
use Rattle.plain_keys.specs.declared.items.PlainItem.{PlainItem}
use Rattle.row_keys.specs.Wraps.{taken_len, taken_lens}

pub kept_taken : (keys : List PlainItem) → taken_lens false keys ≡ 16 * length keys
unfolding taken_lens
kept_taken [] = refl
kept_taken (k ∷ keys) = omega (arith, sum_by-cons (taken_len false) k keys, kept_taken keys)

few_each : (drawn : Bool) (k : PlainItem) → taken_len drawn k ≤ 48
few_each true k = omega (arith, key_fits k.key.etype)
few_each false k = omega arith

pub few_taken : (drawn : Bool) (keys : List PlainItem) → taken_lens drawn keys ≤ 48 * length keys
unfolding taken_lens
few_taken drawn [] = omega arith
few_taken drawn (k ∷ keys) = omega (arith, sum_by-cons (taken_len drawn) k keys, few_each drawn k, few_taken drawn keys)

pub drawn_taken : (random : List ℕ) (etypes : List Etype) (kvno : ℕ)
    → taken_lens true (items_of kvno (random_keys random etypes)) ≡ sum_by drawn_len etypes
unfolding taken_lens items_of random_keys
drawn_taken random [] kvno = refl
drawn_taken random (e ∷ etypes) kvno =
    let rest = drop (drawn_len e) random in
    let k : PlainItem = item_of kvno (record { etype = e; bytes = take (key_len e) random }) in
    omega (
      arith,
      sum_by-cons (taken_len true) k (map (item_of kvno) (random_keys rest etypes)),
      sum_by-cons drawn_len e etypes,
      drawn_taken rest etypes kvno,
    )

abbrev type_of : Key → Etype
type_of k = k.etype

pub random_types : (random : List ℕ) (etypes : List Etype) → map type_of (random_keys random etypes) ≡ etypes
unfolding random_keys
random_types random [] = refl
random_types random (e ∷ etypes) = ap (λ (es : List Etype). e ∷ es) (random_types (drop (drawn_len e) random) etypes)

pub password_types : (password salt : List ℕ) (etypes : List Etype)
    → map type_of (password_keys password salt etypes) ≡ etypes
unfolding password_keys
password_types password salt [] = refl
password_types password salt (e ∷ etypes) = ap (λ (es : List Etype). e ∷ es) (password_types password salt etypes)
