-- Keys that commands make, keep and settle are keys that a principal may have.
use Rattle.std.proofs.Common.{◌≡◌, ℕ, suc, ◌+◌, ◌-◌, ◌^◌, ◌<◌, ◌≤◌, Bool, true, false, List}
use Rattle.std.proofs.Common.{[], ◌∷◌, ◌++◌, length, map, refl, sym, ap, ◌∙◌, inl, inr, arith}
use Rattle.std.specs.Prelude.{cond, filter, nat_eq, nat_lt, not, ◌&&◌, ◌||◌}
use Rattle.std.specs.List.{All, AllByRecursion, flat_map, list_all}
use Rattle.std.proofs.lemmas.Bool.{and_from, and_parts, eq-eqb, eqb-true, lt-ltb, ltb-true, or_cases}
use Rattle.std.proofs.lemmas.List.{length-append, length-map, length-take}
use Rattle.std.proofs.lemmas.List.Elements.{All-append, All-cons, All-filter, All-from_recursion}
use Rattle.std.proofs.lemmas.List.Elements.{All-nil, All-take, recursion_from_All}
use Rattle.std.proofs.lemmas.List.Sums.{count_by-le-length, length-filter, sum_by-cons}
use Rattle.kdb_base.specs.Etypes.{number_of}
use Rattle.kdb_base.specs.Key.{Key}
use Rattle.kdb_base.specs.Limits.{most_keys}
use Rattle.kdb_base.specs.declared.keys.Etype.{Etype}
use Rattle.kdb_base.specs.declared.keys.Salt.{Salt}
use Rattle.kdb_base.specs.declared.keys.Salt.TheVariants.{Normal, Special}
use Rattle.princ_keys.specs.Keys.{IsSalt}
use Rattle.princ_name.specs.Bytes.{is_sign, printed_byte}
use Rattle.princ_name.specs.Names.{IsName, NameParts, printed, printed_parts, printed_text}
use Rattle.plain_keys.specs.Keys.{AreOnce, has_kvno, is_from, item_of, items_of, kept_keys, keys_from}
use Rattle.plain_keys.specs.Keys.{newest_keys, newest_kvno, newest_set, normal_salt, remembered}
use Rattle.plain_keys.specs.Keys.{settled_item, settled_items, settled_salt, with_newest}
use Rattle.plain_keys.specs.declared.items.PlainItem.{PlainItem}
use Rattle.plain_keys.specs.declared.items.PlainSet.{PlainSet}
use Rattle.row_keys.specs.Formed.{AreItems, AreSets, IsItem, IsSet, are_ordered, may_follow}
use Rattle.row_keys.proofs.Sides.{kept, left_out, truth}

or_second : (a b : Bool) → b ≡ true → (a || b) ≡ true
or_second true b e = refl
or_second false b e = e

or_first : (a b : Bool) → a ≡ true → (a || b) ≡ true
or_first true b e = refl
or_first false b e = absurd cc

-- ---- types that stand once

abbrev key_type : Key → Etype
key_type k = k.etype

abbrev of_type : Etype → Etype → Bool
of_type etype other = nat_eq (number_of other) (number_of etype)

none_passes : {X : Type 0} (p : X → Bool) (xs : List X) → length (filter p xs) ≡ 0
    → AllByRecursion (λ x. p x ≡ false) xs
none_passes p [] e = tt
none_passes p (x ∷ xs) e =
    elim (truth (p x)) [
      | inl here ↦ absurd (omega (arith, ap length (kept p x xs here)))
      | inr other ↦ (other, none_passes p xs (ap length (sym (left_out p x xs other)) ∙ e))
    ]

once_first : (e : Etype) (etypes : List Etype) → AreOnce (e ∷ etypes)
    → AllByRecursion (λ other. of_type e other ≡ false) etypes
once_first e etypes once =
    let itself : of_type e e ≡ true = eq-eqb (number_of e) (number_of e) refl in
    let more : length (filter (of_type e) (e ∷ etypes)) ≡ suc (length (filter (of_type e) etypes)) =
    ap length (kept (of_type e) e etypes itself) in
    none_passes (of_type e) etypes (omega (arith, once e, length-filter (of_type e) (e ∷ etypes), more))

once_rest : (e : Etype) (etypes : List Etype) → AreOnce (e ∷ etypes) → AreOnce etypes
once_rest e etypes once = λ other.
    let whole = sum_by-cons (λ (x : Etype). cond (of_type other x) 1 0) e etypes in
    omega (arith, once other, whole)

-- ---- new keys before old ones

abbrev IsBelow : ℕ → PlainItem → Type 0
IsBelow kvno k = k.kvno < kvno

follows_new : (kvno : ℕ) (k l : Key) → of_type k.etype l.etype ≡ false
    → may_follow (item_of kvno k) (item_of kvno l) ≡ true
follows_new kvno k l other =
    or_second (nat_lt kvno kvno) (nat_eq kvno kvno && not (of_type k.etype l.etype))
    (and_from (nat_eq kvno kvno) (not (of_type k.etype l.etype)) (eq-eqb kvno kvno refl) (ap not other))

follows_old : (kvno : ℕ) (k : Key) (l : PlainItem) → l.kvno < kvno → may_follow (item_of kvno k) l ≡ true
follows_old kvno k l lt =
    or_first (nat_lt l.kvno kvno) (nat_eq l.kvno kvno && not (of_type k.etype l.key.etype)) (lt-ltb l.kvno kvno lt)

all_old : (kvno : ℕ) (k : Key) (old : List PlainItem) → AllByRecursion (IsBelow kvno) old
    → list_all (may_follow (item_of kvno k)) old ≡ true
all_old kvno k [] h = refl
all_old kvno k (l ∷ old) h = and_from (may_follow (item_of kvno k) l) (list_all (may_follow (item_of kvno k)) old)
    (follows_old kvno k l h.0) (all_old kvno k old h.1)

all_follow : (kvno : ℕ) (k : Key) (keys : List Key) (old : List PlainItem)
    → AllByRecursion (λ other. of_type k.etype other ≡ false) (map key_type keys) → AllByRecursion (IsBelow kvno) old
    → list_all (may_follow (item_of kvno k)) (map (item_of kvno) keys ++ old) ≡ true
all_follow kvno k [] old others h = all_old kvno k old h
all_follow kvno k (l ∷ keys) old others h =
    and_from (may_follow (item_of kvno k) (item_of kvno l))
    (list_all (may_follow (item_of kvno k)) (map (item_of kvno) keys ++ old)) (follows_new kvno k l others.0)
    (all_follow kvno k keys old others.1 h)

new_ordered : (kvno : ℕ) (keys : List Key) (old : List PlainItem) → AreOnce (map key_type keys)
    → AllByRecursion (IsBelow kvno) old → are_ordered old ≡ true → are_ordered (map (item_of kvno) keys ++ old) ≡ true
unfolding are_ordered
new_ordered kvno [] old once h e = e
new_ordered kvno (k ∷ keys) old once h e =
    and_from (list_all (may_follow (item_of kvno k)) (map (item_of kvno) keys ++ old))
    (are_ordered (map (item_of kvno) keys ++ old))
    (all_follow kvno k keys old (once_first k.etype (map key_type keys) once) h)
    (new_ordered kvno keys old (once_rest k.etype (map key_type keys) once) h e)

follower_below : (k l : PlainItem) → may_follow k l ≡ true → l.kvno ≤ k.kvno
follower_below k l f =
    elim (or_cases (nat_lt l.kvno k.kvno) (nat_eq l.kvno k.kvno && not (of_type k.key.etype l.key.etype)) f) [
      | inl lt ↦ let less = ltb-true _ _ lt in omega arith
      | inr eq ↦ let same =
          eqb-true _ _ (and_parts (nat_eq l.kvno k.kvno) (not (of_type k.key.etype l.key.etype)) eq).0 in omega arith
    ]

followers_below : (k : PlainItem) (keys : List PlainItem) (kvno : ℕ) → k.kvno < kvno
    → list_all (may_follow k) keys ≡ true → AllByRecursion (IsBelow kvno) keys
followers_below k [] kvno lt e = tt
followers_below k (l ∷ keys) kvno lt e =
    let both = and_parts (may_follow k l) (list_all (may_follow k) keys) e in
    let le = follower_below k l both.0 in
    (omega arith, followers_below k keys kvno lt both.1)

-- old versions are below the next one
old_below : (keys : List PlainItem) → are_ordered keys ≡ true → AllByRecursion (IsBelow (newest_kvno keys + 1)) keys
unfolding are_ordered
old_below [] e = tt
old_below (k ∷ keys) e = (
  omega arith,
  followers_below k keys (k.kvno + 1) (omega arith) (and_parts (list_all (may_follow k) keys) (are_ordered keys) e).0,
)

new_each : (kvno : ℕ) (keys : List Key) → 0 < kvno → kvno < 2 ^ 16 → All IsItem (map (item_of kvno) keys)
new_each kvno [] some short = All-nil IsItem
new_each kvno (k ∷ keys) some short = All-cons IsItem (item_of kvno k) (map (item_of kvno) keys)
    (record { from_one = some; kvno = short; salt = record { short = omega arith } }) (new_each kvno keys some short)

no_items : AreItems []
unfolding are_ordered
no_items = record { few = omega arith; each = All-nil IsItem; ordered = refl }

kept_formed : (keep : Bool) (old : List PlainItem) → AreItems old → AreItems (kept_keys keep old)
kept_formed true old f = f
kept_formed false old f = no_items

kept_below : (keep : Bool) (old : List PlainItem) (kvno : ℕ) → AllByRecursion (IsBelow kvno) old
    → AllByRecursion (IsBelow kvno) (kept_keys keep old)
kept_below true old kvno h = h
kept_below false old kvno h = tt

pub new_formed : (keys : List Key) (old : List PlainItem) (keep : Bool) → AreItems old → newest_kvno old < 65535
    → AreOnce (map key_type keys) → length keys + length (kept_keys keep old) ≤ most_keys
    → AreItems (items_of (newest_kvno old + 1) keys ++ kept_keys keep old)
unfolding items_of
new_formed keys old keep f lt once few =
    let kvno = newest_kvno old + 1 in
    let rest = kept_formed keep old f in
    record {
      few = omega (arith, length-append (map (item_of kvno) keys) (kept_keys keep old), length-map keys (item_of kvno));
      each = All-append IsItem (map (item_of kvno) keys) (kept_keys keep old)
          (new_each kvno keys (omega arith) (omega arith)) rest.each;
      ordered = new_ordered kvno keys (kept_keys keep old) once
          (kept_below keep old kvno (old_below old f.ordered)) rest.ordered;
    }

-- ---- keys from a version on

all_passed : (p : PlainItem → Bool) (q : PlainItem → Bool) (keys : List PlainItem) → list_all q keys ≡ true
    → list_all q (filter p keys) ≡ true
all_passed p q [] e = refl
all_passed p q (k ∷ keys) e =
    let both = and_parts (q k) (list_all q keys) e in
    let rest = all_passed p q keys both.1 in
    elim (truth (p k)) [
      | inl here ↦ ap (list_all q) (kept p k keys here) ∙ and_from (q k) (list_all q (filter p keys)) both.0 rest
      | inr other ↦ ap (list_all q) (left_out p k keys other) ∙ rest
    ]

passed_ordered : (p : PlainItem → Bool) (keys : List PlainItem) → are_ordered keys ≡ true
    → are_ordered (filter p keys) ≡ true
unfolding are_ordered
passed_ordered p [] e = refl
passed_ordered p (k ∷ keys) e =
    let both = and_parts (list_all (may_follow k) keys) (are_ordered keys) e in
    let rest = passed_ordered p keys both.1 in
    elim (truth (p k)) [
      | inl here ↦ ap are_ordered (kept p k keys here) ∙ and_from (list_all (may_follow k) (filter p keys))
          (are_ordered (filter p keys)) (all_passed p (may_follow k) keys both.0) rest
      | inr other ↦ ap are_ordered (left_out p k keys other) ∙ rest
    ]

pub from_formed : (kvno : ℕ) (keys : List PlainItem) → AreItems keys → AreItems (keys_from kvno keys)
unfolding keys_from
from_formed kvno keys f = record {
  few = let few = f.few in omega (arith, length-filter (is_from kvno) keys, count_by-le-length (is_from kvno) keys);
  each = All-filter (is_from kvno) IsItem keys f.each;
  ordered = passed_ordered (is_from kvno) keys f.ordered;
}

-- ---- settled salts

some_printed : (b : ℕ) → 1 ≤ length (printed_byte b)
unfolding printed_byte
some_printed b =
    elim (truth (nat_eq b 10)) [
      | inl e ↦ rw e (omega arith)
      | inr a ↦ rw a (some_tab b)
    ]
  where
    some_sign : (b : ℕ) → 1 ≤ length (cond (is_sign b) (92 ∷ b ∷ []) (b ∷ []))
    some_sign b = elim (truth (is_sign b)) [
      | inl e ↦ rw e (omega arith)
      | inr e ↦ rw e (omega arith)
    ]

    some_nul : (b : ℕ) → 1 ≤ length (cond (nat_eq b 0) (92 ∷ 48 ∷ []) (cond (is_sign b) (92 ∷ b ∷ []) (b ∷ [])))
    some_nul b = elim (truth (nat_eq b 0)) [
      | inl e ↦ rw e (omega arith)
      | inr e ↦ rw e (some_sign b)
    ]

    some_back : (b : ℕ) → 1 ≤ length
        (cond (nat_eq b 8) (92 ∷ 98 ∷ []) (cond (nat_eq b 0) (92 ∷ 48 ∷ []) (cond (is_sign b) (92 ∷ b ∷ []) (b ∷ []))))
    some_back b = elim (truth (nat_eq b 8)) [
      | inl e ↦ rw e (omega arith)
      | inr e ↦ rw e (some_nul b)
    ]

    some_tab : (b : ℕ) → 1 ≤ length (cond (nat_eq b 9) (92 ∷ 116 ∷ [])
        (cond (nat_eq b 8) (92 ∷ 98 ∷ []) (cond (nat_eq b 0) (92 ∷ 48 ∷ []) (cond (is_sign b) (92 ∷ b ∷ []) (b ∷ [])))))
    some_tab b = elim (truth (nat_eq b 9)) [
      | inl e ↦ rw e (omega arith)
      | inr e ↦ rw e (some_back b)
    ]

text_longer : (text : List ℕ) → length text ≤ length (printed_text text)
unfolding printed_text
text_longer [] = omega arith
text_longer (b ∷ text) =
    omega (arith, length-append (printed_byte b) (flat_map printed_byte text), some_printed b, text_longer text)

parts_longer : (parts : List (List ℕ)) → length (flat_map (λ part. part) parts) ≤ length (printed_parts parts)
unfolding printed_parts
parts_longer [] = omega arith
parts_longer (part ∷ []) = omega (arith, length-append part [], text_longer part)
parts_longer (part ∷ next ∷ parts) =
    omega (
      arith,
      length-append part (flat_map (λ p. p) (next ∷ parts)),
      length-append (printed_text part) (47 ∷ printed_parts (next ∷ parts)),
      text_longer part,
      parts_longer (next ∷ parts),
    )

salt_short : (name : NameParts) → IsName name → length (normal_salt name) < 2 ^ 16
unfolding normal_salt printed
salt_short name is =
    let short = is.short in
    omega (
      arith,
      length-append name.realm (flat_map (λ part. part) name.parts),
      length-append (printed_parts name.parts) (64 ∷ printed_text name.realm),
      text_longer name.realm,
      parts_longer name.parts,
    )

settled_short : (name : NameParts) (salt : Salt) → IsName name → IsSalt salt → IsSalt (settled_salt name salt)
settled_short name Normal is f = record { short = salt_short name is }
settled_short name (Special bytes) is f = f

settled_each : (name : NameParts) (keys : List PlainItem) → IsName name → AllByRecursion IsItem keys
    → AllByRecursion IsItem (map (settled_item name) keys)
settled_each name [] is h = tt
settled_each name (k ∷ keys) is h = (
  record { from_one = h.0.from_one; kvno = h.0.kvno; salt = settled_short name k.salt is h.0.salt },
  settled_each name keys is h.1,
)

settled_all : (name : NameParts) (k : PlainItem) (keys : List PlainItem)
    → list_all (may_follow (settled_item name k)) (map (settled_item name) keys) ≡ list_all (may_follow k) keys
settled_all name k [] = refl
settled_all name k (l ∷ keys) = ap (λ (b : Bool). may_follow k l && b) (settled_all name k keys)

settled_ordered : (name : NameParts) (keys : List PlainItem)
    → are_ordered (map (settled_item name) keys) ≡ are_ordered keys
unfolding are_ordered
settled_ordered name [] = refl
settled_ordered name (k ∷ keys) =
    ap (λ (b : Bool). b && are_ordered (map (settled_item name) keys)) (settled_all name k keys)
    ∙ ap (λ (b : Bool). list_all (may_follow k) keys && b) (settled_ordered name keys)

pub settled_formed : (name : NameParts) (keys : List PlainItem) → IsName name → AreItems keys
    → AreItems (settled_items name keys)
unfolding settled_items
settled_formed name keys is f = record {
  few = let few = f.few in omega (arith, length-map keys (settled_item name));
  each = All-from_recursion IsItem (map (settled_item name) keys)
      (settled_each name keys is (recursion_from_All IsItem keys f.each));
  ordered = settled_ordered name keys ∙ f.ordered;
}

-- ---- remembered sets

pub newest_few : (keys : List PlainItem) → length (newest_keys keys) ≤ length keys
unfolding newest_keys
newest_few keys =
    omega (
      arith,
      length-map (filter (has_kvno (newest_kvno keys)) keys) (λ (k : PlainItem). k.key),
      length-filter (has_kvno (newest_kvno keys)) keys,
      count_by-le-length (has_kvno (newest_kvno keys)) keys,
    )

newest_short : (keys : List PlainItem) → AllByRecursion IsItem keys → newest_kvno keys < 2 ^ 16
newest_short [] h = omega arith
newest_short (k ∷ keys) h = h.0.kvno

newest_formed : (keys : List PlainItem) → AreItems keys → IsSet (newest_set keys)
newest_formed keys f =
    let few = f.few in
    record { kvno = newest_short keys (recursion_from_All IsItem keys f.each); count = omega (arith, newest_few keys) }

with_formed : (keys : List PlainItem) (old : List PlainSet) → AreItems keys → All IsSet old
    → All IsSet (with_newest keys old)
with_formed [] old f h = h
with_formed (k ∷ keys) old f h = All-cons IsSet (newest_set (k ∷ keys)) old (newest_formed (k ∷ keys) f) h

pub remembered_formed : (count : ℕ) (keys : List PlainItem) (old : List PlainSet) → count ≤ 16 → AreItems keys
    → AreSets old → AreSets (remembered count keys old)
unfolding remembered
remembered_formed count keys old le f g = record {
  few = omega (arith, length-take (count - 1) (with_newest keys old));
  each = All-take IsSet (count - 1) (with_newest keys old) (with_formed keys old f g.each);
}
