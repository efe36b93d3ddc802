-- The spellings of keys have these lengths, and lists of them are within bounds.
use Rattle.std.proofs.Common.{◌≡◌, ℕ, ◌+◌, ◌*◌, ◌^◌, ◌<◌, ◌≤◌, List, [], ◌∷◌, ◌++◌, length, refl, arith}
use Rattle.std.specs.List.{All, sum_by}
use Rattle.std.proofs.lemmas.List.{length-append}
use Rattle.std.proofs.lemmas.List.Sums.{sum_by-le, sum_by-cons}
use Rattle.std.proofs.lemmas.List.Elements.{All-from_recursion, recursion_from_All}
use Rattle.std.specs.List.{AllByRecursion}
use Rattle.kdb_base.specs.Etypes.{number_of}
use Rattle.kdb_format.specs.Etypes.{etype_text}
use Rattle.kdb_format.specs.Spellings.{big, counted, counted_list}
use Rattle.kdb_format.specs.Numbers.{length-big}
use Rattle.kdb_format.specs.Lengths.{length-counted, length-counted_list}
use Rattle.princ_keys.specs.Keys.{salt, salt_kind, salt_bytes, key, IsKey, keys_text, AreKeys}
use Rattle.princ_keys.specs.Remembered.{old_key, IsOldKey, old_set, IsOldSet, old_sets, AreOldSets}
use Rattle.princ_keys.specs.declared.keys.KeyItem.{KeyItem}
use Rattle.princ_keys.specs.declared.remembered.OldKey.{OldKey}
use Rattle.princ_keys.specs.declared.remembered.OldSet.{OldSet}
use Rattle.princ_keys.specs.Sizes.{key_len, old_key_len, old_set_len}

-- ---- keys

pub length-key : (k : KeyItem) → length (key k) ≡ key_len k
unfolding key etype_text salt
length-key k =
    omega (
      arith,
      length-append (big 2 k.kvno) (big 2 (number_of k.etype)
          ++ ((big 2 (salt_kind k.salt) ++ counted (salt_bytes k.salt)) ++ counted k.wrapped)),
      length-append (big 2 (number_of k.etype))
          ((big 2 (salt_kind k.salt) ++ counted (salt_bytes k.salt)) ++ counted k.wrapped),
      length-append (big 2 (salt_kind k.salt) ++ counted (salt_bytes k.salt)) (counted k.wrapped),
      length-append (big 2 (salt_kind k.salt)) (counted (salt_bytes k.salt)),
      length-big 2 k.kvno,
      length-big 2 (number_of k.etype),
      length-big 2 (salt_kind k.salt),
      length-counted (salt_bytes k.salt),
      length-counted k.wrapped,
    )

same_sums : {A : Type 0} (f g : A → ℕ) → ((x : A) → f x ≡ g x) → (xs : List A) → sum_by f xs ≡ sum_by g xs
same_sums f g same [] = refl
same_sums f g same (x ∷ xs) = omega (arith, sum_by-cons f x xs, sum_by-cons g x xs, same x, same_sums f g same xs)

all_at_most : {A : Type 0} {F : A → Type 0} (f : A → ℕ) (most : ℕ) → ((x : A) → F x → f x ≤ most) → (xs : List A)
    → AllByRecursion F xs → AllByRecursion (λ x. f x ≤ most) xs
all_at_most f most le [] h = tt
all_at_most f most le (x ∷ xs) h = (le x h.0, all_at_most f most le xs h.1)

bounded_sum : {A : Type 0} {F : A → Type 0} (f : A → ℕ) (most : ℕ) → ((x : A) → F x → f x ≤ most) → (xs : List A)
    → All F xs → sum_by f xs ≤ length xs * most
bounded_sum {F = F} f most le xs h =
    sum_by-le f most xs (All-from_recursion (λ x. f x ≤ most) xs (all_at_most f most le xs (recursion_from_All F xs h)))

pub length-keys_text : (keys : List KeyItem) → length (keys_text keys) ≡ 2 + sum_by key_len keys
unfolding keys_text
length-keys_text keys =
    omega (arith, length-counted_list 2 key keys, same_sums (λ (k : KeyItem). length (key k)) key_len length-key keys)

key_short : (k : KeyItem) → IsKey k → key_len k ≤ 200000
key_short k f = let a = f.salt.short in let b = f.wrapped in omega arith

pub keys_short : (keys : List KeyItem) → AreKeys keys → sum_by key_len keys ≤ 2 ^ 23
keys_short keys f =
    let few = f.few in
    let total : sum_by key_len keys ≤ length keys * 200000 = bounded_sum key_len 200000 key_short keys f.each in
    omega arith

-- ---- remembered keys

pub length-old_key : (k : OldKey) → length (old_key k) ≡ old_key_len k
unfolding old_key etype_text
length-old_key k = omega (
  arith,
  length-append (big 2 (number_of k.etype)) (counted k.wrapped),
  length-big 2 (number_of k.etype),
  length-counted k.wrapped,
)

pub length-old_set : (s : OldSet) → length (old_set s) ≡ old_set_len s
unfolding old_set
length-old_set s =
    omega (
      arith,
      length-append (big 2 s.kvno) (counted_list 2 old_key s.keys),
      length-big 2 s.kvno,
      length-counted_list 2 old_key s.keys,
      same_sums (λ (k : OldKey). length (old_key k)) old_key_len length-old_key s.keys,
    )

pub length-old_sets : (sets : List OldSet) → length (old_sets sets) ≡ 2 + sum_by old_set_len sets
unfolding old_sets
length-old_sets sets = omega (
  arith,
  length-counted_list 2 old_set sets,
  same_sums (λ (s : OldSet). length (old_set s)) old_set_len length-old_set sets,
)

old_key_short : (k : OldKey) → IsOldKey k → old_key_len k ≤ 100000
old_key_short k f = let a = f.wrapped in omega arith

pub old_keys_short : (keys : List OldKey) → length keys < 2 ^ 16 → All IsOldKey keys → sum_by old_key_len keys ≤ 2 ^ 34
old_keys_short keys lt f =
    let total : sum_by old_key_len keys ≤ length keys * 100000 = bounded_sum old_key_len 100000 old_key_short keys f in
    omega arith

old_set_short : (s : OldSet) → IsOldSet s → old_set_len s ≤ 2 ^ 35
old_set_short s f = let a = old_keys_short s.keys f.count f.keys in omega arith

pub old_sets_short : (sets : List OldSet) → AreOldSets sets → sum_by old_set_len sets ≤ 2 ^ 39
old_sets_short sets f =
    let few = f.few in
    let total : sum_by old_set_len sets ≤ length sets * 2 ^ 35 =
    bounded_sum old_set_len (2 ^ 35) old_set_short sets f.each in
    omega arith
