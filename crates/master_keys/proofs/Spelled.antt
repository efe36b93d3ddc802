-- Records of chains, and records with keys wrapped anew, have spellings.
use Rattle.std.proofs.Common.{◌≡◌, ℕ, ◌+◌, ◌^◌, ◌<◌, ◌≤◌, Bool, true, false, List, [], ◌∷◌, ◌++◌}
use Rattle.std.proofs.Common.{length, map, reverse, Some, refl, sym, ap, subst, ◌∙◌, arith}
use Rattle.std.specs.Prelude.{is_some}
use Rattle.std.specs.List.{All, AllByRecursion, AllZip, list_all}
use Rattle.std.proofs.lemmas.Bool.{and_from, and_parts, both_ways, eq-eqb, or_left}
use Rattle.std.proofs.lemmas.List.{length-append, length-reverse, map-append, reverse-append, reverse-reverse}
use Rattle.std.proofs.lemmas.List.Elements.{All-from_recursion, recursion_from_All}
use Rattle.std.proofs.lemmas.List.Sorted.{All-permutation, IsPermutation-reverse}
use Rattle.std.proofs.lemmas.List.Sums.{sum_by-le}
use Rattle.std.proofs.lemmas.Option.{same_Some}
use Rattle.std.specs.List.Sorted.{IsStrictlySortedBy}
use Rattle.kdb_base.specs.Key.{Key}
use Rattle.kdb_base.specs.Versions.{AreRising}
use Rattle.kdb_base.specs.declared.versions.AuxKey.{AuxKey}
use Rattle.kdb_base.specs.declared.versions.Master.{Master}
use Rattle.tagged_data.specs.Numbers.{IsVersion}
use Rattle.tagged_data.specs.Versions.{AreActivations, IsAuxKey, activations_text, length-aux_keys_text}
use Rattle.princ_record.specs.Facts.{IsChain as IsPart}
use Rattle.princ_keys.specs.Keys.{IsKey, IsSalt, are_falling, are_ordered, begins_at, is_below, may_follow}
use Rattle.princ_record.specs.Princs.{IsPrinc}
use Rattle.princ_name.specs.Printed.{is_master}
use Rattle.princ_record.specs.declared.facts.ChainPart.{ChainPart}
use Rattle.princ_keys.specs.declared.keys.KeyItem.{KeyItem}
use Rattle.princ_record.specs.declared.princs.Princ.{Princ}
use Rattle.master_keys.specs.Chain.{IsAuxOf, IsChain, IsKeyOf}
use Rattle.master_keys.specs.Lengths.{few_bytes, short_blob}
use Rattle.master_keys.specs.Rewrapping.{Holds, IsRewrapped, with_key, with_keys}
use Rattle.master_keys.proofs.SideBySide.{zip_length}

-- ---- by versions

pub all_to : {A : Type 0} (p q : A → Bool) → ((x : A) → p x ≡ true → q x ≡ true) → (xs : List A) → list_all p xs ≡ true
    → list_all q xs ≡ true
all_to p q to [] h = refl
all_to p q to (x ∷ xs) h =
    let parts = and_parts (p x) (list_all p xs) h in
    and_from (q x) (list_all q xs) (to x parts.0) (all_to p q to xs parts.1)

-- what falls is in order
pub falling_ordered : (keys : List KeyItem) → are_falling keys ≡ true → are_ordered keys ≡ true
unfolding are_falling are_ordered
falling_ordered [] h = refl
falling_ordered (k ∷ keys) h =
    let parts = and_parts (list_all (is_below k) keys) (are_falling keys) h in
    and_from (list_all (may_follow k) keys) (are_ordered keys)
    (all_to (is_below k) (may_follow k) (λ x e. or_left (is_below k x) _ e) keys parts.0) (falling_ordered keys parts.1)

front_all : {A : Type 0} (P : A → Type 0) (xs : List A) (x : A) → AllByRecursion P (xs ++ x ∷ []) → AllByRecursion P xs
front_all P [] x h = tt
front_all P (y ∷ xs) x h = (h.0, front_all P xs x h.1)

rising_front : (xs : List ℕ) (x : ℕ) → AreRising (xs ++ x ∷ []) → AreRising xs
unfolding IsStrictlySortedBy
rising_front [] x h = tt
rising_front (y ∷ xs) x h = (front_all _ xs x h.0, rising_front xs x h.1)

-- the versions before the last rise
older_rises : (older : List Master) (last : Master) → AreRising (map (λ m. m.version) (older ++ last ∷ []))
    → AreRising (map (λ m. m.version) older)
older_rises older last h =
    let version : Master → ℕ = λ (m : Master). m.version in
    rising_front (map version older) last.version (subst AreRising (map-append version older (last ∷ [])) h)

-- ---- keys wrapped anew

module _ (master : Key) (random : List ℕ) where
  pub all_with : (p : KeyItem → Bool) → ((item : KeyItem) (blob : List ℕ) → p (record item { wrapped = blob }) ≡ p item)
      → (place : ℕ) (items : List KeyItem) (keys : List Key) → list_all p items ≡ true
      → list_all p (with_keys master random place items keys) ≡ true
  unfolding with_keys with_key
  all_with p same place [] keys h = refl
  all_with p same place (item ∷ items) [] h = refl
  all_with p same place (item ∷ items) (key ∷ keys) h =
      let parts = and_parts (p item) (list_all p items) h in
      and_from (p _) (list_all p (with_keys master random (place + 1) items keys)) (same item _ ∙ parts.0)
      (all_with p same (place + 1) items keys parts.1)

  pub falling_with : (place : ℕ) (items : List KeyItem) (keys : List Key) → are_falling items ≡ true
      → are_falling (with_keys master random place items keys) ≡ true
  unfolding are_falling with_keys with_key
  falling_with place [] keys h = refl
  falling_with place (item ∷ items) [] h = refl
  falling_with place (item ∷ items) (key ∷ keys) h =
      let parts = and_parts (list_all (is_below item) items) (are_falling items) h in
      and_from _ (are_falling (with_keys master random (place + 1) items keys)) (all_with (is_below item) (λ _ _. refl)
      (place + 1) items keys parts.0) (falling_with (place + 1) items keys parts.1)

  ordered_with : (place : ℕ) (items : List KeyItem) (keys : List Key) → are_ordered items ≡ true
      → are_ordered (with_keys master random place items keys) ≡ true
  unfolding are_ordered with_keys with_key
  ordered_with place [] keys h = refl
  ordered_with place (item ∷ items) [] h = refl
  ordered_with place (item ∷ items) (key ∷ keys) h =
      let parts = and_parts (list_all (may_follow item) items) (are_ordered items) h in
      and_from _ (are_ordered (with_keys master random (place + 1) items keys))
      (all_with (may_follow item) (λ _ _. refl) (place + 1) items keys parts.0)
      (ordered_with (place + 1) items keys parts.1)

  pub salts_with : (place : ℕ) (items : List KeyItem) (keys : List Key) → AllByRecursion IsKey items
      → AllByRecursion (λ k. IsSalt k.salt) (with_keys master random place items keys)
  unfolding with_keys with_key
  salts_with place [] keys h = tt
  salts_with place (item ∷ items) [] h = tt
  salts_with place (item ∷ items) (key ∷ keys) h = (h.0.salt, salts_with (place + 1) items keys h.1)

  each_with : (place : ℕ) (items : List KeyItem) (keys : List Key)
      → AllByRecursion IsKey items → AllZip (Holds master) (with_keys master random place items keys) keys
      → AllByRecursion IsKey (with_keys master random place items keys)
  unfolding with_keys with_key
  each_with place [] keys h holds = tt
  each_with place (item ∷ items) [] h holds = tt
  each_with place (item ∷ items) (key ∷ keys) h holds = (
    record { from_one = h.0.from_one; kvno = h.0.kvno; salt = h.0.salt; wrapped = short_blob holds.0 },
    each_with (place + 1) items keys h.1 holds.1,
  )

  few_with : (place : ℕ) (items : List KeyItem) (keys : List Key)
      → length (with_keys master random place items keys) ≤ length items
  unfolding with_keys
  few_with place [] keys = omega arith
  few_with place (item ∷ items) [] = omega arith
  few_with place (item ∷ items) (key ∷ keys) = let more = few_with (place + 1) items keys in omega arith

-- a record other than K/M's, wrapped anew
pub rewrapped_spelled : (princ p : Princ) (old fresh : Key) (version : ℕ) (random : List ℕ)
    → IsRewrapped princ old version fresh random p → IsPrinc princ → is_some princ.chain ≡ false → 0 < version
    → version < 2 ^ 16 → IsPrinc p
rewrapped_spelled princ p old fresh version random r f none some short =
    let holds = subst (λ (q : Princ). AllZip (Holds fresh) q.keys r.plain) r.is r.holds in
    let few = few_with fresh random 0 princ.keys r.plain in
    let room = f.keys.few in
    subst IsPrinc (sym r.is) (record {
      name = f.name;
      attributes = f.attributes;
      attributes_short = f.attributes_short;
      lives = f.lives;
      facts = record {
        pw_changed = f.facts.pw_changed;
        modified = f.facts.modified;
        modifier = f.facts.modifier;
        mkvno = record { some = some; short = short };
        chain_there = f.facts.chain_there;
        chain = f.facts.chain;
        strings = f.facts.strings;
        no_strings = f.facts.no_strings;
      };
      keys = record {
        few = omega arith;
        each = All-from_recursion IsKey (with_keys fresh random 0 princ.keys r.plain)
            (each_with fresh random 0 princ.keys r.plain (recursion_from_All IsKey princ.keys f.keys.each) holds);
        ordered = ordered_with fresh random 0 princ.keys r.plain f.keys.ordered;
      };
      masters = λ is. absurd (both_ways (is_master princ.name) (sym f.facts.chain_there ∙ none) is);
      policy = f.policy;
      old = f.old;
    })

-- ---- the keys of a chain

key_fits : (newest : Key) (k : KeyItem) (m : Master) → IsKeyOf newest k m → IsVersion m.version
    → IsSalt k.salt → IsKey k
key_fits newest k m is v s = record {
  from_one = subst (λ (n : ℕ). 0 < n) (sym is.version) v.some;
  kvno = subst (λ (n : ℕ). n < 2 ^ 16) (sym is.version) v.short;
  salt = s;
  wrapped = short_blob is.unwraps;
}

keys_fit : (newest : Key) (keys : List KeyItem) (masters : List Master) → AllZip (IsKeyOf newest) keys masters
    → AllByRecursion (λ m. IsVersion m.version) masters → AllByRecursion (λ k. IsSalt k.salt) keys
    → AllByRecursion IsKey keys
keys_fit newest [] [] h v s = tt
keys_fit newest [] (m ∷ ms) h v s = absurd h
keys_fit newest (k ∷ ks) [] h v s = absurd h
keys_fit newest (k ∷ ks) (m ∷ ms) h v s = (key_fits newest k m h.0 v.0 s.0, keys_fit newest ks ms h.1 v.1 s.1)

-- the master keys of keys that have a spelling have versions
pub versions_of : (newest : Key) (keys : List KeyItem) (masters : List Master) → AllZip (IsKeyOf newest) keys masters
    → AllByRecursion IsKey keys → AllByRecursion (λ m. IsVersion m.version) masters
versions_of newest [] [] h f = tt
versions_of newest [] (m ∷ ms) h f = absurd h
versions_of newest (k ∷ ks) [] h f = absurd h
versions_of newest (k ∷ ks) (m ∷ ms) h f = (
  record {
    some = subst (λ (n : ℕ). 0 < n) h.0.version f.0.from_one;
    short = subst (λ (n : ℕ). n < 2 ^ 16) h.0.version f.0.kvno;
  },
  versions_of newest ks ms h.1 f.1,
)

pub salts_of : (keys : List KeyItem) → AllByRecursion IsKey keys → AllByRecursion (λ k. IsSalt k.salt) keys
salts_of [] h = tt
salts_of (k ∷ keys) h = (h.0.salt, salts_of keys h.1)

-- the master keys of a chain that has a spelling have versions
pub master_versions : (entry : Princ) (masters : List Master) → IsChain entry masters → IsPrinc entry
    → All (λ m. IsVersion m.version) masters
master_versions entry masters h f =
    let P : Master → Type 0 = λ (m : Master). IsVersion m.version in
    let back =
    versions_of h.newest entry.keys (reverse masters) h.under.keys (recursion_from_All IsKey entry.keys f.keys.each) in
    subst (All P) (reverse-reverse masters) (All-permutation P (reverse masters) (reverse (reverse masters))
    (IsPermutation-reverse (reverse masters)) (All-from_recursion P (reverse masters) back))

begins : (newest : Key) (version : ℕ) (keys : List KeyItem) (m : Master) (masters : List Master)
    → AllZip (IsKeyOf newest) keys (m ∷ masters) → m.version ≡ version → begins_at version keys ≡ true
unfolding begins_at
begins newest version [] m masters h e = absurd h
begins newest version (k ∷ keys) m masters h e = eq-eqb _ _ (h.0.version ∙ e)

-- ---- the auxiliary keys of a chain

aux_fit : (newest : Key) (aux : List AuxKey) (older : List Master) → AllZip (IsAuxOf newest) aux older
    → AllByRecursion (λ m. IsVersion m.version) older → AllByRecursion IsAuxKey aux
aux_fit newest [] [] h v = tt
aux_fit newest [] (m ∷ ms) h v = absurd h
aux_fit newest (a ∷ rest) [] h v = absurd h
aux_fit newest (a ∷ rest) (m ∷ ms) h v = (
  record { version = subst IsVersion (sym h.0.version) v.0; wrapped = short_blob h.0.unwraps },
  aux_fit newest rest ms h.1 v.1,
)

aux_short : (newest : Key) (aux : List AuxKey) (older : List Master) → AllZip (IsAuxOf newest) aux older
    → AllByRecursion (λ a. 6 + length a.wrapped ≤ 80) aux
aux_short newest [] [] h = tt
aux_short newest [] (m ∷ ms) h = absurd h
aux_short newest (a ∷ rest) [] h = absurd h
aux_short newest (a ∷ rest) (m ∷ ms) h =
    let few = few_bytes h.0.unwraps in
    (omega arith, aux_short newest rest ms h.1)

aux_versions_are : (newest : Key) (aux : List AuxKey) (older : List Master) → AllZip (IsAuxOf newest) aux older
    → map (λ a. a.version) aux ≡ map (λ m. m.version) older
aux_versions_are newest [] [] h = refl
aux_versions_are newest [] (m ∷ ms) h = absurd h
aux_versions_are newest (a ∷ rest) [] h = absurd h
aux_versions_are newest (a ∷ rest) (m ∷ ms) h =
    ap (λ (n : ℕ). n ∷ map (λ (x : AuxKey). x.version) rest) h.0.version
    ∙ ap (λ (ns : List ℕ). m.version ∷ ns) (aux_versions_are newest rest ms h.1)

-- ---- a record of a chain

module _ (newest : Key) (older : List Master) (version : ℕ) (part : ChainPart)
    (aux : AllZip (IsAuxOf newest) part.aux older) (versions : AllByRecursion (λ m. IsVersion m.version) older)
    (rising : AreRising (map (λ m. m.version) older)) (few : length older ≤ 32) where
  part_fits : AreActivations part.activations → length (activations_text part.activations) < 2 ^ 16 → IsPart part
  part_fits activations short =
      let f : AuxKey → ℕ = λ (k : AuxKey). 6 + length k.wrapped in
      let sum = sum_by-le f 80 part.aux
      (All-from_recursion (λ (a : AuxKey). 6 + length a.wrapped ≤ 80) part.aux (aux_short newest part.aux older aux)) in
      record {
        activations = activations;
        activations_short = short;
        aux = record {
          each = All-from_recursion IsAuxKey part.aux (aux_fit newest part.aux older aux versions);
          rising = subst AreRising (sym (aux_versions_are newest part.aux older aux)) rising;
        };
        aux_short = omega (arith, sum, length-aux_keys_text part.aux, zip_length (IsAuxOf newest) part.aux older aux);
      }

-- the record, with the keys and the auxiliary keys of a chain
pub chain_spelled : (old : Princ) (version : ℕ) (keys : List KeyItem) (part : ChainPart) (masters : List Master)
    → IsPrinc old → is_some old.chain ≡ true → IsVersion version
    → IsChain (record old { mkvno = version; keys = keys; chain = Some part }) masters
    → AllByRecursion (λ m. IsVersion m.version) masters → length masters ≤ 32
    → AllByRecursion (λ k. IsSalt k.salt) keys → are_falling keys ≡ true → AreActivations part.activations
    → length (activations_text part.activations) < 2 ^ 16
    → IsPrinc (record old { mkvno = version; keys = keys; chain = Some part })
chain_spelled old version keys part masters f there v h versions few salts falling activations short =
    let u = h.under in
    let last : Master = record { version = version; key = h.newest } in
    let whole = subst (AllByRecursion (λ (m : Master). IsVersion m.version)) u.masters_are versions in
    let back = recursion_from_All (λ (m : Master). IsVersion m.version) (reverse masters)
    (All-permutation (λ (m : Master). IsVersion m.version) masters (reverse masters) (IsPermutation-reverse masters)
    (All-from_recursion (λ (m : Master). IsVersion m.version) masters versions)) in
    let first : AllZip (IsKeyOf h.newest) keys (last ∷ reverse u.older) =
    subst (λ (ms : List Master). AllZip (IsKeyOf h.newest) keys ms)
    (ap reverse u.masters_are ∙ reverse-append u.older (last ∷ [])) u.keys in
    let len = zip_length (IsKeyOf h.newest) keys (reverse masters) u.keys in
    let same = ap length u.masters_are in
    let part_same : u.part ≡ part = same_Some u.part part (sym u.part_is) in
    let aux : AllZip (IsAuxOf h.newest) part.aux u.older =
    subst (λ (p : ChainPart). AllZip (IsAuxOf h.newest) p.aux u.older) part_same u.aux in
    record {
      name = f.name;
      attributes = f.attributes;
      attributes_short = f.attributes_short;
      lives = f.lives;
      facts = record {
        pw_changed = f.facts.pw_changed;
        modified = f.facts.modified;
        modifier = f.facts.modifier;
        mkvno = v;
        chain_there = sym there ∙ f.facts.chain_there;
        chain = part_fits h.newest u.older version part aux
            (front_all (λ (m : Master). IsVersion m.version) u.older last whole) (older_rises u.older last
            (subst (λ (ms : List Master). AreRising (map (λ m. m.version) ms)) u.masters_are u.rising))
            (omega (arith, few, same, length-append u.older (last ∷ []))) activations short;
        strings = f.facts.strings;
        no_strings = f.facts.no_strings;
      };
      keys = record {
        few = omega (arith, len, few, length-reverse masters);
        each = All-from_recursion IsKey keys (keys_fit h.newest keys (reverse masters) u.keys back salts);
        ordered = falling_ordered keys falling;
      };
      masters =
          λ _. record { newest = begins h.newest version keys last (reverse u.older) first refl; falling = falling };
      policy = f.policy;
      old = f.old;
    }
