-- A chain with a new newest key.
use Rattle.std.proofs.Common.{◌≡◌, ℕ, ◌+◌, ◌<◌, ◌≤◌, List, [], ◌∷◌, ◌++◌, length, map, reverse, drop}
use Rattle.std.proofs.Common.{get_or, refl, sym, ap, subst, ◌∙◌, arith, append_assoc, append-nil}
use Rattle.std.specs.Prelude.{option_map}
use Rattle.std.specs.List.{AllByRecursion, AllZip}
use Rattle.std.specs.List.Sorted.{IsStrictlySortedBy}
use Rattle.std.specs.Ordering.{nat_cmp}
use Rattle.std.specs.declared.cmp.Ordering.TheVariants.{Less}
use Rattle.std.proofs.lemmas.Bool.{lt-ltb}
use Rattle.std.proofs.lemmas.Cmp.{ranked}
use Rattle.std.proofs.lemmas.List.{drop_all, drop_more, length-reverse, map-append, reverse-append}
use Rattle.kdb_base.specs.Key.{Key}
use Rattle.kdb_base.specs.Versions.{AreRising}
use Rattle.kdb_base.specs.declared.versions.AuxKey.{AuxKey}
use Rattle.kdb_base.specs.declared.versions.Master.{Master}
use Rattle.princ_keys.specs.declared.keys.KeyItem.{KeyItem}
use Rattle.princ_record.specs.declared.princs.Princ.{Princ}
use Rattle.master_keys.specs.Adding.{added_keys, added_masters, added_record, aux_key, aux_keys}
use Rattle.master_keys.specs.Adding.{newest_first, newest_item, next_version, with_aux}
use Rattle.master_keys.specs.Chain.{IsAuxOf, IsChain, IsKeyOf}
use Rattle.master_keys.specs.Rewrapping.{Holds, confounder, with_key, with_keys}
use Rattle.master_keys.specs.Versions.{last_version}
use Rattle.master_keys.proofs.Live.{last_is_named, last_version_push}
use Rattle.master_keys.proofs.SideBySide.{zip_length}

-- ---- the auxiliary keys, one by one

module _ (key : Key) (random : List ℕ) (place : ℕ) (masters : List Master) where
  next_left : (i : ℕ) (master : Master) → i < length masters → master ≡ get_or masters i master
      → aux_keys key random (place + i) (drop i masters) ≡ aux_key key (confounder random (place + i)) master
      ∷ aux_keys key random (place + (i + 1)) (drop (i + 1) masters)
  unfolding aux_keys
  next_left i master lt is =
      let first = drop_more masters i master lt ∙ ap (λ (m : Master). m ∷ drop (i + 1) masters) (sym is) in
      let later : place + i + 1 ≡ place + (i + 1) = omega arith in
      ap (λ (ms : List Master). aux_keys key random (place + i) ms) first
      ∙ ap (λ (n : ℕ).
      aux_key key (confounder random (place + i)) master ∷ aux_keys key random n (drop (i + 1) masters)) later

  pub aux_keys_more : (i : ℕ) (master : Master) (made : AuxKey) (out new whole : List AuxKey) → i < length masters
      → master ≡ get_or masters i master
      → made ≡ aux_key key (confounder random (place + i)) master → new ≡ out ++ made ∷ []
      → out ++ aux_keys key random (place + i) (drop i masters) ≡ whole
      → new ++ aux_keys key random (place + (i + 1)) (drop (i + 1) masters) ≡ whole
  aux_keys_more i master made out new whole lt is is_made is_new h =
      let rest = aux_keys key random (place + (i + 1)) (drop (i + 1) masters) in
      ap (λ (xs : List AuxKey). xs ++ rest) is_new
      ∙ append_assoc out (made ∷ []) rest
      ∙ ap (λ (x : AuxKey). out ++ x ∷ rest) is_made
      ∙ ap (λ (xs : List AuxKey). out ++ xs) (sym (next_left i master lt is))
      ∙ h

  pub aux_keys_all : (i : ℕ) (out whole : List AuxKey) → length masters ≤ i
      → out ++ aux_keys key random (place + i) (drop i masters) ≡ whole → out ≡ whole
  unfolding aux_keys
  aux_keys_all i out whole le h =
      sym (append-nil out)
      ∙ ap (λ (ms : List Master). out ++ aux_keys key random (place + i) ms) (sym (drop_all i masters le)) ∙ h

-- the auxiliary keys have the versions of the master keys
pub aux_versions : (key : Key) (random : List ℕ) (place : ℕ) (masters : List Master)
    → map (λ a. a.version) (aux_keys key random place masters) ≡ map (λ m. m.version) masters
unfolding aux_keys aux_key
aux_versions key random place [] = refl
aux_versions key random place (m ∷ masters) =
    ap (λ (vs : List ℕ). m.version ∷ vs) (aux_versions key random (place + 1) masters)

-- ---- one more version

less : (m n : ℕ) → m < n → nat_cmp m n ≡ Less
less m n lt = let yes = lt-ltb m n lt in rw yes refl

below_all : (n x y : ℕ) (xs : List ℕ) → AllByRecursion (λ k. nat_cmp n k ≡ Less) (xs ++ x ∷ []) → x < y
    → AllByRecursion (λ k. nat_cmp n k ≡ Less) ((xs ++ x ∷ []) ++ y ∷ [])
below_all n x y [] h lt = let first = ranked n x Less (sym h.0) in (h.0, (less n y (omega arith), tt))
below_all n x y (z ∷ xs) h lt = (h.0, below_all n x y xs h.1 lt)

rising_push : (xs : List ℕ) (x y : ℕ) → AreRising (xs ++ x ∷ []) → x < y → AreRising ((xs ++ x ∷ []) ++ y ∷ [])
unfolding IsStrictlySortedBy
rising_push [] x y h lt = ((less x y lt, tt), (tt, tt))
rising_push (z ∷ xs) x y h lt = (below_all z x y xs h.0 lt, rising_push xs x y h.1 lt)

pub added_rising : (entry : Princ) (masters : List Master) (newest : Master) → IsChain entry masters
    → entry.mkvno < newest.version → AreRising (map (λ m. m.version) (masters ++ newest ∷ []))
added_rising entry masters newest h lt =
    let version : Master → ℕ = λ (m : Master). m.version in
    let last : Master = record { version = entry.mkvno; key = h.newest } in
    let before : map version masters ≡ map version h.under.older ++ entry.mkvno ∷ [] =
    ap (map version) h.under.masters_are ∙ map-append version h.under.older (last ∷ []) in
    let after : map version (masters ++ newest ∷ []) ≡ (map version h.under.older ++ entry.mkvno ∷ [])
    ++ newest.version ∷ [] =
    map-append version masters (newest ∷ []) ∙ ap (λ (vs : List ℕ). vs ++ newest.version ∷ []) before in
    subst AreRising (sym after)
    (rising_push (map version h.under.older) entry.mkvno newest.version (subst AreRising before h.under.rising) lt)

-- ---- the chain

module _ (newest key : Key) (random : List ℕ) where
  -- the old keys have the types of the master keys
  types_of : (items : List KeyItem) (masters : List Master) → AllZip (IsKeyOf newest) items masters
      → AllZip (λ item k. item.etype ≡ k.etype) items (map (λ m. m.key) masters)
  types_of [] [] h = tt
  types_of [] (m ∷ masters) h = absurd h
  types_of (item ∷ items) [] h = absurd h
  types_of (item ∷ items) (m ∷ masters) h = (sym h.0.unwraps.of_type, types_of items masters h.1)

  -- wrapped under another key, they still are the master keys
  keys_of : (place : ℕ) (items : List KeyItem) (masters : List Master) → AllZip (IsKeyOf newest) items masters
      → AllZip (Holds key) (with_keys key random place items (map (λ m. m.key) masters)) (map (λ m. m.key) masters)
      → AllZip (IsKeyOf key) (with_keys key random place items (map (λ m. m.key) masters)) masters
  unfolding with_keys with_key
  keys_of place [] [] h holds = tt
  keys_of place [] (m ∷ masters) h holds = absurd h
  keys_of place (item ∷ items) [] h holds = absurd h
  keys_of place (item ∷ items) (m ∷ masters) h holds =
      (record { version = h.0.version; unwraps = holds.0 }, keys_of (place + 1) items masters h.1 holds.1)

pub old_types : (entry : Princ) (masters : List Master) → IsChain entry masters
    → AllZip (λ item k. item.etype ≡ k.etype) entry.keys (newest_first masters)
unfolding newest_first
old_types entry masters h = types_of h.newest h.newest [] entry.keys (reverse masters) h.under.keys

-- the record has as many keys as there are master keys
pub chain_length : (entry : Princ) (masters : List Master) → IsChain entry masters → length entry.keys ≡ length masters
chain_length entry masters h =
    zip_length (IsKeyOf h.newest) entry.keys (reverse masters) h.under.keys ∙ length-reverse masters

module _ (entry : Princ) (masters : List Master) (key : Key) (random : List ℕ) (h : IsChain entry masters) where
  all_keys : AllZip (Holds key) (added_keys (next_version masters) entry.keys masters key random)
      (key ∷ newest_first masters) → AllZip (IsKeyOf key)
      (added_keys (next_version masters) entry.keys masters key random) (reverse (added_masters masters key))
  unfolding added_keys added_masters newest_first newest_item
  all_keys holds =
      subst (λ (ms : List Master).
      AllZip (IsKeyOf key) (added_keys (next_version masters) entry.keys masters key random) ms)
      (sym (reverse-append masters (record { version = next_version masters; key = key } ∷ []))) (
        record { version = refl; unwraps = holds.0 },
        keys_of h.newest key random 1 entry.keys (reverse masters) h.under.keys holds.1,
      )

  pub chain_added : AllZip (Holds key) (added_keys (next_version masters) entry.keys masters key random)
      (key ∷ newest_first masters)
      → AllZip (IsAuxOf key) (aux_keys key random (1 + length entry.keys) masters) masters
      → IsChain (added_record entry masters key random) (added_masters masters key)
  unfolding added_record added_masters next_version
  chain_added holds are = record {
    newest = key;
    under = record {
      older = masters;
      masters_are = refl;
      rising = added_rising entry masters (record { version = next_version masters; key = key }) h
          (omega (arith, last_is_named entry masters h));
      keys = all_keys holds;
      part = with_aux (aux_keys key random (1 + length entry.keys) masters) h.under.part;
      part_is = ap (option_map (with_aux (aux_keys key random (1 + length entry.keys) masters))) h.under.part_is;
      aux = are;
    };
  }

  -- ---- what the parts make

  pub named_next : entry.mkvno + 1 ≡ next_version masters
  unfolding next_version
  named_next = ap (λ (v : ℕ). v + 1) (sym (last_is_named entry masters h))

  pub masters_are : masters ++ record { version = entry.mkvno + 1; key = key } ∷ [] ≡ added_masters masters key
  unfolding added_masters
  masters_are = ap (λ (v : ℕ). masters ++ record { version = v; key = key } ∷ []) named_next

  module _ (items keys : List KeyItem) (older : List Master) (list aux : List AuxKey) (items_are : items ≡ entry.keys)
      (older_are : older ≡ masters)
      (keys_made : keys ≡ added_keys (entry.mkvno + 1) items older key random)
      (list_made : list ≡ aux_keys key random (1 + length items) older) (aux_are : aux ≡ list) where
    keys_are : keys ≡ added_keys (next_version masters) entry.keys masters key random
    keys_are =
        keys_made
        ∙ ap (λ (v : ℕ). added_keys v items older key random) named_next
        ∙ ap (λ (xs : List KeyItem). added_keys (next_version masters) xs older key random) items_are
        ∙ ap (λ (ms : List Master). added_keys (next_version masters) entry.keys ms key random) older_are

    list_is : list ≡ aux_keys key random (1 + length entry.keys) masters
    list_is =
        list_made
        ∙ ap (λ (xs : List KeyItem). aux_keys key random (1 + length xs) older) items_are
        ∙ ap (λ (ms : List Master). aux_keys key random (1 + length entry.keys) ms) older_are

    pub record_is : ◌≡◌ {A = Princ} (record entry {
      mkvno = entry.mkvno + 1;
      keys = keys;
      chain = option_map (with_aux aux) entry.chain;
    }) (added_record entry masters key random)
    unfolding added_record
    record_is =
        let added : List AuxKey = aux_keys key random (1 + length entry.keys) masters in
        ap (λ (v : ℕ). record entry { mkvno = v; keys = keys; chain = option_map (with_aux aux) entry.chain })
        named_next
        ∙ ap (λ (xs : List KeyItem). record entry {
          mkvno = next_version masters;
          keys = xs;
          chain = option_map (with_aux aux) entry.chain;
        }) keys_are
        ∙ ap (λ (xs : List AuxKey). record entry {
          mkvno = next_version masters;
          keys = added_keys (next_version masters) entry.keys masters key random;
          chain = option_map (with_aux xs) entry.chain;
        }) (aux_are ∙ list_is)

    pub chain_is : AllZip (Holds key) keys (key ∷ newest_first older) → AllZip (IsAuxOf key) list older
        → IsChain (added_record entry masters key random) (added_masters masters key)
    chain_is holds are =
        chain_added
        (subst (λ (xs : List KeyItem). AllZip (Holds key) xs (key ∷ newest_first masters)) keys_are
        (subst (λ (ms : List Master). AllZip (Holds key) keys (key ∷ newest_first ms)) older_are holds))
        (subst (λ (xs : List AuxKey). AllZip (IsAuxOf key) xs masters) list_is
        (subst (λ (ms : List Master). AllZip (IsAuxOf key) list ms) older_are are))

-- the new version is the last
pub last_added : (masters : List Master) (key : Key) → last_version (added_masters masters key) ≡ next_version masters
unfolding added_masters
last_added masters key = last_version_push masters (record { version = next_version masters; key = key })
