-- Master keys by version, and what a chain tells of its keys.
use Rattle.std.proofs.Common.{◌≡◌, ◌≢◌, ℕ, suc, ◌+◌, ◌<◌, Bool, true, false, List, [], ◌∷◌, ◌++◌, length}
use Rattle.std.proofs.Common.{map, reverse, get_or, Some, refl, sym, ap, subst, ◌∙◌, arith, inl, inr}
use Rattle.std.specs.Prelude.{nat_eq, nat_lt, IsTrue, ◌↔◌, Result, Ok, Err, IfOk}
use Rattle.std.specs.List.{All, AllZip, Contains, IsAllAdjacentAnswer, list_any}
use Rattle.std.specs.List.Sorted.{IsStrictlyIncreasing}
use Rattle.std.proofs.lemmas.Bool.{cases_order, or_cases, eqb-true, eq-eqb, ltb-true, lt-ltb}
use Rattle.std.proofs.lemmas.Option.{same_Some}
use Rattle.std.proofs.lemmas.List.{get_or-map, length-map, get_or_default, map-append, reverse-append, reverse-reverse}
use Rattle.std.proofs.lemmas.List.Elements.{Contains-get_or, Contains-push, Contains-push_cases}
use Rattle.std.proofs.lemmas.List.Folds.{list_any_at}
use Rattle.std.proofs.lemmas.List.Sorted.{Contains-permutation, IsPermutation-reverse}
use Rattle.std.proofs.lemmas.Map.Keys.{below_from_sorted, sorted_from_strictly_increasing}
use Rattle.kdb_base.specs.Key.{Key}
use Rattle.kdb_base.specs.Versions.{AreRising}
use Rattle.kdb_base.specs.declared.keys.Etype.{Etype}
use Rattle.kdb_base.specs.declared.keys.Etype.TheVariants.{Aes128}
use Rattle.kdb_base.specs.declared.keys.Salt.TheVariants.{Normal}
use Rattle.kdb_base.specs.declared.versions.AuxKey.{AuxKey}
use Rattle.kdb_base.specs.declared.versions.Master.{Master}
use Rattle.princ_keys.specs.declared.keys.KeyItem.{KeyItem}
use Rattle.princ_record.specs.declared.princs.Princ.{Princ}
use Rattle.princ_record.specs.declared.facts.ChainPart.{ChainPart}
use Rattle.master_keys.specs.declared.faults.Unopened.{Unopened}
use Rattle.master_keys.specs.Chain.{HasAux, HasVersion, IsAuxOf, IsChain, IsChainUnder, IsKeyOf, LeadsTo, Lists, Opens}
use Rattle.master_keys.specs.Wrapping.{Unwraps}
use Rattle.master_keys.proofs.SideBySide.{zip_at, zip_length}

-- ---- by version

module _ {A : Type 0} (version : A → ℕ) (list : List A) (rising : AreRising (map version list)) where
  below : (i j : ℕ) (d : A) → i < j → j < length list → version (get_or list i d) < version (get_or list j d)
  below i j d lt within =
      let h : get_or (map version list) i 0 < get_or (map version list) j 0 =
      below_from_sorted (map version list) i j 0 rising lt (omega (arith, length-map list version)) in
      omega (arith, get_or-map version list i d 0 (omega arith), get_or-map version list j d 0 within)

  apart : (i j : ℕ) (a b : A) → i < j → j < length list → get_or list i a ≡ a → get_or list j b ≡ b
      → version a ≡ version b → ⊥
  apart i j a b lt within is_a is_b same =
      let h : version (get_or list i a) < version (get_or list j a) = below i j a lt within in
      let at_a : version (get_or list i a) ≡ version a = ap version is_a in
      let at_b : version (get_or list j a) ≡ version b = ap version (get_or_default list j a b within ∙ is_b) in
      omega arith

  -- of one version there is one item
  pub one_by : (a b : A) → Contains list a → Contains list b → version a ≡ version b → a ≡ b
  one_by a b (i, lt_i, is_a) (j, lt_j, is_b) same = elim (cases_order i j) [
    | inl e ↦ sym is_a ∙ ap (λ (n : ℕ). get_or list n a) e ∙ get_or_default list j a b lt_j ∙ is_b
    | inr (inl lt) ↦ absurd (apart i j a b lt lt_j is_a is_b same)
    | inr (inr lt) ↦ absurd (apart j i b a lt lt_i is_b is_a (sym same))
  ]

pub one_master : (masters : List Master) → AreRising (map (λ m. m.version) masters) → (a b : Master)
    → Contains masters a → Contains masters b → a.version ≡ b.version → a ≡ b
one_master masters rising = one_by (λ (m : Master). m.version) masters rising

pub no_key : Key
no_key = record { etype = Aes128; bytes = [] }

pub no_master : Master
no_master = record { version = 0; key = no_key }

no_aux : AuxKey
no_aux = record { version = 0; etype = Aes128; wrapped = [] }

-- neighbours that rise make the list rise
pub rising_answer : (masters : List Master) (r : Bool)
    → IsAllAdjacentAnswer (λ x y b. b ≡ nat_lt x.version y.version) masters r
    → IsTrue r ↔ AreRising (map (λ m. m.version) masters)
rising_answer masters true h =
    let version : Master → ℕ = λ (m : Master). m.version in
    let rises : IsStrictlyIncreasing (map version masters) = λ k lt.
    let within : k + 1 < length masters = omega (arith, length-map masters version) in
    let here : (get_or masters k no_master).version < (get_or masters (k + 1) no_master).version =
    ltb-true _ _ (sym (h k no_master within)) in
    omega (
      arith,
      get_or-map version masters k no_master 0 (omega arith),
      get_or-map version masters (k + 1) no_master 0 within,
    ) in
    (λ _. sorted_from_strictly_increasing (map version masters) rises, λ _. refl)
rising_answer masters false (k, lt, falls) = (
  λ no. absurd cc,
  λ rising.
      let here : (get_or masters k no_master).version < (get_or masters (k + 1) no_master).version =
      below (λ (m : Master). m.version) masters rising k (k + 1) no_master (omega arith) lt in
      let not : nat_lt (get_or masters k no_master).version (get_or masters (k + 1) no_master).version ≡ true =
      lt-ltb _ _ here in
      let is = falls no_master in
      absurd cc,
)

-- ---- the newest key

module _ (newest : Key) (entry : Princ) (masters : List Master) (u : IsChainUnder newest entry masters) where
  newest_there : Contains masters (record { version = entry.mkvno; key = newest })
  newest_there = subst (λ (ms : List Master). Contains ms (record { version = entry.mkvno; key = newest }))
      (sym u.masters_are) (Contains-push u.older (record { version = entry.mkvno; key = newest }))

  -- the key of the newest version is the newest
  given_newest : (version : ℕ) (key : Key) → version ≡ entry.mkvno → Lists masters version key → newest ≡ key
  given_newest version key e h =
      sym (ap (λ (m : Master). m.key) (one_master masters u.rising (record {
        version = version;
        key = key;
      }) (record { version = entry.mkvno; key = newest }) h newest_there e))

  -- each older version has an auxiliary key
  given_aux : (version : ℕ) (key : Key) → version ≢ entry.mkvno → Lists masters version key
      → HasAux entry (record { version = version; key = key }) newest
  given_aux version key other h =
      let d : Master = record { version = version; key = key } in
      let listed : Contains (u.older ++ record { version = entry.mkvno; key = newest } ∷ []) d =
      subst (λ (ms : List Master). Contains ms d) u.masters_are h in
      elim (Contains-push_cases u.older (record { version = entry.mkvno; key = newest }) d listed) [
        | inl (i, lt, is) ↦
            let len = zip_length (IsAuxOf newest) u.part.aux u.older u.aux in
            let within : i < length u.part.aux = omega arith in
            let here = zip_at (IsAuxOf newest) u.part.aux u.older i no_aux d u.aux within in
            record {
              part = u.part;
              part_is = u.part_is;
              aux = get_or u.part.aux i no_aux;
              there = Contains-get_or u.part.aux i no_aux within;
              is = subst (λ (m : Master). IsAuxOf newest (get_or u.part.aux i no_aux) m) is here;
            }
        | inr same ↦ absurd (other (sym (ap (λ (m : Master). m.version) same)))
      ]

-- each key of a chain leads to the newest
pub chain_leads : (newest : Key) (entry : Princ) (masters : List Master) → IsChainUnder newest entry masters
    → (version : ℕ) (key : Key) → Lists masters version key → LeadsTo entry version key newest
chain_leads newest entry masters u version key h = record {
  itself = λ e. given_newest newest entry masters u version key e h;
  by_aux = λ other. given_aux newest entry masters u version key other h;
}

-- each key of a chain opens it
pub chain_opens : (entry : Princ) (masters : List Master) → IsChain entry masters → (version : ℕ) (key : Key)
    → Lists masters version key → Opens entry version key masters
chain_opens entry masters h version key lists = record {
  newest = h.newest;
  leads = chain_leads h.newest entry masters h.under version key lists;
  rising = h.under.rising;
  keys = h.under.keys;
  lists = lists;
}

-- the auxiliary key of a version has what its key leads to, by whatever names
pub aux_opens : {entry : Princ} {older : Master} {newest : Key} (h : HasAux entry older newest) (part : ChainPart)
    (list : List AuxKey) (aux : AuxKey)
    → entry.chain ≡ Some part → list ≡ part.aux → AreRising (map (λ a. a.version) list) → Contains list aux
    → aux.version ≡ older.version
    → Unwraps older.key aux.etype aux.wrapped newest
aux_opens {older = older} {newest = newest} h part list aux is list_is rising there same =
    let lists : list ≡ h.part.aux =
    list_is ∙ ap (λ (p : ChainPart). p.aux) (same_Some part h.part (sym is ∙ h.part_is)) in
    let here : Contains list h.aux = subst (λ (l : List AuxKey). Contains l h.aux) (sym lists) h.there in
    let one : h.aux ≡ aux =
    one_by (λ (a : AuxKey). a.version) list rising h.aux aux here there (h.is.version ∙ sym same) in
    (subst (λ (a : AuxKey). IsAuxOf newest a older) one h.is).unwraps

-- what the auxiliary key of an older version holds under its key is what that key leads to
pub by_aux_key : (entry : Princ) (version : ℕ) (key : Key) (part : ChainPart) (list : List AuxKey) (aux : AuxKey)
    (result : Result Key Unopened) → version ≢ entry.mkvno
    → entry.chain ≡ Some part → list ≡ part.aux → Contains list aux → aux.version ≡ version
    → IfOk result (λ newest. Unwraps key aux.etype aux.wrapped newest)
    → IfOk result (λ newest. LeadsTo entry version key newest)
by_aux_key entry version key part list aux (Ok newest) other is list_is there same u = record {
  itself = λ e. absurd (other e);
  by_aux = λ _. record {
    part = part;
    part_is = is;
    aux = aux;
    there = subst (λ (l : List AuxKey). Contains l aux) list_is there;
    is = record { version = same; unwraps = u };
  };
}
by_aux_key entry version key part list aux (Err e) other is list_is there same u = tt

-- there is an auxiliary key of the version
pub aux_there : {entry : Princ} {older : Master} {newest : Key} (h : HasAux entry older newest) (part : ChainPart)
    (list : List AuxKey)
    → entry.chain ≡ Some part → list ≡ part.aux → All (λ aux. aux.version ≢ older.version) list → ⊥
aux_there h part list is list_is none =
    let lists : list ≡ h.part.aux =
    list_is ∙ ap (λ (p : ChainPart). p.aux) (same_Some part h.part (sym is ∙ h.part_is)) in
    let here : Contains list h.aux = subst (λ (l : List AuxKey). Contains l h.aux) (sym lists) h.there in
    none here.0 h.aux here.1 (ap (λ (a : AuxKey). a.version) here.2 ∙ h.is.version)

-- ---- the versions of the entry

pub version_found : (keys : List KeyItem) (version : ℕ) → list_any (λ k. nat_eq k.kvno version) keys ≡ true
    → HasVersion keys version
version_found [] version e = absurd cc
version_found (k ∷ keys) version e =
    elim (or_cases (nat_eq k.kvno version) (list_any (λ (x : KeyItem). nat_eq x.kvno version) keys) e) [
      | inl is ↦ (0, omega arith, eqb-true _ _ is)
      | inr more ↦ let r = version_found keys version more in let lt = r.1 in (suc r.0, omega arith, r.2)
    ]

no_item : KeyItem
no_item = record { kvno = 0; etype = Aes128; salt = Normal; wrapped = [] }

pub found_version : (keys : List KeyItem) (version : ℕ) → HasVersion keys version
    → list_any (λ k. nat_eq k.kvno version) keys ≡ true
found_version keys version (i, lt, is) =
    let kvno : KeyItem → ℕ = λ (k : KeyItem). k.kvno in
    let within : i < length keys = omega (arith, length-map keys kvno) in
    list_any_at (λ (k : KeyItem). nat_eq k.kvno version) keys i no_item within
    (eq-eqb _ _ (sym (get_or-map kvno keys i no_item version within) ∙ is))

-- a key that opens the entry is of one of its versions
pub opens_listed : (entry : Princ) (version : ℕ) (key : Key) (masters : List Master) → Opens entry version key masters
    → HasVersion entry.keys version
opens_listed entry version key masters o =
    let d : Master = record { version = version; key = key } in
    let back = Contains-permutation masters (reverse masters) d (IsPermutation-reverse masters) o.lists in
    let len = zip_length (IsKeyOf o.newest) entry.keys (reverse masters) o.keys in
    let lt = back.1 in
    let within : back.0 < length entry.keys = omega arith in
    let here = zip_at (IsKeyOf o.newest) entry.keys (reverse masters) back.0 no_item d o.keys within in
    let kvno : KeyItem → ℕ = λ (k : KeyItem). k.kvno in (
      back.0,
      omega (arith, length-map entry.keys kvno),
      get_or-map kvno entry.keys back.0 no_item version within ∙ here.version ∙ ap (λ (m : Master). m.version) back.2,
    )

-- the versions of the entry, as a test that failed and one that held
pub not_found : (keys slice : List KeyItem) (version : ℕ) (r : Bool) → slice ≡ keys
    → r ≡ list_any (λ k. nat_eq k.kvno version) slice → r ≡ false → HasVersion keys version → ⊥
not_found keys slice version r same is refused has =
    let yes : list_any (λ (k : KeyItem). nat_eq k.kvno version) keys ≡ true = found_version keys version has in
    let here : r ≡ list_any (λ (k : KeyItem). nat_eq k.kvno version) keys =
    is ∙ ap (list_any (λ (k : KeyItem). nat_eq k.kvno version)) same in
    absurd cc

pub found : (keys slice : List KeyItem) (version : ℕ) (r : Bool) → slice ≡ keys
    → r ≡ list_any (λ k. nat_eq k.kvno version) slice → r ≡ true → HasVersion keys version
found keys slice version r same is held =
    version_found keys version (sym (is ∙ ap (list_any (λ (k : KeyItem). nat_eq k.kvno version)) same) ∙ held)

-- ---- what opens

pub same_blob : {master : Key} {etype : Etype} {key : Key} (a b : List ℕ) → a ≡ b → Unwraps master etype b key
    → Unwraps master etype a key
same_blob {master = master} {etype = etype} {key = key} a b e u =
    subst (λ (blob : List ℕ). Unwraps master etype blob key) (sym e) u

-- the keys of the entry under the newest, by whatever names
pub opened_keys : {entry : Princ} {version : ℕ} {key : Key} {masters : List Master}
    (o : Opens entry version key masters) (newest : Key) (keys : List KeyItem)
    → newest ≡ o.newest → keys ≡ entry.keys → AllZip (IsKeyOf newest) keys (reverse masters)
opened_keys {masters = masters} o newest keys e slice =
    subst (λ (k : Key). AllZip (IsKeyOf k) keys (reverse masters)) (sym e)
    (subst (λ (ks : List KeyItem). AllZip (IsKeyOf o.newest) ks (reverse masters)) (sym slice) o.keys)

-- what the keys of the entry hold under the newest, in the other order, are the master keys
pub same_masters : {entry : Princ} {version : ℕ} {key : Key} {masters : List Master}
    (o : Opens entry version key masters) (newest : Key) (keys : List KeyItem) (items back : List Master)
    → newest ≡ o.newest → keys ≡ entry.keys → ((all : List Master) → AllZip (IsKeyOf newest) keys all → items ≡ all)
    → back ≡ reverse items → back ≡ masters
same_masters {masters = masters} o newest keys items back e slice only reversed =
    reversed ∙ ap reverse (only (reverse masters) (opened_keys o newest keys e slice)) ∙ reverse-reverse masters

-- the path from a key, by whatever names
pub path_opens : (entry : Princ) (version : ℕ) (key newest made : Key) (keys : List KeyItem) (items back : List Master)
    → LeadsTo entry version key newest → made ≡ newest → keys ≡ entry.keys
    → AllZip (IsKeyOf made) keys items → back ≡ reverse items → AreRising (map (λ m. m.version) back)
    → Lists back version key → Opens entry version key back
path_opens entry version key newest made keys items back leads same slice opened reversed rising lists =
    let there : AllZip (IsKeyOf newest) entry.keys items = subst (λ (k : Key). AllZip (IsKeyOf k) entry.keys items) same
    (subst (λ (ks : List KeyItem). AllZip (IsKeyOf made) ks items) slice opened) in
    let again : items ≡ reverse back = sym (ap reverse reversed ∙ reverse-reverse items) in
    record {
      newest = newest;
      leads = leads;
      rising = rising;
      keys = subst (λ (ms : List Master). AllZip (IsKeyOf newest) entry.keys ms) again there;
      lists = lists;
    }

pub not_listed : (masters : List Master) (version : ℕ) (key : Key)
    → All (λ m. m ≢ record { version = version; key = key }) masters → Lists masters version key → ⊥
not_listed masters version key none (i, lt, is) = none i (record { version = version; key = key }) lt is

-- ---- the versions of a chain

map_reverse : {A B : Type 0} (f : A → B) (xs : List A) → map f (reverse xs) ≡ reverse (map f xs)
map_reverse f [] = refl
map_reverse f (x ∷ xs) =
    ap (map f) (reverse-append (x ∷ []) xs)
    ∙ map-append f (reverse xs) (x ∷ [])
    ∙ ap (λ ys. ys ++ f x ∷ []) (map_reverse f xs)
    ∙ sym (reverse-append (f x ∷ []) (map f xs))

zip_versions : (newest : Key) (keys : List KeyItem) (masters : List Master) → AllZip (IsKeyOf newest) keys masters
    → map (λ k. k.kvno) keys ≡ map (λ m. m.version) masters
zip_versions newest [] [] h = refl
zip_versions newest [] (m ∷ masters) h = absurd h
zip_versions newest (k ∷ keys) [] h = absurd h
zip_versions newest (k ∷ keys) (m ∷ masters) h =
    ap (λ (n : ℕ). n ∷ map (λ (x : KeyItem). x.kvno) keys) h.0.version
    ∙ ap (λ (ns : List ℕ). m.version ∷ ns) (zip_versions newest keys masters h.1)

-- the entry has the versions of the masters, the greatest first
pub opened_versions : (newest : Key) (entry : Princ) (masters : List Master)
    → AllZip (IsKeyOf newest) entry.keys (reverse masters)
    → map (λ k. k.kvno) entry.keys ≡ reverse (map (λ m. m.version) masters)
opened_versions newest entry masters h =
    zip_versions newest entry.keys (reverse masters) h ∙ map_reverse (λ (m : Master). m.version) masters
