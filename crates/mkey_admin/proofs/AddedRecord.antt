-- K/M's record with one more master key.
use Rattle.std.proofs.Common.{◌≡◌, ℕ, ◌+◌, true, List, [], ◌∷◌, ◌++◌, map, reverse}
use Rattle.std.proofs.Common.{Option, Some, None, refl, sym, ap, subst, ◌∙◌}
use Rattle.std.specs.Prelude.{find, is_some, option_map, unwrap_or}
use Rattle.std.specs.List.{AllZip, last_or}
use Rattle.std.specs.Option.{option_or}
use Rattle.std.proofs.lemmas.List.{reverse-append}
use Rattle.std.proofs.lemmas.List.Folds.{find-append}
use Rattle.kdb_base.specs.Key.{Key}
use Rattle.kdb_base.specs.declared.keys.Etype.{Etype}
use Rattle.kdb_base.specs.declared.versions.Master.{Master}
use Rattle.kdb_model.specs.Masters.{new_master}
use Rattle.kdb_plain.specs.Heads.{head, plain_head}
use Rattle.kdb_plain.specs.States.{IsListed, is_version, master_in, master_of}
use Rattle.kdb_plain.specs.declared.princs.PlainPrinc.{PlainPrinc}
use Rattle.master_keys.specs.Adding.{added_keys, added_masters, added_record}
use Rattle.master_keys.specs.Adding.{newest_first, newest_item, next_version, with_aux}
use Rattle.master_keys.specs.Chain.{IsChain, IsKeyOf}
use Rattle.master_keys.specs.Rewrapping.{with_key, with_keys}
use Rattle.master_keys.specs.Versions.{last_version}
use Rattle.mkey_admin.specs.KeptMasters.{confounders}
use Rattle.plain_keys.specs.declared.items.PlainItem.{PlainItem}
use Rattle.princ_keys.specs.declared.keys.KeyItem.{KeyItem}
use Rattle.princ_record.specs.declared.facts.ChainPart.{ChainPart}
use Rattle.princ_record.specs.declared.princs.Princ.{Princ}
use Rattle.row_keys.proofs.SoundRows.{newest_named}
use Rattle.row_keys.specs.Shows.{ShowsChain, ShowsItem, ShowsPrinc, ShowsSet}
use Rattle.serving_versions.specs.MasterChanges.{with_master}

-- ---- a record whose keys are the master keys of its chain

abbrev SameSalt : KeyItem → PlainItem → Type 0
SameSalt item k = item.salt ≡ k.salt

items_from : (newest : Key) (items : List KeyItem) (keys : List PlainItem) (masters : List Master)
    → AllZip (IsKeyOf newest) items masters → map master_in keys ≡ masters → AllZip SameSalt items keys
    → AllZip (ShowsItem newest) items keys
items_from newest [] [] masters h e salts = tt
items_from newest [] (k ∷ keys) masters h e salts = absurd salts
items_from newest (item ∷ items) [] masters h e salts = absurd salts
items_from newest (item ∷ items) (k ∷ keys) [] h e salts = absurd h
items_from newest (item ∷ items) (k ∷ keys) (m ∷ masters) h e salts =
    let here : master_in k ≡ m = first_same e in
    let rest : map master_in keys ≡ masters = rest_same e in
    let is : IsKeyOf newest item (master_in k) = subst (IsKeyOf newest item) (sym here) h.0 in (
      record { kvno = is.version; salt = salts.0; holds = is.unwraps },
      items_from newest items keys masters h.1 rest salts.1,
    )
  where
    first_same : ◌≡◌ {A = List Master} (master_in k ∷ map master_in keys) (m ∷ masters) → master_in k ≡ m
    first_same e = cc

    rest_same : ◌≡◌ {A = List Master} (master_in k ∷ map master_in keys) (m ∷ masters) → map master_in keys ≡ masters
    rest_same e = cc

module _ (newest key : Key) (random : List ℕ) where
  -- keys that are wrapped anew keep their salts
  salts_with : (place : ℕ) (master : Key) (items : List KeyItem) (masters : List Master) (keys : List PlainItem)
      → AllZip (IsKeyOf newest) items masters → AllZip (ShowsItem master) items keys
      → AllZip SameSalt (with_keys key random place items (map (λ (m : Master). m.key) masters)) keys
  unfolding with_keys with_key
  salts_with place master [] [] [] h f = tt
  salts_with place master [] [] (k ∷ keys) h f = absurd f
  salts_with place master [] (m ∷ masters) keys h f = absurd h
  salts_with place master (item ∷ items) [] keys h f = absurd h
  salts_with place master (item ∷ items) (m ∷ masters) [] h f = absurd f
  salts_with place master (item ∷ items) (m ∷ masters) (k ∷ keys) h f =
      (f.0.salt, salts_with (place + 1) master items masters keys h.1 f.1)

-- ---- one more master key

in_front : {A : Type 0} (a b : Option A) → is_some a ≡ true → option_or a b ≡ a
in_front None b e = absurd cc
in_front (Some x) b e = refl

there_before : (o : Option Master) → is_some (option_map (λ (m : Master). m.key) o) ≡ true → is_some o ≡ true
there_before None e = absurd cc
there_before (Some m) e = refl

-- a listed version keeps its key
pub still_named : (masters : List Master) (m : Master) (version : ℕ) → IsListed masters version
    → master_of (masters ++ m ∷ []) version ≡ master_of masters version
unfolding master_of
still_named masters m version listed =
    ap (option_map (λ (m : Master). m.key))
    (find-append (is_version version) masters (m ∷ []) ∙ in_front (find (is_version version) masters)
    (find (is_version version) (m ∷ [])) (there_before (find (is_version version) masters) listed))

pub last_is : (masters : List Master) (newest : Master) → last_or None masters ≡ Some newest
    → last_version masters ≡ newest.version
unfolding last_version
last_is masters newest e = ap (λ (o : Option Master). unwrap_or (option_map (λ (m : Master). m.version) o) 0) e

pub same_masters : (masters : List Master) (etype : Etype) (random : List ℕ)
    → added_masters masters (new_master etype random masters).key ≡ masters ++ new_master etype random masters ∷ []
unfolding added_masters new_master
same_masters masters etype random = refl

-- ---- K/M with it

module _ (masters : List Master) (history : Key) (etype : Etype) (random : List ℕ) (p : Princ) (q : PlainPrinc)
    (f : ShowsPrinc masters history p q) (keys : map master_in q.keys ≡ reverse masters) (old : IsChain p masters) where
  abbrev m : Master
  m = new_master etype random masters

  abbrev made : Princ
  made = added_record p masters m.key (confounders etype random)

  new_keys : map master_in (with_master m q).keys ≡ reverse (masters ++ m ∷ [])
  unfolding with_master
  new_keys = ap (λ (ms : List Master). m ∷ ms) keys ∙ sym (reverse-append masters (m ∷ []))

  new_salts : AllZip SameSalt made.keys (with_master m q).keys
  unfolding with_master added_record added_keys newest_item newest_first
  new_salts = (
    refl,
    salts_with old.newest m.key (confounders etype random) 1 f.master p.keys
        (reverse masters) q.keys old.under.keys f.under.keys,
  )

  new_head : head made ≡ plain_head (with_master m q)
  unfolding with_master added_record new_master
  new_head = ap (λ (h : Princ). record h { mkvno = next_version masters }) f.under.fields

  new_old : AllZip (ShowsSet history) made.old (with_master m q).old
  unfolding with_master added_record
  new_old = f.under.old

  pub added_shows : IsChain made (masters ++ m ∷ []) → ShowsPrinc (masters ++ m ∷ []) history made (with_master m q)
  added_shows chain = record {
    master = chain.newest;
    named = newest_named chain.under.older made.mkvno chain.newest
        (masters ++ m ∷ []) chain.under.masters_are chain.under.rising;
    under = record {
      fields = new_head;
      keys = items_from chain.newest made.keys (with_master m q).keys
          (reverse (masters ++ m ∷ [])) chain.under.keys new_keys new_salts;
      old = new_old;
    };
  }

  pub added_chain : (part : ChainPart) → p.chain ≡ Some part → IsChain made (masters ++ m ∷ [])
      → ShowsChain (masters ++ m ∷ []) part.activations made
  unfolding added_record
  added_chain part part_is chain = record {
    chain = chain;
    part = with_aux _ part;
    part_is = ap (option_map (with_aux _)) part_is;
    activations_are = refl;
  }
