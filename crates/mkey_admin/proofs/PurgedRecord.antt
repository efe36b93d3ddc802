-- K/M's record without the versions that do not serve.
use Rattle.std.proofs.Common.{◌≡◌, ℕ, ◌<◌, true, List, length, map, reverse, get_or, sym, ap, ◌∙◌, ◌⊎◌, inl, inr}
use Rattle.std.specs.Prelude.{filter, option_map}
use Rattle.std.specs.List.{All, AllZip}
use Rattle.std.proofs.lemmas.List.Elements.{recursion_from_All}
use Rattle.kdb_base.specs.Key.{Key}
use Rattle.kdb_base.specs.declared.versions.Activation.{Activation}
use Rattle.kdb_plain.specs.States.{IsListed, master_in, master_of}
use Rattle.kdb_plain.specs.declared.princs.PlainPrinc.{PlainPrinc}
use Rattle.kdb_plain.specs.declared.states.State.{State}
use Rattle.master_keys.proofs.Live.{last_is_named}
use Rattle.master_keys.specs.Chain.{IsChain}
use Rattle.master_keys.specs.First.{master_name}
use Rattle.master_keys.specs.Purging.{live_part, purged_record}
use Rattle.master_keys.specs.Versions.{is_live}
use Rattle.mkey_admin.proofs.Unserving.{live_keys, live_listed, same_filter, serving_named, under_serves}
use Rattle.plain_keys.specs.declared.items.PlainItem.{PlainItem}
use Rattle.princ_keys.specs.declared.keys.KeyItem.{KeyItem}
use Rattle.princ_record.specs.declared.princs.Princ.{Princ}
use Rattle.row_keys.proofs.Sides.{zip_passed, zip_with_all}
use Rattle.row_keys.specs.Shows.{ShowsChain, ShowsItem, ShowsPrinc}
use Rattle.serving_versions.proofs.Purged.{newest_serves}
use Rattle.serving_versions.specs.MasterChanges.{serving_activations, with_serving}
use Rattle.serving_versions.specs.Versions.{dead_versions, serves, serving_masters}

-- ---- the record without versions that do not serve

module _ (s : State) (secs : ℕ) (history : Key) (p : Princ) (q : PlainPrinc) (f : ShowsPrinc s.masters history p q)
    (keys : map master_in q.keys ≡ reverse s.masters) (chain : IsChain p s.masters) where
  abbrev dead : List ℕ
  dead = dead_versions s secs

  abbrev made : Princ
  made = purged_record dead p

  own_serves : serves s secs p.mkvno ≡ true
  own_serves = ap (serves s secs) (sym (last_is_named p s.masters chain)) ∙ newest_serves s secs

  left_keys : AllZip (ShowsItem f.master) (filter (λ (k : KeyItem). is_live dead k.kvno) p.keys)
      (filter (λ (k : PlainItem). serves s secs k.kvno) q.keys)
  left_keys =
      zip_passed (λ (item : KeyItem) (k : PlainItem). ShowsItem f.master item k
      × (is_live dead k.kvno ≡ serves s secs k.kvno)) (ShowsItem f.master)
      (λ (k : KeyItem). is_live dead k.kvno) (λ (k : PlainItem). serves s secs k.kvno)
      (λ item k h. ap (is_live dead) h.0.kvno ∙ h.1) (λ item k h e. h.0) p.keys q.keys
      (zip_with_all (ShowsItem f.master) (λ (k : PlainItem). is_live dead k.kvno ≡ serves s secs k.kvno) p.keys q.keys
      f.under.keys (live_keys s secs q.keys keys))

  pub purged_shows : ShowsPrinc (serving_masters s secs) history made (with_serving s secs q)
  unfolding purged_record with_serving
  purged_shows = record {
    master = f.master;
    named = serving_named s secs p.mkvno own_serves ∙ f.named;
    under = record { fields = f.under.fields; keys = left_keys; old = f.under.old };
  }

-- its activations are those of versions that serve
pub left_chain : (s : State) (secs : ℕ) (p : Princ) (dead : List ℕ) → ShowsChain s.masters s.activations p
    → dead ≡ dead_versions s secs → All (λ (a : Activation). IsListed s.masters a.version) s.activations
    → IsChain (purged_record dead p) (serving_masters s secs)
    → ShowsChain (serving_masters s secs) (serving_activations s secs) (purged_record dead p)
unfolding purged_record live_part serving_activations
left_chain s secs p dead old same listed chain = record {
  chain = chain;
  part = live_part dead old.part;
  part_is = ap (option_map (live_part dead)) old.part_is;
  activations_are =
      ap (filter (λ (a : Activation). is_live dead a.version)) old.activations_are
      ∙ ap (λ (vs : List ℕ). filter (λ (a : Activation). is_live vs a.version) s.activations) same
      ∙ same_filter (λ (a : Activation). is_live (dead_versions s secs) a.version)
      (λ (a : Activation). serves s secs a.version) s.activations
      (recursion_from_All (λ (a : Activation). is_live (dead_versions s secs) a.version ≡ serves s secs a.version)
      s.activations
      (λ k d lt. live_listed s secs (get_or s.activations k d).version (listed k d lt)));
}

pub purged_name : (s : State) (secs : ℕ) (q : PlainPrinc) → q.name ≡ master_name s.realm
    → (with_serving s secs q).name ≡ master_name s.realm
unfolding with_serving
purged_name s secs q e = e

-- the version of every other principal keeps its key
pub others_stay : (s : State) (secs : ℕ) (k : ℕ) (d : PlainPrinc) → k < length s.princs
    → ((get_or s.princs k d).name ≡ master_name s.realm)
    ⊎ (master_of (serving_masters s secs) (get_or s.princs k d).mkvno ≡ master_of s.masters (get_or s.princs k d).mkvno)
others_stay s secs k d lt =
    elim (under_serves s secs k d lt) [
      | inl own ↦ inl own
      | inr serving ↦ inr (serving_named s secs (get_or s.princs k d).mkvno serving)
    ]
