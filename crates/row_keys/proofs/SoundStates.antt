-- The state that sound rows show.
use Rattle.std.proofs.Common.{◌≡◌, ℕ, List, [], ◌∷◌, map, reverse, get_or, Option}
use Rattle.std.proofs.Common.{Some, None, refl, sym, ap, subst, ◌∙◌, arith}
use Rattle.std.specs.Prelude.{IfSome, IsTrue, is_some, option_and_then, option_map}
use Rattle.std.specs.List.{All, AllZip, Contains}
use Rattle.std.proofs.lemmas.List.Elements.{All-contains, All-from_recursion, recursion_from_All}
use Rattle.kdb_base.specs.Key.{Key}
use Rattle.kdb_base.specs.Moment.{Moment}
use Rattle.kdb_base.specs.Versions.{AreRising}
use Rattle.kdb_base.specs.declared.moments.Point.{Point}
use Rattle.kdb_base.specs.declared.versions.Activation.{Activation}
use Rattle.kdb_base.specs.declared.versions.Master.{Master}
use Rattle.key_activation.specs.Activations.{active}
use Rattle.master_keys.specs.Chain.{IsKeyOf}
use Rattle.master_keys.specs.First.{master_name}
use Rattle.master_keys.specs.Rewrapping.{Holds, HoldsOne}
use Rattle.master_keys.proofs.SideBySide.{zip_length}
use Rattle.princ_keys.specs.declared.keys.KeyItem.{KeyItem}
use Rattle.princ_name.specs.Realms.{IsRealm}
use Rattle.princ_record.specs.Facts.{IsChainOr}
use Rattle.princ_record.specs.RowLimits.{IsRow}
use Rattle.princ_record.specs.declared.facts.ChainPart.{ChainPart}
use Rattle.princ_record.specs.declared.princs.Princ.{Princ}
use Rattle.princ_rows.specs.Rows.{AreRows, RowLists}
use Rattle.tagged_data.specs.KeyOrder.{AreInOrder}
use Rattle.kdb_plain.specs.States.{HasHistory, HasItsPolicy, HasMasters, IsListed, IsValid}
use Rattle.kdb_plain.specs.States.{NeverRise, first_key, has_policy, history_key, history_name}
use Rattle.kdb_plain.specs.States.{master_in, master_of, newest_version, princ_named}
use Rattle.plain_keys.specs.declared.items.PlainItem.{PlainItem}
use Rattle.kdb_plain.specs.declared.princs.PlainPrinc.{PlainPrinc}
use Rattle.kdb_plain.specs.declared.states.State.{State}
use Rattle.row_keys.specs.Lookups.{record_named}
use Rattle.row_keys.specs.Shows.{Shows, ShowsItem, ShowsPrinc}
use Rattle.row_keys.specs.Sides.{IsBeside}
use Rattle.row_keys.specs.Sound.{AreHeldUnder, AreSound, HasHistoryKey, HasOneKey}
use Rattle.row_keys.specs.Sound.{HasState, HoldsOldOne, IsSound, IsSoundChain, Judged}
use Rattle.row_keys.proofs.Formed.{items_from}
use Rattle.row_keys.proofs.Judgements.{same_entry, same_key, same_part, some_there}
use Rattle.row_keys.proofs.Lengths.{last_pushed}
use Rattle.row_keys.proofs.Names.{found_alike, same_mkvno, same_name, same_policy}
use Rattle.row_keys.proofs.Sides.{both_beside, zip_right}
use Rattle.row_keys.proofs.SoundRows.{newest_named, one_item, ordered_never_rise, princ_made}
use Rattle.row_keys.proofs.SoundRows.{record_there, some_from, zip_join, zip_made, zip_maps}
use Rattle.row_keys.proofs.Whole.{HoldOneKey, IsWhole, listed_whole}

module _ (one : HoldOneKey) (j : Judged) (r : RowLists) (are : AreRows r) (realm : IsRealm j.realm)
    (sound : AreSound j r) where
  -- ---- K/M

  km : (p : Princ) × (record_named (master_name j.realm) r.princs ≡ Some p)
  km = some_from (record_named (master_name j.realm) r.princs) sound.own.master

  km_there : Contains r.princs km.0 × (km.0.name ≡ master_name j.realm)
  km_there = record_there (master_name j.realm) r.princs km.0 km.1

  chain : IsSoundChain j.masters j.secs km.0
  chain = (All-contains (IsSound j r) r.princs km.0 sound.each km_there.0).own.chain km_there.1

  whole : (version : ℕ) (key : Key) → master_of j.masters version ≡ Some key → IsWhole key
  whole version key named = listed_whole km.0 j.masters version key chain.chain named

  -- ---- kadmin/history

  hm : (p : Princ) × (record_named (history_name j.realm) r.princs ≡ Some p)
  hm = some_from (record_named (history_name j.realm) r.princs) sound.own.history

  hm_there : Contains r.princs hm.0 × (hm.0.name ≡ history_name j.realm)
  hm_there = record_there (history_name j.realm) r.princs hm.0 hm.1

  hm_sound : IsSound j r hm.0
  hm_sound = All-contains (IsSound j r) r.princs hm.0 sound.each hm_there.0

  hm_item : (item : KeyItem) × (hm.0.keys ≡ item ∷ [])
  hm_item = one_item hm.0.keys (hm_sound.own.history hm_there.1)

  hm_key : HoldsOne hm_sound.keys.master hm_item.0
  hm_key =
      (recursion_from_All (HoldsOne hm_sound.keys.master) (hm_item.0 ∷ [])
      (subst (λ (ks : List KeyItem). All (HoldsOne hm_sound.keys.master) ks) hm_item.1 hm_sound.keys.keys)).0

  abbrev history : Key
  history = hm_key.0

  -- any key that is found for kadmin/history is this one
  history_once : (key : Key) → HasHistoryKey j.masters j.realm r.princs key → key ≡ history
  history_once key h =
      let entry : h.entry ≡ hm.0 = same_entry h.entry hm.0 (sym h.there ∙ hm.1) in
      let has : HasOneKey j.masters hm.0 key = subst (λ (p : Princ). HasOneKey j.masters p key) entry h.has in
      let item : has.item ≡ hm_item.0 = same_first has.item hm_item.0 (sym has.one ∙ hm_item.1) in
      let master : has.master ≡ hm_sound.keys.master =
      same_key has.master hm_sound.keys.master (sym has.named ∙ hm_sound.keys.named) in
      let holds : Holds hm_sound.keys.master hm_item.0 key = subst (λ (i : KeyItem). Holds hm_sound.keys.master i key)
      item (subst (λ (m : Key). Holds m has.item key) master has.holds) in
      let w = whole hm.0.mkvno hm_sound.keys.master hm_sound.keys.named in
      one hm_sound.keys.master hm_item.0.etype hm_item.0.wrapped key history w.long w.bytes holds hm_key.1
    where
      same_first : (a b : KeyItem) → ◌≡◌ {A = List KeyItem} (a ∷ []) (b ∷ []) → a ≡ b
      same_first a b e = cc

  -- ---- records

  held : (p : Princ) → IsSound j r p → All (AreHeldUnder history) p.old
  held p s =
      let all = s.old (some_there (record_named (history_name j.realm) r.princs) hm.0 hm.1) in
      λ i d lt k e within.
      let remembered = all i d lt k e within in
      subst (λ (h : Key). HoldsOldOne h (get_or (get_or p.old i d).keys k e))
      (history_once remembered.history remembered.history_is) remembered.held

  princs : (qs : List PlainPrinc) × AllZip (ShowsPrinc j.masters history) r.princs qs
  princs =
      zip_made (ShowsPrinc j.masters history) (IsSound j r) (λ p s. princ_made j.masters history p s.keys (held p s))
      r.princs (recursion_from_All (IsSound j r) r.princs sound.each)

  abbrev Beside : List ℕ → Princ → Type 0
  Beside name p = IsBeside (ShowsPrinc j.masters history) p (princ_named name princs.0)

  beside_named : (name : List ℕ) (p : Princ) → record_named name r.princs ≡ Some p → Beside name p
  beside_named name p e =
      both_beside (ShowsPrinc j.masters history) (record_named name r.princs) (princ_named name princs.0) p
      (found_alike j.masters history r.princs princs.0 princs.1 name) e

  -- ---- the state

  abbrev state : Point → State
  state point = record {
    realm = j.realm;
    masters = j.masters;
    activations = chain.part.activations;
    princs = princs.0;
    policies = r.policies;
    point = point;
  }

  shown_first : (master : Key) (items : List KeyItem) (keys : List PlainItem) (item : KeyItem) (key : Key)
      → IsWhole master → items ≡ item ∷ [] → Holds master item key → AllZip (ShowsItem master) items keys
      → first_key keys ≡ Some key
  shown_first master [] keys item key w e holds h = absurd (no_item e)
    where
      no_item : ◌≡◌ {A = List KeyItem} [] (item ∷ []) → ⊥
      no_item e = cc
  shown_first master (i ∷ items) [] item key w e holds h = absurd h
  shown_first master (i ∷ items) (k ∷ keys) item key w e holds h =
      let same : i ≡ item = first_same e in
      let here : Holds master item k.key = subst (λ (x : KeyItem). Holds master x k.key) same h.0.holds in
      ap Some (one master item.etype item.wrapped k.key key w.long w.bytes here holds)
    where
      first_same : ◌≡◌ {A = List KeyItem} (i ∷ items) (item ∷ []) → i ≡ item
      first_same e = cc

  history_is : history_key j.realm princs.0 ≡ Some history
  unfolding history_key
  history_is =
      let b = beside_named (history_name j.realm) hm.0 hm.1 in
      let same : hm_sound.keys.master ≡ b.beside.master =
      same_key hm_sound.keys.master b.beside.master (sym hm_sound.keys.named ∙ b.beside.named) in
      let holds : Holds b.beside.master hm_item.0 history =
      subst (λ (m : Key). Holds m hm_item.0 history) same hm_key.1 in
      ap (λ (o : Option PlainPrinc). option_and_then (λ (q : PlainPrinc). first_key q.keys) o) b.there
      ∙ shown_first b.beside.master hm.0.keys b.other.keys hm_item.0 history
      (whole hm.0.mkvno b.beside.master b.beside.named) hm_item.1 holds b.beside.under.keys

  shows : (point : Point) → Shows r (state point)
  shows point = record {
    history = history;
    history_is = history_is;
    princs = princs.1;
    policies = refl;
    entry = km.0;
    there = km.1;
    chain = record { chain = chain.chain; part = chain.part; part_is = chain.part_is; activations_are = refl };
  }

  -- ---- it is valid

  km_beside : Beside (master_name j.realm) km.0
  km_beside = beside_named (master_name j.realm) km.0 km.1

  km_master : km_beside.beside.master ≡ chain.chain.newest
  km_master =
      let u = chain.chain.under in
      same_key km_beside.beside.master chain.chain.newest
      (sym km_beside.beside.named ∙ newest_named u.older km.0.mkvno chain.chain.newest j.masters u.masters_are u.rising)

  master_is : (item : KeyItem) (k : PlainItem) (m : Master) → ShowsItem chain.chain.newest item k
      → IsKeyOf chain.chain.newest item m → master_in k ≡ m
  master_is item k m f g =
      let u = chain.chain.under in
      let w = whole km.0.mkvno chain.chain.newest
      (newest_named u.older km.0.mkvno chain.chain.newest j.masters u.masters_are u.rising) in
      let version : k.kvno ≡ m.version = sym f.kvno ∙ g.version in
      let key : k.key ≡ m.key =
      one chain.chain.newest item.etype item.wrapped k.key m.key w.long w.bytes f.holds g.unwraps in
      made_is k.kvno k.key m version key
    where
      made_is : (version : ℕ) (key : Key) (m : Master) → version ≡ m.version → key ≡ m.key
          → ◌≡◌ {A = Master} (record { version = version; key = key }) m
      made_is version key m a b = rw (a, b) refl

  masters_are : (point : Point) → HasMasters (state point)
  masters_are point =
      let u = chain.chain.under in
      let shown : AllZip (ShowsItem chain.chain.newest) km.0.keys km_beside.other.keys =
      subst (λ (m : Key). AllZip (ShowsItem m) km.0.keys km_beside.other.keys) km_master km_beside.beside.under.keys in
      record {
        entry = km_beside.other;
        there = km_beside.there;
        keys = zip_join (ShowsItem chain.chain.newest) (IsKeyOf chain.chain.newest) master_in master_is km.0.keys
            km_beside.other.keys (reverse j.masters) shown u.keys;
        newest =
            ap Some (sym (same_mkvno km.0 km_beside.other km_beside.beside))
            ∙ sym (ap newest_version u.masters_are ∙ ap (λ (o : Option Master). option_map (λ m. m.version) o)
            (last_pushed None u.older (record { version = km.0.mkvno; key = chain.chain.newest })));
      }

  its_policy : (p : Princ) (q : PlainPrinc) → ShowsPrinc j.masters history p q → IsSound j r p
      → HasItsPolicy r.policies q
  its_policy p q f s = subst (λ (o : Option (List ℕ)). IfSome o (λ name. IsTrue (has_policy name r.policies)))
      (same_policy p q f) s.policy

  falls : (p : Princ) (q : PlainPrinc) → ShowsPrinc j.masters history p q → IsRow p → NeverRise q.keys
  falls p q f row = ordered_never_rise q.keys (items_from f.master p.keys q.keys f.under.keys row.fits.keys).ordered

  abbrev IsUnder : PlainPrinc → Type 0
  IsUnder q = IsListed j.masters q.mkvno

  listed : (p : Princ) (q : PlainPrinc) → ShowsPrinc j.masters history p q → IsSound j r p → IsUnder q
  listed p q f s = ap is_some (ap (master_of j.masters) (sym (same_mkvno p q f)) ∙ s.keys.named)

  rising : AreRising (map (λ (a : Activation). a.version) chain.part.activations)
  rising =
      let row = All-contains IsRow r.princs km.0 are.princs km_there.0 in
      part_rises km.0.chain chain.part chain.part_is row.fits.facts.chain
    where
      part_rises : (o : Option ChainPart) (part : ChainPart) → o ≡ Some part → IsChainOr o
          → AreRising (map (λ (a : Activation). a.version) part.activations)
      part_rises None part e f = absurd cc
      part_rises (Some c) part e f =
          subst (λ (x : ChainPart). AreRising (map (λ (a : Activation). a.version) x.activations))
          (same_part c part e) f.activations.rising

  has_history : (point : Point) → HasHistory (state point)
  has_history point =
      let b = beside_named (history_name j.realm) hm.0 hm.1 in
      record {
        entry = b.other;
        there = b.there;
        one = sym (zip_length (ShowsItem b.beside.master) hm.0.keys b.other.keys b.beside.under.keys)
            ∙ hm_sound.own.history hm_there.1;
      }

  valid : (point : Point) (time : Moment) → time.secs ≡ j.secs → IsValid time (state point)
  valid point time at = record {
    realm = realm;
    princ_order = subst AreInOrder (zip_maps (ShowsPrinc j.masters history) (λ p. p.name)
        (λ q. q.name) same_name r.princs princs.0 princs.1) are.princ_order;
    policy_order = are.policy_order;
    few = let few = are.few in omega (arith, zip_length (ShowsPrinc j.masters history) r.princs princs.0 princs.1);
    policies = are.policies;
    policies_there = All-from_recursion (HasItsPolicy r.policies) princs.0
        (zip_right (ShowsPrinc j.masters history) (IsSound j r) (HasItsPolicy r.policies) its_policy r.princs princs.0
        princs.1 (recursion_from_All (IsSound j r) r.princs sound.each));
    falling = All-from_recursion (λ (q : PlainPrinc). NeverRise q.keys) princs.0
        (zip_right (ShowsPrinc j.masters history) IsRow (λ (q : PlainPrinc). NeverRise q.keys) falls r.princs princs.0
        princs.1 (recursion_from_All IsRow r.princs are.princs));
    masters = masters_are point;
    masters_rise = chain.chain.under.rising;
    listed = All-from_recursion IsUnder princs.0 (zip_right (ShowsPrinc j.masters history)
        (IsSound j r) IsUnder listed r.princs princs.0 princs.1 (recursion_from_All (IsSound j r) r.princs sound.each));
    activations = chain.listed;
    activations_rise = rising;
    begun = subst (λ (secs : ℕ). IsTrue (is_some (active chain.part.activations secs))) (sym at) chain.begun;
    history = has_history point;
  }

  pub sound_state : (point : Point) → HasState j r point
  sound_state point = record {
    state = state point;
    is = record { realm_is = refl; masters_are = refl; point_is = refl; shows = shows point; valid = valid point };
  }
