-- Changes of the master keys that keep a state valid.
use Rattle.std.proofs.Common.{◌≡◌, ◌≢◌, ℕ, ◌+◌, ◌<◌, ◌≤◌, Bool, true, false, List, [], ◌∷◌}
use Rattle.std.proofs.Common.{◌++◌, length, map, reverse, Option, Some, None, get_or, refl}
use Rattle.std.proofs.Common.{sym, ap, subst, ◌∙◌, ◌⊎◌, inl, inr, arith, eqb-true, eq-eqb}
use Rattle.std.specs.Prelude.{Contains, codes, filter, find, is_some, nat_eq}
use Rattle.std.specs.Prelude.{nat_lt, option_map, unwrap_or, IfSome, IsTrue}
use Rattle.std.specs.List.{All, AllByRecursion, Any, last_or}
use Rattle.std.specs.Str.{bytes_eq}
use Rattle.std.proofs.lemmas.List.{reverse-append}
use Rattle.std.proofs.lemmas.List.Elements.{All-contains, All-contains_itself, All-filter}
use Rattle.std.proofs.lemmas.List.Elements.{All-from_recursion, filter_passes, recursion_from_All}
use Rattle.kdb_base.specs.Key.{Key}
use Rattle.kdb_base.specs.Limits.{most_rows}
use Rattle.kdb_base.specs.Moment.{Moment}
use Rattle.kdb_base.specs.Versions.{AreRising}
use Rattle.kdb_base.specs.declared.versions.Activation.{Activation}
use Rattle.kdb_base.specs.declared.versions.Master.{Master}
use Rattle.key_activation.specs.Activations.{active, with_activation}
use Rattle.master_keys.specs.First.{master_name}
use Rattle.master_keys.specs.Versions.{last_version}
use Rattle.princ_rows.specs.Effects.{put_by}
use Rattle.princ_rows.specs.EntryLaws.{same_bytes, bytes_same}
use Rattle.princ_rows.specs.Rows.{IsAt}
use Rattle.tagged_data.specs.KeyOrder.{AreInOrder}
use Rattle.princ_rows.proofs.Edits.{set_is_put}
use Rattle.princ_rows.proofs.Orders.{put_order, put_each}
use Rattle.kdb_plain.specs.Changes.{effect_on, name_of, put_princ}
use Rattle.kdb_plain.specs.Lists.{princ_names}
use Rattle.serving_versions.specs.MasterChanges.{adds_master, master_item, purges_masters, serving_activations}
use Rattle.serving_versions.specs.MasterChanges.{uses_version, with_master, with_serving}
use Rattle.kdb_plain.specs.States.{HasHistory, HasItsPolicy, HasMasters, IsListed, IsValid}
use Rattle.kdb_plain.specs.States.{NeverRise, has_policy, history_name, is_named, is_version}
use Rattle.kdb_plain.specs.States.{master_in, master_of, newest_version, princ_named}
use Rattle.serving_versions.specs.Versions.{serves, serving_masters}
use Rattle.plain_keys.specs.declared.items.PlainItem.{PlainItem}
use Rattle.kdb_plain.specs.declared.princs.PlainPrinc.{PlainPrinc}
use Rattle.kdb_plain.specs.declared.states.State.{State}
use Rattle.serving_versions.proofs.Causes.{serves_where}
use Rattle.kdb_plain.proofs.Finds.{found_in}
use Rattle.serving_versions.proofs.Kept.{find_in_front, find_kept, find_last}
use Rattle.serving_versions.proofs.Kept.{filter_reverse, last_kept, last_push, map_filter}
use Rattle.serving_versions.proofs.LatestKept.{still_active}
use Rattle.kdb_plain.proofs.Named.{put_own, put_other}
use Rattle.serving_versions.proofs.Places.{named_holds, named_so, put_same}
use Rattle.serving_versions.proofs.Purged.{newest_serves}
use Rattle.serving_versions.proofs.Ranked.{activation_rising, master_rising, masters_never_rise, rising_filter}

truth : (b : Bool) → (b ≡ true) ⊎ (b ≡ false)
truth true = inl refl
truth false = inr refl

differ : (a b : List ℕ) → bytes_eq a b ≡ false → a ≢ b
differ a b different e = let same = bytes_same a b e in absurd cc

each : {A : Type 0} (F G : A → Type 0) → ((x : A) → F x → G x) → (xs : List A) → All F xs → All G xs
each F G to xs all = λ k d lt. to _ (all k d lt)

not_history : (realm : List ℕ) → master_name realm ≡ history_name realm → ⊥
unfolding master_name history_name
not_history realm e = let first : ◌≡◌ {A = ℕ} 75 107 =
    ap (λ (name : List ℕ). get_or name 0 0) e in absurd (omega (arith, first))

-- ---- K/M with these keys, and these master keys and activations

pub record IsMasterSet (time : Moment) (s : State) (entry q : PlainPrinc) (masters : List Master)
    (activations : List Activation) : Type 0 where
  pub there : princ_named (master_name s.realm) s.princs ≡ Some entry
  pub named : q.name ≡ entry.name
  pub policy : q.policy ≡ entry.policy
  pub keys : map master_in q.keys ≡ reverse masters
  pub newest : Some q.mkvno ≡ newest_version masters
  pub rise : AreRising (map (λ (m : Master). m.version) masters)
  pub listed : All (λ (p : PlainPrinc). IsListed masters p.mkvno) s.princs
  pub own : IsListed masters q.mkvno
  pub activations_listed : All (λ (a : Activation). IsListed masters a.version) activations
  pub activations_rise : AreRising (map (λ (a : Activation). a.version) activations)
  pub begun : IsTrue (is_some (active activations time.secs))

pub is_there : (name : List ℕ) (princs : List PlainPrinc) (q : PlainPrinc) → princ_named name princs ≡ Some q
    → find (is_named name) princs ≡ Some q
unfolding princ_named
is_there name princs q e = e

module _ (time : Moment) (s : State) (entry q : PlainPrinc) (masters : List Master) (activations : List Activation)
    (f : IsValid time s) (h : IsMasterSet time s entry q masters activations) where
  found : find (is_named (master_name s.realm)) s.princs ≡ Some entry
  found = is_there (master_name s.realm) s.princs entry h.there

  name_is : q.name ≡ master_name s.realm
  name_is = h.named ∙ named_so name_of (master_name s.realm) s.princs entry found

  same_count : length (put_by name_of q s.princs) ≡ length s.princs
  same_count = put_same name_of s.princs q entry f.princ_order
      (subst (λ (n : List ℕ). find (is_named n) s.princs ≡ Some entry) (sym name_is) found)

  own_policy : HasItsPolicy s.policies q
  own_policy =
      subst (λ (o : Option (List ℕ)). IfSome o (λ name. IsTrue (has_policy name s.policies))) (sym h.policy)
      (named_holds name_of (HasItsPolicy s.policies) (master_name s.realm) s.princs entry found f.policies_there)

  other_history : HasHistory s → HasHistory (put_princ q (record s { masters = masters; activations = activations }))
  unfolding princ_named
  other_history old = record {
    entry = old.entry;
    there =
        put_other name_of (history_name s.realm) q s.princs (λ e. not_history s.realm (sym (e ∙ name_is))) ∙ old.there;
    one = old.one;
  }

  own_there : princ_named (master_name s.realm) (put_by name_of q s.princs) ≡ Some q
  unfolding princ_named
  own_there = subst (λ (n : List ℕ). find (is_named n) (put_by name_of q s.princs) ≡ Some q) name_is
      (put_own name_of q s.princs)

  pub set_valid : IsValid time (put_princ q (record s { masters = masters; activations = activations }))
  set_valid = record {
    realm = f.realm;
    princ_order = put_order name_of q s.princs f.princ_order;
    policy_order = f.policy_order;
    few = let few = f.few in omega (arith, same_count);
    policies = f.policies;
    policies_there = put_each (HasItsPolicy s.policies) name_of q s.princs own_policy f.policies_there;
    falling = put_each (λ (o : PlainPrinc). NeverRise o.keys) name_of q s.princs
        (masters_never_rise q.keys masters h.keys h.rise) f.falling;
    masters = record { entry = q; there = own_there; keys = h.keys; newest = h.newest };
    masters_rise = h.rise;
    listed = put_each (λ (p : PlainPrinc). IsListed masters p.mkvno) name_of q s.princs h.own h.listed;
    activations = h.activations_listed;
    activations_rise = h.activations_rise;
    begun = h.begun;
    history = other_history f.history;
  }

some_mapped : {A B : Type 0} (g : A → B) (o : Option A) → is_some o ≡ true → is_some (option_map g o) ≡ true
some_mapped g None e = absurd cc
some_mapped g (Some a) e = refl

some_of : {A B : Type 0} (g : A → B) (o : Option A) → is_some (option_map g o) ≡ true → is_some o ≡ true
some_of g None e = absurd cc
some_of g (Some a) e = refl

still_listed : (masters : List Master) (m : Master) (version : ℕ) → IsListed masters version
    → IsListed (masters ++ m ∷ []) version
unfolding master_of
still_listed masters m version e =
    some_mapped (λ (m : Master). m.key) (find (is_version version) (masters ++ m ∷ []))
    (find_in_front (is_version version) masters (m ∷ [])
    (some_of (λ (m : Master). m.key) (find (is_version version) masters) e))

new_listed : (masters : List Master) (m : Master) → IsListed (masters ++ m ∷ []) m.version
unfolding master_of
new_listed masters m =
    some_mapped (λ (m : Master). m.key) (find (is_version m.version) (masters ++ m ∷ []))
    (find_last (is_version m.version) masters m (eq-eqb m.version m.version refl))

same_entry : (entry other : PlainPrinc) → ◌≡◌ {A = Option PlainPrinc} (Some entry) (Some other) → entry ≡ other
same_entry entry other e = cc

module _ (time : Moment) (s : State) (entry : PlainPrinc) (f : IsValid time s)
    (there : princ_named (master_name s.realm) s.princs ≡ Some entry) where
  entry_is : entry ≡ f.masters.entry
  entry_is = same_entry entry f.masters.entry (sym there ∙ f.masters.there)

  keys_are : map master_in entry.keys ≡ reverse s.masters
  keys_are = ap (λ (p : PlainPrinc). map master_in p.keys) entry_is ∙ f.masters.keys

  newest_is : Some entry.mkvno ≡ newest_version s.masters
  newest_is = ap (λ (p : PlainPrinc). Some p.mkvno) entry_is ∙ f.masters.newest

  own_listed : IsListed s.masters entry.mkvno
  own_listed = named_holds name_of (λ (p : PlainPrinc). IsListed s.masters p.mkvno) (master_name s.realm) s.princs entry
      (is_there (master_name s.realm) s.princs entry there) f.listed

  -- ---- add_mkey

  added_keys : (m : Master) → map master_in (master_item m ∷ entry.keys) ≡ reverse (s.masters ++ m ∷ [])
  added_keys m = ap (λ (ms : List Master). m ∷ ms) keys_are ∙ sym (reverse-append s.masters (m ∷ []))

  pub add_valid : (m : Master) → last_version s.masters < m.version → IsValid time (effect_on (adds_master s m entry) s)
  unfolding effect_on adds_master with_master
  add_valid m lt =
      set_valid time s entry (record entry { mkvno = m.version; keys = master_item m ∷ entry.keys })
      (s.masters ++ m ∷ []) s.activations f
      (record {
        there = there;
        named = refl;
        policy = refl;
        keys = added_keys m;
        newest = ap (option_map (λ (m : Master). m.version)) (sym (last_push None s.masters m));
        rise = master_rising s.masters m f.masters_rise lt;
        listed = each (λ (p : PlainPrinc). IsListed s.masters p.mkvno) (λ (p : PlainPrinc).
            IsListed (s.masters ++ m ∷ []) p.mkvno) (λ p e. still_listed s.masters m p.mkvno e) s.princs f.listed;
        own = new_listed s.masters m;
        activations_listed = each (λ (a : Activation). IsListed s.masters a.version)
            (λ (a : Activation). IsListed (s.masters ++ m ∷ []) a.version)
            (λ a e. still_listed s.masters m a.version e) s.activations f.activations;
        activations_rise = f.activations_rise;
        begun = f.begun;
      })

  -- ---- use_mkey

  joined : (F : Activation → Type 0) (xs : List Activation) (a : Activation) (ys : List Activation)
      → AllByRecursion F xs → F a → AllByRecursion F ys → AllByRecursion F (xs ++ a ∷ ys)
  joined F [] a ys h own g = (own, g)
  joined F (x ∷ xs) a ys h own g = (h.0, joined F xs a ys h.1 own g)

  used_listed : (version secs : ℕ) → IsListed s.masters version
      → All (λ (a : Activation). IsListed s.masters a.version) (with_activation version secs s.activations)
  unfolding with_activation
  used_listed version secs is =
      let F : Activation → Type 0 = λ (a : Activation). IsListed s.masters a.version in
      let low = filter (λ (a : Activation). nat_lt a.version version) s.activations in
      let high = filter (λ (a : Activation). nat_lt version a.version) s.activations in
      All-from_recursion F (low ++ record { version = version; secs = secs } ∷ high)
      (joined F low (record { version = version; secs = secs }) high
      (recursion_from_All F low
      (All-filter (λ (a : Activation). nat_lt a.version version) F s.activations f.activations)) is
      (recursion_from_All F high
      (All-filter (λ (a : Activation). nat_lt version a.version) F s.activations f.activations)))

  pub use_valid : (version secs : ℕ)
      → IsListed s.masters version → is_some (active (with_activation version secs s.activations) time.secs) ≡ true
      → IsValid time (effect_on (uses_version s version secs entry) s)
  unfolding effect_on uses_version
  use_valid version secs is begun =
      set_valid time s entry entry s.masters (with_activation version secs s.activations) f
      (record {
        there = there;
        named = refl;
        policy = refl;
        keys = keys_are;
        newest = newest_is;
        rise = f.masters_rise;
        listed = f.listed;
        own = own_listed;
        activations_listed = used_listed version secs is;
        activations_rise = activation_rising version secs s.activations f.activations_rise;
        begun = begun;
      })

-- ---- purge_mkeys

pub serving_listed : (s : State) (secs version : ℕ) → serves s secs version ≡ true → IsListed s.masters version
    → IsListed (serving_masters s secs) version
unfolding master_of serving_masters
serving_listed s secs version serving is =
    let p : Master → Bool = λ (m : Master). serves s secs m.version in
    ap (λ (o : Option Master). is_some (option_map (λ (m : Master). m.key) o))
    (find_kept (is_version version) p (λ m e. ap (serves s secs) (eqb-true m.version version e) ∙ serving) s.masters)
    ∙ is

last_named : (masters : List Master) (version : ℕ) → Some version ≡ newest_version masters
    → last_version masters ≡ version
unfolding last_version
last_named masters version e = ap (λ (o : Option ℕ). unwrap_or o 0) (sym e)

last_there : (masters : List Master) (version : ℕ) (o : Option Master)
    → last_or None masters ≡ o → Some version ≡ option_map (λ (m : Master). m.version) o
    → (m : Master) × ((last_or None masters ≡ Some m) × (m.version ≡ version))
last_there masters version None e is = absurd cc
last_there masters version (Some m) e is = (m, (e, sym (same_number version m.version is)))
  where
    same_number : (a b : ℕ) → ◌≡◌ {A = Option ℕ} (Some a) (Some b) → a ≡ b
    same_number a b e = cc

module _ (time : Moment) (s : State) (entry : PlainPrinc) (f : IsValid time s)
    (there : princ_named (master_name s.realm) s.princs ≡ Some entry) where
  newest_serving : serves s time.secs entry.mkvno ≡ true
  newest_serving = ap (serves s time.secs) (sym (last_named s.masters entry.mkvno (newest_is time s entry f there)))
      ∙ newest_serves s time.secs

  left_keys : map master_in (filter (λ (k : PlainItem). serves s time.secs k.kvno) entry.keys)
      ≡ reverse (filter (λ (m : Master). serves s time.secs m.version) s.masters)
  left_keys =
      let p : Master → Bool = λ (m : Master). serves s time.secs m.version in
      map_filter master_in p entry.keys ∙ ap (filter p) (keys_are time s entry f there) ∙ filter_reverse p s.masters

  left_newest : Some entry.mkvno ≡ newest_version (filter (λ (m : Master). serves s time.secs m.version) s.masters)
  left_newest =
      let p : Master → Bool = λ (m : Master). serves s time.secs m.version in
      let last = last_there s.masters entry.mkvno (last_or None s.masters) refl (newest_is time s entry f there) in
      sym (ap (option_map (λ (m : Master). m.version))
      (last_kept p s.masters last.0 (ap (serves s time.secs) last.1.1 ∙ newest_serving) last.1.0) ∙ ap Some last.1.1)

  -- a principal's version serves
  one_serves : (p : PlainPrinc) → Contains s.princs p → (test : Bool) → bytes_eq p.name (master_name s.realm) ≡ test
      → serves s time.secs p.mkvno ≡ true
  unfolding princ_named
  one_serves p is_in true same =
      let found = found_in name_of (λ (q : PlainPrinc). q) (master_name s.realm) s.princs s.princs
      (Some p) refl f.princ_order (is_in, same_bytes p.name (master_name s.realm) same) (λ none. absurd cc) in
      ap (λ (q : PlainPrinc). serves s time.secs q.mkvno) (same_entry p entry (found ∙ there)) ∙ newest_serving
  one_serves p is_in false other =
      (serves_where s time.secs p.mkvno).1
      (inl (is_in.0, p, is_in.1, is_in.2, (refl, differ p.name (master_name s.realm) other)))

  left_listed : All (λ (p : PlainPrinc). IsListed (serving_masters s time.secs) p.mkvno) s.princs
  left_listed = λ k d lt.
      serving_listed s time.secs (get_or s.princs k d).mkvno
      (one_serves (get_or s.princs k d) (All-contains_itself s.princs k d lt)
      (bytes_eq (get_or s.princs k d).name (master_name s.realm)) refl)
      (f.listed k d lt)

  activations_left : All (λ (a : Activation). IsListed (serving_masters s time.secs) a.version)
      (serving_activations s time.secs)
  unfolding serving_activations
  activations_left = λ k d lt.
      let p : Activation → Bool = λ (a : Activation). serves s time.secs a.version in
      let a = get_or (filter p s.activations) k d in
      serving_listed s time.secs a.version (filter_passes p s.activations k d lt)
      (All-filter p (λ (a : Activation). IsListed s.masters a.version) s.activations f.activations k d lt)

  left_rising : AreRising (map (λ (a : Activation). a.version) (serving_activations s time.secs))
  unfolding serving_activations
  left_rising = rising_filter (λ (a : Activation). a.version)
      (λ (a : Activation). serves s time.secs a.version) s.activations f.activations_rise

  left_begun : is_some (active (serving_activations s time.secs) time.secs) ≡ true
  left_begun = ap is_some (still_active s time.secs) ∙ f.begun

  pub purge_valid : IsValid time (effect_on (purges_masters s time.secs entry) s)
  unfolding effect_on purges_masters with_serving serving_masters
  purge_valid =
      set_valid time s entry (record entry { keys = filter (λ (k : PlainItem). serves s time.secs k.kvno) entry.keys })
      (filter (λ (m : Master). serves s time.secs m.version) s.masters) (serving_activations s time.secs) f
      (record {
        there = there;
        named = refl;
        policy = refl;
        keys = left_keys;
        newest = left_newest;
        rise = rising_filter (λ (m : Master). m.version)
            (λ (m : Master). serves s time.secs m.version) s.masters f.masters_rise;
        listed = left_listed;
        own = serving_listed s time.secs entry.mkvno newest_serving (own_listed time s entry f there);
        activations_listed = activations_left;
        activations_rise = left_rising;
        begun = left_begun;
      })
