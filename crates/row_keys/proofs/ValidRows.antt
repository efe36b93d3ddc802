-- Rows that show a valid state are sound.
use Rattle.std.proofs.Common.{◌≡◌, ℕ, List, [], ◌∷◌, length, map, get_or, Option}
use Rattle.std.proofs.Common.{Some, None, refl, sym, ap, subst, ◌∙◌, arith}
use Rattle.std.specs.Prelude.{IfSome, IsTrue, is_some}
use Rattle.std.specs.List.{All, AllByRecursion, AllZip, Contains}
use Rattle.std.proofs.lemmas.List.Elements.{All-from_recursion, Contains-get_or}
use Rattle.kdb_base.specs.Key.{Key}
use Rattle.kdb_base.specs.Moment.{Moment}
use Rattle.kdb_base.specs.declared.versions.Activation.{Activation}
use Rattle.key_activation.specs.Activations.{active}
use Rattle.master_keys.specs.First.{master_name}
use Rattle.master_keys.specs.Rewrapping.{Holds, HoldsOne}
use Rattle.master_keys.proofs.SideBySide.{zip_at, zip_length}
use Rattle.policy_rules.specs.Rules.{Rules}
use Rattle.princ_keys.specs.declared.keys.KeyItem.{KeyItem}
use Rattle.princ_keys.specs.declared.remembered.OldKey.{OldKey}
use Rattle.princ_keys.specs.declared.remembered.OldSet.{OldSet}
use Rattle.princ_record.specs.declared.princs.Princ.{Princ}
use Rattle.princ_rows.specs.Rows.{RowLists}
use Rattle.tagged_data.specs.KeyOrder.{AreInOrder}
use Rattle.kdb_plain.specs.States.{HasItsPolicy, IsListed, IsValid, has_policy, history_name, princ_named}
use Rattle.plain_keys.specs.declared.items.PlainItem.{PlainItem}
use Rattle.plain_keys.specs.declared.items.PlainSet.{PlainSet}
use Rattle.kdb_plain.specs.declared.princs.PlainPrinc.{PlainPrinc}
use Rattle.kdb_plain.specs.declared.states.State.{State}
use Rattle.kdb_plain.proofs.Finds.{found_in}
use Rattle.row_keys.specs.Lookups.{record_named}
use Rattle.row_keys.specs.Shows.{Shows, ShowsItem, ShowsOldKey, ShowsPrinc, ShowsSet}
use Rattle.row_keys.specs.Sides.{IsBeside}
use Rattle.row_keys.specs.Sound.{AreSound, HasHistoryKey, IsRemembered, IsSound, IsSoundChain, judged}
use Rattle.row_keys.proofs.Judgements.{same_entry, some_there}
use Rattle.row_keys.proofs.Names.{found_alike, record_name, same_policy}
use Rattle.row_keys.proofs.OneState.{FirstHolds, HistoryRecord, history_record}
use Rattle.row_keys.proofs.Sides.{both_beside_left}
use Rattle.row_keys.proofs.SoundRows.{one_item, zip_maps}

each_opens : (master : Key) (items : List KeyItem) (keys : List PlainItem) → AllZip (ShowsItem master) items keys
    → AllByRecursion (HoldsOne master) items
each_opens master [] [] h = tt
each_opens master [] (k ∷ keys) h = absurd h
each_opens master (i ∷ items) [] h = absurd h
each_opens master (i ∷ items) (k ∷ keys) h = ((k.key, h.0.holds), each_opens master items keys h.1)

module _ (r : RowLists) (s : State) (time : Moment) (f : Shows r s) (v : IsValid time s) where
  order : AreInOrder (map record_name r.princs)
  order = subst AreInOrder (sym (zip_maps (ShowsPrinc s.masters f.history) record_name (λ q. q.name)
      (λ p q g. ap (λ (h : Princ). h.name) g.under.fields) r.princs s.princs f.princs)) v.princ_order

  -- a record is found by its name
  found : (name : List ℕ) (p : Princ) → Contains r.princs p → p.name ≡ name → record_named name r.princs ≡ Some p
  unfolding record_named
  found name p there is = sym (found_in record_name (λ (x : Princ). x) name r.princs r.princs (Some p) refl order (
    there,
    is,
  ) (λ e. absurd (no_value e)))
    where
      no_value : ◌≡◌ {A = Option Princ} (Some p) None → ⊥
      no_value e = cc

  hr : HistoryRecord s.masters s.realm r.princs f.history
  hr = history_record r s f

  -- the history key has its record for itself
  history_beside : IsBeside (λ (q : PlainPrinc) (p : Princ). ShowsPrinc s.masters f.history p q) v.history.entry
      (record_named (history_name s.realm) r.princs)
  history_beside =
      both_beside_left (ShowsPrinc s.masters f.history) (record_named (history_name s.realm) r.princs)
      (princ_named (history_name s.realm) s.princs) v.history.entry
      (found_alike s.masters f.history r.princs s.princs f.princs (history_name s.realm)) v.history.there

  one_history_key : length hr.record_of.keys ≡ 1
  one_history_key =
      let b = history_beside in
      let same : hr.record_of ≡ b.other = same_entry hr.record_of b.other (sym hr.there ∙ b.there) in
      ap (λ (p : Princ). length p.keys) same
      ∙ zip_length (ShowsItem b.beside.master) b.other.keys v.history.entry.keys b.beside.under.keys ∙ v.history.one

  first_is : (keys : List KeyItem) (item : KeyItem) → keys ≡ item ∷ [] → FirstHolds hr.master keys f.history
      → Holds hr.master item f.history
  first_is keys item e h = subst (λ (ks : List KeyItem). FirstHolds hr.master ks f.history) e h

  history_key_is : HasHistoryKey s.masters s.realm r.princs f.history
  history_key_is =
      let item = one_item hr.record_of.keys one_history_key in
      record {
        entry = hr.record_of;
        there = hr.there;
        has = record {
          item = item.0;
          one = item.1;
          master = hr.master;
          named = hr.named;
          holds = first_is hr.record_of.keys item.0 item.1 hr.holds;
        };
      }

  keys_remembered : (kept : List OldKey) (keys : List Key) → AllZip (ShowsOldKey f.history) kept keys
      → AllByRecursion (IsRemembered s.masters s.realm r.princs) kept
  keys_remembered [] [] h = tt
  keys_remembered [] (k ∷ keys) h = absurd h
  keys_remembered (o ∷ kept) [] h = absurd h
  keys_remembered (o ∷ kept) (k ∷ keys) h =
      (record { history = f.history; history_is = history_key_is; held = (k, h.0) }, keys_remembered kept keys h.1)

  abbrev AreKept : OldSet → Type 0
  AreKept set = All (IsRemembered s.masters s.realm r.princs) set.keys

  sets_remembered : (kept : List OldSet) (sets : List PlainSet) → AllZip (ShowsSet f.history) kept sets
      → AllByRecursion AreKept kept
  sets_remembered [] [] h = tt
  sets_remembered [] (t ∷ sets) h = absurd h
  sets_remembered (o ∷ kept) [] h = absurd h
  sets_remembered (o ∷ kept) (t ∷ sets) h = (
    All-from_recursion (IsRemembered s.masters s.realm r.princs) o.keys (keys_remembered o.keys t.keys h.0.keys),
    sets_remembered kept sets h.1,
  )

  sound_chain : (p : Princ) → Contains r.princs p → p.name ≡ master_name s.realm → IsSoundChain s.masters time.secs p
  sound_chain p there is =
      let same : f.entry ≡ p = same_entry f.entry p (sym f.there ∙ found (master_name s.realm) p there is) in
      subst (IsSoundChain s.masters time.secs) same
      (record {
        chain = f.chain.chain;
        part = f.chain.part;
        part_is = f.chain.part_is;
        listed = subst (λ (list : List Activation). All (λ (a : Activation). IsListed s.masters a.version) list)
            (sym f.chain.activations_are) v.activations;
        begun = subst (λ (list : List Activation). IsTrue (is_some (active list time.secs)))
            (sym f.chain.activations_are) v.begun;
      })

  sound_at : (p : Princ) (q : PlainPrinc) → Contains r.princs p → ShowsPrinc s.masters f.history p q
      → HasItsPolicy s.policies q → IsSound (judged s.masters s.realm time.secs) r p
  sound_at p q there g policy = record {
    keys = record {
      master = g.master;
      named = g.named;
      keys = All-from_recursion (HoldsOne g.master) p.keys (each_opens g.master p.keys q.keys g.under.keys);
    };
    policy =
        subst (λ (ps : List Rules). IfSome p.policy (λ name. IsTrue (has_policy name ps))) (sym f.policies)
        (subst (λ (o : Option (List ℕ)). IfSome o (λ name. IsTrue (has_policy name s.policies)))
        (sym (same_policy p q g)) policy);
    old = λ _. All-from_recursion AreKept p.old (sets_remembered p.old q.old g.under.old);
    own = record {
      chain = λ is. sound_chain p there is;
      history = λ is. ap (λ (x : Princ). length x.keys)
          (same_entry p hr.record_of (sym (found (history_name s.realm) p there is) ∙ hr.there)) ∙ one_history_key;
    };
  }

  pub valid_sound : AreSound (judged s.masters s.realm time.secs) r
  valid_sound = record {
    each = λ k d lt.
        let q = get_or s.princs k v.history.entry in
        let len = zip_length (ShowsPrinc s.masters f.history) r.princs s.princs f.princs in
        sound_at (get_or r.princs k d) q (Contains-get_or r.princs k d lt)
        (zip_at (ShowsPrinc s.masters f.history) r.princs s.princs k d v.history.entry f.princs lt)
        (v.policies_there k v.history.entry (omega arith));
    own = record {
      master = some_there (record_named (master_name s.realm) r.princs) f.entry f.there;
      history = some_there (record_named (history_name s.realm) r.princs) hr.record_of hr.there;
    };
  }
