-- Rows show one state of a realm, a point and master keys.
use Rattle.std.proofs.Common.{◌≡◌, ℕ, List, [], ◌∷◌, Option, Some, None, refl, sym, ap, subst, ◌∙◌}
use Rattle.std.specs.Prelude.{option_and_then}
use Rattle.std.specs.List.{AllZip}
use Rattle.kdb_base.specs.Key.{Key}
use Rattle.kdb_base.specs.declared.moments.Point.{Point}
use Rattle.kdb_base.specs.declared.versions.Activation.{Activation}
use Rattle.kdb_base.specs.declared.versions.Master.{Master}
use Rattle.master_keys.specs.First.{master_name}
use Rattle.master_keys.specs.Rewrapping.{Holds}
use Rattle.policy_rules.specs.Rules.{Rules}
use Rattle.princ_keys.specs.declared.keys.KeyItem.{KeyItem}
use Rattle.princ_keys.specs.declared.remembered.OldKey.{OldKey}
use Rattle.princ_keys.specs.declared.remembered.OldSet.{OldSet}
use Rattle.princ_record.specs.declared.facts.ChainPart.{ChainPart}
use Rattle.princ_record.specs.declared.princs.Princ.{Princ}
use Rattle.princ_rows.specs.Rows.{RowLists}
use Rattle.kdb_plain.specs.Heads.{plain_head, plain_of}
use Rattle.kdb_plain.specs.States.{first_key, history_key, history_name, master_of, princ_named}
use Rattle.plain_keys.specs.declared.items.PlainItem.{PlainItem}
use Rattle.plain_keys.specs.declared.items.PlainSet.{PlainSet}
use Rattle.kdb_plain.specs.declared.princs.PlainPrinc.{PlainPrinc}
use Rattle.kdb_plain.specs.declared.states.State.{State}
use Rattle.row_keys.specs.Lookups.{record_named}
use Rattle.row_keys.specs.Shows.{Shows, ShowsItem, ShowsOldKey, ShowsPrinc, ShowsSet, ShowsUnder}
use Rattle.row_keys.proofs.Items.{item_is, set_is}
use Rattle.row_keys.proofs.Judgements.{same_entry, same_key, same_part}
use Rattle.row_keys.proofs.Names.{found_alike}
use Rattle.row_keys.proofs.Sides.{both_beside_left, zip_once}
use Rattle.row_keys.proofs.Whole.{HoldOneKey, IsWhole, listed_whole, unwrapped_whole}

-- ---- the history key

abbrev pub FirstHolds : Key → List KeyItem → Key → Type 0
FirstHolds master [] key = ⊥
FirstHolds master (item ∷ items) key = Holds master item key

pub first_holds : (master : Key) (items : List KeyItem) (keys : List PlainItem) (key : Key)
    → AllZip (ShowsItem master) items keys → first_key keys ≡ Some key → FirstHolds master items key
first_holds master [] [] key h e = absurd cc
first_holds master [] (k ∷ keys) key h e = absurd h
first_holds master (item ∷ items) [] key h e = absurd h
first_holds master (item ∷ items) (k ∷ keys) key h e =
    subst (λ (x : Key). Holds master item x) (same_key k.key key e) h.0.holds

pub first_whole : (master : Key) (items : List KeyItem) (key : Key) → FirstHolds master items key → IsWhole key
first_whole master [] key h = absurd h
first_whole master (item ∷ items) key h = unwrapped_whole key h

module _ (one : HoldOneKey) where
  key_once : (master : Key) → IsWhole master → (item : KeyItem) (a b : Key) → Holds master item a
      → Holds master item b → a ≡ b
  key_once master whole item a b f g = one master item.etype item.wrapped a b whole.long whole.bytes f g

  item_once : (master : Key) → IsWhole master → (item : KeyItem) (k l : PlainItem) → ShowsItem master item k
      → ShowsItem master item l → k ≡ l
  item_once master whole item k l f g = item_is l k.kvno k.salt k.key (sym f.kvno ∙ g.kvno) (sym f.salt ∙ g.salt)
      (key_once master whole item k.key l.key f.holds g.holds)

  old_once : (history : Key) → IsWhole history → (kept : OldKey) (a b : Key) → ShowsOldKey history kept a
      → ShowsOldKey history kept b → a ≡ b
  old_once history whole kept a b f g = one history kept.etype kept.wrapped a b whole.long whole.bytes f g

  set_once : (history : Key) → IsWhole history → (kept : OldSet) (s t : PlainSet) → ShowsSet history kept s
      → ShowsSet history kept t → s ≡ t
  set_once history whole kept s t f g =
      set_is t s.kvno s.keys (sym f.kvno ∙ g.kvno)
      (zip_once (ShowsOldKey history) (old_once history whole) kept.keys s.keys t.keys f.keys g.keys)

  under_once : (master history : Key) → IsWhole master → IsWhole history → (p : Princ) (q r : PlainPrinc)
      → ShowsUnder master history p q → ShowsUnder master history p r → q ≡ r
  under_once master history m h p q r f g =
      ap (λ (head : Princ). plain_of head q.keys q.old) (sym f.fields ∙ g.fields)
      ∙ ap (λ (keys : List PlainItem). plain_of (plain_head r) keys q.old)
      (zip_once (ShowsItem master) (item_once master m) p.keys q.keys r.keys f.keys g.keys)
      ∙ ap (λ (old : List PlainSet). plain_of (plain_head r) r.keys old)
      (zip_once (ShowsSet history) (set_once history h) p.old q.old r.old f.old g.old)

  pub princ_once : (masters : List Master) (history : Key)
      → ((version : ℕ) (key : Key) → master_of masters version ≡ Some key → IsWhole key) → IsWhole history
      → (p : Princ) (q r : PlainPrinc) → ShowsPrinc masters history p q → ShowsPrinc masters history p r → q ≡ r
  princ_once masters history whole h p q r f g =
      let same : g.master ≡ f.master = same_key g.master f.master (sym g.named ∙ f.named) in
      under_once f.master history (whole p.mkvno f.master f.named) h p q r f.under
      (subst (λ (m : Key). ShowsUnder m history p r) same g.under)

  first_once : (master : Key) → IsWhole master → (items : List KeyItem) (a b : Key) → FirstHolds master items a
      → FirstHolds master items b → a ≡ b
  first_once master whole [] a b f g = absurd f
  first_once master whole (item ∷ items) a b f g = key_once master whole item a b f g

-- the principal that has the history key
pub record HasKey (name : List ℕ) (princs : List PlainPrinc) (key : Key) : Type 0 where
  pub entry : PlainPrinc
  pub there : princ_named name princs ≡ Some entry
  pub first : first_key entry.keys ≡ Some key

key_of : (o : Option PlainPrinc) (key : Key) → option_and_then (λ (q : PlainPrinc). first_key q.keys) o ≡ Some key
    → (q : PlainPrinc) × ((o ≡ Some q) × (first_key q.keys ≡ Some key))
key_of None key e = absurd cc
key_of (Some q) key e = (q, (refl, e))

pub history_entry : (realm : List ℕ) (princs : List PlainPrinc) (key : Key) → history_key realm princs ≡ Some key
    → HasKey (history_name realm) princs key
unfolding history_key
history_entry realm princs key e =
    let found = key_of (princ_named (history_name realm) princs) key e in
    record { entry = found.0; there = found.1.0; first = found.1.1 }

-- the record of kadmin/history, and the key that its first item holds
pub record HistoryRecord (masters : List Master) (realm : List ℕ) (princs : List Princ) (key : Key) : Type 0 where
  pub record_of : Princ
  pub there : record_named (history_name realm) princs ≡ Some record_of
  pub master : Key
  pub named : master_of masters record_of.mkvno ≡ Some master
  pub holds : FirstHolds master record_of.keys key

pub history_record : (r : RowLists) (s : State) (f : Shows r s) → HistoryRecord s.masters s.realm r.princs f.history
history_record r s f =
    let h = history_entry s.realm s.princs f.history f.history_is in
    let b = both_beside_left (ShowsPrinc s.masters f.history) (record_named (history_name s.realm) r.princs)
    (princ_named (history_name s.realm) s.princs) h.entry
    (found_alike s.masters f.history r.princs s.princs f.princs (history_name s.realm)) h.there in
    record {
      record_of = b.other;
      there = b.there;
      master = b.beside.master;
      named = b.beside.named;
      holds = first_holds b.beside.master b.other.keys h.entry.keys f.history b.beside.under.keys h.first;
    }

-- ---- states

made : List ℕ → List Master → List Activation → List PlainPrinc → List Rules → Point → State
made realm masters activations princs policies point = record {
  realm = realm;
  masters = masters;
  activations = activations;
  princs = princs;
  policies = policies;
  point = point;
}

state_is : (s t : State) → s.realm ≡ t.realm → s.masters ≡ t.masters → s.activations ≡ t.activations
    → s.princs ≡ t.princs → s.policies ≡ t.policies → s.point ≡ t.point → s ≡ t
unfolding made
state_is s t realm masters activations princs policies point =
    ap (λ (x : List ℕ). made x s.masters s.activations s.princs s.policies s.point) realm
    ∙ ap (λ (x : List Master). made t.realm x s.activations s.princs s.policies s.point) masters
    ∙ ap (λ (x : List Activation). made t.realm t.masters x s.princs s.policies s.point) activations
    ∙ ap (λ (x : List PlainPrinc). made t.realm t.masters t.activations x s.policies s.point) princs
    ∙ ap (λ (x : List Rules). made t.realm t.masters t.activations t.princs x s.point) policies
    ∙ ap (λ (x : Point). made t.realm t.masters t.activations t.princs t.policies x) point

same_activations : (r : RowLists) (s t : State) (f : Shows r s) (g : Shows r t) → s.realm ≡ t.realm
    → s.activations ≡ t.activations
same_activations r s t f g realm =
    let entry : f.entry ≡ g.entry = same_entry f.entry g.entry
    (sym f.there ∙ ap (λ (n : List ℕ). record_named (master_name n) r.princs) realm ∙ g.there) in
    let part : f.chain.part ≡ g.chain.part =
    same_part f.chain.part g.chain.part (sym f.chain.part_is ∙ ap (λ (p : Princ). p.chain) entry ∙ g.chain.part_is) in
    sym f.chain.activations_are ∙ ap (λ (c : ChainPart). c.activations) part ∙ g.chain.activations_are

module _ (one : HoldOneKey) (r : RowLists) (s t : State) (f : Shows r s) (g : Shows r t) (realm : s.realm ≡ t.realm)
    (masters : s.masters ≡ t.masters) where
  whole_masters : (version : ℕ) (key : Key) → master_of s.masters version ≡ Some key → IsWhole key
  whole_masters version key named = listed_whole f.entry s.masters version key f.chain.chain named

  same_history : f.history ≡ g.history
  same_history =
      let a = history_record r s f in
      let b = history_record r t g in
      let there : a.record_of ≡ b.record_of = same_entry a.record_of b.record_of
      (sym a.there ∙ ap (λ (n : List ℕ). record_named (history_name n) r.princs) realm ∙ b.there) in
      let under : a.master ≡ b.master =
      same_key a.master b.master (sym a.named ∙ ap (λ (p : Princ). master_of s.masters p.mkvno) there
      ∙ ap (λ (ms : List Master). master_of ms b.record_of.mkvno) masters ∙ b.named) in
      let holds : FirstHolds a.master a.record_of.keys g.history =
      subst (λ (m : Key). FirstHolds m a.record_of.keys g.history) (sym under)
      (subst (λ (p : Princ). FirstHolds b.master p.keys g.history) (sym there) b.holds) in
      first_once one a.master (whole_masters a.record_of.mkvno a.master a.named) a.record_of.keys f.history
      g.history a.holds holds

  history_whole : IsWhole f.history
  history_whole = let a = history_record r s f in first_whole a.master a.record_of.keys f.history a.holds

  same_princs : s.princs ≡ t.princs
  same_princs =
      let other : AllZip (ShowsPrinc s.masters f.history) r.princs t.princs =
      subst (λ (ms : List Master). AllZip (ShowsPrinc ms f.history) r.princs t.princs) (sym masters)
      (subst (λ (k : Key). AllZip (ShowsPrinc t.masters k) r.princs t.princs) (sym same_history) g.princs) in
      zip_once (ShowsPrinc s.masters f.history) (princ_once one s.masters f.history whole_masters history_whole)
      r.princs s.princs t.princs f.princs other

pub one_state : HoldOneKey → (r : RowLists) (s t : State) → Shows r s → Shows r t → s.realm ≡ t.realm
    → s.point ≡ t.point → s.masters ≡ t.masters → s ≡ t
one_state one r s t f g realm point masters =
    state_is s t realm masters (same_activations r s t f g realm) (same_princs one r s t f g realm masters)
    (sym f.policies ∙ g.policies) point
