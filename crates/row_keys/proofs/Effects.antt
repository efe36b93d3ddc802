-- What changes of rows do to the state that they show.
use Rattle.std.proofs.Common.{◌≡◌, ◌≢◌, ℕ, false, List, ◌∷◌, Option, Some, sym, ap, subst, ◌∙◌, ◌⊎◌, inl, inr}
use Rattle.std.specs.Prelude.{filter, option_and_then}
use Rattle.std.specs.List.{AllByRecursion, AllZip}
use Rattle.std.specs.Ordering.{is_lt, is_gt}
use Rattle.std.specs.Str.{bytes_eq}
use Rattle.std.proofs.lemmas.List.Elements.{recursion_from_All}
use Rattle.kdb_base.specs.Key.{Key}
use Rattle.kdb_base.specs.declared.moments.Point.{Point}
use Rattle.kdb_base.specs.declared.versions.Activation.{Activation}
use Rattle.kdb_base.specs.declared.versions.Master.{Master}
use Rattle.master_keys.specs.First.{master_name}
use Rattle.policy_rules.specs.Rules.{Rules}
use Rattle.princ_record.specs.declared.princs.Princ.{Princ}
use Rattle.princ_rows.specs.Effects.{drop_by, effect, is_higher, is_lower, put_by}
use Rattle.princ_rows.specs.Effects as rows
use Rattle.princ_rows.specs.EntryLaws.{bytes_same, same_bytes}
use Rattle.princ_rows.specs.Rows.{RowLists}
use Rattle.tagged_data.specs.KeyOrder.{key_cmp}
use Rattle.princ_rows.specs.declared.entries.Op.{Op}
use Rattle.princ_rows.specs.declared.entries.Op.TheVariants as op
use Rattle.kdb_plain.specs.Changes.{Spares, IsOrdinary, effect_on, name_of}
use Rattle.kdb_plain.specs.declared.changes.PlainOp.{PlainOp}
use Rattle.kdb_plain.specs.declared.changes.PlainOp.TheVariants.{DropPolicy, DropPrinc, PutMasters}
use Rattle.kdb_plain.specs.declared.changes.PlainOp.TheVariants.{PutPolicy, PutPrinc, Rename}
use Rattle.kdb_plain.specs.Changes as plain
use Rattle.kdb_plain.specs.States.{first_key, history_key, history_name, master_of, princ_named}
use Rattle.kdb_plain.specs.declared.princs.PlainPrinc.{PlainPrinc}
use Rattle.kdb_plain.specs.declared.states.State.{State}
use Rattle.kdb_plain.proofs.Named.{drop_other, put_other, put_own}
use Rattle.row_keys.specs.Lookups.{record_named}
use Rattle.row_keys.specs.ShownChanges.{MayPut, MayPutMasters, ShowsOp, SparesKeys}
use Rattle.row_keys.specs.Shows.{Shows, ShowsChain, ShowsPrinc}
use Rattle.row_keys.proofs.Judgements.{same_key}
use Rattle.row_keys.proofs.Names.{higher_differs, lower_differs, own_names_differ, record_name, same_mkvno, same_name}
use Rattle.row_keys.proofs.Sides.{truth, zip_append, zip_filter, zip_passed, zip_with_all}

module _ (masters : List Master) (history : Key) where
  abbrev R : Princ → PlainPrinc → Type 0
  R = ShowsPrinc masters history

  lower_alike : (k l : List ℕ) → k ≡ l → (p : Princ) (q : PlainPrinc) → R p q
      → is_lower record_name k p ≡ is_lower name_of l q
  lower_alike k l e p q f = ap (λ n. is_lt (key_cmp n k)) (same_name p q f) ∙ ap (λ n. is_lt (key_cmp q.name n)) e

  higher_alike : (k l : List ℕ) → k ≡ l → (p : Princ) (q : PlainPrinc) → R p q
      → is_higher record_name k p ≡ is_higher name_of l q
  higher_alike k l e p q f = ap (λ n. is_gt (key_cmp n k)) (same_name p q f) ∙ ap (λ n. is_gt (key_cmp q.name n)) e

  pub put_shows : (p : Princ) (q : PlainPrinc) (ps : List Princ) (qs : List PlainPrinc) → R p q → AllZip R ps qs
      → AllZip R (put_by record_name p ps) (put_by name_of q qs)
  unfolding put_by
  put_shows p q ps qs r h =
      let low = zip_filter R (is_lower record_name p.name) (is_lower name_of q.name)
      (lower_alike p.name q.name (same_name p q r)) ps qs h in
      let high = zip_filter R (is_higher record_name p.name) (is_higher name_of q.name)
      (higher_alike p.name q.name (same_name p q r)) ps qs h in
      zip_append R (filter (is_lower record_name p.name) ps) (p ∷ filter (is_higher record_name p.name) ps)
      (filter (is_lower name_of q.name) qs) (q ∷ filter (is_higher name_of q.name) qs) low (r, high)

  pub drop_shows : (k l : List ℕ) (ps : List Princ) (qs : List PlainPrinc) → k ≡ l → AllZip R ps qs
      → AllZip R (drop_by record_name k ps) (drop_by name_of l qs)
  unfolding drop_by
  drop_shows k l ps qs e h =
      let low = zip_filter R (is_lower record_name k) (is_lower name_of l) (lower_alike k l e) ps qs h in
      let high = zip_filter R (is_higher record_name k) (is_higher name_of l) (higher_alike k l e) ps qs h in
      zip_append R (filter (is_lower record_name k) ps) (filter (is_higher record_name k) ps)
      (filter (is_lower name_of l) qs) (filter (is_higher name_of l) qs) low high

-- ---- what is found of the database's own records

there_put : (name : List ℕ) (p : Princ) (ps : List Princ) (o : Option Princ) → name ≢ p.name → record_named name ps ≡ o
    → record_named name (put_by record_name p ps) ≡ o
unfolding record_named
there_put name p ps o other is = put_other record_name name p ps other ∙ is

there_drop : (name gone : List ℕ) (ps : List Princ) (o : Option Princ) → name ≢ gone → record_named name ps ≡ o
    → record_named name (drop_by record_name gone ps) ≡ o
unfolding record_named
there_drop name gone ps o other is = drop_other record_name name gone ps other ∙ is

there_own : (name : List ℕ) (p : Princ) (ps : List Princ) → p.name ≡ name
    → record_named name (put_by record_name p ps) ≡ Some p
unfolding record_named
there_own name p ps e = subst (λ n. record_named n (put_by record_name p ps) ≡ Some p) e (put_own record_name p ps)

abbrev key_found : Option PlainPrinc → Option Key
key_found o = option_and_then (λ (q : PlainPrinc). first_key q.keys) o

history_put_other : (realm : List ℕ) (q : PlainPrinc) (qs : List PlainPrinc) → history_name realm ≢ q.name
    → history_key realm (put_by name_of q qs) ≡ history_key realm qs
unfolding history_key princ_named
history_put_other realm q qs other = ap key_found (put_other name_of (history_name realm) q qs other)

history_put_own : (realm : List ℕ) (q : PlainPrinc) (qs : List PlainPrinc) → q.name ≡ history_name realm
    → history_key realm (put_by name_of q qs) ≡ first_key q.keys
unfolding history_key princ_named
history_put_own realm q qs e =
    subst (λ n. key_found (princ_named n (put_by name_of q qs)) ≡ first_key q.keys) e
    (ap key_found (put_own name_of q qs))

history_drop : (realm gone : List ℕ) (qs : List PlainPrinc) → history_name realm ≢ gone
    → history_key realm (drop_by name_of gone qs) ≡ history_key realm qs
unfolding history_key princ_named
history_drop realm gone qs other = ap key_found (drop_other name_of (history_name realm) gone qs other)

differ : (a b : List ℕ) → bytes_eq a b ≡ false → a ≢ b
differ a b different e = let same = bytes_same a b e in absurd cc

history_put : (realm : List ℕ) (q : PlainPrinc) (qs : List PlainPrinc)
    → (q.name ≡ history_name realm → first_key q.keys ≡ history_key realm qs)
    → history_key realm (put_by name_of q qs) ≡ history_key realm qs
history_put realm q qs same =
    elim (truth (bytes_eq q.name (history_name realm))) [
      | inl here ↦ let e = same_bytes q.name (history_name realm) here in history_put_own realm q qs e ∙ same e
      | inr other ↦ history_put_other realm q qs (λ e. differ q.name (history_name realm) other (sym e))
    ]

-- ---- changes

put_state : (r : RowLists) (s : State) (p : Princ) (q : PlainPrinc) (f : Shows r s) → ShowsPrinc s.masters f.history p q
    → MayPut s q → Shows (rows.put_princ p r) (plain.put_princ q s)
unfolding rows.put_princ
put_state r s p q f shown may = record {
  history = f.history;
  history_is = history_put s.realm q s.princs may.same_history_key ∙ f.history_is;
  princs = put_shows s.masters f.history p q r.princs s.princs shown f.princs;
  policies = f.policies;
  entry = f.entry;
  there = there_put (master_name s.realm) p r.princs (Some f.entry)
      (λ e. may.other_than_master (sym (e ∙ same_name p q shown))) f.there;
  chain = f.chain;
}

drop_state : (r : RowLists) (s : State) (k l : List ℕ) (f : Shows r s) → k ≡ l → IsOrdinary s.realm l
    → Shows (rows.drop_princ k r) (plain.drop_princ l s)
unfolding rows.drop_princ
drop_state r s k l f e may = record {
  history = f.history;
  history_is = history_drop s.realm l s.princs (λ same. may.other_than_history (sym same)) ∙ f.history_is;
  princs = drop_shows s.masters f.history k l r.princs s.princs e f.princs;
  policies = f.policies;
  entry = f.entry;
  there = there_drop (master_name s.realm) k r.princs (Some f.entry)
      (λ same. may.other_than_master (sym (same ∙ e))) f.there;
  chain = f.chain;
}

-- an ordinary name is not that of kadmin/history
ordinary_put : (s : State) (q : PlainPrinc) → IsOrdinary s.realm q.name → MayPut s q
ordinary_put s q may =
    record { other_than_master = may.other_than_master; same_history_key = λ e. absurd (may.other_than_history e) }

put_policy_state : (r : RowLists) (s : State) (p q : Rules) → Shows r s → p ≡ q
    → Shows (rows.put_policy p r) (plain.put_policy q s)
unfolding rows.put_policy
put_policy_state r s p q f e = record {
  history = f.history;
  history_is = f.history_is;
  princs = f.princs;
  policies = ap (λ (x : Rules). put_by (λ (o : Rules). o.name) x r.policies) e
      ∙ ap (λ (ps : List Rules). put_by (λ (o : Rules). o.name) q ps) f.policies;
  entry = f.entry;
  there = f.there;
  chain = f.chain;
}

drop_policy_state : (r : RowLists) (s : State) (k l : List ℕ) → Shows r s → k ≡ l
    → Shows (rows.drop_policy k r) (plain.drop_policy l s)
unfolding rows.drop_policy
drop_policy_state r s k l f e = record {
  history = f.history;
  history_is = f.history_is;
  princs = f.princs;
  policies = ap (λ (n : List ℕ). drop_by (λ (o : Rules). o.name) n r.policies) e
      ∙ ap (λ (ps : List Rules). drop_by (λ (o : Rules). o.name) l ps) f.policies;
  entry = f.entry;
  there = f.there;
  chain = f.chain;
}

-- ---- K/M

module _ (s : State) (kept : List Master) (history : Key) where
  abbrev Keeps : PlainPrinc → Type 0
  Keeps o = (o.name ≡ master_name s.realm) ⊎ (master_of kept o.mkvno ≡ master_of s.masters o.mkvno)

  abbrev Both : Princ → PlainPrinc → Type 0
  Both p q = ShowsPrinc s.masters history p q × Keeps q

  -- a principal other than K/M is under the same key as before
  still_shown : (p : Princ) (q : PlainPrinc) → Both p q → p.name ≢ master_name s.realm → ShowsPrinc kept history p q
  still_shown p q b other =
      elim b.1 [
        | inl is ↦ absurd (other (same_name p q b.0 ∙ is))
        | inr same ↦ record {
          master = b.0.master;
          named = ap (master_of kept) (same_mkvno p q b.0) ∙ same
              ∙ ap (master_of s.masters) (sym (same_mkvno p q b.0)) ∙ b.0.named;
          under = b.0.under;
        }
      ]

  put_masters_shows : (p : Princ) (q : PlainPrinc) (ps : List Princ) (qs : List PlainPrinc)
      → p.name ≡ master_name s.realm → ShowsPrinc kept history p q
      → AllZip (ShowsPrinc s.masters history) ps qs → AllByRecursion Keeps qs
      → AllZip (ShowsPrinc kept history) (put_by record_name p ps) (put_by name_of q qs)
  unfolding put_by
  put_masters_shows p q ps qs is r h all =
      let both = zip_with_all (ShowsPrinc s.masters history) Keeps ps qs h all in
      let low = zip_passed Both (ShowsPrinc kept history) (is_lower record_name p.name) (is_lower name_of q.name)
      (λ x y b. lower_alike s.masters history p.name q.name (same_name p q r) x y b.0)
      (λ x y b lt. still_shown x y b (λ e. lower_differs x.name p.name lt (e ∙ sym is))) ps qs both in
      let high = zip_passed Both (ShowsPrinc kept history) (is_higher record_name p.name) (is_higher name_of q.name)
      (λ x y b. higher_alike s.masters history p.name q.name (same_name p q r) x y b.0)
      (λ x y b gt. still_shown x y b (λ e. higher_differs x.name p.name gt (e ∙ sym is))) ps qs both in
      zip_append (ShowsPrinc kept history) (filter (is_lower record_name p.name) ps)
      (p ∷ filter (is_higher record_name p.name) ps) (filter (is_lower name_of q.name) qs)
      (q ∷ filter (is_higher name_of q.name) qs) low (r, high)

put_masters_state : (r : RowLists) (s : State) (p : Princ) (q : PlainPrinc) (kept : List Master)
    (activations : List Activation) (f : Shows r s) → ShowsPrinc kept f.history p q → ShowsChain kept activations p
    → MayPutMasters s q kept
    → Shows (rows.put_princ p r) (record (plain.put_princ q s) { masters = kept; activations = activations })
unfolding rows.put_princ
put_masters_state r s p q kept activations f shown chain may =
    let is : p.name ≡ master_name s.realm = same_name p q shown ∙ may.is_master in
    record {
      history = f.history;
      history_is =
          history_put_other s.realm q s.princs (λ e. own_names_differ s.realm (sym (e ∙ may.is_master))) ∙ f.history_is;
      princs = put_masters_shows s kept f.history p q r.princs s.princs is shown f.princs
          (recursion_from_All (Keeps s kept f.history) s.princs may.same_keys);
      policies = f.policies;
      entry = p;
      there = there_own (master_name s.realm) p r.princs is;
      chain = chain;
    }

-- ---- all of them

pub change_shows : (r : RowLists) (s : State) (o : Op) (plain : PlainOp) (f : Shows r s)
    → ShowsOp s.masters f.history o plain → SparesKeys s plain → Shows (effect (Some o) r) (effect_on plain s)
unfolding effect effect_on drop_state
change_shows r s (op.PutPrinc p) (PutPrinc q) f h may = put_state r s p q f h may
change_shows r s (op.PutPrinc p) (DropPrinc l) f h may = absurd h
change_shows r s (op.PutPrinc p) (Rename l q) f h may = absurd h
change_shows r s (op.PutPrinc p) (PutPolicy q) f h may = absurd h
change_shows r s (op.PutPrinc p) (DropPolicy l) f h may = absurd h
change_shows r s (op.PutPrinc p) (PutMasters q kept activations) f h may =
    put_masters_state r s p q kept activations f h.0 h.1 may
change_shows r s (op.DropPrinc k) (PutPrinc q) f h may = absurd h
change_shows r s (op.DropPrinc k) (DropPrinc l) f h may = drop_state r s k l f h may
change_shows r s (op.DropPrinc k) (Rename l q) f h may = absurd h
change_shows r s (op.DropPrinc k) (PutPolicy q) f h may = absurd h
change_shows r s (op.DropPrinc k) (DropPolicy l) f h may = absurd h
change_shows r s (op.DropPrinc k) (PutMasters q kept activations) f h may = absurd h
change_shows r s (op.Rename k p) (PutPrinc q) f h may = absurd h
change_shows r s (op.Rename k p) (DropPrinc l) f h may = absurd h
change_shows r s (op.Rename k p) (Rename l q) f h may =
    put_state (rows.drop_princ k r) (plain.drop_princ l s) p q (drop_state r s k l f h.0 may.0) h.1
    (ordinary_put (plain.drop_princ l s) q
    (record { other_than_master = may.1.other_than_master; other_than_history = may.1.other_than_history }))
change_shows r s (op.Rename k p) (PutPolicy q) f h may = absurd h
change_shows r s (op.Rename k p) (DropPolicy l) f h may = absurd h
change_shows r s (op.Rename k p) (PutMasters q kept activations) f h may = absurd h
change_shows r s (op.PutPolicy p) (PutPrinc q) f h may = absurd h
change_shows r s (op.PutPolicy p) (DropPrinc l) f h may = absurd h
change_shows r s (op.PutPolicy p) (Rename l q) f h may = absurd h
change_shows r s (op.PutPolicy p) (PutPolicy q) f h may = put_policy_state r s p q f h
change_shows r s (op.PutPolicy p) (DropPolicy l) f h may = absurd h
change_shows r s (op.PutPolicy p) (PutMasters q kept activations) f h may = absurd h
change_shows r s (op.DropPolicy k) (PutPrinc q) f h may = absurd h
change_shows r s (op.DropPolicy k) (DropPrinc l) f h may = absurd h
change_shows r s (op.DropPolicy k) (Rename l q) f h may = absurd h
change_shows r s (op.DropPolicy k) (PutPolicy q) f h may = absurd h
change_shows r s (op.DropPolicy k) (DropPolicy l) f h may = drop_policy_state r s k l f h
change_shows r s (op.DropPolicy k) (PutMasters q kept activations) f h may = absurd h

-- the history key, as the state has it
pub change_shows_at : (r : RowLists) (s : State) (history : Key) (o : Op) (p : PlainOp)
    → Shows r s → history_key s.realm s.princs ≡ Some history → ShowsOp s.masters history o p → SparesKeys s p
    → Shows (effect (Some o) r) (effect_on p s)
change_shows_at r s history o p f is h may =
    let same : history ≡ f.history = same_key history f.history (sym is ∙ f.history_is) in
    change_shows r s o p f (subst (λ (k : Key). ShowsOp s.masters k o p) same h) may

-- a change of other principals than K/M and kadmin/history
pub ordinary_spares : (s : State) (p : PlainOp) → Spares s.realm p → SparesKeys s p
ordinary_spares s (PutPrinc q) may = ordinary_put s q may
ordinary_spares s (DropPrinc name) may = may
ordinary_spares s (Rename old q) may = may
ordinary_spares s (PutPolicy q) may = tt
ordinary_spares s (DropPolicy name) may = tt
ordinary_spares s (PutMasters q kept activations) may = absurd may

-- rows say nothing of a point
pub shows_at : (rows : RowLists) (point : Point) (s : State) → Shows rows s → Shows rows (record s { point = point })
shows_at rows point s h = record {
  history = h.history;
  history_is = h.history_is;
  princs = h.princs;
  policies = h.policies;
  entry = h.entry;
  there = h.there;
  chain = h.chain;
}
