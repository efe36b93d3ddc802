-- A rekeying at once and work that comes back, by what a take and a settling give.
use Rattle.std.proofs.Common.{◌≡◌, ℕ, Bool, true, false, ◌&&◌, List, [], ◌∷◌}
use Rattle.std.proofs.Common.{map, Option, Some, refl, sym, ap, subst, ◌∙◌}
use Rattle.std.specs.Prelude.{if◌then◌else◌, nat_lt, option_and_then, option_map}
use Rattle.std.specs.List.{AllZip}
use Rattle.kdb_base.specs.Key.{Key}
use Rattle.kdb_base.specs.Limits.{longest_row}
use Rattle.kdb_base.specs.Moment.{Moment}
use Rattle.kdb_base.specs.declared.outcomes.Refusal.{Refusal}
use Rattle.kdb_base.specs.declared.outcomes.Refusal.TheVariants.{RecordTooLarge, TimeEnd}
use Rattle.kdb_histories.specs.Asks as asks
use Rattle.kdb_histories.specs.Asks.{Answer, Ask, Moved, NotMoved, Outcome, RekeyedNow, Settles, at_clock}
use Rattle.kdb_histories.specs.Asks.{kept, kept_rekeying, outcome, record_put, rewrapped, settled_as}
use Rattle.kdb_model.specs.Calls.{is_last, point_after}
use Rattle.kdb_model.specs.Refusals.{len_in}
use Rattle.kdb_model.specs.Rekeying as model
use Rattle.kdb_model.specs.Rekeying.{Rekeyed, Updated, Already, Gone, Refused, Taking, Work}
use Rattle.kdb_model.specs.Rekeying.{active_at, may_settle, rekey, settle, settled_by, under_version}
use Rattle.kdb_model.specs.Steps.{with_point}
use Rattle.kdb_plain.specs.Changes.{put_princ}
use Rattle.kdb_plain.specs.Lengths.{in_64_bits}
use Rattle.kdb_plain.specs.States.{master_of, princ_named}
use Rattle.kdb_plain.specs.declared.princs.PlainPrinc.{PlainPrinc}
use Rattle.kdb_plain.specs.declared.states.State.{State}
use Rattle.master_keys.specs.Rewrapping.{Holds, IsRewrapped, with_keys}
use Rattle.plain_keys.specs.declared.items.PlainItem.{PlainItem}
use Rattle.primary_rekeying.proofs.Moved.{outcome_by}
use Rattle.princ_rows.specs.declared.entries.Op.{Op}
use Rattle.princ_rows.specs.declared.entries.Op.TheVariants.{PutPrinc}
use Rattle.princ_keys.specs.declared.keys.KeyItem.{KeyItem}
use Rattle.princ_name.specs.Names.{NameParts, printed}
use Rattle.princ_record.specs.declared.princs.Princ.{Princ}
use Rattle.princ_rows.specs.Rows.{RowLists}
use Rattle.rekey_work.specs.Works.{IsRewrappedItem, IsWork}
use Rattle.row_keys.proofs.Rekeyed.{key_of, keys_held, with_keys_wraps}
use Rattle.row_keys.proofs.Sides.{zip_once}
use Rattle.row_keys.proofs.Whole.{HoldOneKey, IsWhole}
use Rattle.row_keys.specs.Lookups.{record_named}
use Rattle.row_keys.specs.Shows.{ShowsItem, ShowsUnder}

-- ---- the keys of work

key_once : HoldOneKey → (master : Key) → IsWhole master → (item : KeyItem) (a b : Key) → Holds master item a
    → Holds master item b → a ≡ b
key_once one master whole item a b f g = one master item.etype item.wrapped a b whole.long whole.bytes f g

module _ (one : HoldOneKey) (old fresh : Key) (whole : IsWhole old) where
  items_shown : (items made : List KeyItem) (keys : List PlainItem) → AllZip (ShowsItem old) items keys
      → AllZip (IsRewrappedItem old fresh) items made
      → AllZip (ShowsItem fresh) made keys
  items_shown [] [] [] h w = tt
  items_shown [] [] (k ∷ keys) h w = absurd h
  items_shown [] (m ∷ made) keys h w = absurd w
  items_shown (i ∷ items) [] keys h w = absurd w
  items_shown (i ∷ items) (m ∷ made) [] h w = absurd h
  items_shown (i ∷ items) (m ∷ made) (k ∷ keys) h w =
      let same : w.0.plain ≡ k.key = key_once one old whole i w.0.plain k.key w.0.opened h.0.holds in (
        record {
          kvno = w.0.kvno ∙ h.0.kvno;
          salt = w.0.salt ∙ h.0.salt;
          holds = subst (Holds fresh m) same w.0.sealed;
        },
        items_shown items made keys h.1 w.1,
      )

  -- the record of work shows the principal under the other version
  pub work_shown : (w : Work) (history : Key) (q : PlainPrinc) → w.taken.old ≡ old → w.taken.fresh ≡ fresh → IsWork w
      → ShowsUnder old history w.taken.princ q
      → ShowsUnder fresh history w.made (under_version w.taken.version q)
  work_shown w history q old_is fresh_is is f =
      let items : AllZip (IsRewrappedItem old fresh) w.taken.princ.keys w.made.keys =
      subst (λ (k : Key). AllZip (IsRewrappedItem old k) w.taken.princ.keys w.made.keys) fresh_is
      (subst (λ (k : Key). AllZip (IsRewrappedItem k w.taken.fresh) w.taken.princ.keys w.made.keys) old_is is.keys) in
      let shown = items_shown w.taken.princ.keys w.made.keys q.keys f.keys items in
      subst (λ (p : Princ). ShowsUnder fresh history p (under_version w.taken.version q)) (sym is.same)
      (record { fields = ap (λ (h : Princ). record h { mkvno = w.taken.version }) f.fields; keys = shown; old = f.old })

  -- and is the one that is kept, to the byte
  pub made_exact : (p made : Princ) (version : ℕ) (random : List ℕ) (q : PlainPrinc)
      → AllZip (ShowsItem old) p.keys q.keys → IsRewrapped p old version fresh random made
      → made ≡ rewrapped version fresh random q p
  made_exact p made version random q shown r =
      let plain : r.plain ≡ map key_of q.keys = zip_once (Holds old) (key_once one old whole) p.keys r.plain
      (map key_of q.keys) r.held (keys_held old p.keys q.keys shown) in
      r.is ∙ ap (λ (ks : List Key). record p { mkvno = version; keys = with_keys fresh random 0 p.keys ks }) plain
      ∙ ap (λ (ks : List KeyItem). record p { mkvno = version; keys = ks })
      (with_keys_wraps old fresh random p.keys q.keys shown)

-- ---- the outcome of a rekeying at once

abbrev rekeyed_from : ℕ → Key → List ℕ → PlainPrinc → Option Princ → Option Op
rekeyed_from version fresh random q stored =
    option_map (λ (p : Princ). PutPrinc (rewrapped version fresh random q p)) stored

pub kept_is : (rows : RowLists) (s : State) (who : NameParts) (clock : Moment) (random : List ℕ) (version : ℕ)
    (fresh : Key) (q : PlainPrinc) (p : Princ)
    → active_at s (at_clock clock false) ≡ Some version → master_of s.masters version ≡ Some fresh
    → princ_named (printed who) s.princs ≡ Some q
    → record_named (printed who) rows.princs ≡ Some p
    → kept_rekeying rows s who clock random ≡ Some (PutPrinc (rewrapped version fresh random q p))
unfolding kept_rekeying
kept_is rows s who clock random version fresh q p active listed named there =
    ap (option_and_then (λ (v : ℕ). option_and_then (λ (k : Key).
    option_and_then (λ (x : PlainPrinc). rekeyed_from v k random x (record_named (printed who) rows.princs))
    (princ_named (printed who) s.princs)) (master_of s.masters v))) active
    ∙ ap (option_and_then (λ (k : Key). option_and_then (λ (x : PlainPrinc). rekeyed_from version k random x
    (record_named (printed who) rows.princs)) (princ_named (printed who) s.princs))) listed
    ∙ ap (option_and_then (λ (x : PlainPrinc).
    rekeyed_from version fresh random x (record_named (printed who) rows.princs))) named
    ∙ ap (rekeyed_from version fresh random q) there

moved_by : (s : State) (made : Princ) (r : Rekeyed) → asks.moved s (Some made) r ≡ outcome_by s made r
unfolding asks.moved
moved_by s made (Updated after) = refl
moved_by s made Already = refl
moved_by s made Gone = refl
moved_by s made (Refused why) = refl

pub now_comes : (rows : RowLists) (s : State) (who : NameParts) (clock : Moment) (random : List ℕ) (made : Princ)
    (due : Bool) (r : Rekeyed)
    → kept_rekeying rows s who clock random ≡ Some (PutPrinc made) → rekey s who (at_clock clock due) ≡ r
    → outcome rows (RekeyedNow who clock random) due s ≡ outcome_by s made r
unfolding outcome
now_comes rows s who clock random made due r puts is =
    ap (λ (x : Option Op). asks.moved s (record_put x) (rekey s who (at_clock clock due))) puts
    ∙ ap (asks.moved s (Some made)) is ∙ moved_by s made r

-- ---- the outcome of work that comes back

by_tests : (s : State) (made : Princ) (large late : Bool) (x y : Refusal) (after : State)
    → settled_as s (settled_by made (if large then Refused x else if late then Refused y else Updated after))
    ≡ outcome_by s made (if large then Refused x else if late then Refused y else Updated after)
unfolding settled_as settled_by
by_tests s made true late x y after = refl
by_tests s made false true x y after = refl
by_tests s made false false x y after = refl

pub back_comes : (rows : RowLists) (s : State) (who : NameParts) (clock : Moment) (work : Work) (due : Bool)
    (stored : Princ) (q : PlainPrinc)
    → record_named (printed who) rows.princs ≡ Some stored
    → may_settle s.masters (active_at s (at_clock clock due)) stored work.taken ≡ true
    → rekey s who (at_clock clock due) ≡ model.moved s (at_clock clock due) q
    → outcome rows (Settles who clock work) due s ≡ outcome_by s work.made (model.moved s (at_clock clock due) q)
unfolding outcome settle model.moved
back_comes rows s who clock work due stored q there may is =
    ap (λ (x : Option Princ). settled_as s (settle s who (at_clock clock due) x work)) there
    ∙ ap (λ (b : Bool). settled_as s
    (if b then settled_by work.made (rekey s who (at_clock clock due)) else model.Changed
    (model.other_record stored work.taken) (model.other_version (active_at s (at_clock clock due)) work.taken))) may
    ∙ ap (λ (r : Rekeyed). settled_as s (settled_by work.made r)) is
    ∙ by_tests s work.made (nat_lt longest_row (len_in s q)) (due && is_last s.point.time)
    (RecordTooLarge (in_64_bits (len_in s q))) TimeEnd
    (with_point (point_after s clock due) (put_princ q s))
