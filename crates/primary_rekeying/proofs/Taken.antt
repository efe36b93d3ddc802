-- A principal that is taken: what the rows tell of its record, and of the version that is active.
use Rattle.std.proofs.Common.{◌≡◌, ◌≢◌, ◌≤◌, ℕ, false, List, [], ◌∷◌, length, Option, Some, None, sym, ap, subst, ◌∙◌}
use Rattle.std.specs.Prelude.{IfSome, IsTrue, is_some, option_and_then, option_map}
use Rattle.std.specs.List.{All, AllZip}
use Rattle.std.proofs.lemmas.List.Elements.{All-cons, All-nil, All-weaker}
use Rattle.command_plans.proofs.RenamedFits.{row_fits, row_name}
use Rattle.kdb_base.specs.Key.{Key}
use Rattle.kdb_base.specs.Limits.{most_keys}
use Rattle.kdb_base.specs.Moment.{Moment}
use Rattle.kdb_base.specs.Moments.{later_moment}
use Rattle.kdb_base.specs.declared.versions.Activation.{Activation}
use Rattle.kdb_base.specs.declared.versions.Master.{Master}
use Rattle.kdb_histories.specs.Asks.{at_clock}
use Rattle.kdb_model.specs.Rekeying.{Taking, active_at, take_of, take_to}
use Rattle.kdb_places.specs.Places.{point_of}
use Rattle.kdb_plain.specs.States.{master_of, princ_named}
use Rattle.kdb_plain.specs.declared.princs.PlainPrinc.{PlainPrinc}
use Rattle.kdb_plain.specs.declared.states.State.{State}
use Rattle.key_activation.specs.Activations.{active}
use Rattle.master_keys.specs.First.{master_name}
use Rattle.master_keys.specs.Rewrapping.{HoldsOne}
use Rattle.plain_keys.specs.declared.items.PlainItem.{PlainItem}
use Rattle.primary_rekeying.proofs.Moved.{no_some}
use Rattle.primary_rekeying.specs.Moving.{IsTake, active_by}
use Rattle.primary_core.specs.Opened.{HasState, Opened, place_of}
use Rattle.primary_rekeying.specs.declared.taking.TakeAnswer.TheVariants.{Already as IsAlready, Gone as IsGone}
use Rattle.princ_keys.specs.declared.keys.KeyItem.{KeyItem}
use Rattle.princ_name.specs.Printed.{is_master}
use Rattle.princ_record.specs.Facts.{IsChain, IsChainOr}
use Rattle.princ_record.specs.Princs.{IsPrinc}
use Rattle.princ_record.specs.declared.facts.ChainPart.{ChainPart}
use Rattle.princ_record.specs.declared.princs.Princ.{Princ}
use Rattle.princ_rows.specs.Rows.{AreRows, RowLists}
use Rattle.rekey_work.specs.Works.{IsOpenedBy, taken_as}
use Rattle.row_keys.proofs.Names.{found_alike}
use Rattle.row_keys.specs.Lookups.{record_named}
use Rattle.row_keys.specs.Shows.{ShowsItem, ShowsPrinc}
use Rattle.row_keys.specs.Sides.{AreBoth}
use Rattle.serving_versions.proofs.LatestKept.{active_holds, active_listed}
use Rattle.tagged_data.specs.Numbers.{IsVersion}
use Rattle.tagged_data.specs.Versions.{IsActivation}

-- ---- the active version

-- by K/M's record
pub active_is : (o : Opened) (s : State) (clock : Moment) (entry : Option Princ) → HasState o s
    → entry ≡ record_named (master_name o.kept.realm) o.kept.rows.princs
    → active_by entry (later_moment (point_of (place_of o)).time clock).secs ≡ active_at s (at_clock clock false)
active_is o s clock entry has is =
    let shows = has.shows.shows in
    let secs = (later_moment (point_of (place_of o)).time clock).secs in
    let there : entry ≡ Some shows.entry =
    is ∙ ap (λ (realm : List ℕ). record_named (master_name realm) o.kept.rows.princs) (sym has.shows.realm)
    ∙ shows.there in
    ap (λ (x : Option Princ). active_by x secs) there
    ∙ ap (option_and_then (λ (part : ChainPart). active part.activations secs)) shows.chain.part_is
    ∙ ap (λ (list : List Activation). active list secs) shows.chain.activations_are
    ∙ ap (λ (m : Moment). active s.activations (later_moment m clock).secs) (sym (ap (λ q. q.time) has.shows.at))

-- a version that is active is one
pub known_by : (entry : Princ) (secs version : ℕ) → IsPrinc entry → (chain : Option ChainPart) → entry.chain ≡ chain
    → option_and_then (λ (part : ChainPart). active part.activations secs) chain ≡ Some version → IsVersion version
known_by entry secs version fits None there is = absurd cc
known_by entry secs version fits (Some part) there is =
    let chain : IsChain part = subst IsChainOr there fits.facts.chain in
    active_holds IsVersion part.activations secs version (All-weaker IsActivation
    (λ (a : Activation). IsVersion a.version) (λ a f. f.version) part.activations chain.activations.each) is

pub known_if : (entry : Princ) (part : ChainPart) (secs : ℕ) (x : Option ℕ) → IsPrinc entry → entry.chain ≡ Some part
    → x ≡ active part.activations secs → IfSome x IsVersion
known_if entry part secs None fits there is = tt
known_if entry part secs (Some version) fits there is = known_by entry secs version fits (Some part) there (sym is)

-- a record that is found has a spelling
pub entry_fits : (name : List ℕ) (a b r : RowLists) (p : Princ) → a ≡ r → b ≡ r → AreRows a
    → Some p ≡ record_named name b.princs → IsPrinc p
entry_fits name a b r p x y rows e = row_fits name b p (subst AreRows (x ∙ sym y) rows) (sym e)

pub stored_fits : {R : Type 0} (x : Option R) (now : R → Princ) (name : List ℕ) (rows : RowLists) → AreRows rows
    → option_map now x ≡ record_named name rows.princs → IfSome x (λ p. IsPrinc (now p))
stored_fits None now name rows fit e = tt
stored_fits (Some p) now name rows fit e = row_fits name rows (now p) fit (sym e)

-- ---- what may be taken

pub record CanTake (masters : List Master) (p : Princ) : Type 0 where
  pub spelled : IsPrinc p
  pub ordinary : p.chain ≡ None
  pub few : length p.keys ≤ most_keys
  pub opened : IsOpenedBy masters p

items_open : (master : Key) (items : List KeyItem) (keys : List PlainItem) → AllZip (ShowsItem master) items keys
    → All (HoldsOne master) items
items_open master [] [] h = All-nil (HoldsOne master)
items_open master [] (k ∷ keys) h = absurd h
items_open master (i ∷ items) [] h = absurd h
items_open master (i ∷ items) (k ∷ keys) h =
    All-cons (HoldsOne master) i items (k.key, h.0.holds) (items_open master items keys h.1)

opened_by : (masters : List Master) (history : Key) (p : Princ) (stored : Option Princ) (plain : Option PlainPrinc)
    → stored ≡ Some p
    → AreBoth (ShowsPrinc masters history) stored plain → IsOpenedBy masters p
opened_by masters history p None plain is both = absurd cc
opened_by masters history p (Some r) None is both = absurd both
opened_by masters history p (Some r) (Some q) is both =
    let same : r ≡ p = cc in
    let shows = subst (λ (x : Princ). ShowsPrinc masters history x q) same both in
    record {
      master = shows.master;
      listed = shows.named;
      opens = items_open shows.master p.keys q.keys shows.under.keys;
    }

pub can_take : (o : Opened) (s : State) (name : List ℕ) (p : Princ) → HasState o s → AreRows o.kept.rows
    → is_master name ≡ false
    → record_named name o.kept.rows.princs ≡ Some p → CanTake o.masters p
can_take o s name p has rows other there =
    let fits = row_fits name o.kept.rows p rows there in
    let named : p.name ≡ name = row_name name o.kept.rows p there in
    let both = found_alike s.masters has.shows.shows.history o.kept.rows.princs s.princs has.shows.shows.princs name in
    record {
      spelled = fits;
      ordinary = no_some p.chain (is_master p.name) fits.facts.chain_there (ap is_master named ∙ other);
      few = fits.keys.few;
      opened = subst (λ (masters : List Master). IsOpenedBy masters p) has.masters_are
          (opened_by s.masters has.shows.shows.history p (record_named name o.kept.rows.princs)
          (princ_named name s.princs) there both);
    }

listed_not_none : (x : Option Key) → IsTrue (is_some x) → x ≢ None
listed_not_none None h = absurd (cc (h))
listed_not_none (Some k) h = λ e. absurd cc

pub active_there : (o : Opened) (s : State) (clock : Moment) (version : ℕ) → HasState o s
    → active_at s (at_clock clock false) ≡ Some version
    → master_of o.masters version ≢ None
active_there o s clock version has is =
    subst (λ (masters : List Master). master_of masters version ≢ None) has.masters_are
    (listed_not_none (master_of s.masters version)
    (active_listed (point_of (place_of o)).time s (later_moment s.point.time clock).secs version has.shows.valid is))

-- ---- what a take comes to

pub take_gone : (s : State) (clock : Moment) (stored : Option Princ) → stored ≡ None
    → IsTake IsGone (take_of s (at_clock clock false) stored)
unfolding take_of
take_gone s clock stored is = ap (take_of s (at_clock clock false)) is

pub take_none : (s : State) (clock : Moment) (stored : Option Princ) (p : Princ) → stored ≡ Some p
    → active_at s (at_clock clock false) ≡ None
    → IsTake IsAlready (take_of s (at_clock clock false) stored)
unfolding take_of take_to
take_none s clock stored p is none = ap (take_of s (at_clock clock false)) is ∙ ap (take_to s.masters p) none

pub take_told : (o : Opened) (s : State) (clock : Moment) (stored : Option Princ) (p : Princ) (version : ℕ)
    (found : Option Taking) → HasState o s → stored ≡ Some p
    → active_at s (at_clock clock false) ≡ Some version → taken_as found ≡ take_to o.masters p (Some version)
    → take_of s (at_clock clock false) stored ≡ taken_as found
unfolding take_of
take_told o s clock stored p version found has is active told =
    ap (take_of s (at_clock clock false)) is ∙ ap (take_to s.masters p) active
    ∙ ap (λ (masters : List Master). take_to masters p (Some version)) has.masters_are ∙ sym told
