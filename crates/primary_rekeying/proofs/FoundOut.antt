-- What a rekeying at once and a settling come to, of every state that the rows show.
use Rattle.std.proofs.Common.{◌≡◌, ◌≢◌, ℕ, Bool, true, false, List, Option, Some}
use Rattle.std.proofs.Common.{None, Result, Ok, Err, refl, sym, ap, subst, ◌∙◌}
use Rattle.std.specs.Prelude.{IfOk, if◌then◌else◌, nat_eq}
use Rattle.std.specs.List.{AllZip}
use Rattle.kdb_base.specs.Key.{Key}
use Rattle.kdb_base.specs.Moment.{Moment}
use Rattle.kdb_base.specs.declared.versions.Master.{Master}
use Rattle.kdb_histories.specs.Asks as asks
use Rattle.kdb_histories.specs.Asks.{Answer, Ask, Moved, Outcome, RekeyedNow, Settles, at_clock, kept}
use Rattle.kdb_histories.specs.Asks.{kept_op, kept_rekeying, outcome, record_put, rewrapped, settled_as}
use Rattle.kdb_histories.specs.Seen.{due_at, seen}
use Rattle.kdb_model.specs.Rekeying as model
use Rattle.kdb_model.specs.Rekeying.{At, Rekeyed, Already, Gone, Take, Taking, TakenAlready, TakenGone}
use Rattle.kdb_model.specs.Rekeying.{Work, active_at, may_settle, other_record, other_version, rekey}
use Rattle.kdb_model.specs.Rekeying.{rekey_to, settle, settled_by, take_of, take_to, under_version}
use Rattle.kdb_plain.specs.States.{master_of, princ_named}
use Rattle.kdb_plain.specs.declared.princs.PlainPrinc.{PlainPrinc}
use Rattle.kdb_plain.specs.declared.states.State.{State}
use Rattle.master_keys.specs.Rewrapping.{IsRewrapped}
use Rattle.primary_core.proofs.Performed.{ask_keeps}
use Rattle.primary_core.specs.Opened.{HasState, IsAnswered, Opened, place_of}
use Rattle.primary_rekeying.proofs.Moved.{IsReady, RowLaws, is_stored, may_store, rekey_is}
use Rattle.primary_rekeying.proofs.Rekeyed.{back_comes, kept_is, made_exact, now_comes}
use Rattle.primary_rekeying.proofs.Settled.{IsSame, is_same, plain_of, work_in_place, work_moves}
use Rattle.primary_rekeying.proofs.Taken.{active_there}
use Rattle.primary_rekeying.specs.Moving.{IsFoundOut, IsInPlace, IsMoving, IsStored, IsTake, MayStore}
use Rattle.primary_rekeying.specs.declared.taking.TakeAnswer.{TakeAnswer}
use Rattle.primary_rekeying.specs.declared.taking.TakeAnswer.TheVariants as answers
use Rattle.princ_rows.specs.declared.entries.Op.TheVariants.{PutPrinc}
use Rattle.princ_name.specs.Names.{NameParts, printed}
use Rattle.princ_record.specs.Princs.{IsPrinc, princ}
use Rattle.princ_record.specs.declared.princs.Princ.{Princ}
use Rattle.command_plans.proofs.RenamedFits.{row_fits, row_name}
use Rattle.rekey_work.specs.Works.{IsWork, settled_with}
use Rattle.rekey_work.specs.declared.works.Settled.{Settled}
use Rattle.rekey_work.specs.declared.works.Settled.TheVariants as settled
use Rattle.row_keys.proofs.Names.{found_alike, same_mkvno}
use Rattle.row_keys.proofs.Sides.{both_none}
use Rattle.row_keys.proofs.Whole.{HoldOneKey, listed_whole}
use Rattle.row_keys.specs.Lookups.{record_named}
use Rattle.row_keys.specs.Shows.{ShowsItem, ShowsPrinc}
use Rattle.row_keys.specs.Sides.{AreBoth}

-- nothing is made
unmade : (o : Opened) (ask : Ask) (answer : Answer)
    → ((s : State) → HasState o s → (due : Bool) → outcome o.kept.rows ask due s ≡ kept s answer)
    → IsAnswered o ask answer None
unmade o ask answer comes = record {
  performs = λ s has. ask_keeps (place_of o) s ask answer (comes s has (due_at ask (seen (place_of o) s)));
  masters =
      λ s has. ap (λ (x : Outcome). x.state.masters) (comes s has (due_at ask (seen (place_of o) s))) ∙ has.masters_are;
}

-- two records with a spelling are one where their spellings are
abbrev pub AreOneBySpelling : Type 0
AreOneBySpelling = (p q : Princ) → IsPrinc p → IsPrinc q → princ p ≡ princ q → p ≡ q

-- ---- work that comes back

-- what is known of the work, the primary and the version that is active
pub record IsBack (o : Opened) (clock : Moment) (w : Work) (version : ℕ) : Type 0 where
  pub ready : IsReady o clock
  pub work : IsWork w
  pub active : (s : State) → HasState o s → active_at s (at_clock clock false) ≡ Some version

module _ (laws : RowLaws) (one : HoldOneKey) (own : AreOneBySpelling) (o : Opened) (clock : Moment) (w : Work)
    (version : ℕ) (back : IsBack o clock w version) where
  may_is : (s : State) (due test : Bool) (stored : Princ) → HasState o s
      → may_settle o.masters (Some version) stored w.taken ≡ test
      → may_settle s.masters (active_at s (at_clock clock due)) stored w.taken ≡ test
  may_is s due test stored has e =
      ap (λ (m : List Master). may_settle m (active_at s (at_clock clock due)) stored w.taken) has.masters_are
      ∙ ap (λ (v : Option ℕ). may_settle o.masters v stored w.taken) (back.active s has) ∙ e

  -- where nothing of what was taken has changed
  module _ (stored : Princ) (there : record_named w.taken.princ.name o.kept.rows.princs ≡ Some stored)
      (yes_ : may_settle o.masters (Some version) stored w.taken ≡ true) where
    same : IsSame o.masters (Some version) stored w.taken
    same =
        is_same own o.masters (Some version) stored w.taken
        (row_fits w.taken.princ.name o.kept.rows stored back.ready.rows there) back.work.taken.spelled yes_

    still : record_named w.taken.princ.name o.kept.rows.princs ≡ Some w.taken.princ
    still = there ∙ ap Some same.record_is

    moves : (s : State) → HasState o s → IsMoving o s w.taken.princ.name clock w.made
    moves s has =
        work_moves one o s has clock w back.work still (back.active s has ∙ same.active_is)
        (ap (λ (m : List Master). master_of m w.taken.princ.mkvno) has.masters_are ∙ same.old_is)
        (ap (λ (m : List Master). master_of m w.taken.version) has.masters_are ∙ same.fresh_is)

    in_place : IsInPlace o w.taken.princ.name w.made
    in_place = work_in_place o w back.work still

    may_be_stored : MayStore o clock w.made
    may_be_stored = may_store laws o clock w.taken.princ.name w.made back.ready in_place moves

    is_put : (who : NameParts) (s : State) → HasState o s
        → kept_op o.kept.rows s (Settles who clock w) ≡ Some (PutPrinc w.made)
    unfolding kept_op
    is_put who s has = refl

    is_back : (who : NameParts) → printed who ≡ w.taken.princ.name → IsStored o (Settles who clock w) w.made
    is_back who named =
        is_stored laws o (Settles who clock w) w.taken.princ.name w.made back.ready in_place moves
        (λ s has due.
        back_comes o.kept.rows s who clock w due stored (under_version (moves s has).version (moves s has).plain)
        (ap (λ (n : List ℕ). record_named n o.kept.rows.princs) named ∙ there) (may_is s due true stored has yes_)
        (rekey_is laws o s has w.taken.princ.name clock w.made back.ready.clock_is
        (moves s has) in_place who due named))
        (is_put who)

  is_gone : (who : NameParts) → printed who ≡ w.taken.princ.name
      → record_named w.taken.princ.name o.kept.rows.princs ≡ None
      → IsAnswered o (Settles who clock w) (Moved settled.Gone) None
  unfolding outcome settle settled_as
  is_gone who named none =
      unmade o (Settles who clock w) (Moved settled.Gone)
      (λ s has due. ap (λ (x : Option Princ). settled_as s (settle s who (at_clock clock due) x w))
      (ap (λ (n : List ℕ). record_named n o.kept.rows.princs) named ∙ none))

  is_changed : (who : NameParts) (stored : Princ) → printed who ≡ w.taken.princ.name
      → record_named w.taken.princ.name o.kept.rows.princs ≡ Some stored
      → may_settle o.masters (Some version) stored w.taken ≡ false
      → IsAnswered o (Settles who clock w)
      (Moved (settled.Changed (other_record stored w.taken) (other_version (Some version) w.taken))) None
  unfolding outcome settle settled_as
  is_changed who stored named there no_ =
      unmade o (Settles who clock w)
      (Moved (settled.Changed (other_record stored w.taken) (other_version (Some version) w.taken)))
      (λ s has due.
      ap (λ (x : Option Princ). settled_as s (settle s who (at_clock clock due) x w))
      (ap (λ (n : List ℕ). record_named n o.kept.rows.princs) named ∙ there)
      ∙ ap (λ (b : Bool). settled_as s (if b then settled_by w.made (rekey s who (at_clock clock due))
      else model.Changed (other_record stored w.taken) (other_version (active_at s (at_clock clock due)) w.taken)))
      (may_is s due false stored has no_)
      ∙ ap (λ (v : Option ℕ). kept s (Moved (settled.Changed (other_record stored w.taken) (other_version v w.taken))))
      (back.active s has))

  pub settled_found : (who : NameParts) → printed who ≡ w.taken.princ.name → (stored : Option Princ)
      → record_named w.taken.princ.name o.kept.rows.princs ≡ stored
      → IsFoundOut o (Settles who clock w) (settled_with stored o.masters version w)
  unfolding settled_with
  settled_found who named None there = is_gone who named there
  settled_found who named (Some stored) there = by (may_settle o.masters (Some version) stored w.taken) refl
    where
      by : (test : Bool) → may_settle o.masters (Some version) stored w.taken ≡ test
          → IsFoundOut o (Settles who clock w) (if test then settled.Updated w.made
          else settled.Changed (other_record stored w.taken) (other_version (Some version) w.taken))
      by true e = is_back stored there e who named
      by false e = is_changed who stored named there e

  pub settled_may : (stored : Option Princ) (made : Princ) → record_named w.taken.princ.name o.kept.rows.princs ≡ stored
      → settled_with stored o.masters version w ≡ settled.Updated made → MayStore o clock made
  unfolding settled_with
  settled_may None made there e = absurd cc
  settled_may (Some stored) made there e = by (may_settle o.masters (Some version) stored w.taken) refl e
    where
      by : (test : Bool) → may_settle o.masters (Some version) stored w.taken ≡ test
          → (if test then settled.Updated w.made else settled.Changed (other_record stored w.taken)
          (other_version (Some version) w.taken)) ≡ settled.Updated made
          → MayStore o clock made
      by true yes_ is = let same_made : w.made ≡ made =
          cc in subst (MayStore o clock) same_made (may_be_stored stored there yes_)
      by false no_ is = absurd cc

-- ---- a take, by what it gives

-- what is taken is the record that is stored, with the master keys of its version and of the active one
pub record IsTaken (masters : List Master) (active : Option ℕ) (stored : Option Princ) (t : Taking) : Type 0 where
  pub stored_is : stored ≡ Some t.princ
  pub active_is : active ≡ Some t.version
  pub old_is : master_of masters t.princ.mkvno ≡ Some t.old
  pub fresh_is : master_of masters t.version ≡ Some t.fresh

ready_by : (masters : List Master) (p : Princ) (version : ℕ) (old fresh : Option Key) (t : Taking)
    → master_of masters p.mkvno ≡ old → master_of masters version ≡ fresh
    → model.ready p version old fresh ≡ model.Ready t → IsTaken masters (Some version) (Some p) t
unfolding model.ready
ready_by masters p version None fresh t a b e = absurd cc
ready_by masters p version (Some old) None t a b e = absurd cc
ready_by masters p version (Some old) (Some fresh) t a b e =
    let princ_is : p ≡ t.princ = taken_princ (record { princ = p; version = version; old = old; fresh = fresh }) t cc in
    let version_is : version ≡ t.version =
    taken_version (record { princ = p; version = version; old = old; fresh = fresh }) t cc in
    record {
      stored_is = ap Some princ_is;
      active_is = ap Some version_is;
      old_is = ap (λ (q : Princ). master_of masters q.mkvno) (sym princ_is) ∙ a
          ∙ ap Some (taken_old (record { princ = p; version = version; old = old; fresh = fresh }) t cc);
      fresh_is = ap (master_of masters) (sym version_is) ∙ b
          ∙ ap Some (taken_fresh (record { princ = p; version = version; old = old; fresh = fresh }) t cc);
    }
  where
    taken_princ : (a b : Taking) → a ≡ b → a.princ ≡ b.princ
    taken_princ a b e = ap (λ (x : Taking). x.princ) e

    taken_version : (a b : Taking) → a ≡ b → a.version ≡ b.version
    taken_version a b e = ap (λ (x : Taking). x.version) e

    taken_old : (a b : Taking) → a ≡ b → a.old ≡ b.old
    taken_old a b e = ap (λ (x : Taking). x.old) e

    taken_fresh : (a b : Taking) → a ≡ b → a.fresh ≡ b.fresh
    taken_fresh a b e = ap (λ (x : Taking). x.fresh) e

ready_to : (masters : List Master) (p : Princ) (active : Option ℕ) (t : Taking)
    → take_to masters p active ≡ model.Ready t → IsTaken masters active (Some p) t
unfolding take_to
ready_to masters p None t e = absurd cc
ready_to masters p (Some version) t e = by (nat_eq p.mkvno version) e
  where
    by : (test : Bool)
        → (if test then TakenAlready
        else model.ready p version (master_of masters p.mkvno) (master_of masters version)) ≡ model.Ready t
        → IsTaken masters (Some version) (Some p) t
    by true is = absurd cc
    by false is = ready_by masters p version (master_of masters p.mkvno) (master_of masters version) t refl refl is

pub is_taken : (s : State) (at : At) (stored : Option Princ) (t : Taking) → take_of s at stored ≡ model.Ready t
    → IsTaken s.masters (active_at s at) stored t
unfolding take_of
is_taken s at None t e = absurd cc
is_taken s at (Some p) t e = ready_to s.masters p (active_at s at) t e

gone_by : (p : Princ) (version : ℕ) (old fresh : Option Key) → model.ready p version old fresh ≡ TakenGone → ⊥
unfolding model.ready
gone_by p version None fresh e = absurd cc
gone_by p version (Some old) None e = absurd cc
gone_by p version (Some old) (Some fresh) e = absurd cc

gone_to : (masters : List Master) (p : Princ) (active : Option ℕ) → take_to masters p active ≡ TakenGone → ⊥
unfolding take_to
gone_to masters p None e = absurd cc
gone_to masters p (Some version) e = by (nat_eq p.mkvno version) e
  where
    by : (test : Bool)
        → (if test then TakenAlready
        else model.ready p version (master_of masters p.mkvno) (master_of masters version)) ≡ TakenGone → ⊥
    by true is = absurd cc
    by false is = gone_by p version (master_of masters p.mkvno) (master_of masters version) is

none_stored : (s : State) (at : At) (stored : Option Princ) → take_of s at stored ≡ TakenGone → stored ≡ None
unfolding take_of
none_stored s at None e = refl
none_stored s at (Some p) e = absurd (gone_to s.masters p (active_at s at) e)

-- a record whose version and the active one have master keys is left where it is under the active one alone
same_version : (masters : List Master) (p : Princ) (version : ℕ) (old fresh : Option Key)
    → master_of masters p.mkvno ≡ old → master_of masters version ≡ fresh
    → old ≢ None → fresh ≢ None → take_to masters p (Some version) ≡ TakenAlready → nat_eq p.mkvno version ≡ true
unfolding take_to model.ready
same_version masters p version None fresh a b some_old some_fresh e = absurd (some_old refl)
same_version masters p version (Some old) None a b some_old some_fresh e = absurd (some_fresh refl)
same_version masters p version (Some old) (Some fresh) a b some_old some_fresh e = by (nat_eq p.mkvno version) refl e
  where
    ready_is : model.ready p version (master_of masters p.mkvno) (master_of masters version)
        ≡ model.Ready (record { princ = p; version = version; old = old; fresh = fresh })
    ready_is = ap (λ (x : Option Key). model.ready p version x (master_of masters version)) a
        ∙ ap (λ (x : Option Key). model.ready p version (Some old) x) b

    by : (test : Bool) → nat_eq p.mkvno version ≡ test
        → (if test then TakenAlready
        else model.ready p version (master_of masters p.mkvno) (master_of masters version)) ≡ TakenAlready
        → nat_eq p.mkvno version ≡ true
    by true same is = same
    by false same is =
        let never : model.Ready (record { princ = p; version = version; old = old; fresh = fresh }) ≡ TakenAlready =
        sym ready_is ∙ is in
        absurd cc

-- ---- a rekeying at once

-- where no record has the name, the take answers so
pub none_gone : (s : State) (at : At) (stored : Option Princ) (answer : TakeAnswer) → stored ≡ None
    → IsTake answer (take_of s at stored) → answer ≡ answers.Gone
unfolding take_of
none_gone s at None (answers.Ready taken) e is = absurd cc
none_gone s at None answers.Already e is = absurd cc
none_gone s at None answers.Gone e is = refl
none_gone s at None answers.Closed e is = absurd is
none_gone s at (Some p) answer e is = absurd cc

pub never_ready : (taken : Taking) → answers.Ready taken ≡ answers.Gone → ⊥
never_ready taken e = absurd cc

pub never_already : answers.Already ≡ answers.Gone → ⊥
never_already e = absurd cc

moved_gone : (s : State) (made : Option Princ) → asks.moved s made Gone ≡ kept s (Moved settled.Gone)
unfolding asks.moved
moved_gone s None = refl
moved_gone s (Some p) = refl

moved_already : (s : State) (made : Option Princ) → asks.moved s made Already ≡ kept s (Moved settled.Already)
unfolding asks.moved
moved_already s None = refl
moved_already s (Some p) = refl

rekeying_comes : (o : Opened) (s : State) (who : NameParts) (clock : Moment) (random : List ℕ) (due : Bool)
    (r : Rekeyed) → rekey s who (at_clock clock due) ≡ r
    → outcome o.kept.rows (RekeyedNow who clock random) due s
    ≡ asks.moved s (record_put (kept_rekeying o.kept.rows s who clock random)) r
unfolding outcome
rekeying_comes o s who clock random due r is =
    ap (asks.moved s (record_put (kept_rekeying o.kept.rows s who clock random))) is

some_key : (x : Option Key) (k : Key) → x ≡ Some k → x ≢ None
some_key x k is none = let both : ◌≡◌ {A = Option Key} None (Some k) = sym none ∙ is in absurd cc

both_shown : (masters : List Master) (history : Key) (p : Princ) (q : PlainPrinc) (stored : Option Princ)
    (plain : Option PlainPrinc) → stored ≡ Some p → plain ≡ Some q
    → AreBoth (ShowsPrinc masters history) stored plain → ShowsPrinc masters history p q
both_shown masters history p q None plain a b both = absurd cc
both_shown masters history p q (Some r) None a b both = absurd cc
both_shown masters history p q (Some r) (Some t) a b both =
    let same : r ≡ p = cc in
    let plain_same : t ≡ q = cc in
    subst (λ (x : Princ). ShowsPrinc masters history x q) same
    (subst (λ (x : PlainPrinc). ShowsPrinc masters history r x) plain_same both)

module _ (o : Opened) (clock : Moment) (name : List ℕ) (who : NameParts) (named : printed who ≡ name) where
  abbrev stored_now : Option Princ
  stored_now = record_named name o.kept.rows.princs

  both_of : (s : State) (has : HasState o s)
      → AreBoth (ShowsPrinc s.masters has.shows.shows.history) stored_now (princ_named name s.princs)
  both_of s has = found_alike s.masters has.shows.shows.history o.kept.rows.princs s.princs has.shows.shows.princs name

  rekey_by : (s : State) (due : Bool) (plain : Option PlainPrinc) → princ_named name s.princs ≡ plain
      → rekey s who (at_clock clock due) ≡ model.rekey_found s (at_clock clock due) plain
  unfolding rekey
  rekey_by s due plain is =
      ap (λ (n : List ℕ). model.rekey_found s (at_clock clock due) (princ_named n s.princs)) named
      ∙ ap (model.rekey_found s (at_clock clock due)) is

  gone_of : (s : State) → HasState o s → (due : Bool) → take_of s (at_clock clock false) stored_now ≡ TakenGone
      → rekey s who (at_clock clock due) ≡ Gone
  gone_of s has due e =
      rekey_by s due None
      (both_none (ShowsPrinc s.masters has.shows.shows.history) stored_now (princ_named name s.princs) (both_of s has)
      (none_stored s (at_clock clock false) stored_now e))

  already_at : (s : State) → HasState o s → (due : Bool) (p : Princ) (q : PlainPrinc) (history : Key)
      → ShowsPrinc s.masters history p q → (active : Option ℕ)
      → active_at s (at_clock clock false) ≡ active → take_to s.masters p active ≡ TakenAlready
      → rekey_to s (at_clock clock due) active q ≡ Already
  unfolding rekey_to
  already_at s has due p q history shows None is e = refl
  already_at s has due p q history shows (Some version) is e =
      let same : nat_eq p.mkvno version ≡ true =
      same_version s.masters p version (master_of s.masters p.mkvno) (master_of s.masters version) refl refl
      (some_key (master_of s.masters p.mkvno) shows.master shows.named)
      (subst (λ (m : List Master). master_of m version ≢ None) (sym has.masters_are)
      (active_there o s clock version has is)) e in
      ap (λ (b : Bool). if b then Already else model.moved s (at_clock clock due) (under_version version q))
      (ap (λ (n : ℕ). nat_eq n version) (sym (same_mkvno p q shows)) ∙ same)

  already_found : (s : State) → HasState o s → (due : Bool) (p : Princ) → stored_now ≡ Some p
      → take_of s (at_clock clock false) stored_now ≡ TakenAlready
      → rekey s who (at_clock clock due) ≡ Already
  unfolding take_of
  already_found s has due p there e =
      let f =
      plain_of s.masters has.shows.shows.history p stored_now (princ_named name s.princs) there (both_of s has) in
      rekey_by s due (Some f.of) f.is
      ∙ already_at s has due p f.of has.shows.shows.history f.shows (active_at s (at_clock clock false)) refl
      (sym (ap (take_of s (at_clock clock false)) there) ∙ e)

  already_of : (s : State) → HasState o s → (due : Bool) (stored : Option Princ) → stored_now ≡ stored
      → take_of s (at_clock clock false) stored_now ≡ TakenAlready
      → rekey s who (at_clock clock due) ≡ Already
  unfolding take_of
  already_of s has due None there e =
      let never : TakenGone ≡ TakenAlready = sym (ap (take_of s (at_clock clock false)) there) ∙ e in
      absurd cc
  already_of s has due (Some p) there e = already_found s has due p there e

  pub now_gone : (random : List ℕ)
      → ((s : State) → HasState o s → take_of s (at_clock clock false) stored_now ≡ TakenGone)
      → IsAnswered o (RekeyedNow who clock random) (Moved settled.Gone) None
  now_gone random takes =
      unmade o (RekeyedNow who clock random) (Moved settled.Gone)
      (λ s has due. rekeying_comes o s who clock random due Gone (gone_of s has due (takes s has))
      ∙ moved_gone s (record_put (kept_rekeying o.kept.rows s who clock random)))

  pub now_already : (random : List ℕ)
      → ((s : State) → HasState o s → take_of s (at_clock clock false) stored_now ≡ TakenAlready)
      → IsAnswered o (RekeyedNow who clock random) (Moved settled.Already) None
  now_already random takes =
      unmade o (RekeyedNow who clock random) (Moved settled.Already)
      (λ s has due. rekeying_comes o s who clock random due Already (already_of s has due stored_now refl (takes s has))
      ∙ moved_already s (record_put (kept_rekeying o.kept.rows s who clock random)))

-- what is known of the record that was taken and wrapped anew
pub record IsAnew (o : Opened) (clock : Moment) (name random : List ℕ) (w : Work) : Type 0 where
  pub ready : IsReady o clock
  pub work : IsWork w
  pub made : IsRewrapped w.taken.princ w.taken.old w.taken.version w.taken.fresh random w.made
  pub takes : (s : State) → HasState o s
      → take_of s (at_clock clock false) (record_named name o.kept.rows.princs) ≡ model.Ready w.taken

module _ (laws : RowLaws) (one : HoldOneKey) (o : Opened) (clock : Moment) (name random : List ℕ) (w : Work)
    (anew : IsAnew o clock name random w) where
  taken_so : (s : State) → HasState o s
      → IsTaken s.masters (active_at s (at_clock clock false)) (record_named name o.kept.rows.princs) w.taken
  taken_so s has = is_taken s (at_clock clock false) (record_named name o.kept.rows.princs) w.taken (anew.takes s has)

  stands : record_named name o.kept.rows.princs ≡ Some w.taken.princ
  stands = (taken_so anew.ready.opened.state anew.ready.opened.has).stored_is

  own_name : w.taken.princ.name ≡ name
  own_name = row_name name o.kept.rows w.taken.princ stands

  by_name : record_named w.taken.princ.name o.kept.rows.princs ≡ Some w.taken.princ
  by_name = ap (λ (n : List ℕ). record_named n o.kept.rows.princs) own_name ∙ stands

  now_moves : (s : State) → HasState o s → IsMoving o s w.taken.princ.name clock w.made
  now_moves s has = work_moves one o s has clock w anew.work by_name (taken_so s has).active_is (taken_so s has).old_is
      (taken_so s has).fresh_is

  now_in_place : IsInPlace o w.taken.princ.name w.made
  now_in_place = work_in_place o w anew.work by_name

  pub now_may : MayStore o clock w.made
  now_may = may_store laws o clock w.taken.princ.name w.made anew.ready now_in_place now_moves

  same_master : (a b : Key) → ◌≡◌ {A = Option Key} (Some a) (Some b) → a ≡ b
  same_master a b e = cc

  now_exact : (s : State) (has : HasState o s)
      → w.made ≡ rewrapped w.taken.version w.taken.fresh random (now_moves s has).plain w.taken.princ
  now_exact s has =
      let shows = both_shown s.masters has.shows.shows.history w.taken.princ (now_moves s has).plain
      (record_named w.taken.princ.name o.kept.rows.princs)
      (princ_named w.taken.princ.name s.princs) by_name (now_moves s has).named
      (found_alike s.masters has.shows.shows.history o.kept.rows.princs s.princs has.shows.shows.princs
      w.taken.princ.name) in
      let master : shows.master ≡ w.taken.old =
      same_master shows.master w.taken.old (sym shows.named ∙ (taken_so s has).old_is) in
      let whole = listed_whole has.shows.shows.entry s.masters w.taken.princ.mkvno w.taken.old
      has.shows.shows.chain.chain (taken_so s has).old_is in
      made_exact one w.taken.old w.taken.fresh whole w.taken.princ w.made w.taken.version random (now_moves s has).plain
      (subst (λ (k : Key). AllZip (ShowsItem k) w.taken.princ.keys (now_moves s has).plain.keys) master
      shows.under.keys) anew.made

  now_kept : (who : NameParts) → printed who ≡ name → (s : State) → HasState o s
      → kept_rekeying o.kept.rows s who clock random ≡ Some (PutPrinc w.made)
  now_kept who named s has =
      let plain = (now_moves s has).plain in
      let as_named : printed who ≡ w.taken.princ.name = named ∙ sym own_name in
      kept_is o.kept.rows s who clock random w.taken.version w.taken.fresh plain w.taken.princ
      (taken_so s has).active_is (taken_so s has).fresh_is
      (ap (λ (n : List ℕ). princ_named n s.princs) as_named ∙ (now_moves s has).named)
      (ap (λ (n : List ℕ). record_named n o.kept.rows.princs) named ∙ stands)
      ∙ ap (λ (p : Princ). Some (PutPrinc p)) (sym (now_exact s has))

  now_puts : (who : NameParts) → printed who ≡ name → (s : State) → HasState o s
      → kept_op o.kept.rows s (RekeyedNow who clock random) ≡ Some (PutPrinc w.made)
  unfolding kept_op
  now_puts who named s has = now_kept who named s has

  pub now_stored : (who : NameParts) → printed who ≡ name → IsStored o (RekeyedNow who clock random) w.made
  now_stored who named =
      is_stored laws o (RekeyedNow who clock random) w.taken.princ.name w.made anew.ready now_in_place now_moves
      (λ s has due. now_comes o.kept.rows s who clock random w.made due
      (model.moved s (at_clock clock due) (under_version (now_moves s has).version (now_moves s has).plain))
      (now_kept who named s has)
      (rekey_is laws o s has w.taken.princ.name clock w.made anew.ready.clock_is (now_moves s has) now_in_place who due
      (named ∙ sym own_name)))
      (now_puts who named)

-- ---- by what the calls answer

pub settled_told : (x stored : Option Princ) (masters held : List Master) (version : ℕ) (w : Work) → x ≡ stored
    → masters ≡ held
    → settled_with x masters version w ≡ settled_with stored held version w
settled_told x stored masters held version w a b = ap (λ (y : Option Princ). settled_with y masters version w) a
    ∙ ap (λ (m : List Master). settled_with stored m version w) b

pub ok_value : {E : Type 0} (r : Result Settled E) (x y : Settled) → IfOk r (λ s. s ≡ x) → r ≡ Ok y → x ≡ y
ok_value (Ok a) x y is e = let same : a ≡ y = cc in sym is ∙ same
ok_value (Err why) x y is e = absurd cc

pub updated_same : {E : Type 0} (a b : Princ)
    → ◌≡◌ {A = Result Settled E} (Ok (settled.Updated a)) (Ok (settled.Updated b)) → a ≡ b
updated_same a b e = cc
