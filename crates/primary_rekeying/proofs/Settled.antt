-- Work over what the rows have: the principal that it moves, and what a settling asks of it.
use Rattle.std.proofs.Common.{◌≡◌, ℕ, Bool, true, false, ◌&&◌, List, Option}
use Rattle.std.proofs.Common.{Some, None, refl, sym, ap, subst, ◌∙◌, eqb-true}
use Rattle.std.specs.Prelude.{is_some, nat_eq}
use Rattle.std.proofs.lemmas.Bool.{and_parts}
use Rattle.kdb_base.specs.Key.{Key}
use Rattle.kdb_base.specs.KeyLaws.{same_keys}
use Rattle.kdb_base.specs.Moment.{Moment}
use Rattle.kdb_base.specs.declared.versions.Master.{Master}
use Rattle.kdb_histories.specs.Asks.{at_clock}
use Rattle.kdb_model.specs.Rekeying.{Taking, Work, active_at, has_keys, is_key, is_record, is_version, may_settle}
use Rattle.kdb_plain.specs.States.{master_of, princ_named}
use Rattle.kdb_plain.specs.declared.princs.PlainPrinc.{PlainPrinc}
use Rattle.kdb_plain.specs.declared.states.State.{State}
use Rattle.primary_rekeying.proofs.Rekeyed.{work_shown}
use Rattle.primary_rekeying.specs.Moving.{IsInPlace, IsMoving}
use Rattle.primary_core.specs.Opened.{HasState, Opened}
use Rattle.princ_rows.specs.EntryLaws.{same_bytes}
use Rattle.princ_record.specs.Princs.{IsPrinc, princ}
use Rattle.princ_record.specs.declared.princs.Princ.{Princ}
use Rattle.rekey_work.specs.Works.{IsWork}
use Rattle.row_keys.proofs.Names.{found_alike}
use Rattle.row_keys.proofs.Whole.{HoldOneKey, listed_whole}
use Rattle.row_keys.specs.Lookups.{record_named}
use Rattle.row_keys.specs.Shows.{ShowsPrinc, ShowsUnder}
use Rattle.row_keys.specs.Sides.{AreBoth}

-- ---- the principal that work moves

-- the principal of the state that the record shows
pub record IsPlain (masters : List Master) (history : Key) (p : Princ) (plain : Option PlainPrinc) : Type 0 where
  pub of : PlainPrinc
  pub is : plain ≡ Some of
  pub shows : ShowsPrinc masters history p of

pub plain_of : (masters : List Master) (history : Key) (p : Princ) (stored : Option Princ) (plain : Option PlainPrinc)
    → stored ≡ Some p
    → AreBoth (ShowsPrinc masters history) stored plain → IsPlain masters history p plain
plain_of masters history p None plain is both = absurd cc
plain_of masters history p (Some r) None is both = absurd both
plain_of masters history p (Some r) (Some q) is both =
    let same : r ≡ p = cc in
    record { of = q; is = refl; shows = subst (λ (x : Princ). ShowsPrinc masters history x q) same both }

same_key : (a b : Key) → Some a ≡ Some b → a ≡ b
same_key a b e = cc

apart : (a b : ℕ) (test : Bool) → nat_eq a b ≡ test → (a ≡ b → ⊥) → test ≡ false
apart a b true e other = absurd (other (eqb-true a b e))
apart a b false e other = refl

module _ (one : HoldOneKey) (o : Opened) (s : State) (has : HasState o s) (clock : Moment) (w : Work) (work : IsWork w)
    (there : record_named w.taken.princ.name o.kept.rows.princs ≡ Some w.taken.princ) where
  shown : IsPlain s.masters has.shows.shows.history w.taken.princ (princ_named w.taken.princ.name s.princs)
  shown =
      plain_of s.masters has.shows.shows.history w.taken.princ (record_named w.taken.princ.name o.kept.rows.princs)
      (princ_named w.taken.princ.name s.princs) there
      (found_alike s.masters has.shows.shows.history o.kept.rows.princs s.princs has.shows.shows.princs
      w.taken.princ.name)

  pub work_moves : active_at s (at_clock clock false) ≡ Some w.taken.version
      → master_of s.masters w.taken.princ.mkvno ≡ Some w.taken.old
      → master_of s.masters w.taken.version ≡ Some w.taken.fresh → IsMoving o s w.taken.princ.name clock w.made
  work_moves active old_is fresh_is =
      let q = shown.of in
      let mkvno : w.made.mkvno ≡ w.taken.version = ap (λ (p : Princ). p.mkvno) work.same in
      let master : shown.shows.master ≡ w.taken.old =
      same_key shown.shows.master w.taken.old (sym shown.shows.named ∙ old_is) in
      let under : ShowsUnder w.taken.old has.shows.shows.history w.taken.princ q =
      subst (λ (k : Key). ShowsUnder k has.shows.shows.history w.taken.princ q) master shown.shows.under in
      let whole =
      listed_whole has.shows.shows.entry s.masters w.taken.princ.mkvno w.taken.old has.shows.shows.chain.chain old_is in
      let own : w.taken.princ.mkvno ≡ q.mkvno = ap (λ (p : Princ). p.mkvno) shown.shows.under.fields in
      record {
        history = has.shows.shows.history;
        history_is = has.shows.shows.history_is;
        plain = q;
        named = shown.is;
        version = w.taken.version;
        active = active;
        other = apart q.mkvno w.taken.version (nat_eq q.mkvno w.taken.version) refl
            (λ (e : q.mkvno ≡ w.taken.version). work.taken.moves (sym e ∙ sym own));
        shows = record {
          master = w.taken.fresh;
          named = ap (master_of s.masters) mkvno ∙ fresh_is;
          under = work_shown one w.taken.old w.taken.fresh whole w has.shows.shows.history q refl refl work under;
        };
      }

pub work_in_place : (o : Opened) (w : Work) → IsWork w
    → record_named w.taken.princ.name o.kept.rows.princs ≡ Some w.taken.princ → IsInPlace o w.taken.princ.name w.made
work_in_place o w work there = record {
  other = sym work.taken.spelled.facts.chain_there ∙ ap is_some work.taken.ordinary;
  spelled = work.spelled;
  name_is = ap (λ (p : Princ). p.name) work.same;
  stored = w.taken.princ;
  there = there;
}

-- ---- what a settling asks

key_is : (x : Option Key) (k : Key) → is_key x k ≡ true → x ≡ Some k
key_is None k e = absurd cc
key_is (Some found) k e = ap Some (same_keys found k e)

version_is : (x : Option ℕ) (version : ℕ) → is_version x version ≡ true → x ≡ Some version
version_is None version e = absurd cc
version_is (Some found) version e = ap Some (eqb-true found version e)

-- nothing of what was taken has changed
pub record IsSame (masters : List Master) (active : Option ℕ) (stored : Princ) (t : Taking) : Type 0 where
  pub record_is : stored ≡ t.princ
  pub active_is : active ≡ Some t.version
  pub old_is : master_of masters t.princ.mkvno ≡ Some t.old
  pub fresh_is : master_of masters t.version ≡ Some t.fresh

pub is_same : ((p q : Princ) → IsPrinc p → IsPrinc q → princ p ≡ princ q → p ≡ q)
    → (masters : List Master) (active : Option ℕ) (stored : Princ) (t : Taking)
    → IsPrinc stored → IsPrinc t.princ → may_settle masters active stored t ≡ true → IsSame masters active stored t
unfolding may_settle has_keys
is_same own masters active stored t one two e =
    let first = and_parts (is_record stored t.princ && is_version active t.version) (has_keys masters t) e in
    let second = and_parts (is_record stored t.princ) (is_version active t.version) first.0 in
    let third =
    and_parts (is_key (master_of masters t.princ.mkvno) t.old) (is_key (master_of masters t.version) t.fresh) first.1 in
    record {
      record_is = own stored t.princ one two (same_bytes (princ stored) (princ t.princ) second.0);
      active_is = version_is active t.version second.1;
      old_is = key_is (master_of masters t.princ.mkvno) t.old third.0;
      fresh_is = key_is (master_of masters t.version) t.fresh third.1;
    }
