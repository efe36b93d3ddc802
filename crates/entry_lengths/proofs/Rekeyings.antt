-- The entry of a rekeying is as long as is told of the state.
use Rattle.std.proofs.Common.{◌≡◌, ℕ, ◌*◌, ◌≤◌, ◌&&◌, true, false, List, length, Option}
use Rattle.std.proofs.Common.{Some, None, refl, sym, ap, subst, ◌∙◌, arith, eqb-true}
use Rattle.std.specs.Prelude.{IsTrue, is_some, nat_eq, option_and_then, option_map}
use Rattle.std.specs.Str.{bytes_eq}
use Rattle.std.proofs.lemmas.Bool.{and_parts}
use Rattle.std.proofs.lemmas.Option.{same_Some}
use Rattle.command_plans.proofs.RenamedFits.{row_fits, row_name}
use Rattle.entry_lengths.proofs.Entries.{no_chain}
use Rattle.entry_lengths.proofs.RekeyedRows.{anew_long, entry_rekeyed, made_long}
use Rattle.entry_lengths.specs.Lengths.{IsAsLong}
use Rattle.entry_lengths.specs.Rekeyings.{MayRekey, MaySettle, rekeyed_in}
use Rattle.kdb_base.specs.EtypeLaws.{same_etype}
use Rattle.kdb_base.specs.Etypes.{number_of}
use Rattle.kdb_base.specs.Key.{Key}
use Rattle.kdb_base.specs.Moment.{Moment}
use Rattle.kdb_base.specs.Moments.{later_moment}
use Rattle.kdb_base.specs.declared.keys.Etype.{Etype}
use Rattle.kdb_base.specs.declared.versions.Master.{Master}
use Rattle.kdb_histories.specs.Asks.{RekeyedNow, Settles, at_clock, kept_op, kept_rekeying, rewrapped}
use Rattle.kdb_model.specs.Rekeying.{Taking, Work, active_at, has_keys, is_key}
use Rattle.kdb_model.specs.Rekeying.{is_record, is_version, may_settle, under_version}
use Rattle.kdb_plain.specs.Lengths.{item_len}
use Rattle.kdb_plain.specs.States.{IsValid, master_of, princ_named}
use Rattle.kdb_plain.specs.declared.changes.PlainOp.{PlainOp}
use Rattle.kdb_plain.specs.declared.changes.PlainOp.TheVariants.{PutPrinc}
use Rattle.kdb_plain.specs.declared.princs.PlainPrinc.{PlainPrinc}
use Rattle.kdb_plain.specs.declared.states.State.{State}
use Rattle.master_keys.proofs.SideBySide.{zip_length}
use Rattle.princ_keys.specs.Sizes as key_sizes
use Rattle.princ_name.specs.Names.{NameParts, printed}
use Rattle.princ_name.specs.Printed.{is_master}
use Rattle.princ_record.specs.Princs.{IsPrinc, princ}
use Rattle.princ_record.specs.declared.princs.Princ.{Princ}
use Rattle.princ_rows.specs.EntryLaws.{same_bytes}
use Rattle.princ_rows.specs.declared.entries.Op.{Op}
use Rattle.princ_rows.specs.declared.entries.Op.TheVariants as op
use Rattle.princ_rows.specs.Rows.{AreRows, RowLists}
use Rattle.rekey_work.specs.Works.{IsWork}
use Rattle.row_keys.proofs.Names.{found_alike}
use Rattle.row_keys.proofs.Whole.{listed_whole}
use Rattle.row_keys.specs.Lookups.{record_named}
use Rattle.row_keys.specs.Shows.{Shows, ShowsItem, ShowsPrinc}
use Rattle.row_keys.specs.Sides.{AreBoth}
use Rattle.serving_versions.proofs.LatestKept.{active_listed}
use Rattle.std.specs.List.{sum_by}

-- the change of the state, by the version that is active
abbrev plain_from : ℕ → Option PlainPrinc → Option PlainOp
plain_from version plain = option_map (λ (q : PlainPrinc). PutPrinc (under_version version q)) plain

-- ---- at once

module _ (rows : RowLists) (s : State) (time clock : Moment) (name : NameParts) (random : List ℕ)
    (shows : Shows rows s) (valid : IsValid time s) (fits : AreRows rows) (may : MayRekey name random) where
  abbrev rows_from : ℕ → Key → Option Princ → Option PlainPrinc → Option Op
  rows_from version fresh stored plain =
      option_and_then (λ (q : PlainPrinc).
      option_map (λ (p : Princ). op.PutPrinc (rewrapped version fresh random q p)) stored) plain

  now_long : (version : ℕ) (fresh : Key) (p : Princ) (q : PlainPrinc) → master_of s.masters version ≡ Some fresh
      → record_named (printed name) rows.princs ≡ Some p
      → ShowsPrinc s.masters shows.history p q
      → IsAsLong s (op.PutPrinc (rewrapped version fresh random q p)) (PutPrinc (under_version version q))
  now_long version fresh p q listed there f =
      let spelled = row_fits (printed name) rows p fits there in
      let alone =
      no_chain p.chain (spelled.facts.chain_there ∙ ap is_master (row_name (printed name) rows p there) ∙ may.other) in
      let long : length p.keys ≡ length q.keys = zip_length (ShowsItem f.master) p.keys q.keys f.under.keys in
      let few = spelled.keys.few in
      let enough : 16 * length q.keys ≤ length random = omega (arith, long, few, may.block) in
      let whole = listed_whole shows.entry s.masters version fresh shows.chain.chain listed in
      entry_rekeyed s shows.history fresh version p (rewrapped version fresh random q p) q shows.history_is f
      alone listed refl
      (anew_long f.master fresh random p.keys q.keys whole.long f.under.keys enough)

  by_sides : (version : ℕ) (fresh : Key) (stored : Option Princ) (plain : Option PlainPrinc)
      → master_of s.masters version ≡ Some fresh → record_named (printed name) rows.princs ≡ stored
      → AreBoth (ShowsPrinc s.masters shows.history) stored plain
      → AreBoth (IsAsLong s) (rows_from version fresh stored plain) (plain_from version plain)
  by_sides version fresh None None listed there both = tt
  by_sides version fresh None (Some q) listed there both = absurd both
  by_sides version fresh (Some p) None listed there both = absurd both
  by_sides version fresh (Some p) (Some q) listed there both = now_long version fresh p q listed there both

  by_master : (version : ℕ) (found : Option Key) → master_of s.masters version ≡ found → IsTrue (is_some found)
      → AreBoth (IsAsLong s) (option_and_then (λ (fresh : Key).
      rows_from version fresh (record_named (printed name) rows.princs) (princ_named (printed name) s.princs)) found)
      (plain_from version (princ_named (printed name) s.princs))
  by_master version None listed there = absurd (cc (there))
  by_master version (Some fresh) listed there =
      by_sides version fresh (record_named (printed name) rows.princs) (princ_named (printed name) s.princs) listed refl
      (found_alike s.masters shows.history rows.princs s.princs shows.princs (printed name))

  by_active : (active : Option ℕ) → active_at s (at_clock clock false) ≡ active
      → AreBoth (IsAsLong s)
      (option_and_then (λ (version : ℕ). option_and_then (λ (fresh : Key).
      rows_from version fresh (record_named (printed name) rows.princs) (princ_named (printed name) s.princs))
      (master_of s.masters version)) active)
      (option_and_then (λ (version : ℕ). plain_from version (princ_named (printed name) s.princs)) active)
  by_active None is = tt
  by_active (Some version) is = by_master version (master_of s.masters version) refl
      (active_listed time s (later_moment s.point.time clock).secs version valid is)

  pub now_rekeyed : AreBoth (IsAsLong s) (kept_op rows s (RekeyedNow name clock random)) (rekeyed_in s name clock)
  unfolding kept_op kept_rekeying rekeyed_in
  now_rekeyed = by_active (active_at s (at_clock clock false)) refl

-- ---- by work that comes back

-- the master key of the version is of the type of the one that was taken
pub record IsListedAs (masters : List Master) (version : ℕ) (key : Key) : Type 0 where
  pub master : Key
  pub listed : master_of masters version ≡ Some master
  pub etype : master.etype ≡ key.etype

listed_as : (masters : List Master) (version : ℕ) (key : Key) (found : Option Key) → master_of masters version ≡ found
    → is_key found key ≡ true → IsListedAs masters version key
listed_as masters version key None is e = absurd cc
listed_as masters version key (Some master) is e =
    let parts = and_parts (nat_eq (number_of master.etype) (number_of key.etype)) (bytes_eq master.bytes key.bytes) e in
    record {
      master = master;
      listed = is;
      etype = same_etype master.etype key.etype (eqb-true (number_of master.etype) (number_of key.etype) parts.0);
    }

version_is : (found : Option ℕ) (version : ℕ) → is_version found version ≡ true → found ≡ Some version
version_is None version e = absurd cc
version_is (Some other) version e = ap Some (eqb-true other version e)

-- two principals that have a spelling never have the same one
abbrev pub HaveOwnSpellings : Type 0
HaveOwnSpellings = (p q : Princ) → IsPrinc p → IsPrinc q → princ p ≡ princ q → p ≡ q

-- what was taken is what is there
record IsStill (masters : List Master) (active : Option ℕ) (stored : Princ) (t : Taking) : Type 0 where
  pub record_is : stored ≡ t.princ
  pub active_is : active ≡ Some t.version
  pub fresh_is : IsListedAs masters t.version t.fresh

still : HaveOwnSpellings → (masters : List Master) (active : Option ℕ) (stored : Princ) (t : Taking) → IsPrinc stored
    → IsPrinc t.princ → may_settle masters active stored t ≡ true
    → IsStill masters active stored t
unfolding may_settle has_keys
still own masters active stored t one two e =
    let first = and_parts (is_record stored t.princ && is_version active t.version) (has_keys masters t) e in
    let second = and_parts (is_record stored t.princ) (is_version active t.version) first.0 in
    let third =
    and_parts (is_key (master_of masters t.princ.mkvno) t.old) (is_key (master_of masters t.version) t.fresh) first.1 in
    record {
      record_is = own stored t.princ one two (same_bytes (princ stored) (princ t.princ) second.0);
      active_is = version_is active t.version second.1;
      fresh_is = listed_as masters t.version t.fresh (master_of masters t.version) refl third.1;
    }

module _ (own : HaveOwnSpellings) (rows : RowLists) (s : State) (clock : Moment) (name : NameParts) (w : Work)
    (shows : Shows rows s) (fits : AreRows rows) (work : IsWork w) (may : MaySettle rows s name clock w) where
  unchanged : IsStill s.masters (active_at s (at_clock clock false)) may.stored w.taken
  unchanged =
      still own s.masters (active_at s (at_clock clock false)) may.stored w.taken
      (row_fits (printed name) rows may.stored fits may.there) work.taken.spelled may.unchanged

  work_long : (q : PlainPrinc) → ShowsPrinc s.masters shows.history w.taken.princ q
      → IsAsLong s (op.PutPrinc w.made) (PutPrinc (under_version w.taken.version q))
  work_long q f =
      let fresh = unchanged.fresh_is in
      entry_rekeyed s shows.history fresh.master w.taken.version w.taken.princ w.made q shows.history_is f
      work.taken.ordinary fresh.listed work.same
      (subst (λ (e : Etype). sum_by key_sizes.key_len w.made.keys ≡ sum_by (item_len e) q.keys) (sym fresh.etype)
      (made_long f.master w.taken.old w.taken.fresh w.taken.princ.keys w.made.keys q.keys f.under.keys work.keys))

  beside : (stored : Option Princ) (plain : Option PlainPrinc) → stored ≡ Some w.taken.princ
      → AreBoth (ShowsPrinc s.masters shows.history) stored plain
      → AreBoth (IsAsLong s) (Some (op.PutPrinc w.made)) (plain_from w.taken.version plain)
  beside None plain is both = absurd cc
  beside (Some p) None is both = absurd both
  beside (Some p) (Some q) is both =
      work_long q (subst (λ (x : Princ). ShowsPrinc s.masters shows.history x q) (same_Some p w.taken.princ is) both)

  pub work_settled : AreBoth (IsAsLong s) (kept_op rows s (Settles name clock w)) (rekeyed_in s name clock)
  unfolding kept_op rekeyed_in
  work_settled =
      subst (λ (active : Option ℕ). AreBoth (IsAsLong s) (Some (op.PutPrinc w.made))
      (option_and_then (λ (version : ℕ). plain_from version (princ_named (printed name) s.princs)) active))
      (sym unchanged.active_is)
      (beside (record_named (printed name) rows.princs) (princ_named (printed name) s.princs)
      (may.there ∙ ap Some unchanged.record_is)
      (found_alike s.masters shows.history rows.princs s.princs shows.princs (printed name)))
