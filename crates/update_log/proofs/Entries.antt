-- The entries that stand in the slots of a log file, by its bytes.
use Rattle.std.proofs.Common.{◌≡◌, ◌≢◌, ℕ, ◌-◌, ◌<◌, ◌≤◌, ⊎_elim, Bool, true, false, ltb, eqb, cond, List, []}
use Rattle.std.proofs.Common.{length, take, drop, Option, Some, None, refl, sym, ◌∙◌, ap, subst, arith, length-drop}
use Rattle.std.specs.Prelude.{option_map, option_and_then}
use Rattle.std.proofs.lemmas.Bool.{cases_eq, and_parts, and_from, eqb-true, eq-eqb, ne_eqb, leb-true, le-leb}
use Rattle.std.proofs.lemmas.Bool.{ltb-true, lt-ltb, cond-true, cond-false, false_from_ne_true, true≢false}
use Rattle.std.proofs.lemmas.Option.{same_Some, cond_some, some_pair_parts}
use Rattle.std.proofs.lemmas.List.{drop_all}
use Rattle.kdb_base.specs.Moment.{Moment}
use Rattle.kdb_base.specs.declared.moments.Point.{Point}
use Rattle.kdb_format.specs.Readings.{padded, bytes_at}
use Rattle.kdb_format.specs.Laws.{bind_some, guard_some}
use Rattle.princ_rows.specs.Entries.{logged_at, kind_of}
use Rattle.princ_rows.specs.declared.entries.Op.{Op}
use Rattle.princ_rows.specs.declared.entries.Op.TheVariants.{PutPrinc, DropPrinc, Rename, PutPolicy, DropPolicy}
use Rattle.princ_rows.specs.declared.entries.Logged.{Logged}
use Rattle.update_log.specs.Slots.{slot_of, slot_bytes, IsOpen, IsClosed, Spells, Stands}
use Rattle.update_log.specs.Logs.{IsMarked}
use Rattle.update_log.specs.Runs.{is_open, spelled_in, stands_in, is_marker, is_marked}
use Rattle.update_log.specs.Runs.{belongs, slot_in, is_missing, joined, is_wrong, entry_in}

-- ---- changes and the base marker

pub change_kind : (op : Option Op) → op ≢ None → 0 < kind_of op
change_kind None is = absurd (is refl)
change_kind (Some (PutPrinc p)) is = omega arith
change_kind (Some (DropPrinc name)) is = omega arith
change_kind (Some (Rename old p)) is = omega arith
change_kind (Some (PutPolicy p)) is = omega arith
change_kind (Some (DropPolicy name)) is = omega arith

kind_change : (op : Option Op) → 0 < kind_of op → op ≢ None
kind_change op lt is = let none : kind_of op ≡ 0 = ap kind_of is in absurd (omega (arith, lt, none))

kind_none : (op : Option Op) → kind_of op ≡ 0 → op ≡ None
kind_none None is = refl
kind_none (Some (PutPrinc p)) is = absurd (omega (arith, is))
kind_none (Some (DropPrinc name)) is = absurd (omega (arith, is))
kind_none (Some (Rename old p)) is = absurd (omega (arith, is))
kind_none (Some (PutPolicy p)) is = absurd (omega (arith, is))
kind_none (Some (DropPolicy name)) is = absurd (omega (arith, is))

same_point : (a b : Point) → a.sno ≡ b.sno → a.time.secs ≡ b.time.secs → a.time.usecs ≡ b.time.usecs → a ≡ b
same_point a b sno secs usecs =
    let time : ◌≡◌ {A = Moment} a.time b.time = rw (secs, usecs) refl in
    rw (sno, time) refl

pub marked_test : (base : Point) (l : Logged) → IsMarked base l → is_marked base l ≡ true
marked_test base l is = ⊎_elim
    (λ same.
    let none = is.marker same in
    let at = is.at_base same in
    cond-true (eqb l.entry.point.sno base.sno) (is_marker base l) (ltb 0 (kind_of l.entry.op)) (eq-eqb _ _ same)
    ∙ and_from _ _ (and_from _ _ (and_from _ _ (eq-eqb _ _ (ap kind_of none)) (eq-eqb _ _ (is.no_cell none)))
    (eq-eqb _ _ (ap (λ (p : Point). p.time.secs) at))) (eq-eqb _ _ (ap (λ (p : Point). p.time.usecs) at)))
    (λ other.
    cond-false (eqb l.entry.point.sno base.sno) (is_marker base l) (ltb 0 (kind_of l.entry.op)) (ne_eqb _ _ other)
    ∙ lt-ltb _ _ (change_kind l.entry.op (λ none. other (is.alone none))))
    (cases_eq l.entry.point.sno base.sno)

marker_there : (base : Point) (l : Logged) → l.entry.point.sno ≡ base.sno → is_marker base l ≡ true → IsMarked base l
marker_there base l same test =
    let usecs = and_parts _ _ test in
    let secs = and_parts _ _ usecs.0 in
    let kind = and_parts _ _ secs.0 in
    record {
      marker = λ e. kind_none l.entry.op (eqb-true _ _ kind.0);
      at_base = λ e. same_point l.entry.point base same (eqb-true _ _ secs.1) (eqb-true _ _ usecs.1);
      alone = λ e. same;
      no_cell = λ e. eqb-true _ _ kind.1;
    }

change_there : (base : Point) (l : Logged) → l.entry.point.sno ≢ base.sno → 0 < kind_of l.entry.op → IsMarked base l
change_there base l other lt = record {
  marker = λ e. absurd (other e);
  at_base = λ e. absurd (other e);
  alone = λ e. absurd (kind_change l.entry.op lt e);
  no_cell = λ e. absurd (kind_change l.entry.op lt e);
}

pub test_marked : (base : Point) (l : Logged) → is_marked base l ≡ true → IsMarked base l
test_marked base l test = ⊎_elim
    (λ same. marker_there base l same
    (sym (cond-true (eqb l.entry.point.sno base.sno) (is_marker base l) (ltb 0 (kind_of l.entry.op)) (eq-eqb _ _ same))
    ∙ test))
    (λ other. change_there base l other (ltb-true _ _ (sym (cond-false (eqb l.entry.point.sno base.sno)
    (is_marker base l) (ltb 0 (kind_of l.entry.op)) (ne_eqb _ _ other)) ∙ test)))
    (cases_eq l.entry.point.sno base.sno)

-- ---- which entry belongs to a slot

-- What it is for an entry to belong to a slot.
pub record Belongs (format : ℕ) (base : Point) (size k : ℕ) (l : Logged) : Type 0 where
  pub from_base : base.sno ≤ l.entry.point.sno
  pub here : slot_of base size l.entry.point.sno ≡ k
  pub marked : IsMarked base l
  pub takes : stands_in format l ≡ true

pub belongs_test : {format : ℕ} {base : Point} {size k : ℕ} {l : Logged} → Belongs format base size k l
    → belongs format base size k l ≡ true
unfolding belongs
belongs_test {base = base} {l = l} is = and_from _ _
    (and_from _ _ (and_from _ _ (le-leb _ _ is.from_base) (eq-eqb _ _ is.here)) (marked_test base l is.marked)) is.takes

pub test_belongs : (format : ℕ) (base : Point) (size k : ℕ) (l : Logged) → belongs format base size k l ≡ true
    → Belongs format base size k l
unfolding belongs
test_belongs format base size k l test =
    let takes = and_parts _ _ test in
    let marked = and_parts _ _ takes.0 in
    let here = and_parts _ _ marked.0 in
    record {
      from_base = leb-true _ _ here.0;
      here = eqb-true _ _ here.1;
      marked = test_marked base l marked.1;
      takes = takes.1;
    }

-- ---- one slot

pub open_test : {block : ℕ} {bytes : List ℕ} → IsOpen block bytes → is_open block bytes ≡ true
unfolding is_open
open_test open_is = and_from _ _ (eq-eqb _ _ open_is.whole) (eq-eqb _ _ open_is.gate)

pub test_open : (block : ℕ) (bytes : List ℕ) → is_open block bytes ≡ true → IsOpen block bytes
unfolding is_open
test_open block bytes test = let both =
    and_parts _ _ test in record { whole = eqb-true _ _ both.0; gate = eqb-true _ _ both.1 }

spelled_there : (block : ℕ) (bytes : List ℕ) (l : Logged) → Spells block bytes l → spelled_in block bytes ≡ Some l
unfolding spelled_in
spelled_there block bytes l is = ap (option_map (λ (x : Logged × List ℕ). x.0)) is

-- behind a padded value that takes all bytes stands nothing
nothing_behind : (n : ℕ) (bytes : List ℕ) (l : Logged) (rest : List ℕ) → length bytes ≤ n
    → padded n logged_at bytes ≡ Some (l, rest) → rest ≡ []
unfolding padded bytes_at
nothing_behind n bytes l rest short is =
    let a = bind_some _ (cond (ltb (length bytes) n) None (Some (take n bytes, drop n bytes))) (l, rest) is in
    let g = guard_some (ltb (length bytes) n) (take n bytes, drop n bytes) a.0 a.1 in
    let k = bind_some (λ (x : Logged). Some (x, a.0.1)) _ (l, rest) a.2 in
    let same = some_pair_parts k.0 l a.0.1 rest k.2 in
    sym same.1 ∙ sym (ap (λ (x : List ℕ × List ℕ). x.1) g.1) ∙ drop_all n bytes short

there_spelled : (block : ℕ) (bytes : List ℕ) (l : Logged) → length bytes ≡ block → spelled_in block bytes ≡ Some l
    → Spells block bytes l
unfolding spelled_in
there_spelled block bytes l whole is =
    let a = bind_some (λ (x : Logged × List ℕ). Some x.0) (padded (block - 1) logged_at (drop 1 bytes)) l is in
    let none = nothing_behind (block - 1) (drop 1 bytes) a.0.0 a.0.1 (omega (arith, length-drop 1 bytes, whole)) a.1 in
    a.1 ∙ ap (λ (r : List ℕ). Some (a.0.0, r)) none ∙ ap (λ (x : Logged). Some (x, [])) (same_Some a.0.0 l a.2)

pub slot_there : {format : ℕ} {base : Point} {size block k : ℕ} {file : List ℕ} {l : Logged} → Stands block k file l
    → Belongs format base size k l → slot_in format base size block k (slot_bytes block k file) ≡ Some (Some l)
unfolding slot_in
slot_there {format} {base} {size} {block} {k} {file} {l} stands is =
    let bytes = slot_bytes block k file in
    let fits : Logged → Option (Option Logged) = λ l. cond (belongs format base size k l) (Some (Some l)) None in
    cond-true (is_open block bytes) (option_and_then fits (spelled_in block bytes)) (Some None) (open_test stands.gate)
    ∙ ap (option_and_then fits) (spelled_there block bytes l stands.spelled)
    ∙ cond-true (belongs format base size k l) (Some (Some l)) None (belongs_test is)

pub slot_closed : (format : ℕ) (base : Point) (size block k : ℕ) (bytes : List ℕ) → IsClosed block bytes
    → slot_in format base size block k bytes ≡ Some None
unfolding slot_in
slot_closed format base size block k bytes closed =
    cond-false (is_open block bytes)
    (option_and_then (λ (l : Logged). cond (belongs format base size k l) (Some (Some l)) None)
    (spelled_in block bytes)) (Some None)
    (false_from_ne_true _ (λ test. closed (test_open block bytes test)))

-- What is known of a slot in which an entry stands.
pub record Holding (format : ℕ) (base : Point) (size block k : ℕ) (bytes : List ℕ) (l : Logged) : Type 0 where
  pub gate : IsOpen block bytes
  pub spelled : Spells block bytes l
  pub is : Belongs format base size k l

open_or : (test : Bool) (x : Option (Option Logged)) (l : Logged) → cond test x (Some None) ≡ Some (Some l)
    → (test ≡ true) × (x ≡ Some (Some l))
open_or true x l is = (refl, is)
open_or false x l is = let no_entry : None ≡ Some l = same_Some None (Some l) is in absurd cc

pub slot_holds : (format : ℕ) (base : Point) (size block k : ℕ) (bytes : List ℕ) (l : Logged)
    → slot_in format base size block k bytes ≡ Some (Some l) → Holding format base size block k bytes l
unfolding slot_in
slot_holds format base size block k bytes l is =
    let fits : Logged → Option (Option Logged) = λ l. cond (belongs format base size k l) (Some (Some l)) None in
    let split = open_or (is_open block bytes) (option_and_then fits (spelled_in block bytes)) l is in
    let gate = test_open block bytes split.0 in
    let a = bind_some fits (spelled_in block bytes) (Some l) split.1 in
    let b = cond_some (belongs format base size k a.0) (Some a.0) (Some l) a.2 in
    let same = same_Some a.0 l b.1 in
    record {
      gate = gate;
      spelled = subst (Spells block bytes) same (there_spelled block bytes a.0 gate.whole a.1);
      is = subst (Belongs format base size k) same (test_belongs format base size k a.0 b.0);
    }

pub slot_shut : (format : ℕ) (base : Point) (size block k : ℕ) (bytes : List ℕ)
    → slot_in format base size block k bytes ≡ Some None → IsClosed block bytes
unfolding slot_in
slot_shut format base size block k bytes is gate =
    let fits : Logged → Option (Option Logged) = λ l. cond (belongs format base size k l) (Some (Some l)) None in
    let open_is =
    sym (cond-true (is_open block bytes) (option_and_then fits (spelled_in block bytes)) (Some None) (open_test gate))
    ∙ is in
    let a = bind_some fits (spelled_in block bytes) None open_is in
    let b = cond_some (belongs format base size k a.0) (Some a.0) None a.2 in
    absurd cc

-- ---- the slot of a file

pub entry_there : (format : ℕ) (base : Point) (size block k : ℕ) (file : List ℕ) (o : Option Logged)
    → slot_in format base size block k (slot_bytes block k file) ≡ Some o → entry_in format base size block file k ≡ o
unfolding entry_in
entry_there format base size block k file o is = ap joined is

joined_some : (o : Option (Option Logged)) (l : Logged) → joined o ≡ Some l → o ≡ Some (Some l)
joined_some None l is = absurd cc
joined_some (Some o) l is = ap Some is

pub there_entry : (format : ℕ) (base : Point) (size block k : ℕ) (file : List ℕ) (l : Logged)
    → entry_in format base size block file k ≡ Some l
    → slot_in format base size block k (slot_bytes block k file) ≡ Some (Some l)
unfolding entry_in
there_entry format base size block k file l is =
    joined_some (slot_in format base size block k (slot_bytes block k file)) l is

joined_none : (o : Option (Option Logged)) → is_missing o ≡ false → joined o ≡ None → o ≡ Some None
joined_none None right is = absurd (true≢false right)
joined_none (Some o) right is = ap Some is

pub nothing_there : (format : ℕ) (base : Point) (size block k : ℕ) (file : List ℕ)
    → is_wrong format base size block file k ≡ false → entry_in format base size block file k ≡ None
    → slot_in format base size block k (slot_bytes block k file) ≡ Some None
unfolding entry_in
nothing_there format base size block k file right is =
    joined_none (slot_in format base size block k (slot_bytes block k file)) right is

pub right_there : (format : ℕ) (base : Point) (size block k : ℕ) (file : List ℕ) (o : Option Logged)
    → slot_in format base size block k (slot_bytes block k file) ≡ Some o
    → is_wrong format base size block file k ≡ false
right_there format base size block k file o is = ap is_missing is
