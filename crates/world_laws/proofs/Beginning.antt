-- Each cause begins the log anew.
use Rattle.std.proofs.Common.{◌≡◌, ◌≢◌, ℕ, ◌≤◌, Bool, true, false, ◌&&◌, ◌||◌, List}
use Rattle.std.proofs.Common.{[], ◌∷◌, Option, Some, refl, ◌∙◌, ap}
use Rattle.std.specs.Prelude.{nat_eq, if◌then◌else◌}
use Rattle.std.proofs.lemmas.Bool.{eq-eqb, le-leb, ne_eqb}
use Rattle.iprop_truths.specs.Blocks.{block_for, is_too_long}
use Rattle.kdb_base.specs.Moment.{Moment}
use Rattle.kdb_histories.proofs.Changed.{made_anew, made_due, made_next}
use Rattle.kdb_histories.proofs.Times.{reset_later}
use Rattle.kdb_histories.specs.Asks.{Answer, Ask, clock_of}
use Rattle.kdb_histories.specs.Calls.{Loads, Opens, Performs, Resets, size_or}
use Rattle.kdb_histories.specs.Seen.{Plan, is_due, made_by, reset_point}
use Rattle.kdb_histories.specs.Stages.{Anew, Stage, stage}
use Rattle.kdb_places.specs.Places.{Place, log_anew, point_of}
use Rattle.kdb_plain.specs.declared.states.State.{State}
use Rattle.princ_rows.specs.Entries.{entry_len}
use Rattle.princ_rows.specs.Rows.{RowLists}
use Rattle.princ_rows.specs.declared.entries.Op.{Op}
use Rattle.world_laws.specs.Causes.{BeginsLoaded, BeginsLog, ChangesBy}

-- the log begun anew at the point of a reset by this clock
begun : (clock : Moment) (size block : ℕ) (p : Place) (made others : List Stage)
    → made ≡ stage (log_anew (reset_point clock p) size block p) Anew ∷ others → BeginsLog p size block made
begun clock size block p made others is =
    record { time = (reset_point clock p).time; later = reset_later clock p; others = others; is = is }

-- ---- a change

change_begins : (ask : Ask) (op : Op) (p : Place) (s : State) (answer : Answer) (made : List Stage)
    → Performs p s ask answer made → ChangesBy ask op p s → is_due op p ≡ true
    → BeginsLog p p.size (block_for op p) made
change_begins ask op p s answer made h is due =
    let by_op = h.is ∙ ap (λ (plan : Plan). made_by ask plan p) is in
    let anew = ap (λ (x : Bool). if x then made_anew ask op p else made_next ask op p) due in
    begun (clock_of ask) p.size (block_for op p) p made (made_due ask op p ∷ []) (by_op ∙ anew)

pub last_begins : (ask : Ask) (op : Op) (p : Place) (s : State) (answer : Answer) (made : List Stage)
    → Performs p s ask answer made → ChangesBy ask op p s → (point_of p).sno ≡ 4294967295
    → BeginsLog p p.size (block_for op p) made
last_begins ask op p s answer made h is last =
    change_begins ask op p s answer made h is
    (ap (λ (x : Bool). x || is_too_long op p) (eq-eqb (point_of p).sno 4294967295 last))

or_true : (b : Bool) → (b || true) ≡ true
or_true true = refl
or_true false = refl

pub long_begins : (ask : Ask) (op : Op) (p : Place) (s : State) (answer : Answer) (made : List Stage)
    → Performs p s ask answer made → ChangesBy ask op p s → p.block ≤ entry_len (Some op)
    → BeginsLog p p.size (block_for op p) made
long_begins ask op p s answer made h is long =
    let last = nat_eq (point_of p).sno 4294967295 in
    change_begins ask op p s answer made h is
    (ap (λ (x : Bool). last || x) (le-leb p.block (entry_len (Some op)) long) ∙ or_true last)

-- ---- the other calls

pub asked_begins : (clock : Moment) (p : Place) (made : List Stage) → Resets p clock made
    → BeginsLog p p.size p.block made
asked_begins clock p made h = begun clock p.size p.block p made [] h.is

pub load_begins : (rows : RowLists) (clock : Moment) (p : Place) (made : List Stage) → Loads p rows clock made
    → BeginsLoaded p rows made
load_begins rows clock p made h =
    record { time = (reset_point clock p).time; later = reset_later clock p; state = h.state; is = h.is }

-- an opening with what is not kept
opening_begins : (size : Option ℕ) (room : ℕ) (clock : Moment) (p : Place) (made : List Stage)
    → Opens p size room clock made → (nat_eq p.format 2 && nat_eq (size_or size p) p.size) ≡ false
    → BeginsLog p (size_or size p) p.block made
opening_begins size room clock p made h other =
    let anew = stage (log_anew (reset_point clock p) (size_or size p) p.block p) Anew ∷ [] in
    begun clock (size_or size p) p.block p made [] (h.is ∙ ap (λ (x : Bool). if x then [] else anew) other)

pub older_begins : (size : Option ℕ) (room : ℕ) (clock : Moment) (p : Place) (made : List Stage)
    → Opens p size room clock made → p.format ≢ 2 → BeginsLog p (size_or size p) p.block made
older_begins size room clock p made h older =
    opening_begins size room clock p made h
    (ap (λ (x : Bool). x && nat_eq (size_or size p) p.size) (ne_eqb p.format 2 older))

and_false : (b : Bool) → (b && false) ≡ false
and_false true = refl
and_false false = refl

pub sized_begins : (size room : ℕ) (clock : Moment) (p : Place) (made : List Stage)
    → Opens p (Some size) room clock made → size ≢ p.size → BeginsLog p size p.block made
sized_begins size room clock p made h other =
    let newer = nat_eq p.format 2 in
    opening_begins (Some size) room clock p made h
    (ap (λ (x : Bool). newer && x) (ne_eqb size p.size other) ∙ and_false newer)
