-- A reply that asks for a dump makes nothing.
use Rattle.std.proofs.Common.{◌≡◌, ℕ, Bool, true, false, ◌&&◌, List, [], ◌∷◌, length, Option, Some, None, refl, ap}
use Rattle.std.specs.Prelude.{◌||◌, not, nat_eq, if◌then◌else◌}
use Rattle.iprop_reply.specs.Polls.{is_point}
use Rattle.iprop_truths.specs.Parts.{end_of}
use Rattle.iprop_truths.specs.Polls.{PollReply, nothing_new, updates_here}
use Rattle.kdb_base.specs.declared.moments.Point.{Point}
use Rattle.kdb_places.specs.Applying.{may_apply}
use Rattle.kdb_places.specs.Places.{Place}
use Rattle.kprop_rounds.specs.Words.{word_of}
use Rattle.princ_rows.specs.declared.entries.Entry.{Entry}
use Rattle.princ_rows.specs.declared.entries.Op.{Op}
use Rattle.replica_steps.specs.Judging.{Judged, WrongPoint, Gap, Updated, Nil, Resync, Busy, Denied}
use Rattle.replica_steps.specs.Judging.{all_updated, first_of, follows, gap_in, is_based, is_taken}
use Rattle.replica_steps.specs.Judging.{judged, judged_other, judged_updates, made_by_reply, point_in}
use Rattle.replica_steps.specs.Judging.{run_on, stop_at, stop_in, stop_or, updated, wanted}

pub gap_never : (based : Bool) (at : Point) (us : List Entry) → gap_in based at us ≡ Some Resync → ⊥
unfolding gap_in
gap_never based at [] e = absurd cc
gap_never based at (u ∷ us) e = by (follows based at u) (gap_never true u.point us) e
  where
    by : (b : Bool) → (gap_in true u.point us ≡ Some Resync → ⊥)
        → (if b then gap_in true u.point us else Some (Gap (wanted based at) u.point)) ≡ Some Resync → ⊥
    by true rest e = rest e
    by false rest e = absurd cc

stop_one : (b : Bool) (gap : Judged) (rest : Option Judged) → (rest ≡ Some Resync → ⊥) → (Some gap ≡ Some Resync → ⊥)
    → (if b then rest else Some gap) ≡ Some Resync → ⊥
stop_one true gap rest nowhere never e = nowhere e
stop_one false gap rest nowhere never e = never e

stop_first : (size : ℕ) (op : Option Op) (at : Point) (p : Place) (rest : Place → Option Judged)
    → ((q : Place) → rest q ≡ Some Resync → ⊥)
    → stop_or size op at p rest ≡ Some Resync → ⊥
stop_first size None at p rest nowhere e = absurd cc
stop_first size (Some op) at p rest nowhere e = stop_one (may_apply op p.rows) (Gap at.sno at)
    (rest (end_of p (updated size op at.time p))) (nowhere (end_of p (updated size op at.time p))) (λ bad. absurd cc) e

pub stop_never : (size : ℕ) (us : List Entry) (p : Place) → stop_in size us p ≡ Some Resync → ⊥
unfolding stop_in
stop_never size [] p e = absurd cc
stop_never size (u ∷ us) p e = stop_first size u.op u.point p (stop_in size us) (stop_never size us) e

never_at : (size : ℕ) (place : Option Place) (us : List Entry) → stop_at size place us ≡ Some Resync → ⊥
never_at size None us e = absurd cc
never_at size (Some p) us e = stop_never size us p e

first_never : (gap stop : Option Judged) (n : ℕ) → (gap ≡ Some Resync → ⊥) → (stop ≡ Some Resync → ⊥)
    → first_of gap (first_of stop (Updated n)) ≡ Resync → ⊥
first_never (Some g) stop n no_gap no_stop e = no_gap (ap Some e)
first_never None (Some s) n no_gap no_stop e = no_stop (ap Some e)
first_never None None n no_gap no_stop e = absurd cc

updates_never : (size : ℕ) (place : Option Place) (us : List Entry) → judged_updates size place us ≡ Resync → ⊥
updates_never size place us e =
    first_never (gap_in (is_based place) (point_in place) us) (stop_at size place us) (length us)
    (gap_never (is_based place) (point_in place) us) (never_at size place us) e

-- it is not taken
pub untaken : (size : ℕ) (place : Option Place) (r : PollReply) → judged size place r ≡ Resync
    → is_taken (point_in place) r ≡ false
unfolding judged
untaken size place r e = by (nat_eq r.code updates_here) (is_point r.asked (point_in place)) e
  where
    by : (here mine : Bool)
        → (if (here || nat_eq r.code nothing_new) && not mine then WrongPoint r.asked (point_in place) else if here
        then judged_updates size place r.updates else judged_other r.code) ≡ Resync
        → (here && (mine && run_on (point_in place) r.updates)) ≡ false
    by false mine e = refl
    by true false e = refl
    by true true e = absurd (updates_never size place r.updates e)

pub made_none : (size : ℕ) (place : Option Place) (r : PollReply) → judged size place r ≡ Resync
    → made_by_reply size place r ≡ []
made_none size None r e = refl
made_none size (Some p) r e =
    ap (λ (b : Bool). if b then all_updated size r.updates p else []) (untaken size (Some p) r e)

pub is_resync : (j : Judged) → word_of j ≡ None → j ≡ Resync
is_resync (WrongPoint reply mine) e = absurd cc
is_resync (Gap want found) e = absurd cc
is_resync (Updated count) e = absurd cc
is_resync Nil e = absurd cc
is_resync Resync e = refl
is_resync Busy e = absurd cc
is_resync Denied e = absurd cc
