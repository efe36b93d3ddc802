-- Updates made one after another: where the way from the first place to the last one stands.
use Rattle.std.proofs.Common.{◌≡◌, ◌<◌, ◌+◌, ℕ, Bool, true, false, inl, inr, List, []}
use Rattle.std.proofs.Common.{◌∷◌, Option, Some, None, Ok, refl, sym, ap, subst, ◌∙◌}
use Rattle.std.specs.Prelude.{if◌then◌else◌}
use Rattle.iprop_truths.specs.Blocks.{is_too_long}
use Rattle.iprop_truths.specs.Parts.{IsPart, end_of}
use Rattle.kdb_base.specs.Moment.{Moment}
use Rattle.kdb_base.specs.declared.moments.Point.{Point}
use Rattle.kdb_disk.specs.Files.{Files}
use Rattle.kdb_places.proofs.Points.{committed_point, first_point}
use Rattle.kdb_places.specs.Applying.{may_apply}
use Rattle.kdb_places.specs.Places.{Place, base_marker, committed, next_point, no_point, point_of}
use Rattle.princ_rows.specs.declared.entries.Entry.{Entry}
use Rattle.princ_rows.specs.declared.entries.Op.{Op}
use Rattle.replica_core.specs.Taking.{IsSized, one_updated}
use Rattle.replica_steps.specs.Judging.{Gap, Judged, all_updated, anew_for, stop_in}
use Rattle.replica_steps.specs.Judging.{stop_or, then_all, update_or_stop, updated}
use Rattle.store_files.specs.Found.{recovers}
use Rattle.store_files.specs.Recovery.{LeavesPart}

-- ---- places, and what comes of the last of them

pub last_then : (p : Place) (made : List Place) (rest : Place → List Place)
    → end_of p (then_all p made rest) ≡ end_of (end_of p made) (rest (end_of p made))
last_then p [] rest = refl
last_then p (q ∷ made) rest = last_then q made rest

pub leaves_here : (p : Place) (places : List Place) (c : Files) → recovers c ≡ Ok p → LeavesPart p places c
unfolding LeavesPart
leaves_here p [] c is = is
leaves_here p (q ∷ places) c is = inl is

pub leaves_first : (p : Place) (made : List Place) (rest : Place → List Place) (c : Files) → LeavesPart p made c
    → LeavesPart p (then_all p made rest) c
unfolding LeavesPart
leaves_first p [] rest c is = leaves_here p (rest p) c is
leaves_first p (q ∷ made) rest c (inl is) = inl is
leaves_first p (q ∷ made) rest c (inr is) = inr (leaves_first q made rest c is)

pub leaves_then : (p : Place) (made : List Place) (rest : Place → List Place) (c : Files)
    → LeavesPart (end_of p made) (rest (end_of p made)) c
    → LeavesPart p (then_all p made rest) c
unfolding LeavesPart
leaves_then p [] rest c is = is
leaves_then p (q ∷ made) rest c is = inr (leaves_then q made rest c is)

part_here : (p : Place) (places : List Place) → IsPart p places p
part_here p [] = refl
part_here p (q ∷ places) = inl refl

part_at : (p : Place) (places : List Place) (x : Place) → x ≡ p → IsPart p places x
part_at p places x is = subst (IsPart p places) (sym is) (part_here p places)

pub part_first : (p : Place) (made : List Place) (rest : Place → List Place) (x : Place) → IsPart p made x
    → IsPart p (then_all p made rest) x
part_first p [] rest x is = part_at p (rest p) x is
part_first p (q ∷ made) rest x (inl is) = inl is
part_first p (q ∷ made) rest x (inr is) = inr (part_first q made rest x is)

pub part_then : (p : Place) (made : List Place) (rest : Place → List Place) (x : Place)
    → IsPart (end_of p made) (rest (end_of p made)) x → IsPart p (then_all p made rest) x
part_then p [] rest x is = is
part_then p (q ∷ made) rest x is = inr (part_then q made rest x is)

-- ---- one update, and the rest

module _ (size : ℕ) (op : Op) (time : Moment) (p : Place) (rest : Place → List Place) where
  abbrev Mine : Bool → List Place
  Mine b = if b then updated size op time p else []

  abbrev All : Bool → List Place
  All b = if b then then_all p (updated size op time p) rest else []

  leaves_one : (b : Bool) (c : Files) → LeavesPart p (Mine b) c → LeavesPart p (All b) c
  leaves_one true c is = leaves_first p (updated size op time p) rest c is
  leaves_one false c is = is

  part_one : (b : Bool) (x : Place) → IsPart p (Mine b) x → IsPart p (All b) x
  part_one true x is = part_first p (updated size op time p) rest x is
  part_one false x is = is

pub leaves_update : (size : ℕ) (op : Option Op) (time : Moment) (p : Place) (rest : Place → List Place) (c : Files)
    → LeavesPart p (one_updated size op time p) c
    → LeavesPart p (update_or_stop size op time p rest) c
leaves_update size None time p rest c is = is
leaves_update size (Some op) time p rest c is = leaves_one size op time p rest (may_apply op p.rows) c is

pub part_update : (size : ℕ) (op : Option Op) (time : Moment) (p : Place) (rest : Place → List Place) (x : Place)
    → IsPart p (one_updated size op time p) x
    → IsPart p (update_or_stop size op time p rest) x
part_update size None time p rest x is = is
part_update size (Some op) time p rest x is = part_one size op time p rest (may_apply op p.rows) x is

-- nothing stops it there
abbrev Passes : ℕ → Option Op → Point → Place → Type 0
Passes size op at p = stop_or size op at p (λ q. None) ≡ None

-- What an update that is made leads to.
record LeadsTo (size : ℕ) (op : Option Op) (at : Point) (p : Place) (rest : Place → List Place)
    (stops : Place → Option Judged) : Type 0 where
  made : List Place
  one : one_updated size op at.time p ≡ made
  all : update_or_stop size op at.time p rest ≡ then_all p made rest
  stop : stop_or size op at p stops ≡ stops (end_of p made)

leads : (size : ℕ) (op : Option Op) (at : Point) (p : Place) (rest : Place → List Place) (stops : Place → Option Judged)
    → Passes size op at p
    → LeadsTo size op at p rest stops
leads size None at p rest stops passes = absurd cc
leads size (Some op) at p rest stops passes = by (may_apply op p.rows) refl
  where
    made : List Place
    made = updated size op at.time p

    by : (b : Bool) → may_apply op p.rows ≡ b → LeadsTo size (Some op) at p rest stops
    by true e = record {
      made = made;
      one = ap (λ (b : Bool). if b then made else []) e;
      all = ap (λ (b : Bool). if b then then_all p made rest else []) e;
      stop = ap (λ (b : Bool). if b then stops (end_of p made) else Some (Gap at.sno at)) e;
    }
    by false e =
        let stopped : stop_or size (Some op) at p (λ q. None) ≡ Some (Gap at.sno at) =
        ap (λ (b : Bool). if b then None else Some (Gap at.sno at)) e in
        let never : ◌≡◌ {A = Option Judged} None (Some (Gap at.sno at)) = sym passes ∙ stopped in
        absurd cc

-- ---- the way

-- What is left of the updates leads from this place to where all lead from the first, and wherever it may stop, all
-- may.
pub record IsOnWay (size : ℕ) (us : List Entry) (p : Place) (left : List Entry) (q : Place) : Type 0 where
  pub end : end_of p (all_updated size us p) ≡ end_of q (all_updated size left q)
  pub stop : stop_in size us p ≡ stop_in size left q
  pub leaves : (c : Files) → LeavesPart q (all_updated size left q) c → LeavesPart p (all_updated size us p) c
  pub part : (x : Place) → IsPart q (all_updated size left q) x → IsPart p (all_updated size us p) x

pub starts : (size : ℕ) (us : List Entry) (p : Place) → IsOnWay size us p us p
starts size us p = record { end = refl; stop = refl; leaves = λ c is. is; part = λ x is. is }

-- nothing is left
pub ended : (size : ℕ) (us : List Entry) (p : Place) (left : List Entry) (q : Place)
    → IsOnWay size us p left q → left ≡ []
    → (stop_in size us p ≡ None) × (q ≡ end_of p (all_updated size us p))
unfolding all_updated stop_in
ended size us p left q way none = (
  way.stop ∙ ap (λ (l : List Entry). stop_in size l q) none,
  sym (way.end ∙ ap (λ (l : List Entry). end_of q (all_updated size l q)) none),
)

module _ (size : ℕ) (us : List Entry) (p : Place) (u : Entry) (left : List Entry) (q : Place)
    (way : IsOnWay size us p (u ∷ left) q) where
  pub goes_on : (next : Place) → stop_or size u.op u.point q (λ x. None) ≡ None
      → next ≡ end_of q (one_updated size u.op u.point.time q)
      → IsOnWay size us p left next
  unfolding all_updated stop_in
  goes_on next passes is =
      let rest : Place → List Place = all_updated size left in
      let to = leads size u.op u.point q rest (stop_in size left) passes in
      let there : next ≡ end_of q to.made = is ∙ ap (end_of q) to.one in
      record {
        end = way.end ∙ ap (end_of q) to.all ∙ last_then q to.made rest
            ∙ ap (λ (x : Place). end_of x (rest x)) (sym there);
        stop = way.stop ∙ to.stop ∙ ap (stop_in size left) (sym there);
        leaves = λ c here. way.leaves c (subst (λ (l : List Place). LeavesPart q l c) (sym to.all)
            (leaves_then q to.made rest c (subst (λ (x : Place). LeavesPart x (rest x) c) there here)));
        part = λ x here. way.part x (subst (λ (l : List Place). IsPart q l x) (sym to.all)
            (part_then q to.made rest x (subst (λ (y : Place). IsPart y (rest y) x) there here)));
      }

  pub leaves_now : (c : Files) → LeavesPart q (one_updated size u.op u.point.time q) c
      → LeavesPart p (all_updated size us p) c
  unfolding all_updated
  leaves_now c here = way.leaves c (leaves_update size u.op u.point.time q (all_updated size left) c here)

  pub part_now : (x : Place) → IsPart q (one_updated size u.op u.point.time q) x → IsPart p (all_updated size us p) x
  unfolding all_updated
  part_now x here = way.part x (part_update size u.op u.point.time q (all_updated size left) x here)

  -- it stops there
  pub stops_now : (j : Judged) → stop_or size u.op u.point q (λ x. None) ≡ Some j → stop_in size us p ≡ Some j
  unfolding stop_in
  stops_now j is = way.stop ∙ stopped size u.op u.point q (stop_in size left) j is
    where
      stopped : (size : ℕ) (op : Option Op) (at : Point) (q : Place) (stops : Place → Option Judged) (j : Judged)
          → stop_or size op at q (λ x. None) ≡ Some j → stop_or size op at q stops ≡ Some j
      stopped size None at q stops j is = is
      stopped size (Some op) at q stops j is = by (may_apply op q.rows) is
        where
          by : (b : Bool) → (if b then None else Some (Gap at.sno at)) ≡ Some j
              → (if b then stops (end_of q (updated size op at.time q)) else Some (Gap at.sno at)) ≡ Some j
          by true e = absurd cc
          by false e = e

  pub ends_now : (j : Judged) (next : Place) → stop_or size u.op u.point q (λ x. None) ≡ Some j
      → next ≡ end_of q (one_updated size u.op u.point.time q)
      → next ≡ end_of p (all_updated size us p)
  unfolding all_updated
  ends_now j next stops is = is ∙ none size u.op u.point q (all_updated size left) j stops ∙ sym way.end
    where
      none : (size : ℕ) (op : Option Op) (at : Point) (q : Place) (rest : Place → List Place) (j : Judged)
          → stop_or size op at q (λ x. None) ≡ Some j
          → end_of q (one_updated size op at.time q) ≡ end_of q (update_or_stop size op at.time q rest)
      none size None at q rest j is = refl
      none size (Some op) at q rest j is = by (may_apply op q.rows) is
        where
          made : List Place
          made = updated size op at.time q

          by : (b : Bool) → (if b then None else Some (Gap at.sno at)) ≡ Some j
              → end_of q (if b then made else []) ≡ end_of q (if b then then_all q made rest else [])
          by true e = absurd cc
          by false e = refl

-- ---- the point and the size after an update

pub updated_point : (size : ℕ) (op : Op) (time : Moment) (p : Place) → 0 < size → 0 < p.size
    → point_of (end_of p (updated size op time p)) ≡ next_point time p
updated_point size op time p some here = by (is_too_long op p)
  where
    a : Place
    a = anew_for size op p

    by : (long : Bool) → point_of (end_of p (if long then anew_for size op p ∷ committed op time (anew_for size op p)
        ∷ [] else committed op time p ∷ [])) ≡ next_point time p
    by true =
        let same : point_of (anew_for size op p) ≡ point_of p = first_point no_point (base_marker (point_of p)) in
        committed_point op time (anew_for size op p) some
        ∙ ap (λ (q : Point). let x : Point = record { sno = q.sno + 1; time = time } in x) same
    by false = committed_point op time p here

pub updated_sized : (size : ℕ) (op : Op) (time : Moment) (p q : Place) → p.size ≡ size → p.format ≡ 2
    → IsPart p (updated size op time p) q → IsSized p q
updated_sized size op time p q sized newer part = by (is_too_long op p) part
  where
    same : (x : Place) → x.size ≡ size → x.format ≡ 2 → q ≡ x → IsSized p q
    same x is at e = (ap (λ (y : Place). y.size) e ∙ is ∙ sym sized, ap (λ (y : Place). y.format) e ∙ at ∙ sym newer)

    by : (long : Bool) → IsPart p (if long then anew_for size op p ∷ committed op time (anew_for size op p) ∷ []
        else committed op time p ∷ []) q → IsSized p q
    by true (inl e) = same p sized newer e
    by true (inr (inl e)) = same (anew_for size op p) refl refl e
    by true (inr (inr e)) = same (committed op time (anew_for size op p)) refl refl e
    by false (inl e) = same p sized newer e
    by false (inr e) = same (committed op time p) sized newer e
