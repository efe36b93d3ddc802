-- What the judgement of a reply comes to, part by part.
use Rattle.std.proofs.Common.{◌≡◌, ℕ, Bool, true, false, ◌&&◌, not, inl, List, [], ◌∷◌}
use Rattle.std.proofs.Common.{length, Option, Some, None, refl, sym, ap, subst, ◌∙◌}
use Rattle.std.specs.Prelude.{if◌then◌else◌}
use Rattle.iprop_reply.specs.Polls.{is_point}
use Rattle.iprop_truths.specs.Polls.{nothing_new, reply_of, updates_here}
use Rattle.kdb_base.specs.declared.moments.Point.{Point}
use Rattle.kdb_places.specs.Places.{Place, point_of}
use Rattle.princ_rows.specs.declared.entries.Entry.{Entry}
use Rattle.princ_rows.specs.Replies.{Reply, number_of}
use Rattle.princ_rows.specs.declared.replies.ReplyCode.{ReplyCode}
use Rattle.princ_rows.specs.declared.replies.ReplyCode.TheVariants as code
use Rattle.replica_core.specs.Taking.{AtJudgement, IsStopOf, IsStoppedAs, stored_in, told_reply}
use Rattle.replica_core.specs.declared.stops.ReplicaStop.{ReplicaStop}
use Rattle.replica_core.specs.declared.stops.ReplicaStop.TheVariants as stop
use Rattle.replica_steps.specs.Bridges.{MayBePart}
use Rattle.replica_steps.specs.Judging.{Busy, Denied, Gap, Judged, Nil, Resync, Updated, WrongPoint, all_updated}
use Rattle.replica_steps.specs.Judging.{first_of, gap_in, is_based, is_whole, judged, made_by_reply, point_in, stop_at}
use Rattle.replica_steps.specs.Replicas.{place_after}

-- a reply at another point
abbrev pub wrong : Point → Point → Option Judged
wrong asked mine = if is_point asked mine then None else Some (WrongPoint asked mine)

-- ---- the judgement

pub stops_first : (s : ReplicaStop) (g : Option Judged) (rest : Judged) → IsStoppedAs s g → IsStopOf s (first_of g rest)
stops_first (stop.WrongPoint reply mine) g rest is = ap (λ (x : Option Judged). first_of x rest) is
stops_first (stop.Gap want found) g rest is = ap (λ (x : Option Judged). first_of x rest) is
stops_first (stop.Halt halt) g rest is = tt

pub stops_as : (s : ReplicaStop) (j k : Judged) → k ≡ j → IsStopOf s j → IsStopOf s k
stops_as s j k same is = subst (IsStopOf s) (sym same) is

module _ (size : ℕ) (place : Option Place) (asked : Point) where
  pub judged_updated : (us : List Entry) → judged size place (reply_of updates_here asked us)
      ≡ first_of (wrong asked (point_in place))
      (first_of (gap_in (is_based place) (point_in place) us) (first_of (stop_at size place us) (Updated (length us))))
  unfolding judged
  judged_updated us = by (is_point asked (point_in place))
    where
      rest : Judged
      rest = first_of (gap_in (is_based place) (point_in place) us)
          (first_of (stop_at size place us) (Updated (length us)))

      by : (b : Bool) → (if not b then WrongPoint asked (point_in place) else rest)
          ≡ first_of (if b then None else Some (WrongPoint asked (point_in place))) rest
      by true = refl
      by false = refl

  pub judged_nothing : (us : List Entry)
      → judged size place (reply_of nothing_new asked us) ≡ first_of (wrong asked (point_in place)) Nil
  unfolding judged
  judged_nothing us = by (is_point asked (point_in place))
    where
      by : (b : Bool) → (if not b then WrongPoint asked (point_in place) else Nil)
          ≡ first_of (if b then None else Some (WrongPoint asked (point_in place))) Nil
      by true = refl
      by false = refl

-- what is answered to the other codes
abbrev coded : ReplyCode → Judged → Judged
coded code.UpdateOk j = j
coded code.Nil j = j
coded code.FullResyncNeeded j = Resync
coded code.Busy j = Busy
coded code.PermDenied j = Denied

pub judged_coded : (size : ℕ) (place : Option Place) (r : Reply) (kind : ReplyCode) → r.code ≡ kind
    → judged size place (told_reply r) ≡ coded kind (judged size place (told_reply r))
unfolding judged
judged_coded size place r kind is =
    subst (λ (x : ReplyCode). judged size place (reply_of (number_of x) r.asked r.updates)
    ≡ coded x (judged size place (reply_of (number_of x) r.asked r.updates))) (sym is) (by kind)
    ∙ ap (λ (x : ReplyCode). coded x (judged size place (told_reply r))) is
  where
    by : (x : ReplyCode) → judged size place (reply_of (number_of x) r.asked r.updates)
        ≡ coded x (judged size place (reply_of (number_of x) r.asked r.updates))
    by code.UpdateOk = refl
    by code.Nil = refl
    by code.FullResyncNeeded = refl
    by code.Busy = refl
    by code.PermDenied = refl

-- ---- the places that are made

pub made_all : (size : ℕ) (place : Option Place) (asked : Point) (us : List Entry) → wrong asked (point_in place) ≡ None
    → gap_in (is_based place) (point_in place) us ≡ None
    → made_by_reply size place (reply_of updates_here asked us) ≡ stored_in size us place
made_all size None asked us at gap = refl
made_all size (Some p) asked us at gap = by (is_point asked (point_of p)) at
    ∙ ap (λ (g : Option Judged). if is_whole g then all_updated size us p else []) gap
  where
    by : (b : Bool) → (if b then None else Some (WrongPoint asked (point_of p))) ≡ None
        → (if b && is_whole (gap_in true (point_of p) us) then all_updated size us p
        else []) ≡ (if is_whole (gap_in true (point_of p) us) then all_updated size us p else [])
    by true e = refl
    by false e = absurd cc

-- none, where it is at another point
none_wrong : (size : ℕ) (place : Option Place) (asked : Point) (us : List Entry) (j : Judged)
    → wrong asked (point_in place) ≡ Some j
    → made_by_reply size place (reply_of updates_here asked us) ≡ []
none_wrong size None asked us j at = refl
none_wrong size (Some p) asked us j at = by (is_point asked (point_of p)) at
  where
    by : (b : Bool) → (if b then None else Some (WrongPoint asked (point_of p))) ≡ Some j
        → (if b && is_whole (gap_in true (point_of p) us) then all_updated size us p else []) ≡ []
    by true e = absurd cc
    by false e = refl

-- none, where an update does not follow
none_gap : (size : ℕ) (place : Option Place) (asked : Point) (us : List Entry) (j : Judged)
    → gap_in (is_based place) (point_in place) us ≡ Some j
    → made_by_reply size place (reply_of updates_here asked us) ≡ []
none_gap size None asked us j gap = refl
none_gap size (Some p) asked us j gap = by (is_point asked (point_of p))
    ∙ ap (λ (g : Option Judged). if is_point asked (point_of p) && is_whole g then all_updated size us p else []) gap
    ∙ never (is_point asked (point_of p))
  where
    by : (b : Bool) → (if b && is_whole (gap_in true (point_of p) us) then all_updated size us p else [])
        ≡ (if b && is_whole (gap_in true (point_of p) us) then all_updated size us p else [])
    by b = refl

    never : (b : Bool) → (if b && false then all_updated size us p else []) ≡ []
    never true = refl
    never false = refl

after_none : (place : Option Place) (made : List Place) → made ≡ [] → place ≡ place_after place made
after_none place made is = sym (ap (place_after place) is)

pub stays_wrong : (s : ReplicaStop) (size : ℕ) (place : Option Place) (asked : Point) (us : List Entry)
    → IsStoppedAs s (wrong asked (point_in place))
    → AtJudgement s (place ≡ place_after place (made_by_reply size place (reply_of updates_here asked us)))
stays_wrong (stop.WrongPoint reply mine) size place asked us is =
    after_none place (made_by_reply size place (reply_of updates_here asked us))
    (none_wrong size place asked us (WrongPoint reply mine) is)
stays_wrong (stop.Gap want found) size place asked us is = after_none place
    (made_by_reply size place (reply_of updates_here asked us)) (none_wrong size place asked us (Gap want found) is)
stays_wrong (stop.Halt halt) size place asked us is = tt

pub stays_gap : (s : ReplicaStop) (size : ℕ) (place : Option Place) (asked : Point) (us : List Entry)
    → IsStoppedAs s (gap_in (is_based place) (point_in place) us)
    → AtJudgement s (place ≡ place_after place (made_by_reply size place (reply_of updates_here asked us)))
stays_gap (stop.WrongPoint reply mine) size place asked us is =
    after_none place (made_by_reply size place (reply_of updates_here asked us))
    (none_gap size place asked us (WrongPoint reply mine) is)
stays_gap (stop.Gap want found) size place asked us is = after_none place
    (made_by_reply size place (reply_of updates_here asked us)) (none_gap size place asked us (Gap want found) is)
stays_gap (stop.Halt halt) size place asked us is = tt

-- a reply with nothing new makes none
pub made_nothing : (size : ℕ) (place : Option Place) (asked : Point) (us : List Entry)
    → made_by_reply size place (reply_of nothing_new asked us) ≡ []
made_nothing size None asked us = refl
made_nothing size (Some p) asked us = refl

-- ---- nothing was done

pub part_before : (place : Option Place) (made : List Place) → MayBePart place made place
part_before place [] = refl
part_before place (q ∷ made) = inl refl
