-- A reply with updates, by what is known of it so far.
use Rattle.std.proofs.Common.{◌≡◌, ℕ, Bool, true, false, List, [], ◌∷◌, length}
use Rattle.std.proofs.Common.{Option, Some, None, refl, sym, ap, subst, ◌∙◌}
use Rattle.std.specs.Prelude.{if◌then◌else◌}
use Rattle.std.proofs.lemmas.Bool.{and_from}
use Rattle.iprop_reply.specs.Polls.{is_point}
use Rattle.iprop_truths.specs.Polls.{reply_of, updates_here}
use Rattle.kdb_base.specs.declared.moments.Point.{Point}
use Rattle.kdb_places.specs.Places.{Place}
use Rattle.princ_rows.specs.declared.entries.Entry.{Entry}
use Rattle.replica_core.specs.Taking.{IsStopOf, IsStoppedAs, stored_in}
use Rattle.replica_core.specs.declared.stops.ReplicaStop.{ReplicaStop}
use Rattle.replica_core.proofs.Judgements.{judged_updated, made_all, stops_as, stops_first, wrong}
use Rattle.replica_steps.specs.Judging.{Judged, Updated, WrongPoint, first_of, gap_in, is_based, is_taken}
use Rattle.replica_steps.specs.Judging.{is_whole, judged, made_by_reply, point_in, run_on, stop_at}

is_mine : (asked mine : Point) → wrong asked mine ≡ None → is_point asked mine ≡ true
is_mine asked mine e = by (is_point asked mine) e
  where
    by : (b : Bool) → (if b then None else Some (WrongPoint asked mine)) ≡ None → b ≡ true
    by true e = refl
    by false e = absurd cc

-- updates that run on from what there is run on from its point
runs_there : (place : Option Place) (us : List Entry) → gap_in (is_based place) (point_in place) us ≡ None
    → run_on (point_in place) us ≡ true
unfolding gap_in
runs_there (Some p) us e = ap is_whole e
runs_there None [] e = refl
runs_there None (u ∷ us) e = absurd cc

module _ (size : ℕ) (place : Option Place) (asked : Point) (us : List Entry) (based : Bool) (mine : Point)
    (based_is : based ≡ is_based place) (mine_is : mine ≡ point_in place) where
  abbrev Last : Judged
  Last = first_of (stop_at size place us) (Updated (length us))

  abbrev Rest : Judged
  Rest = first_of (gap_in (is_based place) (point_in place) us) Last

  at_mine : wrong asked mine ≡ None → wrong asked (point_in place) ≡ None
  at_mine is = ap (wrong asked) (sym mine_is) ∙ is

  no_gap : gap_in based mine us ≡ None → gap_in (is_based place) (point_in place) us ≡ None
  no_gap is = subst (λ (b : Bool). gap_in b (point_in place) us ≡ None) based_is
      (subst (λ (q : Point). gap_in based q us ≡ None) mine_is is)

  -- it answers the replica's point
  passed : wrong asked mine ≡ None → judged size place (reply_of updates_here asked us) ≡ Rest
  passed at = judged_updated size place asked us ∙ ap (λ (g : Option Judged). first_of g Rest) (at_mine at)

  -- and its updates run on
  pub passed_all : wrong asked mine ≡ None → gap_in based mine us ≡ None
      → judged size place (reply_of updates_here asked us) ≡ Last
  passed_all at gap = passed at ∙ ap (λ (g : Option Judged). first_of g Last) (no_gap gap)

  pub made_then : wrong asked mine ≡ None → gap_in based mine us ≡ None
      → stored_in size us place ≡ made_by_reply size place (reply_of updates_here asked us)
  made_then at gap = sym (made_all size place asked us (at_mine at) (no_gap gap))

  pub stopped_wrong : (s : ReplicaStop) → IsStoppedAs s (wrong asked mine)
      → IsStopOf s (judged size place (reply_of updates_here asked us))
  stopped_wrong s is =
      stops_as s (first_of (wrong asked (point_in place)) Rest) (judged size place (reply_of updates_here asked us))
      (judged_updated size place asked us)
      (stops_first s (wrong asked (point_in place)) Rest
      (subst (λ (q : Point). IsStoppedAs s (wrong asked q)) mine_is is))

  pub stopped_gap : (s : ReplicaStop) → wrong asked mine ≡ None → IsStoppedAs s (gap_in based mine us)
      → IsStopOf s (judged size place (reply_of updates_here asked us))
  stopped_gap s at is =
      let here = subst (λ (b : Bool). IsStoppedAs s (gap_in b (point_in place) us)) based_is
      (subst (λ (q : Point). IsStoppedAs s (gap_in based q us)) mine_is is) in
      stops_as s Rest (judged size place (reply_of updates_here asked us)) (passed at)
      (stops_first s (gap_in (is_based place) (point_in place) us) Last here)

  pub stopped_there : (s : ReplicaStop) → wrong asked mine ≡ None → gap_in based mine us ≡ None
      → IsStoppedAs s (stop_at size place us)
      → IsStopOf s (judged size place (reply_of updates_here asked us))
  stopped_there s at gap is =
      stops_as s Last (judged size place (reply_of updates_here asked us)) (passed_all at gap)
      (stops_first s (stop_at size place us) (Updated (length us)) is)

  pub updated_all : (count : ℕ) → wrong asked mine ≡ None → gap_in based mine us ≡ None → stop_at size place us ≡ None
      → count ≡ length us
      → judged size place (reply_of updates_here asked us) ≡ Updated count
  updated_all count at gap stop is =
      passed_all at gap ∙ ap (λ (g : Option Judged). first_of g (Updated (length us))) stop ∙ ap Updated (sym is)

  pub taken_then : wrong asked mine ≡ None → gap_in based mine us ≡ None
      → is_taken (point_in place) (reply_of updates_here asked us) ≡ true
  taken_then at gap = and_from (is_point asked (point_in place)) (run_on (point_in place) us)
      (is_mine asked (point_in place) (at_mine at)) (runs_there place us (no_gap gap))

  -- so it does not come to be called untaken
  pub never_untaken : {P : Type 0} → wrong asked mine ≡ None → gap_in based mine us ≡ None
      → is_taken (point_in place) (reply_of updates_here asked us) ≡ false → P
  never_untaken {P} at gap untaken = let never : ◌≡◌ {A = Bool} true false =
      sym (taken_then at gap) ∙ untaken in absurd cc
