-- A round and its line.
use Rattle.std.proofs.Common.{◌≡◌, ℕ, Bool, ◌||◌, List, [], Option, Some, None, Ok, Err, inl, inr, refl, ap, subst, ◌∙◌}
use Rattle.std.specs.Prelude.{Result, IfOk, OnErr, OnOk}
use Rattle.iprop_links.specs.Asking.{sent_in}
use Rattle.kdb_base.specs.declared.moments.Point.{Point}
use Rattle.kdb_disk.proofs.Runs.{at_end}
use Rattle.kdb_disk.specs.Files.{Files}
use Rattle.kdb_disk.specs.Moments.{LeavesOnly}
use Rattle.kdb_disk.specs.View.{View}
use Rattle.kdb_places.specs.Places.{Place}
use Rattle.kdb_ports.specs.Links.{Wire, first_of}
use Rattle.kdb_ports.specs.Parts.{SaidPart}
use Rattle.kdb_ports.specs.Told.{after_told}
use Rattle.kprop_rounds.specs.Rounds.{IsRound, LeavesSome, round_end}
use Rattle.kprop_rounds.specs.declared.words.RoundHalt.{RoundHalt}
use Rattle.kprop_rounds.specs.declared.words.RoundWord.{RoundWord}
use Rattle.kprop_runs.specs.Lines.{is_refused, round_line}
use Rattle.kprop_runs.specs.Stages.{HoldsRound, MayCome, StandsAt, StopsRound, after_round, end_at, line_at, stage_of}
use Rattle.kprop_runs.specs.declared.halts.RunHalt.{RunHalt}
use Rattle.replica_core.proofs.Crashes.{part_left}
use Rattle.replica_core.proofs.Moments.{nothing_made}
use Rattle.replica_core.specs.Opened.{IsHeldOn, LeavesMade, place_in}
use Rattle.replica_core.specs.Opening.{place_found}
use Rattle.replica_steps.specs.Bridges.{MayBePart}
use Rattle.replica_steps.specs.Judging.{point_in}
use Rattle.replica_steps.specs.Replicas.{task_makes}
use Rattle.store_files.proofs.Placed.{kept_recovers}
use Rattle.store_files.specs.Found.{place_in as place_read, recovers}
use Rattle.store_files.specs.Kept.{Kept}

module _ (name : List ℕ) (size number : ℕ) (w : Wire) (taken : Option (List ℕ)) (place : Option Place)
    (refused : Bool) where
  -- the round was done
  module _ (new : Option Place) (wire : Option Wire) (word : RoundWord)
      (is : IsRound (Ok word) name size w place new wire)
      (point : Point) (point_is : point ≡ point_in new) where
    line_is : round_line number word point
        ≡ line_at number (end_at size (stage_of w taken place refused)) (stage_of w taken place refused)
    line_is =
        ap (λ (x : RoundWord). round_line number x point) is.ends.word_is
        ∙ ap (round_line number (round_end size place (first_of w.to_come)).word)
        (point_is ∙ ap point_in is.ends.place_is)

    pub turned : (r : Result Bool RunHalt) (out : Option (List ℕ))
        → OnOk r (out ≡ after_told taken (round_line number word point)) → IfOk r (λ now. now ≡ is_refused word)
        → IfOk r (λ now.
        StandsAt (after_round name size number (stage_of w taken place refused)) wire out new (refused || now))
    turned (Err halt) out said value = tt
    turned (Ok now) out said value = record {
      place_is = is.ends.place_is;
      sent_is = is.said;
      later_is = is.later;
      out_is = said ∙ ap (after_told taken) line_is;
      refused_is = ap (λ (b : Bool). refused || b) (value ∙ ap is_refused is.ends.word_is);
    }

    pub turn_stopped : (r : Result Bool RunHalt) (out : Option (List ℕ))
        → OnErr r (SaidPart (round_line number word point) taken out)
        → OnErr r (StopsRound name number (round_end size place (first_of w.to_come)) (stage_of w taken place refused)
        (sent_in wire) out)
    turn_stopped (Ok now) out part = tt
    turn_stopped (Err halt) out part = inr (is.said, subst (λ (text : List ℕ). SaidPart text taken out) line_is part)

    pub turn_holds : (o : Option Kept) → place_in o ≡ new → (now : View) → IsHeldOn o now
        → (r : Result Bool RunHalt) (out : Option (List ℕ))
        → OnErr r (SaidPart (round_line number word point) taken out)
        → OnErr r (HoldsRound number (round_end size place (first_of w.to_come)) (stage_of w taken place refused) out
        now)
    turn_holds o held_is now held (Ok bad) out part = tt
    turn_holds o held_is now held (Err halt) out part = inr (
      subst (λ (text : List ℕ). SaidPart text taken out) line_is part,
      record {
        each = λ c here. subst (λ (p : Option Place). LeavesMade p [] c) (held_is ∙ is.ends.place_is)
            (at_end (nothing_made o [] now held) c here);
      },
    )

  -- it was stopped
  pub round_holds : (old now : View)
      → LeavesOnly old now (LeavesMade place (round_end size place (first_of w.to_come)).made)
      → HoldsRound number (round_end size place (first_of w.to_come)) (stage_of w taken place refused) taken now
  round_holds old now run = inl (refl, record { each = λ c here. at_end run c here })

  pub round_stopped : (new : Option Place) (wire : Option Wire) (halt : RoundHalt)
      → IsRound (Err halt) name size w place new wire
      → StopsRound name number (round_end size place (first_of w.to_come)) (stage_of w taken place refused)
      (sent_in wire) taken
  round_stopped new wire halt is = inl (is.front, refl)

-- ---- where nothing is told of what comes

found_held : (o : Option Kept) (now : View) (c : Files) → IsHeldOn o now → now.images c
    → place_found (recovers c) ≡ place_in o
found_held None now c none here = ap (λ r. place_found (place_read r)) (none.each c here)
found_held (Some k) now c on here = ap place_found (kept_recovers k now on c here)

-- what is held then is of a task, as the files are
pub came : (size : ℕ) (place : Option Place) (o : Option Kept) (old now : View)
    → LeavesOnly old now (LeavesSome size place) → IsHeldOn o now → now.images now.seen
    → MayCome size place (place_in o)
came size place o old now run held here =
    let some = at_end run now.seen here in
    record {
      task = some.task;
      of_round = some.of_round;
      part = subst (MayBePart place (task_makes size place some.task)) (found_held o now now.seen held here)
          (part_left place (task_makes size place some.task) now.seen some.leaves);
    }
