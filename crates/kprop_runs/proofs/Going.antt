-- Rounds of a replica, one after another.
use Rattle.std.proofs.Common.{◌≡◌, ◌<◌, ◌+◌, ℕ, suc, Bool, false, ◌||◌, List, [], Option, Some}
use Rattle.std.proofs.Common.{None, inl, inr, refl, sym, ap, subst, ◌∙◌, add-one, arith}
use Rattle.iprop_links.specs.Asking.{later_in, sent_in}
use Rattle.std.proofs.Math.Decide.{dec_lt}
use Rattle.kdb_disk.proofs.Runs.{then_on, weaken}
use Rattle.kdb_disk.specs.Files.{Files}
use Rattle.kdb_disk.specs.Moments.{LeavesOnly}
use Rattle.kdb_disk.specs.View.{View}
use Rattle.kdb_places.specs.Places.{Place}
use Rattle.kdb_ports.specs.Links.{Wire, first_of}
use Rattle.kprop_rounds.specs.Rounds.{GivesNoEnd, LeavesSome, round_end}
use Rattle.kprop_runs.specs.Longs.{AllEnd, StopsLong, StopsLongIn}
use Rattle.kprop_runs.specs.Stages.{HoldsIn, HoldsRound, LeavesRounds, LeavesUntold, MayCome, MayLead, Stage}
use Rattle.kprop_runs.specs.Stages.{StandsAt, StopsIn, StopsRound, after_round, after_rounds, end_at, stage_of}
use Rattle.replica_core.proofs.Moments.{nothing_made}
use Rattle.replica_core.specs.Opened.{IsHeldOn, LeavesMade, place_in}
use Rattle.store_files.specs.Kept.{Kept}

-- ---- what is told

pub told_wire : (told : Option Wire) (sent : List (List ℕ)) → sent_in told ≡ Some sent → (w : Wire) × (told ≡ Some w)
told_wire None sent e = absurd cc
told_wire (Some w) sent e = (w, refl)

some_is : {A : Type 0} (a b : A) → Some a ≡ Some b → a ≡ b
some_is a b e = cc

abbrev stage : Option Place → List (List ℕ) → List (List ℕ) → Option (List ℕ) → Bool → Stage
stage place sent to_come out refused =
    record { place = place; sent = sent; to_come = to_come; out = out; refused = refused }

-- the stage is the one that is told
pub stage_is : (s : Stage) (told : Option Wire) (w : Wire) (out : Option (List ℕ)) (place : Option Place)
    (refused : Bool) → told ≡ Some w
    → StandsAt s told out place refused → stage_of w out place refused ≡ s
stage_is s told w out place refused is at =
    ap (λ (p : Option Place). stage p w.sent w.to_come out refused) at.place_is
    ∙ ap (λ (xs : List (List ℕ)). stage s.place xs w.to_come out refused)
    (some_is w.sent s.sent (sym (ap sent_in is) ∙ at.sent_is))
    ∙ ap (λ (xs : List (List ℕ)). stage s.place s.sent xs out refused)
    (some_is w.to_come s.to_come (sym (ap later_in is) ∙ at.later_is))
    ∙ ap (λ (o : Option (List ℕ)). stage s.place s.sent s.to_come o refused) at.out_is
    ∙ ap (λ (b : Bool). stage s.place s.sent s.to_come s.out b) at.refused_is

-- ---- before the first round

pub starts : (name : List ℕ) (size : ℕ) (told : Option Wire) (w : Wire) (taken : Option (List ℕ)) (place : Option Place)
    → told ≡ Some w
    → StandsAt (after_rounds name size 0 (stage_of w taken place false)) told taken place false
unfolding after_rounds
starts name size told w taken place is =
    record { place_is = refl; sent_is = ap sent_in is; later_is = ap later_in is; out_is = refl; refused_is = refl }

pub none_ended : (name : List ℕ) (size : ℕ) (s : Stage) → AllEnd name size 0 s
none_ended name size s i few gives = absurd (omega (arith, few))

pub none_led : (size : ℕ) (place : Option Place) → MayLead size 0 place place
unfolding MayLead
none_led size place = refl

pub rounds_start : (name : List ℕ) (size count : ℕ) (w : Wire) (taken : Option (List ℕ)) (o : Option Kept) (now : View)
    → IsHeldOn o now
    → LeavesOnly now now (LeavesRounds name size count (stage_of w taken (place_in o) false))
rounds_start name size count w taken o now held = weaken (nothing_made o [] now held) (λ c here. inl here)

pub untold_start : (size count : ℕ) (o : Option Kept) (now : View) → IsHeldOn o now
    → LeavesOnly now now (LeavesUntold size count (place_in o))
untold_start size count o now held = weaken (nothing_made o [] now held) (λ c here. inl here)

-- ---- one round more, behind so many

module _ (name : List ℕ) (size done : ℕ) (s : Stage) (k : ℕ) (same : k ≡ size) (told : Option Wire) (w : Wire)
    (is : told ≡ Some w)
    (out : Option (List ℕ)) (place : Option Place) (refused : Bool)
    (at : StandsAt (after_rounds name size done s) told out place refused) where
  abbrev Here : Stage
  Here = stage_of w out place refused

  here : Here ≡ after_rounds name size done s
  here = stage_is (after_rounds name size done s) told w out place refused is at

  next : after_round name k (done + 1) Here ≡ after_rounds name size (done + 1) s
  unfolding after_rounds
  next =
      ap (λ (m : ℕ). after_round name m (done + 1) Here) same
      ∙ ap (λ (t : Stage). after_round name size (done + 1) t) here
      ∙ ap (λ (i : ℕ). after_round name size i (after_rounds name size done s)) (add-one done)
      ∙ ap (λ (i : ℕ). after_rounds name size i s) (sym (add-one done))

  pub goes_on : (wire : Option Wire) (said : Option (List ℕ)) (new : Option Place) (now then_refused : Bool)
      → StandsAt (after_round name k (done + 1) Here) wire said new (refused || now) → then_refused ≡ (refused || now)
      → StandsAt (after_rounds name size (done + 1) s) wire said new then_refused
  goes_on wire said new now then_refused stands refused_is =
      subst (λ (t : Stage). StandsAt t wire said new then_refused) next
      (subst (λ (b : Bool). StandsAt (after_round name k (done + 1) Here) wire said new b) (sym refused_is) stands)

  ends_here : (GivesNoEnd k place (first_of w.to_come) → ⊥)
      → GivesNoEnd size (after_rounds name size done s).place (first_of (after_rounds name size done s).to_come) → ⊥
  ends_here ended gives =
      ended (subst (λ (m : ℕ). GivesNoEnd m place (first_of w.to_come)) (sym same)
      (subst (λ (t : Stage). GivesNoEnd size t.place (first_of t.to_come)) (sym here) gives))

  pub all_end : AllEnd name size done s → (GivesNoEnd k place (first_of w.to_come) → ⊥) → AllEnd name size (done + 1) s
  all_end so_far ended i few gives =
      elim (dec_lt i done) [
        | yes before ↦ so_far i before gives
        | no last ↦
            let same_round : i ≡ done = omega arith in
            ends_here ended (subst (λ (n : ℕ). GivesNoEnd size (after_rounds name size n s).place
            (first_of (after_rounds name size n s).to_come)) same_round gives)
      ]

  module _ (count : ℕ) (few : done < count) where
    pub stops_here : (sent : Option (List (List ℕ))) (said : Option (List ℕ))
        → StopsRound name (done + 1) (round_end k place (first_of w.to_come)) Here sent said
        → StopsIn name size count s sent said
    stops_here sent said stops = record {
      done = done;
      few = few;
      stops =
          subst (λ (t : Stage). StopsRound name (suc done) (end_at size t) t sent said) here
          (subst (λ (m : ℕ). StopsRound name (suc done) (end_at m Here) Here sent said) same
          (subst (λ (i : ℕ). StopsRound name i (end_at k Here) Here sent said) (add-one done) stops));
    }

    pub holds_here : (said : Option (List ℕ)) (now : View)
        → HoldsRound (done + 1) (round_end k place (first_of w.to_come)) Here said now
        → HoldsIn name size count s said now
    holds_here said now holds = record {
      done = done;
      few = few;
      holds =
          subst (λ (t : Stage). HoldsRound (suc done) (end_at size t) t said now) here
          (subst (λ (m : ℕ). HoldsRound (suc done) (end_at m Here) Here said now) same
          (subst (λ (i : ℕ). HoldsRound i (end_at k Here) Here said now) (add-one done) holds));
    }

    pub long_here : (sent : Option (List (List ℕ))) → StopsLong name k Here sent → StopsLongIn name size count s sent
    long_here sent long = record {
      done = done;
      few = few;
      stops = subst (λ (t : Stage). StopsLong name size t sent) here
          (subst (λ (m : ℕ). StopsLong name m Here sent) same long);
    }

    leaves_now : (c : Files) → LeavesMade place (round_end k place (first_of w.to_come)).made c
        → LeavesRounds name size count s c
    leaves_now c leaves = inr (record {
      done = done;
      few = few;
      leaves =
          subst (λ (t : Stage). LeavesMade t.place (end_at size t).made c) here
          (subst (λ (m : ℕ). LeavesMade place (end_at m Here).made c) same leaves);
    })

    pub crash_on : (old mid new : View) → LeavesOnly old mid (LeavesRounds name size count s)
        → LeavesOnly mid new (LeavesMade place (round_end k place (first_of w.to_come)).made)
        → LeavesOnly old new (LeavesRounds name size count s)
    crash_on old mid new so_far round =
        then_on {P = LeavesRounds name size count s}
        {Q = LeavesMade place (round_end k place (first_of w.to_come)).made} so_far round leaves_now

-- ---- where nothing is told of what comes

module _ (size done : ℕ) (place : Option Place) (k : ℕ) (same : k ≡ size) (at : Option Place)
    (leads : MayLead size done place at) where
  pub lead_on : (new : Option Place) → MayCome k at new → MayLead size (done + 1) place new
  unfolding MayLead
  lead_on new comes = subst (λ (i : ℕ). MayLead size i place new) (sym (add-one done))
      (at, leads, subst (λ (m : ℕ). MayCome m at new) same comes)

  leaves_some : (count : ℕ) → done < count → (c : Files) → LeavesSome k at c → LeavesUntold size count place c
  leaves_some count few c leaves = inr (record {
    done = done;
    few = few;
    at = at;
    leads = leads;
    leaves = subst (λ (m : ℕ). LeavesSome m at c) same leaves;
  })

  pub untold_on : (count : ℕ) → done < count → (old mid new : View) → LeavesOnly old mid (LeavesUntold size count place)
      → LeavesOnly mid new (LeavesSome k at)
      → LeavesOnly old new (LeavesUntold size count place)
  untold_on count few old mid new so_far round =
      then_on {P = LeavesUntold size count place} {Q = LeavesSome k at} so_far round (leaves_some count few)
