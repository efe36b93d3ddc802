-- A replica's run behind its opening, and what an opening leads to.
use Rattle.std.proofs.Common.{◌≡◌, ℕ, Bool, true, List, [], Option, Some, Ok, Err, inl, inr, refl, sym, ap, subst, ◌∙◌}
use Rattle.std.specs.Prelude.{Result, IfOk, OnErr, OnOk, ◌≢◌}
use Rattle.iprop_links.specs.Asking.{sent_in}
use Rattle.kadm_replies.specs.Refusals.{refusal_text}
use Rattle.kadm_replies.specs.Texts.{done_text}
use Rattle.kdb_base.specs.declared.moments.Point.{Point}
use Rattle.kdb_base.specs.declared.outcomes.Refusal.{Refusal}
use Rattle.kdb_base.specs.declared.outcomes.Refusal.TheVariants.{NotADatabase}
use Rattle.kdb_base.specs.declared.outcomes.Stop.TheVariants as stop
use Rattle.kdb_disk.proofs.Runs.{at_end, started, then_on, weaken}
use Rattle.kdb_disk.specs.Files.{Files}
use Rattle.kdb_disk.specs.Moments.{Keeps, LeavesOnly}
use Rattle.kdb_disk.specs.View.{View}
use Rattle.kdb_places.specs.Places.{Place}
use Rattle.kdb_ports.specs.Links.{Wire}
use Rattle.kdb_ports.specs.Parts.{SaidPart}
use Rattle.kdb_ports.specs.Told.{after_told}
use Rattle.kprop_runs.proofs.Saying.{said_nothing}
use Rattle.kprop_runs.specs.Longs.{AllEnd, RunRoundsEnd, RunStopsLong, StopsLongIn}
use Rattle.kprop_runs.specs.Openings.{Opening, Opens, Refuses, opens_with}
use Rattle.kprop_runs.specs.Runs.{EndsAs, HasRefusal, HasRounds, HasRun, HoldsRounds, RunHolds}
use Rattle.kprop_runs.specs.Runs.{EndsSome, RunEndsSome, RunLeaves, RunLeavesSome}
use Rattle.kprop_runs.specs.Runs.{StandsFor, end_behind, first_stage, last_stage, refusal_end}
use Rattle.kprop_runs.specs.Stages.{HoldsIn, LeavesRounds, LeavesUntold, MayLead, Stage, StandsAt, StopsIn}
use Rattle.kprop_runs.specs.Stages.{after_rounds}
use Rattle.kprop_runs.specs.declared.halts.RunHalt.{RunHalt}
use Rattle.kprop_runs.specs.declared.words.Asked.{Asked}
use Rattle.replica_core.proofs.Moments.{nothing_made}
use Rattle.replica_core.specs.Opened.{IsHeldOn, LeavesMade, Opened, place_in, place_of}
use Rattle.replica_core.specs.Opening.{AnswersOpened, MayOpen}
use Rattle.replica_steps.specs.Judging.{point_in}
use Rattle.store_files.specs.Kept.{Kept}
use Rattle.store_files.specs.Recovery.{IsLike}

-- ---- of a result

both : {A E : Type 0} (r : Result A E) (P : A → Type 0) (Q : Type 0) → IfOk r P → OnOk r Q → IfOk r (λ x. P x × Q)
both (Ok x) P Q p q = (p, q)
both (Err e) P Q p q = tt

on_err : {A E P Q : Type 0} (r : Result A E) → (P → Q) → OnErr r P → OnErr r Q
on_err (Ok x) f p = tt
on_err (Err e) f p = f p

ok_of : {A E P : Type 0} (r : Result A E) → P → OnOk r P
ok_of (Ok x) p = p
ok_of (Err e) p = tt

-- ---- the rounds and the last line

module _ (a : Asked) (s : Stage) (name : List ℕ) (size : ℕ) (name_is : name ≡ a.name) (size_is : size ≡ a.size) where
  last_is : after_rounds name size a.rounds s ≡ last_stage a s
  last_is = ap (λ (n : List ℕ). after_rounds n size a.rounds s) name_is
      ∙ ap (λ (m : ℕ). after_rounds a.name m a.rounds s) size_is

  module _ (wire : Option Wire) (taken : Option (List ℕ)) (place : Option Place) (refused : Bool)
      (at : StandsAt (after_rounds name size a.rounds s) wire taken place refused) where
    at_last : StandsAt (last_stage a s) wire taken place refused
    at_last = subst (λ (t : Stage). StandsAt t wire taken place refused) last_is at

    point_last : (point : Point) → point ≡ point_in place
        → done_text point ≡ done_text (point_in (last_stage a s).place)
    point_last point is = ap done_text (is ∙ ap point_in at_last.place_is)

    pub ran : (point : Point) → point ≡ point_in place → (r : Result Bool RunHalt) (out : Option (List ℕ))
        → OnOk r (out ≡ after_told taken (done_text point))
        → IfOk r (λ answer. answer ≡ refused) → OnErr r (SaidPart (done_text point) taken out)
        → HasRounds r a s wire out
    ran point is (Ok answer) out said value part = record {
      ended = record {
        sent_is = at_last.sent_is;
        out_is = said ∙ ap (λ (t : Option (List ℕ)). after_told t (done_text point)) at_last.out_is
            ∙ ap (after_told (last_stage a s).out) (point_last point is);
        refused_is = value ∙ at_last.refused_is;
      };
      stopped = tt;
    }
    ran point is (Err halt) out said value part = record {
      ended = tt;
      stopped = inr (
        at_last.sent_is,
        subst (λ (text : List ℕ). SaidPart text (last_stage a s).out out) (point_last point is)
            (subst (λ (t : Option (List ℕ)). SaidPart (done_text point) t out) at_last.out_is part),
      );
    }

    pub stands : (o : Option Kept) → place_in o ≡ place → (now : View) → IsHeldOn o now
        → StandsFor (last_stage a s).place now
    stands o is now held = record {
      each = λ c here. subst (λ (p : Option Place). LeavesMade p [] c) (is ∙ at_last.place_is)
          (at_end (nothing_made o [] now held) c here);
    }

    pub ran_holds : (point : Point) → point ≡ point_in place → (o : Option Kept) → place_in o ≡ place → (now : View)
        → IsHeldOn o now → (r : Result Bool RunHalt) (out : Option (List ℕ))
        → OnErr r (SaidPart (done_text point) taken out) → OnErr r (HoldsRounds a s out now)
    ran_holds point is o held_is now held (Ok answer) out part = tt
    ran_holds point is o held_is now held (Err halt) out part = inr (
      subst (λ (text : List ℕ). SaidPart text (last_stage a s).out out) (point_last point is)
          (subst (λ (t : Option (List ℕ)). SaidPart (done_text point) t out) at_last.out_is part),
      stands o held_is now held,
    )

  pub rounds_hold : (out : Option (List ℕ)) (now : View) → HoldsIn name size a.rounds s out now
      → HoldsRounds a s out now
  rounds_hold out now holds = inl (subst (λ (m : ℕ). HoldsIn a.name m a.rounds s out now) size_is
      (subst (λ (n : List ℕ). HoldsIn n size a.rounds s out now) name_is holds))

  pub rounds_stopped : (wire : Option Wire) (out : Option (List ℕ)) (halt : RunHalt)
      → StopsIn name size a.rounds s (sent_in wire) out → HasRounds (Err halt) a s wire out
  rounds_stopped wire out halt stops = record {
    ended = tt;
    stopped = inl (subst (λ (m : ℕ). StopsIn a.name m a.rounds s (sent_in wire) out) size_is
        (subst (λ (n : List ℕ). StopsIn n size a.rounds s (sent_in wire) out) name_is stops));
  }

  pub rounds_long : (sent : Option (List (List ℕ))) → StopsLongIn name size a.rounds s sent
      → StopsLongIn a.name a.size a.rounds s sent
  rounds_long sent is = subst (λ (m : ℕ). StopsLongIn a.name m a.rounds s sent) size_is
      (subst (λ (n : List ℕ). StopsLongIn n size a.rounds s sent) name_is is)

  pub rounds_end : AllEnd name size a.rounds s → AllEnd a.name a.size a.rounds s
  rounds_end all = subst (λ (m : ℕ). AllEnd a.name m a.rounds s) size_is
      (subst (λ (n : List ℕ). AllEnd n size a.rounds s) name_is all)

  pub rounds_leave : (c : Files) → LeavesRounds name size a.rounds s c → LeavesRounds a.name a.size a.rounds s c
  rounds_leave c is = subst (λ (m : ℕ). LeavesRounds a.name m a.rounds s c) size_is
      (subst (λ (n : List ℕ). LeavesRounds n size a.rounds s c) name_is is)

-- where nothing is told of what came
pub rounds_end_some : (size rounds : ℕ) (place : Option Place) (o : Option Kept) (now : View)
    → MayLead size rounds place (place_in o) → IsHeldOn o now
    → (point : Point) → point ≡ point_in (place_in o) → (lines out : Option (List ℕ)) (r : Result Bool RunHalt)
    → OnOk r (out ≡ after_told lines (done_text point)) → OnOk r (EndsSome size rounds place out now)
rounds_end_some size rounds place o now leads held point is lines out (Ok answer) said = record {
  at = place_in o;
  leads = leads;
  stands = record { each = λ c here. at_end (nothing_made o [] now held) c here };
  lines = lines;
  said = said ∙ ap (λ (p : Point). after_told lines (done_text p)) is;
}
rounds_end_some size rounds place o now leads held point is lines out (Err halt) said = tt

-- ---- openings

refuses_with : (a : Asked) (why : Refusal) → why ≢ NotADatabase → opens_with a (Err why) ≡ Refuses why
refuses_with a NotADatabase other = absurd (other refl)
refuses_with a _ other = refl

-- what a replica is opened as
pub opens_as : (a : Asked) (o : Opened) (found : Result Place Refusal) → AnswersOpened a.size (Ok o) found
    → opens_with a found ≡ Opens a (place_of o)
opens_as a o (Ok p) is = ap (Opens a) (sym is)
opens_as a o (Err why) is = ap (λ (x : Refusal). opens_with a (Err x)) is.0 ∙ ap (Opens a) (sym is.1)

pub refuses_as : (a : Asked) (why : Refusal) (found : Result Place Refusal)
    → AnswersOpened a.size (Err (stop.Refused why)) found → opens_with a found ≡ Refuses why
refuses_as a why found is = ap (opens_with a) is.0 ∙ refuses_with a why is.1

pub opened_long : (a : Asked) (o : Opened) (found : Result Place Refusal) → AnswersOpened a.size (Ok o) found
    → (w : Wire) (taken : Option (List ℕ)) (sent : Option (List (List ℕ)))
    → StopsLongIn a.name a.size a.rounds (first_stage w taken (place_of o)) sent
    → RunStopsLong (opens_with a found) w taken sent
opened_long a o found is w taken sent long =
    subst (λ (x : Opening). RunStopsLong x w taken sent) (sym (opens_as a o found is)) long

pub opened_end : (a : Asked) (o : Opened) (found : Result Place Refusal) → AnswersOpened a.size (Ok o) found
    → (w : Wire) (taken : Option (List ℕ)) (r : Result Bool RunHalt)
    → OnOk r (AllEnd a.name a.size a.rounds (first_stage w taken (place_of o)))
    → OnOk r (RunRoundsEnd (opens_with a found) w taken)
opened_end a o found is w taken r all =
    subst (λ (x : Opening). OnOk r (RunRoundsEnd x w taken)) (sym (opens_as a o found is)) all

pub opened_end_some : (a : Asked) (o : Opened) (found : Result Place Refusal) → AnswersOpened a.size (Ok o) found
    → (taken out : Option (List ℕ)) (old now : View) (r : Result Bool RunHalt)
    → OnOk r (EndsSome a.size a.rounds (place_of o) out now)
    → OnOk r (RunEndsSome (opens_with a found) taken out old now)
opened_end_some a o found is taken out old now r ends =
    subst (λ (x : Opening). OnOk r (RunEndsSome x taken out old now)) (sym (opens_as a o found is)) ends

pub refused_some : (why : Refusal) (taken out : Option (List ℕ)) (old now : View) (r : Result Bool RunHalt)
    → OnOk r (out ≡ after_told taken (refusal_text why)) → Keeps old now
    → OnOk r (RunEndsSome (Refuses why) taken out old now)
refused_some why taken out old now (Ok answer) said keeps = (said, keeps)
refused_some why taken out old now (Err halt) said keeps = tt

pub refused_end_some : (a : Asked) (why : Refusal) (found : Result Place Refusal)
    → AnswersOpened a.size (Err (stop.Refused why)) found
    → (taken out : Option (List ℕ)) (old now : View) (r : Result Bool RunHalt)
    → OnOk r (out ≡ after_told taken (refusal_text why)) → Keeps old now
    → OnOk r (RunEndsSome (opens_with a found) taken out old now)
refused_end_some a why found is taken out old now r said keeps =
    subst (λ (x : Opening). OnOk r (RunEndsSome x taken out old now)) (sym (refuses_as a why found is))
    (refused_some why taken out old now r said keeps)

-- there are no rounds
pub refused_end : (a : Asked) (why : Refusal) (found : Result Place Refusal)
    → AnswersOpened a.size (Err (stop.Refused why)) found
    → (w : Wire) (taken : Option (List ℕ)) (r : Result Bool RunHalt)
    → OnOk r (RunRoundsEnd (opens_with a found) w taken)
refused_end a why found is w taken r =
    subst (λ (x : Opening). OnOk r (RunRoundsEnd x w taken)) (sym (refuses_as a why found is)) (ok_of r tt)

-- what a crash leaves of an opening
opening_leaves : (a : Asked) (found : Result Place Refusal) (w : Wire) (taken : Option (List ℕ)) (old : View)
    (c : Files) → MayOpen old a.size found c
    → RunLeaves (opens_with a found) found w taken old c
opening_leaves a (Ok p) w taken old c is = inl is
opening_leaves a (Err NotADatabase) w taken old c is = inl is
opening_leaves a (Err _) w taken old c is = is

opening_leaves_some : (a : Asked) (found : Result Place Refusal) (old : View) (c : Files) → MayOpen old a.size found c
    → RunLeavesSome (opens_with a found) found old c
opening_leaves_some a (Ok p) old c is = inl is
opening_leaves_some a (Err NotADatabase) old c is = inl is
opening_leaves_some a (Err _) old c is = is

-- ---- a refusal

pub like_here : (now : View) → LeavesOnly now now (IsLike now)
like_here now = started now (IsLike now) (λ c here. record { before = c; was = here; same = refl })

keeps_like : (old now : View) → Keeps old now → LeavesOnly old now (IsLike old)
keeps_like old now keeps = weaken keeps.leaves (λ c here. record { before = c; was = here; same = refl })

ends_refused : (why : Refusal) (w : Wire) (taken : Option (List ℕ)) (wire : Option Wire) (out : Option (List ℕ))
    (r : Result Bool RunHalt) → wire ≡ Some w
    → OnOk r (out ≡ after_told taken (refusal_text why)) → IfOk r (λ answer. answer ≡ true)
    → IfOk r (λ refused. EndsAs (refusal_end why w taken) wire out refused)
ends_refused why w taken wire out (Ok answer) told said value =
    record { sent_is = ap sent_in told; out_is = said; refused_is = value }
ends_refused why w taken wire out (Err halt) told said value = tt

pub refusal_run : (why : Refusal) (found : Result Place Refusal) (w : Wire) (taken : Option (List ℕ)) (old now : View)
    (wire : Option Wire) (out : Option (List ℕ))
    (r : Result Bool RunHalt) → wire ≡ Some w → Keeps old now → OnOk r (out ≡ after_told taken (refusal_text why))
    → IfOk r (λ answer. answer ≡ true)
    → OnErr r (SaidPart (refusal_text why) taken out) → HasRun (Refuses why) found w taken old now wire out r
refusal_run why found w taken old now wire out r told keeps said value part = record {
  ended = both r (λ refused. EndsAs (refusal_end why w taken) wire out refused) (Keeps old now)
      (ends_refused why w taken wire out r told said value) (ok_of r keeps);
  stopped = on_err r (λ p. inr (ap sent_in told, p)) part;
  holds = on_err r (λ p. tt) part;
  moments = keeps_like old now keeps;
}

pub refusal_is : (text : List ℕ) (taken out : Option (List ℕ)) (r : Result Bool RunHalt)
    → OnOk r (out ≡ after_told taken text) → IfOk r (λ answer. answer ≡ true)
    → OnErr r (SaidPart text taken out) → HasRefusal text taken out r
refusal_is text taken out (Ok answer) said value part = record { ended = (value, said); stopped = tt }
refusal_is text taken out (Err halt) said value part = record { ended = tt; stopped = part }

-- ---- a run

-- nothing was written
none_held : (o : Opening) (w : Wire) (taken : Option (List ℕ)) (now : View) → RunHolds o w taken taken now
none_held (Refuses why) w taken now = tt
none_held (Opens a place) w taken now = inl refl

module _ (a : Asked) (found : Result Place Refusal) (old mid : View)
    (opening : LeavesOnly old mid (MayOpen old a.size found)) where
  -- It was opened, and the rounds came behind.
  module _ (o : Opened) (is : AnswersOpened a.size (Ok o) found) (new : View) where
    pub opened_run : (w : Wire) (taken : Option (List ℕ)) (wire : Option Wire) (out : Option (List ℕ))
        (r : Result Bool RunHalt)
        → HasRounds r a (first_stage w taken (place_of o)) wire out
        → OnErr r (HoldsRounds a (first_stage w taken (place_of o)) out new)
        → OnOk r (StandsFor (last_stage a (first_stage w taken (place_of o))).place new)
        → LeavesOnly mid new (LeavesRounds a.name a.size a.rounds (first_stage w taken (place_of o)))
        → HasRun (opens_with a found) found w taken old new wire out r
    opened_run w taken wire out r has holds stands leaves =
        subst (λ (x : Opening). HasRun x found w taken old new wire out r) (sym (opens_as a o found is)) (record {
          ended =
              both r (λ refused. EndsAs (end_behind (last_stage a (first_stage w taken (place_of o)))) wire out refused)
              (StandsFor (last_stage a (first_stage w taken (place_of o))).place new) has.ended stands;
          stopped = on_err r (λ stops. inr stops) has.stopped;
          holds = on_err r (λ h. inr h) holds;
          moments = then_on {P = RunLeaves (Opens a (place_of o)) found w taken old}
              (weaken opening (λ c here. inl here)) leaves (λ c here. inr here);
        })

    pub opened_some : LeavesOnly mid new (LeavesUntold a.size a.rounds (place_of o))
        → LeavesOnly old new (RunLeavesSome (opens_with a found) found old)
    opened_some leaves =
        subst (λ (x : Opening). LeavesOnly old new (RunLeavesSome x found old)) (sym (opens_as a o found is))
        (then_on {P = RunLeavesSome (Opens a (place_of o)) found old} (weaken opening (λ c here. inl here)) leaves
        (λ c here. inr here))

  -- It was refused.
  pub refused_run : (why : Refusal) → AnswersOpened a.size (Err (stop.Refused why)) found → Keeps old mid
      → (w : Wire) (taken : Option (List ℕ)) (wire : Option Wire) (out : Option (List ℕ)) (r : Result Bool RunHalt)
      → wire ≡ Some w
      → OnOk r (out ≡ after_told taken (refusal_text why)) → IfOk r (λ answer. answer ≡ true)
      → OnErr r (SaidPart (refusal_text why) taken out)
      → HasRun (opens_with a found) found w taken old mid wire out r
  refused_run why is keeps w taken wire out r told said value part =
      subst (λ (x : Opening). HasRun x found w taken old mid wire out r) (sym (refuses_as a why found is))
      (refusal_run why found w taken old mid wire out r told keeps said value part)

  -- It was stopped.
  pub halted_run : (w : Wire) (taken : Option (List ℕ)) (wire : Option Wire) (halt : RunHalt) → wire ≡ Some w
      → HasRun (opens_with a found) found w taken old mid wire taken (Err halt)
  halted_run w taken wire halt told = record {
    ended = tt;
    stopped = inl (ap sent_in told, refl);
    holds = none_held (opens_with a found) w taken mid;
    moments = weaken opening (opening_leaves a found w taken old);
  }

  pub open_some : LeavesOnly old mid (RunLeavesSome (opens_with a found) found old)
  open_some = weaken opening (opening_leaves_some a found old)

-- ---- nothing was done

may_open : (size : ℕ) (found : Result Place Refusal) (old : View) (c : Files) → old.images c → MayOpen old size found c
may_open size (Ok p) old c here = inl (record { before = c; was = here; same = refl })
may_open size (Err why) old c here = record { before = c; was = here; same = refl }

idle_leaves : (o : Opening) (found : Result Place Refusal) (w : Wire) (taken : Option (List ℕ)) (old : View) (c : Files)
    → old.images c → RunLeaves o found w taken old c
idle_leaves (Refuses why) found w taken old c here = record { before = c; was = here; same = refl }
idle_leaves (Opens a place) found w taken old c here = inl (may_open a.size found old c here)

idle_leaves_some : (o : Opening) (found : Result Place Refusal) (old : View) (c : Files) → old.images c
    → RunLeavesSome o found old c
idle_leaves_some (Refuses why) found old c here = record { before = c; was = here; same = refl }
idle_leaves_some (Opens a place) found old c here = inl (may_open a.size found old c here)

pub idle_run : (o : Opening) (found : Result Place Refusal) (w : Wire) (taken : Option (List ℕ)) (now : View)
    (wire : Option Wire) (halt : RunHalt) → wire ≡ Some w
    → HasRun o found w taken now now wire taken (Err halt)
idle_run o found w taken now wire halt told = record {
  ended = tt;
  stopped = inl (ap sent_in told, refl);
  holds = none_held o w taken now;
  moments = started now (RunLeaves o found w taken now) (idle_leaves o found w taken now);
}

pub idle_some : (o : Opening) (found : Result Place Refusal) (now : View)
    → LeavesOnly now now (RunLeavesSome o found now)
idle_some o found now = started now (RunLeavesSome o found now) (idle_leaves_some o found now)

pub idle_refusal : (text : List ℕ) (taken : Option (List ℕ)) (halt : RunHalt) → HasRefusal text taken taken (Err halt)
idle_refusal text taken halt = record { ended = tt; stopped = said_nothing text taken }
