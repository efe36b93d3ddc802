-- How a session goes on over one line after another.
use Rattle.std.proofs.Common.{◌≡◌, ◌∙◌, ℕ, List, [], ◌∷◌, ◌||◌, Bool, true, false, refl, ap, sym, subst, inl, arith}
use Rattle.std.proofs.Math.Bool.{or-false}
use Rattle.std.proofs.lemmas.Option.{same_Some}
use Rattle.std.specs.Prelude.{◌≢◌, Option, Some, None, Result, Ok, Err, IfErr, IfOk, OnOk, drop, take}
use Rattle.kadm_lines.specs.Reader.{ReaderState}
use Rattle.std.specs.List.{Contains}
use Rattle.kdb_disk.proofs.Runs.{started, weaken}
use Rattle.kdb_disk.specs.declared.disk.Disk.{Ghosts}
use Rattle.kdb_disk.specs.Files.{Files}
use Rattle.kdb_disk.specs.Moments.{LeavesOnly}
use Rattle.kdb_disk.specs.View.{View}
use Rattle.kdb_histories.specs.Seen.{Seen, seen}
use Rattle.kdb_places.specs.Places.{Place}
use Rattle.kdb_plain.specs.declared.states.State.{State}
use Rattle.kdb_ports.proofs.Told.{after_told-nil}
use Rattle.kdb_ports.specs.Parts.{SaidPart}
use Rattle.kdb_ports.specs.Told.{after_told}
use Rattle.primary_core.specs.Opened.{HasState, Opened, place_of}
use Rattle.store_files.specs.Found.{recovers}
use Rattle.store_files.specs.Recovery.{RecoversTo}
use Rattle.kadm_session.specs.Courses.{AnsweredBetween, AnsweredWhole, Course, Ending, EndsAs, Follows, GoesOnFrom}
use Rattle.kadm_session.specs.Courses.{IsAtRest, IsBetweenLines, IsDoneWhole, Leaves, MayStop, Rests, RestsBetween}
use Rattle.kadm_session.specs.Courses.{Stops, course, end_with, ending, rests_before, rests_between_by, rests_by}
use Rattle.session_base.specs.Stages.{IsStopped, Stage}
use Rattle.kadm_session.specs.Deciding.{IsHalfway, MayRest}
use Rattle.session_base.specs.Draws.{Draws}
use Rattle.session_base.specs.declared.halts.SessionHalt.{SessionHalt}
use Rattle.session_base.specs.declared.halts.SessionHalt.TheVariants as session
use Rattle.kadm_session.specs.Intake.{Comes, NoCommand, before_commands, coming}
use Rattle.kadm_session.specs.Events.{ArePerformed, IsReached}
use Rattle.kadm_session.specs.Steps.{Said, places_by, said}
use Rattle.kadm_session.specs.Turns.{GoesOn}
use Rattle.kadm_session.specs.declared.intake.Asked.{Asked}
use Rattle.kadm_session.specs.declared.intake.Next.{Next}
use Rattle.kadm_session.specs.declared.intake.Next.TheVariants as next
use Rattle.kadm_session.proofs.Leaving.{leaves_first}

-- ---- the first of the commands, where they are told or not

-- the first of what came, where the realm that was read for is the database's, and stays
pub comes_first : (answer : Next) (asked : Asked) (read realm realm' : List ℕ) (old new : ReaderState)
    (told left : Option (List ℕ))
    → answer ≡ next.Line asked → read ≡ realm → realm' ≡ realm
    → Comes answer (coming read old told) (coming read new left)
    → coming realm old told ≡ before_commands asked (coming realm' new left)
comes_first answer asked read realm realm' old new told left is same stays comes =
    ap (λ (r : List ℕ). coming r old told) (sym same)
    ∙ subst (λ (n : Next). Comes n (coming read old told) (coming read new left)) is comes
    ∙ ap (λ (r : List ℕ). before_commands asked (coming r new left)) (same ∙ sym stays)

follows_unknown : (taken taken' : Option (List ℕ)) (refused refused' : Bool) (told left : Option Draws)
    (at later : Seen)
    → Follows (course taken refused None told at) (course taken' refused' None left later)
unfolding ending Stops RestsBetween Rests Leaves IsDoneWhole
follows_unknown taken taken' refused refused' told left at later = record {
  ends = refl;
  stops = λ out first others h. tt;
  between = λ out place h. tt;
  rests = λ begun out place h. tt;
  leaves = λ c h. tt;
  done = λ h. tt;
}

pub goes_on_all : (asked : Asked) (old new : Option (List Asked)) (taken taken' : Option (List ℕ))
    (refused refused' : Bool) (told left : Option Draws) (at : Seen) (o : Opened)
    → old ≡ before_commands asked new
    → ((more : List Asked)
    → GoesOnFrom (course taken refused (Some (asked ∷ more)) told at) o taken' refused' (Some more) left)
    → GoesOnFrom (course taken refused old told at) o taken' refused' new left
goes_on_all asked old None taken taken' refused refused' told left at o is step =
    subst (λ (c : Option (List Asked)). GoesOnFrom (course taken refused c told at) o taken' refused' None left)
    (sym is)
    (record {
      state = (step []).state;
      has = (step []).has;
      follows = follows_unknown taken taken' refused refused' told left at (seen (place_of o) (step []).state);
    })
goes_on_all asked old (Some more) taken taken' refused refused' told left at o is step =
    subst (λ (c : Option (List Asked)). GoesOnFrom (course taken refused c told at) o taken' refused' (Some more) left)
    (sym is) (step more)

-- whatever the first of the commands leaves
pub leaves_all : {old now : View} (asked : Asked) (all others : Option (List Asked)) (taken : Option (List ℕ))
    (refused : Bool) (told : Option Draws) (at : Seen)
    → all ≡ before_commands asked others
    → ((more : List Asked) → LeavesOnly old now (Leaves (course taken refused (Some (asked ∷ more)) told at)))
    → LeavesOnly old now (Leaves (course taken refused all told at))
unfolding Leaves
leaves_all asked all None taken refused told at is run =
    weaken (run []) (λ c h. subst (λ (o : Option (List Asked)). Leaves (course taken refused o told at) c) (sym is) tt)
leaves_all asked all (Some more) taken refused told at is run =
    weaken (run more) (λ c h. subst (λ (o : Option (List Asked)). Leaves (course taken refused o told at) c) (sym is) h)

-- a session was stopped, of which no commands are told
stopped_unknown : (taken : Option (List ℕ)) (refused : Bool) (told : Option Draws) (at : Seen) (out : Option (List ℕ))
    (now : View) (stage : Stage)
    → IsStopped stage out now → IsStopped (Stops (course taken refused None told at)) out now
unfolding Stops
stopped_unknown taken refused told at out now stage stopped =
    record { first = stopped.first; others = stopped.others; may = tt; stands = stopped.stands }

pub stopped_all : (asked : Asked) (old new : Option (List Asked)) (taken : Option (List ℕ)) (refused : Bool)
    (told : Option Draws) (at : Seen) (out : Option (List ℕ)) (now : View)
    → old ≡ before_commands asked new
    → ((more : List Asked) → IsStopped (Stops (course taken refused (Some (asked ∷ more)) told at)) out now)
    → IsStopped (Stops (course taken refused old told at)) out now
stopped_all asked old None taken refused told at out now is step =
    subst (λ (c : Option (List Asked)). IsStopped (Stops (course taken refused c told at)) out now) (sym is)
    (stopped_unknown taken refused told at out now (Stops (course taken refused (Some (asked ∷ [])) told at)) (step []))
stopped_all asked old (Some more) taken refused told at out now is step =
    subst (λ (c : Option (List Asked)). IsStopped (Stops (course taken refused c told at)) out now) (sym is) (step more)

-- ---- where it is

next_made : Option (List Asked) → Option Draws → Seen → List Place
next_made None told at = []
next_made (Some commands) None at = []
next_made (Some []) (Some draws) at = []
next_made (Some (asked ∷ commands)) (Some draws) at = places_by asked draws at

may_stop_here : (taken : Option (List ℕ)) (refused : Bool) (commands : Option (List Asked))
    (told : Option Draws) (at : Seen)
    → Stops (course taken refused commands told at) taken at.place (next_made commands told at)
unfolding Stops MayStop next_made
may_stop_here taken refused None told at = tt
may_stop_here taken refused (Some commands) None at = tt
may_stop_here taken refused (Some []) (Some draws) at = (refl, refl, refl)
may_stop_here taken refused (Some (asked ∷ commands)) (Some draws) at = inl (inl (refl, refl, refl))

-- a session may stop where it is
pub stops_here : (taken : Option (List ℕ)) (refused : Bool) (commands : Option (List Asked)) (told : Option Draws)
    (at : Seen) (now : View)
    → RecoversTo at.place now → IsStopped (Stops (course taken refused commands told at)) taken now
stops_here taken refused commands told at now recovered = record {
  first = at.place;
  others = next_made commands told at;
  may = may_stop_here taken refused commands told at;
  stands = record { each = λ c image. leaves_first at.place (next_made commands told at) c (recovered c image) };
}

here_rests : (commands : List Asked) (draws : Draws) (at : Seen) → Contains (rests_before commands draws at) at.place
here_rests [] draws at = (0, omega arith, refl)
here_rests (asked ∷ commands) draws at = (0, omega arith, refl)

none_answered : (taken : Option (List ℕ)) (commands : List Asked) (draws : Draws) (at : Seen)
    → AnsweredBetween taken commands draws at taken at.place
unfolding said ArePerformed
none_answered taken commands draws at =
    record { count = 0; within = omega arith; out_is = sym (after_told-nil taken); place_is = refl; performed = tt }

between_here : (taken : Option (List ℕ)) (refused : Bool) (commands : Option (List Asked))
    (told : Option Draws) (at : Seen)
    → RestsBetween (course taken refused commands told at) taken at.place
unfolding RestsBetween
between_here taken refused None told at = tt
between_here taken refused (Some commands) None at = tt
between_here taken refused (Some commands) (Some draws) at = none_answered taken commands draws at

-- nothing of a text was written
said_nothing : (text : List ℕ) (before out : Option (List ℕ)) → out ≡ before → SaidPart text before out
said_nothing text before out same = record { count = 0; part = same ∙ sym (after_told-nil before) }

-- between two lines it rests
answered_between : (begun : List Asked → Place → List ℕ) (taken out : Option (List ℕ)) (commands : List Asked)
    (draws : Draws) (at : Seen) (later : Place) → AnsweredBetween taken commands draws at out later
    → AnsweredWhole begun taken commands draws at out later
answered_between begun taken out commands draws at later between =
    let so_far = said (take between.count commands) draws at in
    record {
      count = between.count;
      within = between.within;
      out_is = said_nothing (begun (drop between.count commands) so_far.at.place)
          (after_told taken so_far.bytes) out between.out_is;
      place_is = subst (λ (p : Place). Contains (rests_before (drop between.count commands) so_far.draws so_far.at) p)
          (sym between.place_is) (here_rests (drop between.count commands) so_far.draws so_far.at);
      performed = between.performed;
    }

rests_by_between : (begun : List Asked → Place → List ℕ) (c : Course) (out : Option (List ℕ)) (place : Place)
    → RestsBetween c out place → Rests begun c out place
unfolding RestsBetween Rests
rests_by_between begun c out place between = by c.commands c.draws between
  where
    by : (commands : Option (List Asked)) (told : Option Draws) → rests_between_by c.taken commands told c.at out place
        → rests_by begun c.taken commands told c.at out place
    by None told h = tt
    by (Some commands) None h = tt
    by (Some commands) (Some draws) h = answered_between begun c.taken out commands draws c.at place h

pub between_rests : (begun : List Asked → Place → List ℕ) (c : Course) (out : Option (List ℕ)) (now : View)
    → IsBetweenLines c out now → IsAtRest begun c out now
between_rests begun c out now between = record {
  place = between.place;
  may = rests_by_between begun c out between.place between.may;
  stands = between.stands;
}

reached_here : (commands : List Asked) (draws : Draws) (at : Seen) → IsReached commands draws at at.place
unfolding IsReached
reached_here [] draws at = refl
reached_here (asked ∷ commands) draws at = inl (inl refl)

leaves_where_it_is : (taken : Option (List ℕ)) (refused : Bool) (commands : Option (List Asked)) (told : Option Draws)
    (at : Seen) (c : Files)
    → recovers c ≡ Ok at.place → Leaves (course taken refused commands told at) c
unfolding Leaves
leaves_where_it_is taken refused None told at c is = tt
leaves_where_it_is taken refused (Some commands) None at c is = tt
leaves_where_it_is taken refused (Some commands) (Some draws) at c is =
    record { place = at.place; is = is; reached = reached_here commands draws at }

-- nothing was done
pub leaves_here : (taken : Option (List ℕ)) (refused : Bool) (commands : Option (List Asked)) (told : Option Draws)
    (at : Seen) (now : View)
    → RecoversTo at.place now → LeavesOnly now now (Leaves (course taken refused commands told at))
leaves_here taken refused commands told at now recovered =
    started now (Leaves (course taken refused commands told at))
    (λ c image. leaves_where_it_is taken refused commands told at c (recovered c image))

-- ---- the whole session, by what follows

pub follows_itself : (c : Course) → Follows c c
follows_itself c = record {
  ends = refl;
  stops = λ out first others h. h;
  between = λ out place h. h;
  rests = λ begun out place h. h;
  leaves = λ files h. h;
  done = λ h. h;
}

pub follows_then : (a b c : Course) → Follows a b → Follows b c → Follows a c
follows_then a b c one two = record {
  ends = one.ends ∙ two.ends;
  stops = λ out first others h. one.stops out first others (two.stops out first others h);
  between = λ out place h. one.between out place (two.between out place h);
  rests = λ begun out place h. one.rests begun out place (two.rests begun out place h);
  leaves = λ files h. one.leaves files (two.leaves files h);
  done = λ h. one.done (two.done h);
}

-- what is open shows a state from which the course goes on, and a line more was answered
pub goes_on_then : (c : Course) (o new : Opened) (taken taken' : Option (List ℕ)) (refused refused' : Bool)
    (commands commands' : Option (List Asked)) (told left : Option Draws)
    → (was : GoesOnFrom c o taken refused commands told)
    → GoesOnFrom (course taken refused commands told (seen (place_of o) was.state)) new taken' refused' commands' left
    → GoesOnFrom c new taken' refused' commands' left
goes_on_then c o new taken taken' refused refused' commands commands' told left was next = record {
  state = next.state;
  has = next.has;
  follows = follows_then c (course taken refused commands told (seen (place_of o) was.state))
      (course taken' refused' commands' left (seen (place_of new) next.state)) was.follows next.follows;
}

pub stopped_from : (c : Course) (o : Opened) (taken : Option (List ℕ)) (refused : Bool) (commands : Option (List Asked))
    (told : Option Draws) (out : Option (List ℕ)) (now : View)
    → (was : GoesOnFrom c o taken refused commands told)
    → IsStopped (Stops (course taken refused commands told (seen (place_of o) was.state))) out now
    → IsStopped (Stops c) out now
stopped_from c o taken refused commands told out now was stopped = record {
  first = stopped.first;
  others = stopped.others;
  may = was.follows.stops out stopped.first stopped.others stopped.may;
  stands = stopped.stands;
}

-- it rests where it is
pub between_from : (c : Course) (o : Opened) (taken : Option (List ℕ)) (refused : Bool) (commands : Option (List Asked))
    (told : Option Draws) (now : View)
    → GoesOnFrom c o taken refused commands told → RecoversTo (place_of o) now → IsBetweenLines c taken now
between_from c o taken refused commands told now was recovered = record {
  place = place_of o;
  may = was.follows.between taken (place_of o) (between_here taken refused commands told (seen (place_of o) was.state));
  stands = recovered;
}

pub rests_from : (begun : List Asked → Place → List ℕ) (c : Course) (o : Opened) (taken : Option (List ℕ))
    (refused : Bool) (commands : Option (List Asked)) (told : Option Draws) (now : View)
    → GoesOnFrom c o taken refused commands told → RecoversTo (place_of o) now → IsAtRest begun c taken now
rests_from begun c o taken refused commands told now was recovered =
    between_rests begun c taken now (between_from c o taken refused commands told now was recovered)

-- it rests where a later course may rest
pub rests_on : (begun : List Asked → Place → List ℕ) (c : Course) (o : Opened) (taken : Option (List ℕ))
    (refused : Bool) (commands : Option (List Asked)) (told : Option Draws) (out : Option (List ℕ)) (now : View)
    → (was : GoesOnFrom c o taken refused commands told)
    → IsAtRest begun (course taken refused commands told (seen (place_of o) was.state)) out now
    → IsAtRest begun c out now
rests_on begun c o taken refused commands told out now was rest =
    record { place = rest.place; may = was.follows.rests begun out rest.place rest.may; stands = rest.stands }

may_rest_halfway : (begun : List Asked → Place → List ℕ) (taken : Option (List ℕ)) (refused : Bool) (asked : Asked)
    (more : List Asked) (told : Option Draws) (at : Seen) (place : Place)
    → MayRest asked told at place → Rests begun (course taken refused (Some (asked ∷ more)) told at) taken place
unfolding Rests said ArePerformed
may_rest_halfway begun taken refused asked more None at place may = tt
may_rest_halfway begun taken refused asked more (Some draws) at place may = record {
  count = 0;
  within = omega arith;
  out_is = said_nothing (begun (asked ∷ more) at.place) (after_told taken []) taken (sym (after_told-nil taken));
  place_is = may;
  performed = tt;
}

-- a line stopped halfway, and nothing was written
pub rests_halfway : {D : Type 0} (g : Ghosts D) (new : D) (begun : List Asked → Place → List ℕ)
    (taken : Option (List ℕ)) (refused : Bool) (asked : Asked) (more : List Asked) (told : Option Draws) (at : Seen)
    → IsHalfway g new asked told at → g.tells
    → IsAtRest begun (course taken refused (Some (asked ∷ more)) told at) taken (g.view new)
rests_halfway g new begun taken refused asked more told at half tells = record {
  place = half.place;
  may = may_rest_halfway begun taken refused asked more told at half.place half.may;
  stands = half.stands tells;
}

rests_unknown : (begun : List Asked → Place → List ℕ) (taken : Option (List ℕ)) (refused : Bool) (told : Option Draws)
    (at : Seen) (c : Course) (out : Option (List ℕ)) (now : View)
    → IsAtRest begun c out now → IsAtRest begun (course taken refused None told at) out now
unfolding Rests
rests_unknown begun taken refused told at c out now rest = record { place = rest.place; may = tt; stands = rest.stands }

-- the first of what comes stopped so
pub rests_all : (begun : List Asked → Place → List ℕ) (asked : Asked) (old new : Option (List Asked))
    (taken : Option (List ℕ)) (refused : Bool) (told : Option Draws) (at : Seen) (out : Option (List ℕ)) (now : View)
    → old ≡ before_commands asked new
    → ((more : List Asked) → IsAtRest begun (course taken refused (Some (asked ∷ more)) told at) out now)
    → IsAtRest begun (course taken refused old told at) out now
rests_all begun asked old None taken refused told at out now is step =
    subst (λ (c : Option (List Asked)). IsAtRest begun (course taken refused c told at) out now) (sym is)
    (rests_unknown begun taken refused told at (course taken refused (Some (asked ∷ [])) told at) out now (step []))
rests_all begun asked old (Some more) taken refused told at out now is step =
    subst (λ (c : Option (List Asked)). IsAtRest begun (course taken refused c told at) out now) (sym is) (step more)

-- no line is left
ends_here : (taken : Option (List ℕ)) (refused : Bool) (commands : Option (List Asked)) (told : Option Draws)
    (o : Opened) (s : State) (end : Ending)
    → NoCommand commands → HasState o s → ending (course taken refused commands told (seen (place_of o) s)) ≡ Some end
    → EndsAs taken refused o told end
unfolding ending said
ends_here taken refused None told o s end none has e = absurd cc
ends_here taken refused (Some commands) None o s end none has e = absurd cc
ends_here taken refused (Some commands) (Some draws) o s end none has e =
    let at = seen (place_of o) s in
    let nothing : Said = record { bytes = []; refused = false; at = at; draws = draws } in
    let is : said commands draws at ≡ nothing = ap (λ (c : List Asked). said c draws at) none in
    let same : end_with taken refused nothing ≡ end =
    ap (end_with taken refused) (sym is) ∙ same_Some (end_with taken refused (said commands draws at)) end e in
    subst (λ (x : Ending). EndsAs taken refused o (Some draws) x) same
    (record {
      out_is = sym (after_told-nil taken);
      refused_is = sym (or-false refused);
      place_is = refl;
      shows = has;
      draws_are = refl;
    })

done_here : (taken : Option (List ℕ)) (refused : Bool) (commands : Option (List Asked)) (told : Option Draws)
    (at : Seen) → NoCommand commands → IsDoneWhole (course taken refused commands told at)
unfolding IsDoneWhole ArePerformed
done_here taken refused None told at none = tt
done_here taken refused (Some commands) None at none = tt
done_here taken refused (Some commands) (Some draws) at none =
    subst (λ (c : List Asked). ArePerformed c draws at) (sym none) tt

-- and all were performed
pub done_from : (c : Course) (o : Opened) (taken : Option (List ℕ)) (refused : Bool) (commands : Option (List Asked))
    (told : Option Draws)
    → GoesOnFrom c o taken refused commands told → NoCommand commands → IsDoneWhole c
done_from c o taken refused commands told was none =
    was.follows.done (done_here taken refused commands told (seen (place_of o) was.state) none)

pub ended_from : (c : Course) (o : Opened) (taken : Option (List ℕ)) (refused : Bool) (commands : Option (List Asked))
    (told : Option Draws) (end : Ending)
    → GoesOnFrom c o taken refused commands told → NoCommand commands → ending c ≡ Some end
    → EndsAs taken refused o told end
ended_from c o taken refused commands told end was none e =
    ends_here taken refused commands told o was.state end none was.has (sym was.follows.ends ∙ e)

-- a refusal is among the replies: one of before, or the new one
pub was_refused : (refused now_refused : Bool) → refused ≡ true → refused ≡ (refused || now_refused)
was_refused refused now_refused e = rw e refl

pub is_refused : (refused now_refused : Bool) → refused ≡ false → now_refused ≡ (refused || now_refused)
is_refused refused now_refused e = rw e refl

-- what a turn ensures, where it answered a line and where it came to the end
pub goes_some : {E : Type 0} {r : Result (Option Bool) E} (P : Bool → Type 0) (Q : Type 0) (a : Option Bool) (b : Bool)
    → r ≡ Ok a → a ≡ Some b → IfOk r (λ (t : Option Bool). GoesOn t P Q) → P b
goes_some {E} {r} P Q a b is some h =
    subst (λ (t : Option Bool). GoesOn t P Q) some
    (subst (λ (x : Result (Option Bool) E). IfOk x (λ (t : Option Bool). GoesOn t P Q)) is h)

pub goes_none : {E : Type 0} {r : Result (Option Bool) E} (P : Bool → Type 0) (Q : Type 0) (a : Option Bool) → r ≡ Ok a
    → a ≡ None → IfOk r (λ (t : Option Bool). GoesOn t P Q) → Q
goes_none {E} {r} P Q a is none h =
    subst (λ (t : Option Bool). GoesOn t P Q) none
    (subst (λ (x : Result (Option Bool) E). IfOk x (λ (t : Option Bool). GoesOn t P Q)) is h)

-- an error is the same one in results of two types
pub err_on : {A B E : Type 0} (r : Result A E) (p q : Result B E) (x y : E) → r ≡ Err x → p ≡ Err x → q ≡ Err y
    → p ≡ q → r ≡ Err y
err_on {A} {B} {E} r p q x y r_is p_is q_is same =
    r_is ∙ ap (λ (e : E). Err e) (sym (ap error p_is) ∙ ap error same ∙ ap error q_is)
  where
    error : Result B E → E
    error (Ok value) = x
    error (Err e) = e

-- it stopped for no want of random bytes
pub never_drawn : {A P : Type 0} (r : Result A SessionHalt)
    → IfErr r (λ halt. halt ≢ session.DrawFault) → r ≡ Err session.DrawFault → P
never_drawn {A} r undrawn is =
    let other : session.DrawFault ≢ session.DrawFault =
    subst (λ (x : Result A SessionHalt). IfErr x (λ halt. halt ≢ session.DrawFault)) is undrawn in
    absurd (other refl)

-- the same, by another name of whether a refusal was written
pub goes_with : (c : Course) (o : Opened) (taken : Option (List ℕ)) (refused refused' : Bool)
    (commands : Option (List Asked)) (told : Option Draws)
    → refused' ≡ refused → GoesOnFrom c o taken refused commands told → GoesOnFrom c o taken refused' commands told
goes_with c o taken refused refused' commands told same goes =
    subst (λ (r : Bool). GoesOnFrom c o taken r commands told) (sym same) goes

-- at the front of a session
pub goes_first : (taken : Option (List ℕ)) (refused : Bool) (commands : Option (List Asked)) (told : Option Draws)
    (o : Opened) (s : State) → HasState o s
    → GoesOnFrom (course taken refused commands told (seen (place_of o) s)) o taken refused commands told
goes_first taken refused commands told o s has =
    record { state = s; has = has; follows = follows_itself (course taken refused commands told (seen (place_of o) s)) }

-- ---- one command alone

-- it was answered, and none is left
pub one_ended : {E : Type 0} (c : Course) (o : Opened) (taken : Option (List ℕ)) (told : Option Draws) (end : Ending)
    (r : Result Bool E)
    → IfOk r (λ now_refused. GoesOnFrom c o taken (false || now_refused) (Some []) told) → ending c ≡ Some end
    → IfOk r (λ refused. EndsAs taken refused o told end)
one_ended {E} c o taken told end (Ok refused) goes e = ended_from c o taken refused (Some []) told end goes refl e
one_ended {E} c o taken told end (Err halt) goes e = tt

pub one_done : {E : Type 0} (c : Course) (o : Opened) (taken : Option (List ℕ)) (told : Option Draws)
    (r : Result Bool E)
    → IfOk r (λ now_refused. GoesOnFrom c o taken (false || now_refused) (Some []) told) → OnOk r (IsDoneWhole c)
one_done {E} c o taken told (Ok refused) goes = done_from c o taken refused (Some []) told goes refl
one_done {E} c o taken told (Err halt) goes = tt
