-- How a session goes on over one line.
use Rattle.std.proofs.Common.{◌≡◌, ◌∙◌, ℕ, suc, List, [], ◌∷◌, Bool, true, false}
use Rattle.std.proofs.Common.{◌||◌, refl, ap, sym, subst, inl, inr, arith}
use Rattle.std.proofs.Math.Bool.{or_assoc}
use Rattle.std.specs.Prelude.{IfSome, Option, Some, None, drop, option_map, take}
use Rattle.kadm_commands.specs.declared.replies.Reply.{Reply}
use Rattle.kadm_commands.specs.declared.replies.Reply.TheVariants as reply
use Rattle.kdb_base.specs.declared.outcomes.Refusal.{Refusal}
use Rattle.kdb_disk.specs.Files.{Files}
use Rattle.kdb_disk.specs.Moments.{LeavesOnly}
use Rattle.kdb_disk.specs.View.{View}
use Rattle.kdb_disk.specs.declared.disk.Disk.{Ghosts}
use Rattle.kdb_disk.proofs.Runs.{at_end, weaken}
use Rattle.kdb_histories.specs.Seen.{Seen, seen}
use Rattle.kdb_places.specs.Places.{Place}
use Rattle.kdb_plain.specs.declared.states.State.{State}
use Rattle.kdb_ports.proofs.Told.{after_told-append, after_told-nil}
use Rattle.kdb_ports.specs.Parts.{SaidPart}
use Rattle.kdb_ports.specs.Told.{after_told}
use Rattle.primary_core.specs.Opened.{HasState, Opened, place_of}
use Rattle.store_files.specs.Recovery.{LeavesPart, RecoversTo}
use Rattle.kadm_session.specs.Courses.{AnsweredBetween, AnsweredWhole, Course, Follows, GoesOnFrom}
use Rattle.kadm_session.specs.Courses.{IsAtRest, IsDoneWhole, Leaves, MayStop, Rests, RestsBetween}
use Rattle.kadm_session.specs.Courses.{Stops, course, ending, lines_begun, rests_by}
use Rattle.session_base.specs.Stages.{IsStopped}
use Rattle.kadm_session.specs.Deciding.{AreMade, Answers, Decides, IsLineSafe}
use Rattle.session_base.specs.Draws.{Draws, behind_command}
use Rattle.kadm_session.specs.Dumping.{dump_answer, dump_lines}
use Rattle.kadm_session.specs.Events.{ArePerformed, IsPerformed, IsReached, RecoversWhere}
use Rattle.kadm_session.specs.Input.{is_dump}
use Rattle.session_base.specs.Replies.{text_of}
use Rattle.kadm_session.specs.Steps.{draws_after, is_refusal, line_text, reply_to, said, seen_after, text_to}
use Rattle.kadm_session.specs.declared.intake.Asked.{Asked}
use Rattle.kadm_session.specs.declared.intake.Asked.TheVariants.{Nothing, Refused, Does, Rekeys, ResetsLog, WritesDump}

-- ---- lines that do nothing

-- a line that is skipped
pub decides_nothing : (asked : Asked) (told : Option Draws) (o : Opened) (s : State) → asked ≡ Nothing → HasState o s
    → Decides asked told (seen (place_of o) s) None o told
unfolding reply_to seen_after draws_after
decides_nothing asked told o s is has = record {
  later = seen (place_of o) s;
  stands = record { place_is = refl; shows = has };
  answers =
      subst (λ (a : Asked). Answers a told (seen (place_of o) s) None (seen (place_of o) s) told) (sym is) (on told);
  performed =
      subst (λ (a : Asked). IfSome told (λ draws. IsPerformed a draws (seen (place_of o) s))) (sym is) (done told);
}
  where
    done : (t : Option Draws) → IfSome t (λ draws. IsPerformed Nothing draws (seen (place_of o) s))
    done None = tt
    done (Some draws) = tt

    on : (t : Option Draws) → Answers Nothing t (seen (place_of o) s) None (seen (place_of o) s) t
    on None = refl
    on (Some draws) = (refl, refl, refl)

-- a line that is refused before the database is looked at
pub decides_refused : (asked : Asked) (refusal : Refusal) (told : Option Draws) (o : Opened) (s : State)
    (answer : Reply) → asked ≡ Refused refusal → answer ≡ reply.Refused refusal → HasState o s
    → Decides asked told (seen (place_of o) s) (Some answer) o told
unfolding reply_to seen_after draws_after
decides_refused asked refusal told o s answer is answer_is has = record {
  later = seen (place_of o) s;
  stands = record { place_is = refl; shows = has };
  answers = subst (λ (a : Asked). Answers a told (seen (place_of o) s) (Some answer) (seen (place_of o) s) told)
      (sym is) (on told);
  performed =
      subst (λ (a : Asked). IfSome told (λ draws. IsPerformed a draws (seen (place_of o) s))) (sym is) (done told);
}
  where
    done : (t : Option Draws) → IfSome t (λ draws. IsPerformed (Refused refusal) draws (seen (place_of o) s))
    done None = tt
    done (Some draws) = tt

    on : (t : Option Draws) → Answers (Refused refusal) t (seen (place_of o) s) (Some answer) (seen (place_of o) s) t
    on None = refl
    on (Some draws) = (ap (λ (r : Reply). Some r) answer_is, refl, refl)

-- a line that asks for a dump
pub decides_dump : (asked : Asked) (told left : Option Draws) (o : Opened) (s : State) → asked ≡ WritesDump
    → left ≡ option_map behind_command told → HasState o s
    → Decides asked told (seen (place_of o) s) None o left
unfolding reply_to seen_after draws_after
decides_dump asked told left o s is behind has = record {
  later = seen (place_of o) s;
  stands = record { place_is = refl; shows = has };
  answers = subst (λ (a : Asked). Answers a told (seen (place_of o) s) None (seen (place_of o) s) left) (sym is)
      (on told behind);
  performed =
      subst (λ (a : Asked). IfSome told (λ draws. IsPerformed a draws (seen (place_of o) s))) (sym is) (done told);
}
  where
    done : (t : Option Draws) → IfSome t (λ draws. IsPerformed WritesDump draws (seen (place_of o) s))
    done None = tt
    done (Some draws) = tt

    on : (t : Option Draws) → left ≡ option_map behind_command t
        → Answers WritesDump t (seen (place_of o) s) None (seen (place_of o) s) left
    on None e = e
    on (Some draws) e = (refl, refl, e)

-- a line that gives a command
pub decides_does : (asked does : Asked) (told left : Option Draws) (at : Seen) (reply : Option Reply) (o : Opened)
    → asked ≡ does → Decides does told at reply o left → Decides asked told at reply o left
decides_does asked does told left at reply o is done =
    subst (λ (a : Asked). Decides a told at reply o left) (sym is) done

pub safe_does : {D : Type 0} (g : Ghosts D) (old new : D) (asked does : Asked) (told : Option Draws) (at : Seen)
    → asked ≡ does → IsLineSafe g old new does told at → IsLineSafe g old new asked told at
safe_does g old new asked does told at is safe = subst (λ (a : Asked). IsLineSafe g old new a told at) (sym is) safe

-- ---- what follows a line

-- one line more was answered in full
answered_more : (begun : List Asked → Place → List ℕ) (taken out : Option (List ℕ)) (asked : Asked) (more : List Asked)
    (draws : Draws) (at : Seen) (later : Place) → IsPerformed asked draws at
    → AnsweredWhole begun (after_told taken (text_to asked draws at)) more (draws_after asked draws at)
    (seen_after asked draws at) out later
    → AnsweredWhole begun taken (asked ∷ more) draws at out later
unfolding said ArePerformed
answered_more begun taken out asked more draws at later performed rest = record {
  count = suc rest.count;
  within = omega (arith, rest.within);
  out_is =
      let others = said (take rest.count more) (draws_after asked draws at) (seen_after asked draws at) in
      subst (λ (front : Option (List ℕ)). SaidPart (begun (drop rest.count more) others.at.place) front out)
      (after_told-append taken (text_to asked draws at) others.bytes) rest.out_is;
  place_is = rest.place_is;
  performed = (performed, rest.performed);
}

between_more : (taken out : Option (List ℕ)) (asked : Asked) (more : List Asked) (draws : Draws) (at : Seen)
    (later : Place) → IsPerformed asked draws at
    → AnsweredBetween (after_told taken (text_to asked draws at)) more (draws_after asked draws at)
    (seen_after asked draws at) out later
    → AnsweredBetween taken (asked ∷ more) draws at out later
unfolding said ArePerformed
between_more taken out asked more draws at later performed rest = record {
  count = suc rest.count;
  within = omega (arith, rest.within);
  out_is = rest.out_is ∙ after_told-append taken (text_to asked draws at)
      (said (take rest.count more) (draws_after asked draws at) (seen_after asked draws at)).bytes;
  place_is = rest.place_is;
  performed = (performed, rest.performed);
}

leaves_more : (asked : Asked) (more : List Asked) (draws : Draws) (at : Seen) (c : Files) → IsPerformed asked draws at
    → RecoversWhere (IsReached more (draws_after asked draws at) (seen_after asked draws at)) c
    → RecoversWhere (IsReached (asked ∷ more) draws at) c
unfolding IsReached
leaves_more asked more draws at c performed one =
    record { place = one.place; is = one.is; reached = inr (performed, one.reached) }

follows_told : (taken : Option (List ℕ)) (refused : Bool) (asked : Asked) (more : List Asked) (draws : Draws)
    (at : Seen) → IsPerformed asked draws at
    → Follows (course taken refused (Some (asked ∷ more)) (Some draws) at)
    (course (after_told taken (text_to asked draws at)) (refused || is_refusal (reply_to asked draws at)) (Some more)
    (Some (draws_after asked draws at)) (seen_after asked draws at))
unfolding ending said Stops MayStop RestsBetween Rests Leaves IsDoneWhole ArePerformed
follows_told taken refused asked more draws at performed =
    let later = said more (draws_after asked draws at) (seen_after asked draws at) in
    record {
      ends = λ i. Some (record {
        out = sym (after_told-append taken (text_to asked draws at) later.bytes) i;
        refused = sym (or_assoc refused (is_refusal (reply_to asked draws at)) later.refused) i;
        at = later.at;
        draws = later.draws;
      });
      stops = λ out first others h. inr (performed, h);
      between = λ out place h. between_more taken out asked more draws at place performed h;
      rests = λ begun out place h. answered_more begun taken out asked more draws at place performed h;
      leaves = λ c h. leaves_more asked more draws at c performed h;
      done = λ h. (performed, h);
    }

-- where nothing is told of the clock or the random bytes
follows_untold : (taken taken' : Option (List ℕ)) (refused refused' : Bool) (commands commands' : List Asked)
    (at later : Seen)
    → Follows (course taken refused (Some commands) None at) (course taken' refused' (Some commands') None later)
unfolding ending Stops RestsBetween Rests Leaves IsDoneWhole
follows_untold taken taken' refused refused' commands commands' at later = record {
  ends = refl;
  stops = λ out first others h. tt;
  between = λ out place h. tt;
  rests = λ begun out place h. tt;
  leaves = λ c h. tt;
  done = λ h. tt;
}

-- what is written for it at the place behind it is its text
same_text : (asked : Asked) (draws : Draws) (at later : Seen) (p : Place) (reply : Option Reply)
    → reply ≡ reply_to asked draws at → later ≡ seen_after asked draws at → p ≡ later.place
    → line_text asked p reply ≡ text_to asked draws at
unfolding seen_after
same_text Nothing draws at later p reply replied behind place = ap text_of replied
same_text (Refused refusal) draws at later p reply replied behind place = ap text_of replied
same_text (Does command) draws at later p reply replied behind place = ap text_of replied
same_text (Rekeys glob) draws at later p reply replied behind place = ap text_of replied
same_text ResetsLog draws at later p reply replied behind place = ap text_of replied
same_text WritesDump draws at later p reply replied behind place =
    ap dump_answer (place ∙ ap (λ (x : Seen). x.place) behind)

follows_next : (taken : Option (List ℕ)) (refused : Bool) (asked : Asked) (more : List Asked) (told left : Option Draws)
    (at later : Seen) (reply : Option Reply) (p : Place)
    → Answers asked told at reply later left → IfSome told (λ draws. IsPerformed asked draws at) → p ≡ later.place
    → Follows (course taken refused (Some (asked ∷ more)) told at)
    (course (after_told taken (line_text asked p reply)) (refused || is_refusal reply) (Some more) left later)
follows_next taken refused asked more None left at later reply p answers performed place =
    let text = line_text asked p reply in
    subst (λ (d : Option Draws). Follows (course taken refused (Some (asked ∷ more)) None at)
    (course (after_told taken text) (refused || is_refusal reply) (Some more) d later)) (sym answers)
    (follows_untold taken (after_told taken text) refused (refused || is_refusal reply) (asked ∷ more) more at later)
follows_next taken refused asked more (Some draws) left at later reply p answers performed place =
    let text : line_text asked p reply ≡ text_to asked draws at =
    same_text asked draws at later p reply answers.0 answers.1 place in
    subst (λ (c : Course). Follows (course taken refused (Some (asked ∷ more)) (Some draws) at) c)
    (λ i. course (after_told taken (sym text i)) (refused || is_refusal (sym answers.0 i)) (Some more) (sym answers.2 i)
    (sym answers.1 i))
    (follows_told taken refused asked more draws at performed)

-- a line was answered so
pub goes_on : (taken taken' : Option (List ℕ)) (refused : Bool) (asked : Asked) (more : List Asked)
    (told left : Option Draws) (at : Seen) (reply : Option Reply) (o : Opened)
    → Decides asked told at reply o left → taken' ≡ after_told taken (line_text asked (place_of o) reply)
    → GoesOnFrom (course taken refused (Some (asked ∷ more)) told at) o taken' (refused || is_refusal reply)
    (Some more) left
goes_on taken taken' refused asked more told left at reply o decides said_it = record {
  state = decides.later.state;
  has = decides.stands.shows;
  follows =
      subst (λ (c : Course). Follows (course taken refused (Some (asked ∷ more)) told at) c)
      (λ i. course (sym said_it i) (refused || is_refusal reply) (Some more) left
      (seen (sym decides.stands.place_is i) decides.later.state))
      (follows_next taken refused asked more told left at decides.later reply
      (place_of o) decides.answers decides.performed decides.stands.place_is);
}

-- ---- where it stops early

-- whatever a line leaves
pub line_leaves : {D : Type 0} (g : Ghosts D) (old new : D) (taken : Option (List ℕ)) (refused : Bool) (asked : Asked)
    (more : List Asked) (told : Option Draws) (at : Seen)
    → IsLineSafe g old new asked told at → g.tells
    → LeavesOnly (g.view old) (g.view new) (Leaves (course taken refused (Some (asked ∷ more)) told at))
unfolding Leaves IsReached
line_leaves g old new taken refused asked more None at safe tells = weaken (safe.safe.told tells) (λ c part. tt)
line_leaves g old new taken refused asked more (Some draws) at safe tells =
    weaken (safe.reaches.told tells) (λ c found. record {
      place = found.place;
      is = found.is;
      reached = inl found.reached;
    })

stops_before : (taken : Option (List ℕ)) (refused : Bool) (asked : Asked) (more : List Asked) (told : Option Draws)
    (at : Seen) (made : List Place)
    → AreMade asked told at made → Stops (course taken refused (Some (asked ∷ more)) told at) taken at.place made
unfolding Stops MayStop
stops_before taken refused asked more None at made are = tt
stops_before taken refused asked more (Some draws) at made are = inl (inl (refl, refl, are))

-- before a byte of the reply was written
pub line_stopped : {D : Type 0} (g : Ghosts D) (old new : D) (taken : Option (List ℕ)) (refused : Bool) (asked : Asked)
    (more : List Asked) (told : Option Draws) (at : Seen)
    → IsLineSafe g old new asked told at → g.tells
    → IsStopped (Stops (course taken refused (Some (asked ∷ more)) told at)) taken (g.view new)
line_stopped g old new taken refused asked more told at safe tells = record {
  first = at.place;
  others = safe.made;
  may = stops_before taken refused asked more told at safe.made safe.are;
  stands = record { each = λ c image. at_end (safe.safe.told tells) c image };
}

stops_inside : (taken out : Option (List ℕ)) (refused : Bool) (asked : Asked) (more : List Asked)
    (told left : Option Draws) (at later : Seen) (reply : Option Reply) (place : Place)
    → Answers asked told at reply later left → IfSome told (λ draws. IsPerformed asked draws at) → place ≡ later.place
    → SaidPart (line_text asked place reply) taken out
    → Stops (course taken refused (Some (asked ∷ more)) told at) out place []
unfolding Stops MayStop
stops_inside taken out refused asked more None left at later reply place answers performed place_is part = tt
stops_inside taken out refused asked more (Some draws) left at later reply place answers performed place_is part =
    inl (inr (
      performed,
      subst (λ (text : List ℕ). SaidPart text taken out)
          (same_text asked draws at later place reply answers.0 answers.1 place_is) part,
      place_is ∙ ap (λ (x : Seen). x.place) answers.1,
      refl,
    ))

-- inside its reply
pub reply_stopped : (taken out : Option (List ℕ)) (now : View) (refused : Bool) (asked : Asked) (more : List Asked)
    (told left : Option Draws) (at : Seen) (reply : Option Reply) (o : Opened)
    → Decides asked told at reply o left → SaidPart (line_text asked (place_of o) reply) taken out
    → RecoversTo (place_of o) now
    → IsStopped (Stops (course taken refused (Some (asked ∷ more)) told at)) out now
unfolding LeavesPart
reply_stopped taken out now refused asked more told left at reply o decides part recovered = record {
  first = place_of o;
  others = [];
  may = stops_inside taken out refused asked more told left at decides.later reply
      (place_of o) decides.answers decides.performed decides.stands.place_is part;
  stands = record { each = λ c image. recovered c image };
}

-- ---- where a dump wants memory

begun_rests : (taken out : Option (List ℕ)) (refused : Bool) (more : List Asked) (told left : Option Draws) (at : Seen)
    (reply : Option Reply) (o : Opened)
    → Decides WritesDump told at reply o left → SaidPart (dump_lines (place_of o)) taken out
    → Rests lines_begun (course taken refused (Some (WritesDump ∷ more)) told at) out (place_of o)
unfolding Rests said ArePerformed lines_begun seen_after
begun_rests taken out refused more told left at reply o decides part = by told decides.answers
  where
    by : (t : Option Draws) → Answers WritesDump t at reply decides.later left
        → rests_by lines_begun taken (Some (WritesDump ∷ more)) t at out (place_of o)
    by None answers = tt
    by (Some draws) answers =
        let same : place_of o ≡ at.place = decides.stands.place_is ∙ ap (λ (x : Seen). x.place) answers.1 in
        record {
          count = 0;
          within = omega arith;
          out_is =
              subst (λ (front : Option (List ℕ)). SaidPart (dump_lines at.place) front out) (sym (after_told-nil taken))
              (subst (λ (p : Place). SaidPart (dump_lines p) taken out) same part);
          place_is = (0, omega arith, sym same);
          performed = tt;
        }

-- a front of its lines was written
pub dump_rests : (taken out : Option (List ℕ)) (now : View) (refused : Bool) (asked : Asked) (more : List Asked)
    (told left : Option Draws) (at : Seen) (reply : Option Reply) (o : Opened)
    → asked ≡ WritesDump → Decides asked told at reply o left → SaidPart (dump_lines (place_of o)) taken out
    → RecoversTo (place_of o) now
    → IsAtRest lines_begun (course taken refused (Some (asked ∷ more)) told at) out now
dump_rests taken out now refused asked more told left at reply o is decides part recovered = record {
  place = place_of o;
  may = subst (λ (a : Asked). Rests lines_begun (course taken refused (Some (a ∷ more)) told at) out (place_of o))
      (sym is)
      (begun_rests taken out refused more told left at reply o
      (subst (λ (a : Asked). Decides a told at reply o left) is decides) part);
  stands = recovered;
}

-- ---- what is written

dump_so : (asked : Asked) → is_dump asked ≡ true → asked ≡ WritesDump
dump_so Nothing is = absurd cc
dump_so (Refused refusal) is = absurd cc
dump_so (Does command) is = absurd cc
dump_so (Rekeys glob) is = absurd cc
dump_so ResetsLog is = absurd cc
dump_so WritesDump is = refl

pub asks_dump : (asked : Asked) (b : Bool) → b ≡ is_dump asked → b ≡ true → asked ≡ WritesDump
asks_dump asked b tells yes_ = dump_so asked (sym tells ∙ yes_)

-- the answer to a line that asks for a dump
pub text_of_dump : (asked : Asked) (p : Place) (reply : Option Reply) → asked ≡ WritesDump
    → dump_answer p ≡ line_text asked p reply
text_of_dump asked p reply is = ap (λ (a : Asked). line_text a p reply) (sym is)

-- and to another
pub text_of_other : (asked : Asked) (p : Place) (reply : Option Reply) → is_dump asked ≡ false
    → text_of reply ≡ line_text asked p reply
text_of_other Nothing p reply other = refl
text_of_other (Refused refusal) p reply other = refl
text_of_other (Does command) p reply other = refl
text_of_other (Rekeys glob) p reply other = refl
text_of_other ResetsLog p reply other = refl
text_of_other WritesDump p reply other = absurd cc
