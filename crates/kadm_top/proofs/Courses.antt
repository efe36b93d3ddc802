-- From a session to the course of an input.
use Rattle.std.proofs.Common.{◌≡◌, ◌∙◌, ℕ, ◌+◌, ◌<◌, List, [], ◌∷◌, length, refl, ap}
use Rattle.std.proofs.Common.{sym, subst, inl, Bool, false, IsTrue, arith, add-zero}
use Rattle.std.specs.Prelude.{Option, Some, None, IfSome, Result, Ok, Err, IfErr, IfOk, OnErr, OnOk, option_map}
use Rattle.std.proofs.lemmas.Option.{same_Some}
use Rattle.std.proofs.lemmas.Result.{on_ok_weaker}
use Rattle.kadm_lines.specs.Lines.{lines_from}
use Rattle.kadm_lines.specs.Reader.{ReaderState, to_come}
use Rattle.kadm_loading.specs.Halts.{SparesOutput}
use Rattle.session_base.specs.Wholes.{IsReadWhole, WereTaken}
use Rattle.kadm_session.specs.Courses.{Course, Ending, EndsAs, IsAtRest, Leaves, MayStop, Rests}
use Rattle.kadm_session.specs.Courses.{Stops, course, ending, lines_begun, nothing_begun}
use Rattle.session_base.specs.Stages.{IsStopped}
use Rattle.session_base.specs.Draws.{Draws}
use Rattle.session_base.specs.Halts.{IsAnswerHalt}
use Rattle.kadm_session.specs.Events.{ArePerformed, IsReached}
use Rattle.kadm_session.specs.Intake.{HasTaken, coming}
use Rattle.kadm_session.specs.Steps.{places_by, said}
use Rattle.session_base.specs.declared.halts.SessionHalt.{SessionHalt}
use Rattle.session_base.specs.declared.halts.SessionHalt.TheVariants as session
use Rattle.kadm_session.specs.declared.intake.Asked.{Asked}
use Rattle.kadm_top.specs.Reads.{fresh}
use Rattle.kadm_top.specs.Run.{HasCourse, RunEndsAs, Told, begun_at, course_from, end_opened, input_commands, told}
use Rattle.kdb_disk.proofs.Runs.{kept, weaken}
use Rattle.kdb_disk.specs.Files.{Files}
use Rattle.kdb_disk.specs.Moments.{LeavesOnly}
use Rattle.kdb_disk.specs.View.{View}
use Rattle.kdb_histories.specs.Seen.{Seen}
use Rattle.kdb_histories.specs.Stages.{ShowsAt}
use Rattle.kdb_places.specs.Places.{Place}
use Rattle.primary_core.specs.Opened.{Opened, place_of}
use Rattle.kdb_ports.proofs.Told.{after_told-nil}
use Rattle.kdb_ports.specs.Told.{after_told}
use Rattle.store_files.specs.Found.{recovers}
use Rattle.store_files.specs.Recovery.{LeavesPart, RecoversTo}

-- ---- what comes of an input

-- all of the input's commands are to come
fresh_coming : (realm : List ℕ) (reader : ReaderState) (left : Option (List ℕ)) → reader ≡ fresh
    → coming realm reader left ≡ input_commands realm left
unfolding to_come lines_from
fresh_coming realm reader left is = ap (λ (r : ReaderState). coming realm r left) is

pub fresh_course : (taken left : Option (List ℕ)) (draws : Option Draws) (reader : ReaderState) (at : Seen)
    → reader ≡ fresh
    → course taken false (coming at.place.realm reader left) draws at ≡ course_from None (told taken left draws) at
fresh_course taken left draws reader at is =
    ap (λ (commands : Option (List Asked)). course taken false commands draws at)
    (fresh_coming at.place.realm reader left is)

nothing_taken : (left : Option (List ℕ)) → option_map length left ≡ option_map (λ bytes. length bytes + 0) left
nothing_taken None = refl
nothing_taken (Some bytes) = ap Some (sym (add-zero (length bytes)))

-- nothing was taken yet
pub fresh_taken : (reader : ReaderState) (left : Option (List ℕ)) → reader ≡ fresh → HasTaken left reader left
fresh_taken reader left is = subst (λ (r : ReaderState). HasTaken left r left) (sym is)
    (record { count = nothing_taken left; spent = λ no. absurd cc; below = λ no. absurd cc })

-- an input that was read to its end was short
short_input : (first left : Option (List ℕ)) (reader : ReaderState) → HasTaken first reader left → IsTrue reader.over
    → IfSome first (λ bytes. length bytes < 4294967296)
short_input None left reader takes over = tt
short_input (Some xs) None reader takes over = let never = takes.count in absurd cc
short_input (Some xs) (Some ys) reader takes over =
    let count : length xs ≡ length ys + reader.taken = same_Some _ _ takes.count in
    let none : length ys ≡ 0 = ap length (takes.spent over) in
    let below = takes.below over in
    omega arith

pub read_whole : (r : Result Bool SessionHalt) (first left : Option (List ℕ)) (reader : ReaderState)
    → HasTaken first reader left → OnOk r (IsTrue reader.over) → OnOk r (IsReadWhole first left)
read_whole r first left reader takes over =
    on_ok_weaker r (λ is. record { spent = takes.spent is; short = short_input first left reader takes is }) over

-- so many bytes were taken
pub were_taken : (n : ℕ) (first left : Option (List ℕ)) (reader : ReaderState) → HasTaken first reader left
    → reader.taken ≡ n → WereTaken n first left
were_taken n first left reader takes is =
    takes.count ∙ ap (λ (k : ℕ). option_map (λ (bytes : List ℕ). length bytes + k) left) is

-- ---- what comes of a session

ends_open : {old now : View} (after : Told) (o : Opened) (refused : Bool) (end : Ending)
    → EndsAs after.taken refused o after.draws end → RecoversTo (place_of o) now
    → RunEndsAs after.taken refused after.draws old now (end_opened end)
ends_open {old} {now} after o refused end ends stands = record {
  out_is = ends.out_is;
  refused_is = ends.refused_is;
  stands = record {
    place = subst (λ (p : Place). RecoversTo p now) ends.place_is stands;
    shows = subst (λ (p : Place). ShowsAt p end.at.state) ends.place_is ends.shows.shows;
  };
  draws_are = ends.draws_are;
}

at_rest : (P : SessionHalt → Type 0) (halt : SessionHalt)
    → (◌≡◌ {A = Result Bool SessionHalt} (Err halt) (Err session.MemoryOut) → P session.MemoryOut)
    → (◌≡◌ {A = Result Bool SessionHalt} (Err halt) (Err session.DrawFault) → P session.DrawFault)
    → (◌≡◌ {A = Result Bool SessionHalt} (Err halt) (Err session.ReadFault) → P session.ReadFault)
    → (◌≡◌ {A = Result Bool SessionHalt} (Err halt) (Err session.InputTooLong) → P session.InputTooLong)
    → SparesOutput halt → P halt
at_rest P session.MemoryOut memory drawn read limit spares = memory refl
at_rest P session.DrawFault memory drawn read limit spares = drawn refl
at_rest P session.ReadFault memory drawn read limit spares = read refl
at_rest P session.InputTooLong memory drawn read limit spares = limit refl
at_rest P session.WriteFault memory drawn read limit spares = absurd spares
at_rest P session.DiskFault memory drawn read limit spares = absurd spares

pub course_run : {c : Course} {old now : View} {after : Told} (o : Opened) (r : Result Bool SessionHalt)
    → ((end : Ending) → ending c ≡ Some end → IfOk r (λ refused. EndsAs after.taken refused o after.draws end))
    → OnOk r (RecoversTo (place_of o) now)
    → OnErr r (IsStopped (Stops c) after.taken now)
    → (r ≡ Err session.MemoryOut → IsAtRest lines_begun c after.taken now)
    → (r ≡ Err session.DrawFault → IsAtRest nothing_begun c after.taken now)
    → (r ≡ Err session.ReadFault → IsAtRest nothing_begun c after.taken now)
    → (r ≡ Err session.InputTooLong → IsAtRest nothing_begun c after.taken now)
    → LeavesOnly old now (Leaves c)
    → HasCourse c old now after r
course_run {after = after} o (Ok refused) ended stands stopped memory drawn read limit moments = record {
  ended = λ end e. ends_open after o refused end (ended end e) stands;
  stopped = tt;
  rests = tt;
  moments = moments;
}
course_run {c = c} {now = now} {after = after} o (Err halt) ended stands stopped memory drawn read limit moments =
    record {
      ended = λ end e. tt;
      stopped = stopped;
      rests = λ spares. at_rest (λ h. IsAtRest (begun_at h) c after.taken now) halt memory drawn read limit spares;
      moments = moments;
    }

-- ---- what comes of one command alone

-- it stopped for no want of input
never_read : {P : Type 0} (r : Result Bool SessionHalt) → IfErr r IsAnswerHalt → r ≡ Err session.ReadFault → P
never_read r answers is = absurd (subst (λ (x : Result Bool SessionHalt). IfErr x IsAnswerHalt) is answers)

never_long : {P : Type 0} (r : Result Bool SessionHalt) → IfErr r IsAnswerHalt → r ≡ Err session.InputTooLong → P
never_long r answers is = absurd (subst (λ (x : Result Bool SessionHalt). IfErr x IsAnswerHalt) is answers)

pub one_run : {c : Course} {old now : View} {after : Told} (o : Opened) (r : Result Bool SessionHalt)
    → ((end : Ending) → ending c ≡ Some end → IfOk r (λ refused. EndsAs after.taken refused o after.draws end))
    → OnOk r (RecoversTo (place_of o) now)
    → OnErr r (IsStopped (Stops c) after.taken now)
    → (r ≡ Err session.MemoryOut → IsAtRest lines_begun c after.taken now)
    → (r ≡ Err session.DrawFault → IsAtRest nothing_begun c after.taken now)
    → IfErr r IsAnswerHalt → LeavesOnly old now (Leaves c)
    → HasCourse c old now after r
one_run o r ended stands stopped memory drawn answers moments =
    course_run o r ended stands stopped memory drawn (never_read r answers) (never_long r answers) moments

-- ---- what comes of one command that was not read, for want of memory

first_part : (p : Place) (others : List Place) (c : Files) → recovers c ≡ Ok p → LeavesPart p others c
unfolding LeavesPart
first_part p [] c is = is
first_part p (q ∷ others) c is = inl is

pub idle_course : (taken left : Option (List ℕ)) (asked : Asked) (draws : Option Draws) (at : Seen) (now : View)
    → RecoversTo at.place now
    → HasCourse (course taken false (Some (asked ∷ [])) draws at) now now (told taken left draws)
    (Err session.MemoryOut)
unfolding Stops MayStop Rests Leaves IsReached ArePerformed said
idle_course taken left asked None at now stands = record {
  ended = λ end e. tt;
  stopped = record {
    first = at.place;
    others = [];
    may = tt;
    stands = record { each = λ c image. first_part at.place [] c (stands c image) };
  };
  rests = λ spares. record { place = at.place; may = tt; stands = stands };
  moments = weaken (kept now).leaves (λ c image. tt);
}
idle_course taken left asked (Some draws) at now stands = record {
  ended = λ end e. tt;
  stopped = record {
    first = at.place;
    others = places_by asked draws at;
    may = inl (inl (refl, refl, refl));
    stands = record { each = λ c image. first_part at.place (places_by asked draws at) c (stands c image) };
  };
  rests = λ spares. record {
    place = at.place;
    may = record {
      count = 0;
      within = omega arith;
      out_is = record { count = 0; part = sym (after_told-nil (after_told taken []) ∙ after_told-nil taken) };
      place_is = (0, omega arith, refl);
      performed = tt;
    };
    stands = stands;
  };
  moments =
      weaken (kept now).leaves (λ c image. record { place = at.place; is = stands c image; reached = inl (inl refl) });
}
