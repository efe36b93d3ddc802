-- A database that is made, and one that is ended, as runs.
use Rattle.std.proofs.Common.{◌≡◌, ◌≢◌, ◌∙◌, ◌⊎◌, ℕ, List, refl, ap, sym, subst, inl, inr, ⊎_elim, false, true}
use Rattle.std.specs.Prelude.{Option, Some, None, Result, Ok, Err, option_map}
use Rattle.std.proofs.lemmas.Option.{same_Some}
use Rattle.first_rows.specs.Creation.{first_point}
use Rattle.first_rows.specs.Parts.{SpecParts}
use Rattle.kadm_commands.specs.declared.replies.Reply.TheVariants.{Done}
use Rattle.kadm_replies.specs.Replies.{reply_text}
use Rattle.kadm_loading.specs.Halts.{SparesOutput}
use Rattle.session_base.specs.Draws.{Draws, block_in, moment_in}
use Rattle.session_base.specs.declared.halts.SessionHalt.{SessionHalt}
use Rattle.kadm_top.specs.Openings.{ABlock, Ends, Makes, NoDraw, Opening, Refuses}
use Rattle.kadm_top.specs.Openings.{ReadsInput, behind, create_of, destroy_of}
use Rattle.kadm_top.specs.Run.{AreDrawn, HasRun, IfTold, IsErased, IsMade, MakesStop, RunEnd, RunEndsAs}
use Rattle.kadm_top.specs.Run.{RunLeaves, Told, end_made, ended_text, made_line, place_made, refusal_line}
use Rattle.kadm_top.proofs.Running.{cut_refusal_run, idle_run, refused_run}
use Rattle.kdb_base.specs.Moment.{Moment}
use Rattle.kdb_base.specs.declared.outcomes.Refusal.{Refusal}
use Rattle.kdb_base.specs.declared.outcomes.Refusal.TheVariants.{AlreadyThere}
use Rattle.kdb_base.specs.declared.outcomes.Stop.{Stop}
use Rattle.kdb_base.specs.declared.outcomes.Stop.TheVariants as stop
use Rattle.kdb_control.specs.Choice.{Choice}
use Rattle.kdb_control.specs.declared.force.Force.{Force}
use Rattle.kdb_control.specs.declared.force.Force.TheVariants.{Nothing, Is, Broken}
use Rattle.kdb_disk.specs.Files.{Files}
use Rattle.kdb_disk.specs.Moments.{Keeps, LeavesOnly}
use Rattle.kdb_disk.specs.View.{View}
use Rattle.kdb_disk.proofs.Runs.{at_end, weaken}
use Rattle.kdb_places.specs.Places.{Place}
use Rattle.kdb_ports.specs.Parts.{SaidPart}
use Rattle.kdb_ports.specs.Told.{after_told}
use Rattle.primary_core.specs.Opening.{first_control, first_file, first_place}
use Rattle.store_files.specs.Kept.{IsOnDisk, Kept, place_kept}
use Rattle.store_files.specs.Recovery.{Creates, Destroys, RecoversTo}
use Rattle.store_opening.specs.Made.{AnswersMade}
use Rattle.store_opening.specs.Moments.{HasFile}
use Rattle.store_switches.specs.Ending.{AnswersEnded, IsChosen, RefusesEnd}

-- ---- a database that is made

there_as : (spec : SpecParts) (force : Force) → force ≢ Nothing → create_of spec force ≡ Refuses AlreadyThere ABlock
there_as spec Nothing other = absurd (other refl)
there_as spec (Is choice) other = refl
there_as spec (Broken place) other = refl

is_nothing : (force : Force) → (force ≡ Nothing) ⊎ (force ≢ Nothing)
is_nothing Nothing = inl refl
is_nothing (Is choice) = inr (λ e. absurd cc)
is_nothing (Broken place) = inr (λ e. absurd cc)

-- what was drawn is what came next
made_place : (spec : SpecParts) (draws : Draws) (now : Moment) (random : List ℕ)
    → (now ≡ moment_in draws) × (random ≡ block_in draws) → first_place spec now random ≡ place_made spec draws
made_place spec draws now random drawn = ap (λ (m : Moment). first_place spec m random) drawn.0
    ∙ ap (λ (bytes : List ℕ). first_place spec (moment_in draws) bytes) drawn.1

made_files : {now : View} (spec : SpecParts) (draws : Draws) (moment : Moment) (random : List ℕ)
    → (moment ≡ moment_in draws) × (random ≡ block_in draws) → IsMade spec moment random now
    → IsMade spec (moment_in draws) (block_in draws) now
made_files {now} spec draws moment random drawn made =
    subst (λ (bytes : List ℕ). IsMade spec (moment_in draws) bytes now) drawn.1
    (subst (λ (m : Moment). IsMade spec m random now) drawn.0 made)

-- the files of what was created
pub made_on : {now : View} (k : Kept) (spec : SpecParts) (moment : Moment) (random : List ℕ) → IsOnDisk k now
    → RecoversTo (place_kept k) now → place_kept k ≡ first_place spec moment random
    → k.control ≡ first_control spec moment → HasFile 1 (first_file spec moment random) now
    → IsMade spec moment random now
made_on {now} k spec moment random on recovers place control written = record {
  place = subst (λ (p : Place). RecoversTo p now) place recovers;
  control = λ c image. (on.stands.each c image).force ∙ ap (λ (x : Choice). Is x) control;
  written = written;
}

made_reply : (draws : Draws) (now : Moment) → now ≡ moment_in draws
    → reply_text (Done (first_point now)) ≡ made_line draws
made_reply draws now is = ap (λ (m : Moment). reply_text (Done (first_point m))) is

making_leaves : {old now : View} (before : Told) (spec : SpecParts) (moment : Moment) (random : List ℕ)
    → AreDrawn before.draws moment random
    → LeavesOnly old now (Creates old (first_place spec moment random))
    → LeavesOnly old now (RunLeaves (Makes spec) old before)
making_leaves {old} {now} before spec moment random drawn run =
    weaken run (λ c creates. by before.draws drawn c creates)
  where
    by : (d : Option Draws) → AreDrawn d moment random → (c : Files) → Creates old (first_place spec moment random) c
        → IfTold d (λ draws. Creates old (place_made spec draws) c)
    by None a c creates = tt
    by (Some draws) a c creates = subst (λ (p : Place). Creates old p c) (made_place spec draws moment random a) creates

-- it was made, and its point was written
makes_run : {old now : View} {before after : Told} (spec : SpecParts) (moment : Moment) (random : List ℕ)
    → AreDrawn before.draws moment random
    → LeavesOnly old now (Creates old (first_place spec moment random)) → IsMade spec moment random now
    → after.taken ≡ after_told before.taken (reply_text (Done (first_point moment)))
    → after.draws ≡ behind ABlock before.draws
    → HasRun (Makes spec) old now before after (Ok false)
makes_run {old} {now} {before} {after} spec moment random drawn run made said_it draws = record {
  ended = λ end e. by before.draws drawn draws end e;
  stopped = tt;
  rests = tt;
  moments = making_leaves before spec moment random drawn run;
  read = λ no. absurd no;
}
  where
    by : (d : Option Draws) → AreDrawn d moment random → after.draws ≡ behind ABlock d → (end : RunEnd)
        → option_map (end_made spec before.taken) d ≡ Some end → RunEndsAs after.taken false after.draws old now end
    by None a is end e = absurd cc
    by (Some told) a is end e =
        subst (λ (x : RunEnd). RunEndsAs after.taken false after.draws old now x) (same_Some _ _ e)
        (record {
          out_is = said_it ∙ ap (after_told before.taken) (made_reply told moment a.0);
          refused_is = refl;
          stands = made_files spec told moment random a made;
          draws_are = is;
        })

-- it was made, and not all of its point was written
cut_makes_run : {old now : View} {before after : Told} (spec : SpecParts) (moment : Moment) (random : List ℕ)
    (halt : SessionHalt) → AreDrawn before.draws moment random
    → LeavesOnly old now (Creates old (first_place spec moment random)) → IsMade spec moment random now
    → SaidPart (reply_text (Done (first_point moment))) before.taken after.taken → (SparesOutput halt → ⊥)
    → HasRun (Makes spec) old now before after (Err halt)
cut_makes_run {old} {now} {before} {after} spec moment random halt drawn run made part fault = record {
  ended = λ end e. tt;
  stopped = by before.draws drawn;
  rests = λ is. absurd (fault is);
  moments = making_leaves before spec moment random drawn run;
  read = λ no. absurd no;
}
  where
    by : (d : Option Draws) → AreDrawn d moment random
        → IfTold d (λ draws. MakesStop spec old before.taken draws after.taken now)
    by None a = tt
    by (Some told) a = inr (
      subst (λ (text : List ℕ). SaidPart text before.taken after.taken) (made_reply told moment a.0) part,
      made_files spec told moment random a made,
    )

-- its making was stopped
halted_makes_run : {old now : View} {before after : Told} (spec : SpecParts) (moment : Moment) (random : List ℕ)
    (halt : SessionHalt) → AreDrawn before.draws moment random
    → LeavesOnly old now (Creates old (first_place spec moment random)) → after.taken ≡ before.taken
    → (SparesOutput halt → Keeps old now)
    → HasRun (Makes spec) old now before after (Err halt)
halted_makes_run {old} {now} {before} {after} spec moment random halt drawn run nothing rest = record {
  ended = λ end e. tt;
  stopped = by before.draws drawn;
  rests = λ is. (nothing, rest is);
  moments = making_leaves before spec moment random drawn run;
  read = λ no. absurd no;
}
  where
    by : (d : Option Draws) → AreDrawn d moment random
        → IfTold d (λ draws. MakesStop spec old before.taken draws after.taken now)
    by None a = tt
    by (Some told) a = inl (
      nothing,
      record {
        each = λ c image.
            subst (λ (p : Place). Creates old p c) (made_place spec told moment random a) (at_end run c image);
      },
    )

pub create_made : {old now : View} {before after : Told} (spec : SpecParts) (force : Force) (moment : Moment)
    (random : List ℕ) → AreDrawn before.draws moment random
    → force ≡ Nothing
    → LeavesOnly old now (Creates old (first_place spec moment random)) → IsMade spec moment random now
    → after.taken ≡ after_told before.taken (reply_text (Done (first_point moment)))
    → after.draws ≡ behind ABlock before.draws
    → HasRun (create_of spec force) old now before after (Ok false)
create_made {old} {now} {before} {after} spec force moment random drawn answer run made said_it draws =
    subst (λ (f : Force). HasRun (create_of spec f) old now before after (Ok false)) (sym answer)
    (makes_run spec moment random drawn run made said_it draws)

pub create_cut : {old now : View} {before after : Told} (spec : SpecParts) (force : Force) (moment : Moment)
    (random : List ℕ) (halt : SessionHalt) → AreDrawn before.draws moment random
    → force ≡ Nothing
    → LeavesOnly old now (Creates old (first_place spec moment random)) → IsMade spec moment random now
    → SaidPart (reply_text (Done (first_point moment))) before.taken after.taken → (SparesOutput halt → ⊥)
    → HasRun (create_of spec force) old now before after (Err halt)
create_cut {old} {now} {before} {after} spec force moment random halt drawn answer run made part fault =
    subst (λ (f : Force). HasRun (create_of spec f) old now before after (Err halt)) (sym answer)
    (cut_makes_run spec moment random halt drawn run made part fault)

pub create_halted : {old now : View} {before after : Told} (spec : SpecParts) (force : Force) (moment : Moment)
    (random : List ℕ) (halt : SessionHalt) → AreDrawn before.draws moment random
    → LeavesOnly old now (Creates old (first_place spec moment random)) → (force ≢ Nothing → Keeps old now)
    → after.taken ≡ before.taken → (SparesOutput halt → Keeps old now)
    → HasRun (create_of spec force) old now before after (Err halt)
create_halted {old} {now} {before} {after} spec force moment random halt drawn run there nothing rest =
    ⊎_elim
    (λ none. subst (λ (f : Force). HasRun (create_of spec f) old now before after (Err halt)) (sym none)
    (halted_makes_run spec moment random halt drawn run nothing rest))
    (λ other. idle_run (create_of spec force) halt (there other) nothing)
    (is_nothing force)

-- one is there already
create_refuses : {A : Type 0} (answer : Result A Stop) (spec : SpecParts) (force : Force) (refusal : Refusal)
    → answer ≡ Err (stop.Refused refusal) → AnswersMade answer force
    → create_of spec force ≡ Refuses refusal ABlock
create_refuses {A} answer spec force refusal is made_or =
    let why = subst (λ (a : Result A Stop). AnswersMade a force) is made_or in
    there_as spec force why.1 ∙ ap (λ (r : Refusal). Refuses r ABlock) (sym why.0)

pub create_refused : {A : Type 0} {old now : View} {before after : Told} (answer : Result A Stop) (spec : SpecParts)
    (force : Force) (refusal : Refusal)
    → answer ≡ Err (stop.Refused refusal) → AnswersMade answer force → Keeps old now
    → after.taken ≡ after_told before.taken (refusal_line refusal) → after.draws ≡ behind ABlock before.draws
    → HasRun (create_of spec force) old now before after (Ok true)
create_refused {A} {old} {now} {before} {after} answer spec force refusal is made_or keeps said_it draws =
    subst (λ (o : Opening). HasRun o old now before after (Ok true))
    (sym (create_refuses answer spec force refusal is made_or)) (refused_run refusal ABlock said_it draws keeps)

pub create_refusal_cut : {A : Type 0} {old now : View} {before after : Told} (answer : Result A Stop) (spec : SpecParts)
    (force : Force) (refusal : Refusal) (halt : SessionHalt)
    → answer ≡ Err (stop.Refused refusal) → AnswersMade answer force → Keeps old now
    → SaidPart (refusal_line refusal) before.taken after.taken → (SparesOutput halt → after.taken ≡ before.taken)
    → HasRun (create_of spec force) old now before after (Err halt)
create_refusal_cut {A} {old} {now} {before} {after} answer spec force refusal halt is made_or keeps part nothing =
    subst (λ (o : Opening). HasRun o old now before after (Err halt))
    (sym (create_refuses answer spec force refusal is made_or)) (cut_refusal_run refusal ABlock halt part keeps nothing)

-- ---- a database that is ended

chosen_ends : (force : Force) → IsChosen force → destroy_of force ≡ Ends
chosen_ends Nothing chosen = absurd chosen
chosen_ends (Is choice) chosen = refl
chosen_ends (Broken place) chosen = absurd chosen

end_refuses_for : (force : Force) (refusal : Refusal) → RefusesEnd force refusal
    → destroy_of force ≡ Refuses refusal NoDraw
end_refuses_for Nothing refusal is = ap (λ (r : Refusal). Refuses r NoDraw) (sym is)
end_refuses_for (Is choice) refusal is = absurd is
end_refuses_for (Broken place) refusal is = ap (λ (r : Refusal). Refuses r NoDraw) (sym is)

end_refuses : {A : Type 0} (answer : Result A Stop) (force : Force) (refusal : Refusal)
    → answer ≡ Err (stop.Refused refusal) → AnswersEnded answer force → destroy_of force ≡ Refuses refusal NoDraw
end_refuses {A} answer force refusal is ended_or =
    end_refuses_for force refusal (subst (λ (a : Result A Stop). AnswersEnded a force) is ended_or)

ends_run : {old now : View} {before after : Told} → LeavesOnly old now (Destroys old) → IsErased now
    → after.taken ≡ after_told before.taken ended_text → after.draws ≡ before.draws
    → HasRun Ends old now before after (Ok false)
ends_run {old} {now} {before} {after} run none said_it draws = record {
  ended = λ end e. subst (λ (x : RunEnd). RunEndsAs after.taken false after.draws old now x) (same_Some _ _ e)
      (record { out_is = said_it; refused_is = refl; stands = none; draws_are = draws });
  stopped = tt;
  rests = tt;
  moments = run;
  read = λ no. absurd no;
}

cut_ends_run : {old now : View} {before after : Told} (halt : SessionHalt) → LeavesOnly old now (Destroys old)
    → IsErased now
    → SaidPart ended_text before.taken after.taken → (SparesOutput halt → ⊥)
    → HasRun Ends old now before after (Err halt)
cut_ends_run halt run none part fault = record {
  ended = λ end e. tt;
  stopped = inr (part, none);
  rests = λ is. absurd (fault is);
  moments = run;
  read = λ no. absurd no;
}

halted_ends_run : {old now : View} {before after : Told} (halt : SessionHalt) → LeavesOnly old now (Destroys old)
    → after.taken ≡ before.taken → (SparesOutput halt → ⊥)
    → HasRun Ends old now before after (Err halt)
halted_ends_run halt run nothing fault = record {
  ended = λ end e. tt;
  stopped = inl (nothing, record { each = λ c image. at_end run c image });
  rests = λ is. absurd (fault is);
  moments = run;
  read = λ no. absurd no;
}

pub end_done : {old now : View} {before after : Told} (force : Force) → IsChosen force
    → LeavesOnly old now (Destroys old) → IsErased now
    → after.taken ≡ after_told before.taken ended_text → after.draws ≡ before.draws
    → HasRun (destroy_of force) old now before after (Ok false)
end_done {old} {now} {before} {after} force chosen run none said_it draws =
    subst (λ (o : Opening). HasRun o old now before after (Ok false)) (sym (chosen_ends force chosen))
    (ends_run run none said_it draws)

pub end_cut : {old now : View} {before after : Told} (force : Force) (halt : SessionHalt) → IsChosen force
    → LeavesOnly old now (Destroys old) → IsErased now
    → SaidPart ended_text before.taken after.taken → (SparesOutput halt → ⊥)
    → HasRun (destroy_of force) old now before after (Err halt)
end_cut {old} {now} {before} {after} force halt chosen run none part fault =
    subst (λ (o : Opening). HasRun o old now before after (Err halt)) (sym (chosen_ends force chosen))
    (cut_ends_run halt run none part fault)

pub end_halted : {old now : View} {before after : Told} (force : Force) (halt : SessionHalt)
    → LeavesOnly old now (Destroys old) → ((IsChosen force → ⊥) → Keeps old now)
    → after.taken ≡ before.taken → (SparesOutput halt → ⊥) → HasRun (destroy_of force) old now before after (Err halt)
end_halted Nothing halt run unchosen nothing fault = idle_run (destroy_of Nothing) halt (unchosen (λ no. no)) nothing
end_halted (Is choice) halt run unchosen nothing fault = halted_ends_run halt run nothing fault
end_halted (Broken place) halt run unchosen nothing fault =
    idle_run (destroy_of (Broken place)) halt (unchosen (λ no. no)) nothing

pub end_refused : {A : Type 0} {old now : View} {before after : Told} (answer : Result A Stop) (force : Force)
    (refusal : Refusal) → answer ≡ Err (stop.Refused refusal) → AnswersEnded answer force → Keeps old now
    → after.taken ≡ after_told before.taken (refusal_line refusal) → after.draws ≡ before.draws
    → HasRun (destroy_of force) old now before after (Ok true)
end_refused {A} {old} {now} {before} {after} answer force refusal is ended_or keeps said_it draws =
    subst (λ (o : Opening). HasRun o old now before after (Ok true))
    (sym (end_refuses answer force refusal is ended_or)) (refused_run refusal NoDraw said_it draws keeps)

pub end_refusal_cut : {A : Type 0} {old now : View} {before after : Told} (answer : Result A Stop) (force : Force)
    (refusal : Refusal) (halt : SessionHalt)
    → answer ≡ Err (stop.Refused refusal) → AnswersEnded answer force → Keeps old now
    → SaidPart (refusal_line refusal) before.taken after.taken → (SparesOutput halt → after.taken ≡ before.taken)
    → HasRun (destroy_of force) old now before after (Err halt)
end_refusal_cut {A} {old} {now} {before} {after} answer force refusal halt is ended_or keeps part nothing =
    subst (λ (o : Opening). HasRun o old now before after (Err halt))
    (sym (end_refuses answer force refusal is ended_or)) (cut_refusal_run refusal NoDraw halt part keeps nothing)

-- ---- words that read no input

pub create_unread : (spec : SpecParts) (force : Force) → ReadsInput (create_of spec force) → ⊥
create_unread spec Nothing r = r
create_unread spec (Is choice) r = r
create_unread spec (Broken place) r = r

pub destroy_unread : (force : Force) → ReadsInput (destroy_of force) → ⊥
destroy_unread Nothing r = r
destroy_unread (Is choice) r = r
destroy_unread (Broken place) r = r
