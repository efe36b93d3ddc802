-- Runs by their openings: refused, opened, or not begun.
use Rattle.std.proofs.Common.{◌≡◌, ◌∙◌, ◌⊎◌, ℕ, List, refl, sym, subst, inl, inr, Bool, true, false}
use Rattle.std.specs.Prelude.{Option, Some, None, Result, Ok, Err, IfErr, IfOk, OnErr, OnOk, option_map}
use Rattle.std.proofs.lemmas.Option.{same_Some}
use Rattle.first_rows.specs.Parts.{SpecParts}
use Rattle.kadm_loading.specs.Halts.{SparesOutput}
use Rattle.session_base.specs.Wholes.{IsReadWhole}
use Rattle.kadm_session.specs.Courses.{Ending, IsAtRest, ending}
use Rattle.session_base.specs.Draws.{Draws}
use Rattle.session_base.specs.Halts.{disk_as_session}
use Rattle.kadm_keytabs.specs.declared.answers.Answer.{Answer}
use Rattle.session_base.specs.declared.halts.SessionHalt.{SessionHalt}
use Rattle.kadm_session.specs.declared.intake.Asked.{Asked}
use Rattle.session_base.specs.declared.halts.SessionHalt.TheVariants as session
use Rattle.kadm_top.specs.Openings.{Adds, AddsNew, AMoment, ABlock, Drawn, Ends, Filters, IsInput}
use Rattle.kadm_top.specs.Openings.{Loads, Makes, NoDraw, Opening, Opens, Refuses, Tells, behind}
use Rattle.kadm_top.specs.Run.{HasCourse, HasRun, IfTold, IsFront, IsSame, LeavesAll, MakesStop}
use Rattle.kadm_top.specs.Run.{OpensPart, RunEnd, RunEndsAs, RunLeaves, RunRests, RunStops, Stays}
use Rattle.kadm_top.specs.Run.{Told, begun_at, course_behind, end_opened, place_made, refusal_line}
use Rattle.kadm_top.specs.Statuses.{IsSayHalt}
use Rattle.kdb_base.specs.declared.outcomes.Halt.{Halt}
use Rattle.kdb_base.specs.declared.outcomes.Halt.TheVariants as disk
use Rattle.kdb_base.specs.declared.outcomes.Refusal.{Refusal}
use Rattle.kdb_disk.specs.Files.{Files}
use Rattle.kdb_disk.specs.Moments.{Keeps, LeavesOnly}
use Rattle.kdb_disk.specs.View.{View}
use Rattle.kdb_disk.proofs.Runs.{at_end, then_on, weaken}
use Rattle.kdb_histories.specs.Seen.{Seen}
use Rattle.kdb_places.specs.Places.{Place}
use Rattle.kdb_ports.specs.Parts.{SaidPart}
use Rattle.kdb_ports.specs.Told.{after_told}
use Rattle.kdb_ports.proofs.Told.{after_told-nil}
use Rattle.store_files.specs.Recovery.{Creates, IsLike}

-- ---- what stays

-- an image of before is like itself
pub like_itself : {old : View} (c : Files) → old.images c → IsLike old c
like_itself c image = record { before = c; was = image; same = refl }

pub keeps_like : {old now : View} → Keeps old now → LeavesOnly old now (IsLike old)
keeps_like keeps = weaken keeps.leaves (λ c image. like_itself c image)

pub keeps_same : {old now : View} (drawn : Drawn) → Keeps old now → IsSame drawn old now
keeps_same NoDraw keeps = keeps
keeps_same AMoment keeps = keeps_like keeps
keeps_same ABlock keeps = keeps

pub same_leaves : {old now : View} (drawn : Drawn) → IsSame drawn old now → LeavesOnly old now (IsLike old)
same_leaves NoDraw same = keeps_like same
same_leaves AMoment same = same
same_leaves ABlock same = keeps_like same

stays_leaves : {old now : View} (drawn : Drawn) → Stays drawn old now → LeavesOnly old now (IsLike old)
stays_leaves NoDraw stays = keeps_like stays
stays_leaves AMoment stays = stays.leaves
stays_leaves ABlock stays = keeps_like stays

-- nothing was written
pub said_nothing : (text : List ℕ) (old new : Option (List ℕ)) → new ≡ old → SaidPart text old new
said_nothing text old new is = record { count = 0; part = is ∙ sym (after_told-nil old) }

pub all_at_end : {old now : View} {P : Files → Type 0} → LeavesOnly old now P → LeavesAll P now
all_at_end run = record { each = λ c image. at_end run c image }

-- of the two ends of a call of the disk, the one by which the disk did not fail is want of memory
pub spares_for_memory : (h : Halt) (halt : SessionHalt) → halt ≡ disk_as_session h → SparesOutput halt
    → h ≡ disk.MemoryOut
spares_for_memory disk.MemoryOut halt is spares = refl
spares_for_memory disk.DiskFault halt is spares = absurd (subst SparesOutput is spares)

-- no disk fails while a refusal is written
pub says_no_disk : {P : Type 0} (halt : SessionHalt) → IsSayHalt halt
    → ◌≡◌ {A = Result Bool SessionHalt} (Err halt) (Err session.DiskFault) → P
says_no_disk session.MemoryOut says e = absurd cc
says_no_disk session.WriteFault says e = absurd cc
says_no_disk session.ReadFault says e = absurd says
says_no_disk session.DiskFault says e = absurd says
says_no_disk session.DrawFault says e = absurd says
says_no_disk session.InputTooLong says e = absurd says

-- ---- a refusal

pub refused_run : {old now : View} {before after : Told} (why : Refusal) (drawn : Drawn)
    → after.taken ≡ after_told before.taken (refusal_line why) → after.draws ≡ behind drawn before.draws
    → Stays drawn old now
    → HasRun (Refuses why drawn) old now before after (Ok true)
refused_run {old} {now} {before} {after} why drawn said_it draws stays = record {
  ended = λ end e. subst (λ (x : RunEnd). RunEndsAs after.taken true after.draws old now x) (same_Some _ _ e)
      (record { out_is = said_it; refused_is = refl; stands = stays; draws_are = draws });
  stopped = tt;
  rests = tt;
  moments = stays_leaves drawn stays;
  read = λ no. absurd no;
}

-- of which not all was written
pub cut_refusal_run : {old now : View} {before after : Told} (why : Refusal) (drawn : Drawn) (halt : SessionHalt)
    → SaidPart (refusal_line why) before.taken after.taken → IsSame drawn old now
    → (SparesOutput halt → after.taken ≡ before.taken)
    → HasRun (Refuses why drawn) old now before after (Err halt)
cut_refusal_run {old} {now} {before} {after} why drawn halt part same nothing = record {
  ended = λ end e. tt;
  stopped = (part, same);
  rests = λ is. (nothing is, same);
  moments = same_leaves drawn same;
  read = λ no. absurd no;
}

-- ---- a text

-- it was told
pub text_run : {old now : View} {before after : Told} (text : List ℕ) (drawn : Drawn)
    → after.taken ≡ after_told before.taken text → after.draws ≡ behind drawn before.draws → Stays drawn old now
    → HasRun (Tells text drawn) old now before after (Ok false)
text_run {old} {now} {before} {after} text drawn said_it draws stays = record {
  ended = λ end e. subst (λ (x : RunEnd). RunEndsAs after.taken false after.draws old now x) (same_Some _ _ e)
      (record { out_is = said_it; refused_is = refl; stands = stays; draws_are = draws });
  stopped = tt;
  rests = tt;
  moments = stays_leaves drawn stays;
  read = λ no. absurd no;
}

-- of which not all was written
pub cut_text_run : {old now : View} {before after : Told} (text : List ℕ) (drawn : Drawn) (halt : SessionHalt)
    → SaidPart text before.taken after.taken → IsSame drawn old now
    → HasRun (Tells text drawn) old now before after (Err halt)
cut_text_run {old} {now} {before} {after} text drawn halt part same = record {
  ended = λ end e. tt;
  stopped = (part, same);
  rests = λ spares. (part, same);
  moments = same_leaves drawn same;
  read = λ no. absurd no;
}

-- a text that is told with no draw, whether all of it was written or not
pub generated_run : {old now : View} {before after : Told} (r : Result Bool SessionHalt) (text : List ℕ)
    → IfOk r (λ refused. (refused ≡ false) × (after.taken ≡ after_told before.taken text))
    → OnErr r (SaidPart text before.taken after.taken)
    → after.draws ≡ before.draws → Keeps old now
    → HasRun (Tells text NoDraw) old now before after r
generated_run {old} {now} {before} {after} (Ok refused) text said_it part draws keeps =
    subst (λ (b : Bool). HasRun (Tells text NoDraw) old now before after (Ok b)) (sym said_it.0)
    (text_run text NoDraw said_it.1 draws keeps)
generated_run {old} {now} {before} {after} (Err halt) text said_it part draws keeps =
    cut_text_run text NoDraw halt part keeps

-- ---- a run that did nothing

made_idle : {old now : View} (spec : SpecParts) (draws : Option Draws) (taken out : Option (List ℕ)) → Keeps old now
    → out ≡ taken → IfTold draws (λ d. MakesStop spec old taken d out now)
made_idle spec None taken out keeps is = tt
made_idle {old} {now} spec (Some draws) taken out keeps is =
    inl (is, all_at_end (weaken (keeps_like keeps) (λ c like. inl like)))

made_like : {old : View} (spec : SpecParts) (draws : Option Draws) (c : Files) → IsLike old c
    → IfTold draws (λ d. Creates old (place_made spec d) c)
made_like spec None c like = tt
made_like spec (Some draws) c like = inl like

no_front : (what : Option Answer) (taken out : Option (List ℕ)) → out ≡ taken → IsFront what taken out
no_front None taken out is = tt
no_front (Some answer) taken out is = said_nothing answer.text taken out is

idle_stops : {old now : View} (before : Told) (o : Opening) (out : Option (List ℕ)) → Keeps old now → out ≡ before.taken
    → RunStops o old before out now
idle_stops {old} {now} before (Refuses why drawn) out keeps is =
    (said_nothing (refusal_line why) before.taken out is, keeps_same drawn keeps)
idle_stops before (Opens begin made at asked) out keeps is =
    inr (is, all_at_end (weaken (keeps_like keeps) (λ c like. inl like)))
idle_stops before (Loads begin made at what) out keeps is =
    inr (is, all_at_end (weaken (keeps_like keeps) (λ c like. inl like)))
idle_stops before (Adds begin made at reads what) out keeps is =
    inr (is, all_at_end (weaken (keeps_like keeps) (λ c like. inl like)))
idle_stops before (AddsNew begin made at reads what) out keeps is =
    inr (is, all_at_end (weaken (keeps_like keeps) (λ c like. inl like)))
idle_stops before (Filters what) out keeps is = (no_front what before.taken out is, keeps)
idle_stops {old} {now} before (Tells text drawn) out keeps is =
    (said_nothing text before.taken out is, keeps_same drawn keeps)
idle_stops {old} {now} before (Makes spec) out keeps is = made_idle spec before.draws before.taken out keeps is
idle_stops before Ends out keeps is = inl (is, all_at_end (weaken (keeps_like keeps) (λ c like. inl like)))

idle_rests : {old now : View} (begun : List Asked → Place → List ℕ) (before : Told) (o : Opening)
    (out : Option (List ℕ)) → Keeps old now → out ≡ before.taken → RunRests begun o old before out now
idle_rests begun before (Refuses why drawn) out keeps is = (is, keeps_same drawn keeps)
idle_rests begun before (Opens begin made at asked) out keeps is =
    inr (is, all_at_end (weaken (keeps_like keeps) (λ c like. inl like)))
idle_rests begun before (Loads begin made at what) out keeps is =
    (is, all_at_end (weaken (keeps_like keeps) (λ c like. inl like)))
idle_rests begun before (Adds begin made at reads what) out keeps is =
    (is, all_at_end (weaken (keeps_like keeps) (λ c like. inl like)))
idle_rests begun before (AddsNew begin made at reads what) out keeps is =
    (is, all_at_end (weaken (keeps_like keeps) (λ c like. inl like)))
idle_rests begun before (Filters what) out keeps is = (is, keeps)
idle_rests begun before (Tells text drawn) out keeps is =
    (said_nothing text before.taken out is, keeps_same drawn keeps)
idle_rests begun before (Makes spec) out keeps is = (is, keeps)
idle_rests begun before Ends out keeps is = (is, keeps)

idle_leaves : {old now : View} (before : Told) (o : Opening) → Keeps old now
    → LeavesOnly old now (RunLeaves o old before)
idle_leaves before (Refuses why drawn) keeps = keeps_like keeps
idle_leaves before (Opens begin made at asked) keeps = weaken (keeps_like keeps) (λ c like. inl (inl like))
idle_leaves before (Loads begin made at what) keeps = weaken (keeps_like keeps) (λ c like. inl (inl like))
idle_leaves before (Adds begin made at reads what) keeps = weaken (keeps_like keeps) (λ c like. inl like)
idle_leaves before (AddsNew begin made at reads what) keeps = weaken (keeps_like keeps) (λ c like. inl (inl like))
idle_leaves before (Filters what) keeps = keeps_like keeps
idle_leaves before (Tells text drawn) keeps = keeps_like keeps
idle_leaves before (Makes spec) keeps = weaken (keeps_like keeps) (λ c like. made_like spec before.draws c like)
idle_leaves before Ends keeps = weaken (keeps_like keeps) (λ c like. inl like)

pub idle_run : {old now : View} {before after : Told} (o : Opening) (halt : SessionHalt) → Keeps old now
    → after.taken ≡ before.taken → HasRun o old now before after (Err halt)
idle_run {old} {now} {before} {after} o halt keeps is = record {
  ended = λ end e. tt;
  stopped = idle_stops before o after.taken keeps is;
  rests = λ at. idle_rests (begun_at halt) before o after.taken keeps is;
  moments = idle_leaves before o keeps;
  read = λ reads. tt;
}

-- ---- a database that was opened

-- the opening was stopped
pub unopened_run : {old now : View} {before after : Told} (begin : Place) (made : List Place) (at : Seen)
    (asked : Option Asked) (halt : SessionHalt)
    → LeavesOnly old now (OpensPart old begin made) → after.taken ≡ before.taken
    → HasRun (Opens begin made at asked) old now before after (Err halt)
unopened_run begin made at asked halt run is = record {
  ended = λ end e. tt;
  stopped = inr (is, all_at_end run);
  rests = λ at_rest. inr (is, all_at_end run);
  moments = weaken run (λ c part. inl part);
  read = λ reads. tt;
}

-- an end at a place does not speak of the disk of before
end_over : {out : Option (List ℕ)} {refused : Bool} {draws : Option Draws} {now : View} (mid old : View) (e : Ending)
    → RunEndsAs out refused draws mid now (end_opened e) → RunEndsAs out refused draws old now (end_opened e)
end_over mid old e ends =
    record { out_is = ends.out_is; refused_is = ends.refused_is; stands = ends.stands; draws_are = ends.draws_are }

ended_over : (out : Option (List ℕ)) (draws : Option Draws) (now mid old : View)
    (r : Result Bool SessionHalt) (e : Ending)
    → IfOk r (λ refused. RunEndsAs out refused draws mid now (end_opened e))
    → IfOk r (λ refused. RunEndsAs out refused draws old now (end_opened e))
ended_over out draws now mid old (Ok refused) e ends = end_over mid old e ends
ended_over out draws now mid old (Err halt) e ends = tt

stopped_over : (P Q : Type 0) (r : Result Bool SessionHalt) → OnErr r P → OnErr r (P ⊎ Q)
stopped_over P Q (Ok refused) p = tt
stopped_over P Q (Err halt) p = inl p

rests_over : (P : SessionHalt → Type 0) (Q : Type 0) (r : Result Bool SessionHalt)
    → IfErr r (λ halt. SparesOutput halt → P halt) → IfErr r (λ halt. SparesOutput halt → P halt ⊎ Q)
rests_over P Q (Ok refused) rests = tt
rests_over P Q (Err halt) rests = λ spares. inl (rests spares)

-- its input went its course
pub opened_run : {old mid now : View} {before after : Told} {result : Result Bool SessionHalt} (begin : Place)
    (made : List Place) (at : Seen) (asked : Option Asked)
    → LeavesOnly old mid (OpensPart old begin made)
    → HasCourse (course_behind asked before at) mid now after result
    → (IsInput asked → OnOk result (IsReadWhole before.left after.left))
    → HasRun (Opens begin made at asked) old now before after result
opened_run {old} {mid} {now} {before} {after} {result} begin made at asked opening course whole = record {
  ended = λ end e. by (ending (course_behind asked before at)) course.ended end e;
  stopped = stopped_over _ _ result course.stopped;
  rests = rests_over (λ halt. IsAtRest (begun_at halt) (course_behind asked before at) after.taken now) _
      result course.rests;
  moments = then_on (weaken opening (λ c part. inl part)) course.moments (λ c leaves. inr leaves);
  read = λ reads. whole reads;
}
  where
    by : (o : Option Ending)
        → ((x : Ending) → o ≡ Some x
        → IfOk result (λ refused. RunEndsAs after.taken refused after.draws mid now (end_opened x))) → (end : RunEnd)
        → option_map end_opened o ≡ Some end
        → IfOk result (λ refused. RunEndsAs after.taken refused after.draws old now end)
    by None f end e = absurd cc
    by (Some x) f end e =
        subst (λ (y : RunEnd). IfOk result (λ refused. RunEndsAs after.taken refused after.draws old now y))
        (same_Some _ _ e) (ended_over after.taken after.draws now mid old result x (f x refl))
