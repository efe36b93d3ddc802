-- What is done where nothing is refused and nothing stops it.
use Rattle.std.proofs.Common.{◌≡◌, ◌∙◌, ◌<◌, ◌+◌, ◌⊎◌, ℕ, Bool, true, false, List, Option, Some, None, inl, inr}
use Rattle.std.proofs.Common.{Result, Ok, Err, length, refl, sym, ap, subst, arith}
use Rattle.std.proofs.lemmas.Option.{same_Some}
use Rattle.std.specs.Prelude.{option_map}
use Rattle.first_rows.specs.Parts.{SpecParts}
use Rattle.kadm_commands.specs.declared.replies.Reply.{Reply}
use Rattle.kadm_keytabs.specs.Renewals.{Renewal}
use Rattle.kadm_keytabs.specs.declared.answers.Answer.{Answer}
use Rattle.kadm_loading.specs.Loads.{LoadEnd, is_refused}
use Rattle.kadm_session.specs.Courses.{course, end_with, ending, ending_by}
use Rattle.kadm_session.specs.Steps.{said}
use Rattle.kadm_session.specs.declared.intake.Asked.{Asked}
use Rattle.kadm_top.specs.Openings.{AMoment, Adds, AddsNew, Drawn, Ends, Filters, Loads, Makes, Opening, Opens}
use Rattle.kadm_top.specs.Openings.{Renewed, Tells, behind}
use Rattle.kadm_top.specs.Run.{RunEnd, RunEndsAs, Told, commands_for, end_made, end_opened, load_end, run_end}
use Rattle.kadm_top.specs.Statuses.{Faults, IsRun}
use Rattle.kdb_base.specs.Causes.{Rose}
use Rattle.kdb_base.specs.declared.outcomes.Halt.{Halt}
use Rattle.kdb_base.specs.declared.outcomes.Halt.TheVariants as halt
use Rattle.kdb_base.specs.declared.outcomes.Status.{Status}
use Rattle.kdb_base.specs.declared.outcomes.Status.TheVariants as status
use Rattle.kdb_base.specs.declared.versions.Master.{Master}
use Rattle.kdb_disk.specs.Files.{Files}
use Rattle.kdb_disk.specs.View.{View}
use Rattle.kdb_histories.proofs.Growing.{StaysValid}
use Rattle.kdb_histories.proofs.SiteRuns.{primary_holds}
use Rattle.kdb_histories.specs.Asks.{Commanded, Replied, commanded, outcome}
use Rattle.kdb_histories.specs.Calls.{Perform}
use Rattle.kdb_histories.specs.Histories.{IsStory}
use Rattle.kdb_histories.specs.Leaving.{Does}
use Rattle.kdb_histories.specs.Seen.{Seen}
use Rattle.kdb_histories.specs.Sites.{Site, Stands, state_of, story_of}
use Rattle.kdb_model.specs.Calls.{Call}
use Rattle.kdb_places.specs.Places.{Place}
use Rattle.master_keys.specs.Chain.{Lists}
use Rattle.primary_core.specs.Opening.{OpensAt, place_found}
use Rattle.primary_events.proofs.Opened.{found_at}
use Rattle.primary_events.specs.At.{StandsAt, StandsFor}
use Rattle.run_events.specs.Coming.{HasHistory}
use Rattle.run_events.specs.Completeness.{EndedTooLong, HasStashOf, IsCaused, IsDoneOrMemoryOut, IsPerformed}
use Rattle.run_events.specs.Completeness.{IsReplyOrMemoryOut, NothingFailed, NothingStopped}
use Rattle.run_events.specs.Completeness.{RefusesNothing, SaysNoRefusal}
use Rattle.run_events.specs.Completeness.{WasTooLong, model_reply}
use Rattle.session_base.specs.Draws.{Draws, behind_moment}
use Rattle.session_base.specs.Wholes.{WereTaken}
use Rattle.stash_file.specs.Stashes.{IsStash}
use Rattle.stash_file.specs.declared.keys.StashKey.{StashKey}
use Rattle.stash_opening.specs.Finding.{first_listed, keys_in, own_record}
use Rattle.store_files.specs.Found.{Found, found_in, place_in}

-- ---- a run

read_fault : (reads draws : Type 0) → (reads → ⊥) → (draws → ⊥) → reads ⊎ draws → ⊥
read_fault reads draws none other (inl rose) = none rose
read_fault reads draws none other (inr rose) = other rose

module _ (before after : Told) (o : Opening) (old now : View) (first last : Faults) where
  pub run_ended : (result : Status) → IsRun o old now before after result → IsCaused before after first last result
      → RefusesNothing o before → NothingFailed first last
      → IsDoneOrMemoryOut result ⊎ EndedTooLong before after result
  run_ended status.Done run caused nothing still = inl (inl refl)
  run_ended status.Refused run caused nothing still =
      let ends : RunEndsAs after.taken true after.draws old now nothing.end = run.ended nothing.end nothing.end_is in
      let both : true ≡ false = ends.refused_is ∙ nothing.none in
      absurd cc
  run_ended status.MemoryOut run caused nothing still = inl (inr refl)
  run_ended status.ReadFault run caused nothing still =
      absurd (read_fault (Rose first.reads last.reads) (Rose first.draws last.draws) still.reads still.draws
      (caused.faults.read refl))
  run_ended status.WriteFault run caused nothing still = absurd (still.writes (caused.faults.writes.cause refl))
  run_ended status.DiskFault run caused nothing still = absurd (still.calls (caused.faults.calls.cause refl))
  run_ended status.LinkFault run caused nothing still = absurd (caused.faults.no_link refl)
  run_ended status.InputTooLong run caused nothing still = inr (refl, caused.long refl)

  pub not_long : (result : Status) → (WasTooLong before after → ⊥)
      → IsDoneOrMemoryOut result ⊎ EndedTooLong before after result → IsDoneOrMemoryOut result
  not_long result short (inl ended) = ended
  not_long result short (inr long) = absurd (short long.1)

  pub run_done : (result : Status) → IsRun o old now before after result → IsCaused before after first last result
      → RefusesNothing o before → NothingStopped before after first last → IsDoneOrMemoryOut result
  run_done result run caused nothing still =
      not_long result still.short (run_ended result run caused nothing still.failed)

-- ---- what an input asks for

ending_told : (taken : Option (List ℕ)) (given : Option (List Asked)) (gives : Option Draws) (at : Seen)
    (commands : List Asked) (draws : Draws) → given ≡ Some commands → gives ≡ Some draws
    → ending (course taken false given gives at) ≡ Some (end_with taken false (said commands draws at))
unfolding ending
ending_told taken given gives at commands draws given_is gives_is =
    ap (λ (x : Option (List Asked)). ending_by taken false x gives at) given_is
    ∙ ap (λ (x : Option Draws). ending_by taken false (Some commands) x at) gives_is

pub nothing_refused : (begin : Place) (made : List Place) (at : Seen) (asked : Option Asked) (before : Told)
    → SaysNoRefusal asked before at → RefusesNothing (Opens begin made at asked) before
nothing_refused begin made at asked before says = record {
  end = end_opened (end_with before.taken false (said says.commands (behind_moment says.draws) at));
  end_is = ap (option_map end_opened)
      (ending_told before.taken (commands_for asked at.place.realm before.left) (behind AMoment before.draws) at
      says.commands (behind_moment says.draws) says.commands_are (ap (behind AMoment) says.draws_are));
  none = says.none;
}

-- ---- what never refuses

refuses_none : (o : Opening) (before : Told) (end : RunEnd) → run_end o before ≡ Some end → end.refused ≡ false
    → RefusesNothing o before
refuses_none o before end is none = record { end = end; end_is = is; none = none }

pub text_told : (text : List ℕ) (drawn : Drawn) (before : Told) → RefusesNothing (Tells text drawn) before
text_told text drawn before = refuses_none (Tells text drawn) before _ refl refl

pub one_made : (spec : SpecParts) (before : Told) (draws : Draws) → before.draws ≡ Some draws
    → RefusesNothing (Makes spec) before
one_made spec before draws is =
    refuses_none (Makes spec) before (end_made spec before.taken draws)
    (ap (option_map (end_made spec before.taken)) is) refl

pub one_ended : (before : Told) → RefusesNothing Ends before
one_ended before = refuses_none Ends before _ refl refl

pub one_loaded : (begin : Place) (made : List Place) (at : Seen) (end : LoadEnd) (before : Told) (draws : Draws)
    → before.draws ≡ Some draws → is_refused end ≡ false → RefusesNothing (Loads begin made at (Some end)) before
one_loaded begin made at end before draws is none =
    refuses_none (Loads begin made at (Some end)) before _
    (ap (λ (x : Option Draws). load_end (Some end) x at.place before.taken) (ap (behind AMoment) is)) none

pub one_added : (begin : Place) (made : List Place) (at : Seen) (reads : Bool) (answer : Answer) (before : Told)
    → answer.refused ≡ false → RefusesNothing (Adds begin made at reads (Some answer)) before
one_added begin made at reads answer before none =
    refuses_none (Adds begin made at reads (Some answer)) before _ refl none

pub one_renewed : (begin : Place) (made : List Place) (at : Seen) (reads : Bool) (renewal : Renewal) (before : Told)
    → renewal.answer.refused ≡ false → RefusesNothing (AddsNew begin made at reads (Renewed renewal)) before
one_renewed begin made at reads renewal before none =
    refuses_none (AddsNew begin made at reads (Renewed renewal)) before _ refl none

pub one_filtered : (answer : Answer) (before : Told) → answer.refused ≡ false
    → RefusesNothing (Filters (Some answer)) before
one_filtered answer before none = refuses_none (Filters (Some answer)) before _ refl none

-- ---- an input that is not too long

few_taken : (text : List ℕ) (left rest : Option (List ℕ)) → left ≡ Some text → length text < 4294967296
    → WereTaken 4294967296 left rest → ⊥
few_taken text left None is few taken =
    let both : ◌≡◌ {A = Option ℕ} (Some (length text)) None = ap (option_map length) (sym is) ∙ taken in absurd cc
few_taken text left (Some more) is few taken =
    let both : ◌≡◌ {A = Option ℕ} (Some (length text)) (Some (length more + 4294967296)) =
    ap (option_map length) (sym is) ∙ taken in
    let same : length text ≡ length more + 4294967296 = same_Some (length text) (length more + 4294967296) both in
    absurd (omega (arith, few, same))

pub not_too_long : (before after : Told) (text : List ℕ) → before.left ≡ Some text → length text < 4294967296
    → WasTooLong before after → ⊥
not_too_long before after text is few taken = few_taken text before.left after.left is few taken

-- ---- a command

same_reply : (a b : Reply) → Replied a ≡ Replied b → a ≡ b
same_reply a b e = cc

reply_told : (call : Call) (at : Seen) (later : Place) (reply : Reply)
    → Does at.place at.state (Perform (Commanded call)) (Replied reply) later → reply ≡ model_reply call at
unfolding outcome commanded
reply_told call at later reply does = same_reply reply (model_reply call at) does.makes.answers

module _ (call : Call) (at : Seen) (later : Place) (first last : ℕ) where
  pub command_done : (result : Result Reply Halt) → IsPerformed call at later first last result
      → (Rose first last → ⊥) → IsReplyOrMemoryOut (model_reply call at) result
  command_done (Ok reply) performed still = inl (ap Ok (reply_told call at later reply performed.does))
  command_done (Err halt.MemoryOut) performed still = inr refl
  command_done (Err halt.DiskFault) performed still = absurd (still (performed.cause refl))

-- ---- an opening

-- a stash opens what stands, where its first key that K/M lists is a master key of the history
pub record StashesOpen : Type 0 where
  pub opens : (s : Site) (at : Stands s) (text : List ℕ) (keys : List StashKey) (found : Master)
      → IsStory (story_of s) → at.last.place.stash ≡ Some text → IsStash text keys
      → first_listed (keys_in (own_record at.last.place.realm at.last.place.rows)) keys ≡ Some found
      → Lists (state_of s).masters found.version found.key → OpensAt at.last.place (state_of s).masters

pub stood_opens : StaysValid → StashesOpen → (s : Site) (c : Files) (f : Found) → HasHistory s → StandsFor s c
    → found_in c ≡ Ok f → HasStashOf (state_of s).masters (place_found f)
    → OpensAt (place_found f) (state_of s).masters
stood_opens valid law s c f history stands is stash =
    let there : StandsAt s (place_found f) = found_at s c (place_found f) stands (ap place_in is) in
    let holds = primary_holds valid history.events s history.sent history.run in
    let own : HasStashOf (state_of s).masters there.at.last.place =
    subst (λ (p : Place). HasStashOf (state_of s).masters p) (sym there.is) stash in
    subst (λ (p : Place). OpensAt p (state_of s).masters) there.is
    (law.opens s there.at own.text own.keys own.found holds.story own.stash_is own.keys_are own.first own.listed)
