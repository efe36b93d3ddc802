-- Each event adds its stages to the story, and those that begin the log anew have a cause.
use Rattle.std.proofs.Common.{◌≡◌, ℕ, Bool, true, false, List, [], ◌∷◌, ◌++◌, Option, sym, ◌∙◌, ap, subst}
use Rattle.std.specs.Prelude.{take}
use Rattle.std.proofs.lemmas.List.Elements.{All-cons, All-nil, All-take, All-weaker}
use Rattle.std.specs.List.{All}
use Rattle.iprop_truths.specs.Truths.{Message}
use Rattle.kdb_histories.proofs.Resetting.{caused}
use Rattle.kdb_histories.proofs.SiteRuns.{onto_rest}
use Rattle.kdb_histories.specs.Asks.{Answer}
use Rattle.kdb_histories.specs.Calls.{Call, ResetCause}
use Rattle.kdb_histories.specs.Sites.{Called, Created, Site, SiteEvent, Creates, Calls, Stops, Crashes}
use Rattle.kdb_histories.specs.Sites.{Ends, Looks, Polls, Dumps, EndsDump, HappensAt, state_of, story_of}
use Rattle.kdb_histories.specs.Stages.{Anew, Filled, Stage, onto}
use Rattle.kdb_plain.specs.declared.states.State.{State}
use Rattle.kdb_worlds.specs.Worlds.{AtPrimary, Happens, World}
use Rattle.world_laws.specs.Causes.{AddsStages, HasCause}

-- each of these that begins the log anew has a cause of the event
abbrev AreCaused : Site → SiteEvent → List Stage → Type 0
AreCaused s event made = All (λ (t : Stage). t.deed ≡ Anew → HasCause s event) made

none_caused : (s : Site) (event : SiteEvent) → AreCaused s event []
none_caused s event = All-nil (λ (t : Stage). t.deed ≡ Anew → HasCause s event)

-- ---- a creation

not_filled : (state : State) → Filled state ≡ Anew → ⊥
not_filled state is = absurd cc

created_goes : (t : Stage) (up : Bool) (old new : Site) (said : Option Message) → Created old new t up said
    → AddsStages (Creates t up) old new
created_goes t up old new said e =
    let event = Creates t up in
    let never : t.deed ≡ Anew → HasCause old event =
    λ (is : t.deed ≡ Anew). absurd (not_filled e.creation.state (sym e.creation.deed ∙ is)) in
    record {
      story = ap story_of e.is ∙ ap (λ (x : List Stage). t ∷ x ++ old.ended) (sym e.none);
      causes = All-cons (λ (u : Stage). u.deed ≡ Anew → HasCause old event) t [] never (none_caused old event);
    }

-- ---- a call

called_story : (old new : Site) (call : Call) (answer : Answer) (made done : List Stage) (up : Bool)
    (said : Option Message)
    → Called old new call answer made done up said → story_of new ≡ onto done (story_of old)
called_story old new call answer made done up said e = ap story_of e.is ∙ sym (onto_rest done old.history old.ended)

call_caused : (old new : Site) (call : Call) (answer : Answer) (made done : List Stage) (up : Bool)
    (said : Option Message)
    → (e : Called old new call answer made done up said)
    → All (λ (t : Stage). t.deed ≡ Anew → ResetCause e.at.last.place call made) made
call_caused old new call answer made done up said e = caused e.at.last.place (state_of old) call answer made e.makes

returned_goes : (call : Call) (answer : Answer) (made : List Stage) (old new : Site) (said : Option Message)
    → Called old new call answer made made true said → AddsStages (Calls call answer made) old new
returned_goes call answer made old new said e =
    let p = e.at.last.place in
    let event = Calls call answer made in
    record {
      story = called_story old new call answer made made true said e;
      causes =
          All-weaker (λ (t : Stage). t.deed ≡ Anew → ResetCause p call made)
          (λ (t : Stage). t.deed ≡ Anew → HasCause old event)
          (λ t cause is. record { at = e.at; why = cause is }) made
          (call_caused old new call answer made made true said e);
    }

stopped_goes : (call : Call) (answer : Answer) (made : List Stage) (part : ℕ) (old new : Site) (said : Option Message)
    → Called old new call answer made (take part made) false said → AddsStages (Stops call answer made part) old new
stopped_goes call answer made part old new said e =
    let p = e.at.last.place in
    let event = Stops call answer made part in
    record {
      story = called_story old new call answer made (take part made) false said e;
      causes =
          All-weaker (λ (t : Stage). t.deed ≡ Anew → ResetCause p call made)
          (λ (t : Stage). t.deed ≡ Anew → HasCause old event)
          (λ t cause is. record { at = e.at; why = cause is }) (take part made)
          (All-take (λ (t : Stage). t.deed ≡ Anew → ResetCause p call made) part made
          (call_caused old new call answer made (take part made) false said e));
    }

-- ---- all events

goes_on : (event : SiteEvent) (old new : Site) (said : Option Message) → HappensAt event old new said
    → AddsStages event old new
goes_on (Creates t up) old new said e = created_goes t up old new said e
goes_on (Calls call answer made) old new said e = returned_goes call answer made old new said e
goes_on (Stops call answer made part) old new said e = stopped_goes call answer made part old new said e
goes_on Crashes old new said e = record { story = ap story_of e.is; causes = none_caused old Crashes }
goes_on Ends old new said e = record { story = ap story_of e.is; causes = none_caused old Ends }
goes_on Looks old new said e = record { story = ap story_of e.is; causes = none_caused old Looks }
goes_on (Polls client access asked) old new said e =
    record { story = ap story_of e.is; causes = none_caused old (Polls client access asked) }
goes_on (Dumps client access) old new said e =
    record { story = ap story_of e.is; causes = none_caused old (Dumps client access) }
goes_on EndsDump old new said e = record { story = ap story_of e.is; causes = none_caused old EndsDump }

pub primary_goes : (event : SiteEvent) (said : Option Message) (w new : World) → Happens (AtPrimary event said) w new
    → AddsStages event w.site new.site
primary_goes event said w new e =
    subst (λ (x : World). AddsStages event w.site x.site) (sym e.is) (goes_on event w.site e.site said e.happens)
