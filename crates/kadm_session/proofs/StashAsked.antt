-- The command that writes the stash, as the ask of a line.
use Rattle.std.proofs.Common.{◌≡◌, ◌∙◌, ◌||◌, ℕ, List, Bool, true, false, refl, ap, sym, subst}
use Rattle.std.specs.Prelude.{None, Result, Ok, IfOk}
use Rattle.command_plans.specs.KeptEntries.{kept_entry_of}
use Rattle.iprop_truths.specs.Parts.{end_of}
use Rattle.kadm_commands.specs.declared.commands.Command.{Command}
use Rattle.kadm_commands.specs.declared.commands.Command.TheVariants as command
use Rattle.kadm_commands.specs.declared.replies.Reply.{Reply}
use Rattle.kadm_session.specs.Deciding.{StandsAt}
use Rattle.kadm_session.specs.Events.{Performed}
use Rattle.kadm_session.specs.Input.{is_event, is_stash}
use Rattle.kadm_session.specs.Steps.{ask_at, local_client}
use Rattle.kdb_base.specs.Moment.{Moment}
use Rattle.kdb_disk.specs.Frames.{IsCrashSafe}
use Rattle.kdb_disk.specs.declared.disk.Disk.{Ghosts}
use Rattle.kdb_histories.specs.Asks.{Answer, Ask, Enters, Keeps, Kind, Replied, Stashes, kept_op}
use Rattle.kdb_histories.specs.Calls.{Leads, Perform, Performs}
use Rattle.kdb_histories.specs.Leaving.{Does}
use Rattle.kdb_histories.specs.Seen.{after_ask, moment_at, outcome_at, planned, seen, stash_of}
use Rattle.kdb_histories.specs.Stages.{Stage, places}
use Rattle.kdb_places.specs.Places.{Place}
use Rattle.kdb_plain.specs.declared.states.State.{State}
use Rattle.mkey_admin.specs.KeptMasters.{kept_masters_of}
use Rattle.primary_core.specs.Deciding.{is_judged}
use Rattle.primary_core.specs.Opened.{HasState, MayLeave, Opened, command_ask, place_of}
use Rattle.princ_name.specs.Names.{NameParts}
use Rattle.kadm_session.proofs.Leaving.{performed_own}

-- ---- which command it is

stash_is : (cmd : Command) → is_stash cmd ≡ true → cmd ≡ command.Stash
stash_is command.Stash e = refl
stash_is (command.AddPrinc c) e = absurd cc
stash_is (command.ModPrinc c) e = absurd cc
stash_is (command.ChangeKeys c) e = absurd cc
stash_is (command.RenPrinc c) e = absurd cc
stash_is (command.DelPrinc name) e = absurd cc
stash_is (command.GetPrinc name) e = absurd cc
stash_is (command.ListPrincs glob) e = absurd cc
stash_is (command.PurgeKeys c) e = absurd cc
stash_is (command.SetString c) e = absurd cc
stash_is (command.DelString c) e = absurd cc
stash_is (command.GetStrings name) e = absurd cc
stash_is (command.Extract name) e = absurd cc
stash_is (command.AddPolicy p) e = absurd cc
stash_is (command.ModPolicy c) e = absurd cc
stash_is (command.DelPolicy name) e = absurd cc
stash_is (command.GetPolicy name) e = absurd cc
stash_is command.ListPolicies e = absurd cc
stash_is command.GetPrivs e = absurd cc
stash_is (command.AddMaster etype) e = absurd cc
stash_is (command.UseMaster c) e = absurd cc
stash_is command.ListMasters e = absurd cc
stash_is command.PurgeMasters e = absurd cc
stash_is (command.RekeyPrincs glob) e = absurd cc
stash_is command.Dump e = absurd cc

-- what holds of the command holds of the one that was given
pub as_stash : (P : Command → Type 0) (given cmd : Command) → given ≡ cmd → is_stash given ≡ true
    → P command.Stash → P cmd
as_stash P given cmd same is holds = subst P (sym (stash_is given is) ∙ same) holds

or_left : (a b : Bool) → b ≡ false → (a || b) ≡ true → a ≡ true
or_left true b e both = refl
or_left false b e both = absurd cc

-- another event is judged
pub judged_else : (given cmd : Command) → given ≡ cmd → is_stash given ≡ false → is_event cmd ≡ true
    → is_judged cmd ≡ true
judged_else given cmd same not event = or_left (is_judged cmd) (is_stash cmd) (ap is_stash (sym same) ∙ not) event

-- ---- the state stays

-- whatever is written, the state stays
stays_by : (kind : Kind) (clock : Moment) (p : Place) (before after : State) (bytes : List ℕ)
    → Leads clock p before after (planned kind None bytes) → after ≡ before
stays_by Keeps clock p before after bytes e = e
stays_by Enters clock p before after bytes e = e
stays_by Stashes clock p before after bytes e = e

stash_stays : (p : Place) (s : State) (clock : Moment) (random : List ℕ) (answer : Answer) (made : List Stage)
    → Performs p s (ask_at command.Stash clock random (seen p s)) answer made
    → (outcome_at (ask_at command.Stash clock random (seen p s)) (seen p s)).state ≡ s
unfolding kept_op kept_entry_of kept_masters_of
stash_stays p s clock random answer made h =
    let ask = ask_at command.Stash clock random (seen p s) in
    stays_by (outcome_at ask (seen p s)).kind clock p s (outcome_at ask (seen p s)).state
    (stash_of s (moment_at clock p)) h.leads

-- ---- where it stands

-- the call of this client is the ask of a line
asked : (client : NameParts) (o : Opened) (s : State) (clock : Moment) (random : List ℕ)
    → client ≡ local_client o.kept.realm
    → command_ask client None command.Stash clock random ≡ ask_at command.Stash clock random (seen (place_of o) s)
asked client o s clock random same = ap (λ (name : NameParts). command_ask name None command.Stash clock random) same

done_as : {E : Type 0} (o new : Opened) (s : State) (client : NameParts) (clock : Moment) (random : List ℕ)
    (r : Result Reply E) (told : Reply) → client ≡ local_client o.kept.realm → r ≡ Ok told
    → IfOk r (λ x.
    Does (place_of o) s (Perform (command_ask client None command.Stash clock random)) (Replied x) (place_of new))
    → Does (place_of o) s (Perform (ask_at command.Stash clock random (seen (place_of o) s))) (Replied told)
    (place_of new)
done_as {E} o new s client clock random r told same is done =
    subst (λ (ask : Ask). Does (place_of o) s (Perform ask) (Replied told) (place_of new))
    (asked client o s clock random same)
    (subst (λ (x : Result Reply E). IfOk x (λ y. Does (place_of o) s
    (Perform (command_ask client None command.Stash clock random)) (Replied y) (place_of new))) is done)

pub stash_stands : {E : Type 0} (o new : Opened) (s : State) (client : NameParts) (clock : Moment) (random : List ℕ)
    (r : Result Reply E) (told : Reply) → client ≡ local_client o.kept.realm → r ≡ Ok told
    → IfOk r (λ x.
    Does (place_of o) s (Perform (command_ask client None command.Stash clock random)) (Replied x) (place_of new))
    → HasState new s
    → StandsAt new (after_ask (ask_at command.Stash clock random (seen (place_of o) s)) (seen (place_of o) s))
stash_stands {E} o new s client clock random r told same is done has =
    let does = done_as o new s client clock random r told same is done in
    record {
      place_is = does.is ∙ ap (λ (made : List Stage). end_of (place_of o) (places made)) does.makes.is;
      shows =
          subst (HasState new) (sym (stash_stays (place_of o) s clock random (Replied told) does.made does.makes)) has;
    }

pub stash_performs : {E : Type 0} (o new : Opened) (s : State) (client : NameParts) (clock : Moment) (random : List ℕ)
    (r : Result Reply E) (told printed : Reply) → client ≡ local_client o.kept.realm → r ≡ Ok told → printed ≡ told
    → IfOk r (λ x.
    Does (place_of o) s (Perform (command_ask client None command.Stash clock random)) (Replied x) (place_of new))
    → Performed (ask_at command.Stash clock random (seen (place_of o) s)) (seen (place_of o) s) (Replied printed)
stash_performs {E} o new s client clock random r told printed same is as_told done =
    let does = done_as o new s client clock random r told same is done in
    let ask = ask_at command.Stash clock random (seen (place_of o) s) in
    subst (λ (x : Reply). Performed ask (seen (place_of o) s) (Replied x)) (sym as_told)
    (performed_own (place_of o) s ask (Replied told) does.made does.makes)

-- the realm stays
pub stash_realm : (o new : Opened) (s : State) → HasState o s → HasState new s → new.kept.realm ≡ o.kept.realm
stash_realm o new s has later = sym later.shows.realm ∙ has.shows.realm

-- ---- what a crash leaves

-- the same of a call by this client
pub stash_crash : {D : Type 0} (g : Ghosts D) (old new : D) (o : Opened) (s : State) (client : NameParts)
    (clock : Moment) (random : List ℕ) → client ≡ local_client o.kept.realm
    → IsCrashSafe g old new (MayLeave (place_of o) s (Perform (command_ask client None command.Stash clock random)))
    → IsCrashSafe g old new
    (MayLeave (place_of o) s (Perform (ask_at command.Stash clock random (seen (place_of o) s))))
stash_crash g old new o s client clock random same safe =
    subst (λ (a : Ask). IsCrashSafe g old new (MayLeave (place_of o) s (Perform a)))
    (asked client o s clock random same) safe
