-- The command that writes the stash, told apart from the others.
use Rattle.std.proofs.Common.{◌≡◌, ℕ, List, true, false, refl, sym, subst}
use Rattle.std.specs.Prelude.{None, Option, Result, Ok, Err, IfOk, OnErr}
use Rattle.acl_text.specs.declared.rules.AclLine.{AclLine}
use Rattle.command_plans.specs.KeptEntries.{kept_entry_of}
use Rattle.kadm_commands.specs.declared.commands.Command.{Command}
use Rattle.kadm_commands.specs.declared.commands.Command.TheVariants as command
use Rattle.kadm_commands.specs.declared.replies.Reply.{Reply}
use Rattle.kdb_base.specs.Moment.{Moment}
use Rattle.kdb_disk.specs.Frames.{IsCrashSafe}
use Rattle.kdb_disk.specs.declared.disk.Disk.{Ghosts}
use Rattle.kdb_histories.specs.Asks.{Answer, Enters, Keeps, Kind, Replied, Stashes, kept_op}
use Rattle.kdb_histories.specs.Calls.{Leads, Perform, Performs}
use Rattle.kdb_histories.specs.Leaving.{Does, MayReach}
use Rattle.kdb_histories.specs.Seen.{moment_at, outcome_at, planned, seen, stash_of}
use Rattle.kdb_histories.specs.Stages.{Stage}
use Rattle.kdb_places.specs.Places.{Place}
use Rattle.kdb_plain.specs.declared.states.State.{State}
use Rattle.mkey_admin.specs.KeptMasters.{kept_masters_of}
use Rattle.primary_core.specs.Opened.{HasState, MayLeave, command_ask}
use Rattle.primary_disk.specs.Held.{Held, is_broken, is_stash, place_in}
use Rattle.primary_disk.specs.Leaving.{IsDone, MayStop}
use Rattle.princ_name.specs.Names.{NameParts}

-- ---- which command it is

stash_is : (cmd : Command) → is_stash cmd ≡ true → cmd ≡ command.Stash
stash_is command.Stash e = refl
stash_is (command.AddPrinc c) e = absurd cc
stash_is (command.ModPrinc c) e = absurd cc
stash_is (command.ChangeKeys c) e = absurd cc
stash_is (command.RenPrinc c) e = absurd cc
stash_is (command.DelPrinc name) e = absurd cc
stash_is (command.GetPrinc name) e = absurd cc
stash_is (command.ListPrincs glob) e = absurd cc
stash_is (command.PurgeKeys c) e = absurd cc
stash_is (command.SetString c) e = absurd cc
stash_is (command.DelString c) e = absurd cc
stash_is (command.GetStrings name) e = absurd cc
stash_is (command.Extract name) e = absurd cc
stash_is (command.AddPolicy p) e = absurd cc
stash_is (command.ModPolicy c) e = absurd cc
stash_is (command.DelPolicy name) e = absurd cc
stash_is (command.GetPolicy name) e = absurd cc
stash_is command.ListPolicies e = absurd cc
stash_is command.GetPrivs e = absurd cc
stash_is (command.AddMaster etype) e = absurd cc
stash_is (command.UseMaster c) e = absurd cc
stash_is command.ListMasters e = absurd cc
stash_is command.PurgeMasters e = absurd cc
stash_is (command.RekeyPrincs glob) e = absurd cc
stash_is command.Dump e = absurd cc

-- what holds of the command that writes the stash holds of this one
as_stash : (P : Command → Type 0) (cmd : Command) → is_stash cmd ≡ true → P command.Stash → P cmd
as_stash P cmd is holds = subst P (sym (stash_is cmd is)) holds

-- ---- the state stays

-- whatever is written, the state stays
stays_by : (kind : Kind) (clock : Moment) (p : Place) (before after : State) (bytes : List ℕ)
    → Leads clock p before after (planned kind None bytes) → after ≡ before
stays_by Keeps clock p before after bytes e = e
stays_by Enters clock p before after bytes e = e
stays_by Stashes clock p before after bytes e = e

stash_stays : (p : Place) (s : State) (client : NameParts) (access : Option (List AclLine)) (clock : Moment)
    (random : List ℕ) (answer : Answer) (made : List Stage)
    → Performs p s (command_ask client access command.Stash clock random) answer made
    → (outcome_at (command_ask client access command.Stash clock random) (seen p s)).state ≡ s
unfolding kept_op kept_entry_of kept_masters_of
stash_stays p s client access clock random answer made h =
    let ask = command_ask client access command.Stash clock random in
    stays_by (outcome_at ask (seen p s)).kind clock p s (outcome_at ask (seen p s)).state
    (stash_of s (moment_at clock p)) h.leads

stash_done : {D E : Type 0} (old new : Held D) (s : State) (client : NameParts) (access : Option (List AclLine))
    (clock : Moment) (random : List ℕ) (r : Result Reply E)
    → IfOk r (λ reply. Does (place_in old) s (Perform (command_ask client access command.Stash clock random))
    (Replied reply) (place_in new))
    → HasState new.opened s
    → IfOk r (λ reply. IsDone old new s (command_ask client access command.Stash clock random) (Replied reply))
stash_done old new s client access clock random (Ok reply) does has = record {
  does = does;
  state = subst (HasState new.opened)
      (sym (stash_stays (place_in old) s client access clock random (Replied reply) does.made does.makes)) has;
}
stash_done old new s client access clock random (Err e) does has = does

-- ---- the line

-- it is done as what this command asks
pub stash_line : {D E : Type 0} (held old new : Held D) → held ≡ old → (cmd : Command) → is_stash cmd ≡ true
    → (client : NameParts) (access : Option (List AclLine)) (clock : Moment) (random : List ℕ) (r : Result Reply E)
    → ((s : State) (bytes : List ℕ) → is_broken held ≡ false → HasState held.opened s → IfOk r (λ reply. Does
    (place_in held) s (Perform (command_ask client access command.Stash clock bytes)) (Replied reply) (place_in new)))
    → ((s : State) → HasState held.opened s → HasState new.opened s)
    → (s : State) → is_broken old ≡ false → HasState old.opened s
    → IfOk r (λ reply. IsDone old new s (command_ask client access cmd clock random) (Replied reply))
stash_line {D} {E} held old new same cmd is client access clock random r does state =
    subst (λ (h : Held D). (s : State) → is_broken h ≡ false → HasState h.opened s
    → IfOk r (λ reply. IsDone h new s (command_ask client access cmd clock random) (Replied reply))) same
    (λ s whole has. as_stash
    (λ (c : Command). IfOk r (λ reply. IsDone held new s (command_ask client access c clock random) (Replied reply)))
    cmd is (stash_done held new s client access clock random r (does s random whole has) (state s has)))

-- and stopped as that
pub stash_stops : {D E : Type 0} (g : Ghosts D) (held old new : Held D) → held ≡ old
    → (cmd : Command) → is_stash cmd ≡ true
    → (client : NameParts) (access : Option (List AclLine)) (clock : Moment) (random : List ℕ) (r : Result Reply E)
    → ((s : State) (bytes : List ℕ) → is_broken held ≡ false → HasState held.opened s → IsCrashSafe g held.disk new.disk
    (MayLeave (place_in held) s (Perform (command_ask client access command.Stash clock bytes))))
    → ((s : State) (bytes : List ℕ) → HasState held.opened s → OnErr r
    (MayReach (place_in held) s (Perform (command_ask client access command.Stash clock bytes)) (place_in new)))
    → (s : State) → HasState old.opened s → MayStop g old new s (Perform (command_ask client access cmd clock random)) r
stash_stops {D} {E} g held old new same cmd is client access clock random r crash reach =
    subst (λ (h : Held D). (s : State) → HasState h.opened s
    → MayStop g h new s (Perform (command_ask client access cmd clock random)) r) same
    (λ s has. as_stash (λ (c : Command). MayStop g held new s (Perform (command_ask client access c clock random)) r)
    cmd is (record { crash = λ whole. crash s random whole has; reach = reach s random has }))
