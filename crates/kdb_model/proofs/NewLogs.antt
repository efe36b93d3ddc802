-- What a step is told of the log decides on nothing but the point of its change.
use Rattle.std.proofs.Common.{◌≡◌, ℕ, Bool, true, false, ◌&&◌, List, [], ◌∷◌, Option}
use Rattle.std.proofs.Common.{Some, None, refl, sym, ap, subst, ◌∙◌, ◌⊎◌, inl, inr}
use Rattle.std.specs.Prelude.{is_some, if◌then◌else◌}
use Rattle.std.specs.Option.{option_or}
use Rattle.acl_text.specs.declared.rules.AclLine.{AclLine}
use Rattle.kadm_commands.specs.declared.commands.Command.{Command}
use Rattle.kadm_commands.specs.declared.commands.Command.TheVariants as command
use Rattle.kadm_commands.specs.declared.replies.Reply.{Reply}
use Rattle.kdb_base.specs.Moment.{Moment}
use Rattle.kdb_base.specs.declared.moments.Point.{Point}
use Rattle.kdb_base.specs.declared.outcomes.Refusal.{Refusal}
use Rattle.kdb_base.specs.declared.outcomes.Refusal.TheVariants.{TimeEnd}
use Rattle.kdb_model.specs.Access.{limits_for, privileges}
use Rattle.kdb_model.specs.Calls.{Call, change_point, is_last}
use Rattle.kdb_model.specs.Entries.{entry, entry_of}
use Rattle.kdb_model.specs.Laws.{at_point, reply_at, told}
use Rattle.kdb_model.specs.Records.{added, modified, purged, rekeyed, renamed, restrung}
use Rattle.kdb_model.specs.Refusals.{causes_with, ended, first, refusal, target, when}
use Rattle.kdb_model.specs.Steps.{Outcome, answered, change_reply, committed, reading, reading_of, step}
use Rattle.kdb_plain.specs.Changes.{effect_on}
use Rattle.kdb_plain.specs.declared.changes.PlainOp.{PlainOp}
use Rattle.kdb_plain.specs.declared.princs.PlainPrinc.{PlainPrinc}
use Rattle.kdb_plain.specs.declared.states.State.{State}
use Rattle.princ_name.specs.Names.{NameParts}
use Rattle.kdb_model.proofs.Stepping.{either_way, refusal_split, step_commits, step_reads, step_refused}

abbrev with_due : Bool → NameParts → Option (List AclLine) → Command → Moment → List ℕ → Call
with_due due client access command moment random =
    record { client = client; access = access; command = command; moment = moment; random = random; due = due }

module _ (s : State) (client : NameParts) (access : Option (List AclLine)) (given : Command) (moment : Moment)
    (random : List ℕ) where
  abbrev Anew : Call
  Anew = with_due true client access given moment random

  abbrev Next : Call
  Next = with_due false client access given moment random

  same_entry : (cmd : Command) → entry_of s Anew cmd ≡ entry_of s Next cmd
  unfolding entry_of added modified rekeyed renamed purged restrung limits_for
  same_entry (command.AddPrinc c) = refl
  same_entry (command.ModPrinc c) = refl
  same_entry (command.ChangeKeys c) = refl
  same_entry (command.RenPrinc c) = refl
  same_entry (command.DelPrinc name) = refl
  same_entry (command.PurgeKeys c) = refl
  same_entry (command.SetString c) = refl
  same_entry (command.DelString c) = refl
  same_entry (command.AddPolicy p) = refl
  same_entry (command.ModPolicy c) = refl
  same_entry (command.DelPolicy name) = refl
  same_entry (command.AddMaster etype) = refl
  same_entry (command.UseMaster c) = refl
  same_entry command.PurgeMasters = refl
  same_entry (command.GetPrinc name) = refl
  same_entry (command.ListPrincs glob) = refl
  same_entry (command.GetStrings name) = refl
  same_entry (command.Extract name) = refl
  same_entry (command.GetPolicy name) = refl
  same_entry command.ListPolicies = refl
  same_entry command.GetPrivs = refl
  same_entry command.ListMasters = refl
  same_entry (command.RekeyPrincs glob) = refl
  same_entry command.Stash = refl
  same_entry command.Dump = refl

  same_reading : (cmd : Command) (found : Option PlainPrinc) → reading_of s Anew cmd found ≡ reading_of s Next cmd found
  unfolding reading_of privileges
  same_reading (command.GetPrinc name) (Some q) = refl
  same_reading (command.GetPrinc name) None = refl
  same_reading (command.GetStrings name) (Some q) = refl
  same_reading (command.GetStrings name) None = refl
  same_reading (command.Extract name) (Some q) = refl
  same_reading (command.Extract name) None = refl
  same_reading (command.AddPrinc c) found = refl
  same_reading (command.ModPrinc c) found = refl
  same_reading (command.ChangeKeys c) found = refl
  same_reading (command.RenPrinc c) found = refl
  same_reading (command.DelPrinc name) found = refl
  same_reading (command.PurgeKeys c) found = refl
  same_reading (command.SetString c) found = refl
  same_reading (command.DelString c) found = refl
  same_reading (command.AddPolicy p) found = refl
  same_reading (command.ModPolicy c) found = refl
  same_reading (command.DelPolicy name) found = refl
  same_reading (command.AddMaster etype) found = refl
  same_reading (command.UseMaster c) found = refl
  same_reading command.PurgeMasters found = refl
  same_reading (command.ListPrincs glob) found = refl
  same_reading (command.GetPolicy name) found = refl
  same_reading command.ListPolicies found = refl
  same_reading command.GetPrivs found = refl
  same_reading command.ListMasters found = refl
  same_reading (command.RekeyPrincs glob) found = refl
  same_reading command.Stash found = refl
  same_reading command.Dump found = refl

  same_reply : (cmd : Command) (a b : Point) → change_reply s Anew a cmd ≡ reply_at a (change_reply s Next b cmd)
  unfolding change_reply
  same_reply (command.AddMaster etype) a b = refl
  same_reply (command.UseMaster c) a b = refl
  same_reply command.PurgeMasters a b = refl
  same_reply (command.AddPrinc c) a b = refl
  same_reply (command.ModPrinc c) a b = refl
  same_reply (command.ChangeKeys c) a b = refl
  same_reply (command.RenPrinc c) a b = refl
  same_reply (command.DelPrinc name) a b = refl
  same_reply (command.PurgeKeys c) a b = refl
  same_reply (command.SetString c) a b = refl
  same_reply (command.DelString c) a b = refl
  same_reply (command.AddPolicy p) a b = refl
  same_reply (command.ModPolicy c) a b = refl
  same_reply (command.DelPolicy name) a b = refl
  same_reply (command.GetPrinc name) a b = refl
  same_reply (command.ListPrincs glob) a b = refl
  same_reply (command.GetStrings name) a b = refl
  same_reply (command.Extract name) a b = refl
  same_reply (command.GetPolicy name) a b = refl
  same_reply command.ListPolicies a b = refl
  same_reply command.GetPrivs a b = refl
  same_reply command.ListMasters a b = refl
  same_reply (command.RekeyPrincs glob) a b = refl
  same_reply command.Stash a b = refl
  same_reply command.Dump a b = refl

abbrev Same : State → NameParts → Option (List AclLine) → Moment → List ℕ → Option PlainOp → Command → Type 0
Same s client access moment random change cmd = causes_with s (with_due true client access cmd moment random) change
    ≡ causes_with s (with_due false client access cmd moment random) change

same_causes : (s : State) (client : NameParts) (access : Option (List AclLine)) (moment : Moment) (random : List ℕ)
    (change : Option PlainOp) (cmd : Command) → Same s client access moment random change cmd
unfolding causes_with limits_for
same_causes s client access moment random change (command.AddPrinc c) = refl
same_causes s client access moment random change (command.ModPrinc c) = refl
same_causes s client access moment random change (command.ChangeKeys c) = refl
same_causes s client access moment random change (command.RenPrinc c) = refl
same_causes s client access moment random change (command.DelPrinc name) = refl
same_causes s client access moment random change (command.PurgeKeys c) = refl
same_causes s client access moment random change (command.SetString c) = refl
same_causes s client access moment random change (command.DelString c) = refl
same_causes s client access moment random change (command.AddPolicy p) = refl
same_causes s client access moment random change (command.ModPolicy c) = refl
same_causes s client access moment random change (command.DelPolicy name) = refl
same_causes s client access moment random change (command.AddMaster etype) = refl
same_causes s client access moment random change (command.UseMaster c) = refl
same_causes s client access moment random change command.PurgeMasters = refl
same_causes s client access moment random change (command.GetPrinc name) = refl
same_causes s client access moment random change (command.ListPrincs glob) = refl
same_causes s client access moment random change (command.GetStrings name) = refl
same_causes s client access moment random change (command.Extract name) = refl
same_causes s client access moment random change (command.GetPolicy name) = refl
same_causes s client access moment random change command.ListPolicies = refl
same_causes s client access moment random change command.GetPrivs = refl
same_causes s client access moment random change command.ListMasters = refl
same_causes s client access moment random change (command.RekeyPrincs glob) = refl
same_causes s client access moment random change command.Stash = refl
same_causes s client access moment random change command.Dump = refl

module _ (s : State) (call : Call) where
  entry_same : entry s (told true call) ≡ entry s (told false call)
  entry_same = same_entry s call.client call.access call.command call.moment call.random call.command

  -- nor does the point that it had before
  entry_own : (due : Bool) → call.due ≡ due → entry s (told false call) ≡ entry s call
  entry_own false e = ap (λ (d : Bool). entry s (told d call)) (sym e)
  entry_own true e = sym entry_same ∙ ap (λ (d : Bool). entry s (told d call)) (sym e)

  causes_same : (change : Option PlainOp)
      → causes_with s (told true call) change ≡ causes_with s (told false call) change
  causes_same change = same_causes s call.client call.access call.moment call.random change call.command

  or_nothing : (a : Option Refusal) → option_or a None ≡ a
  or_nothing None = refl
  or_nothing (Some r) = refl

  not_due : (b : Bool) (r : Refusal) → when (b && false && is_last s.point.time) r ≡ None
  not_due true r = refl
  not_due false r = refl

  -- told that no new log is due, the end of time is no cause
  split_next : refusal s (told false call) ≡ first (causes_with s (told false call) (entry s (told false call)))
  split_next =
      refusal_split s (told false call)
      ∙ ap (option_or (first (causes_with s (told false call) (entry s (told false call)))))
      (not_due (is_some (entry s (told false call))) TimeEnd)
      ∙ or_nothing (first (causes_with s (told false call) (entry s (told false call))))

  split_anew : refusal s (told true call) ≡ option_or (refusal s (told false call))
      (when (is_some (entry s (told false call)) && true && is_last s.point.time) TimeEnd)
  split_anew =
      refusal_split s (told true call)
      ∙ ap (λ (o : Option PlainOp). option_or (first (causes_with s (told true call) o))
      (when (is_some o && true && is_last s.point.time) TimeEnd)) entry_same
      ∙ ap (λ (causes : List (Option Refusal)).
      option_or (first causes) (when (is_some (entry s (told false call)) && true && is_last s.point.time) TimeEnd))
      (causes_same (entry s (told false call)))
      ∙ ap (λ (o : Option Refusal).
      option_or o (when (is_some (entry s (told false call)) && true && is_last s.point.time) TimeEnd)) (sym split_next)

  pub refused_both : (why : Refusal) → refusal s (told false call) ≡ Some why → refusal s (told true call) ≡ Some why
  refused_both why e = split_anew ∙ ap (λ (o : Option Refusal).
      option_or o (when (is_some (entry s (told false call)) && true && is_last s.point.time) TimeEnd)) e

  accepted_anew : refusal s (told false call) ≡ None → (o : Option PlainOp) → entry s (told false call) ≡ o
      → refusal s (told true call) ≡ when (is_some o && true && is_last s.point.time) TimeEnd
  accepted_anew e o is =
      split_anew
      ∙ ap (λ (r : Option Refusal).
      option_or r (when (is_some (entry s (told false call)) && true && is_last s.point.time) TimeEnd)) e
      ∙ ap (λ (change : Option PlainOp). when (is_some change && true && is_last s.point.time) TimeEnd) is

  next_entry : (o : Option PlainOp) → entry s call ≡ o → entry s (told false call) ≡ o
  next_entry o is = entry_own call.due refl ∙ is

  anew_entry : (o : Option PlainOp) → entry s call ≡ o → entry s (told true call) ≡ o
  anew_entry o is = entry_same ∙ next_entry o is

  pub entry_told : (due : Bool) → entry s (told due call) ≡ entry s call
  entry_told false = next_entry (entry s call) refl
  entry_told true = anew_entry (entry s call) refl

  pub reads_both : refusal s (told false call) ≡ None → entry s call ≡ None
      → step s (told true call) ≡ step s (told false call)
  reads_both accepted is =
      step_reads s (told true call) (accepted_anew accepted None (next_entry None is)) (anew_entry None is)
      ∙ ap (answered s)
      (same_reading s call.client call.access call.command call.moment call.random call.command (target s call.command))
      ∙ sym (step_reads s (told false call) accepted (next_entry None is))

  pub ended_anew : (op : PlainOp) → refusal s (told false call) ≡ None → entry s call ≡ Some op
      → is_last s.point.time ≡ true → refusal s (told true call) ≡ Some TimeEnd
  ended_anew op accepted is last =
      accepted_anew accepted (Some op) (next_entry (Some op) is) ∙ ap (λ (b : Bool). when b TimeEnd) last

  pub not_ended : (op : PlainOp) → refusal s (told false call) ≡ None → entry s call ≡ Some op
      → is_last s.point.time ≡ false → refusal s (told true call) ≡ None
  not_ended op accepted is more =
      accepted_anew accepted (Some op) (next_entry (Some op) is) ∙ ap (λ (b : Bool). when b TimeEnd) more

  anew_is : (op : PlainOp) → refusal s (told false call) ≡ None → entry s call ≡ Some op → is_last s.point.time ≡ false
      → step s (told true call) ≡ committed s (told true call) op
  anew_is op accepted is more =
      step_commits s (told true call) op (not_ended op accepted is more) (anew_entry (Some op) is)

  next_is : (op : PlainOp) → refusal s (told false call) ≡ None → entry s call ≡ Some op
      → step s (told false call) ≡ committed s (told false call) op
  next_is op accepted is = step_commits s (told false call) op accepted (next_entry (Some op) is)

  pub state_anew : (op : PlainOp) → refusal s (told false call) ≡ None → entry s call ≡ Some op
      → is_last s.point.time ≡ false
      → (step s (told true call)).state
      ≡ at_point (step s (told true call)).state.point (step s (told false call)).state
  state_anew op accepted is more = rw (anew_is op accepted is more, next_is op accepted is) refl

  pub reply_anew : (op : PlainOp) → refusal s (told false call) ≡ None → entry s call ≡ Some op
      → is_last s.point.time ≡ false
      → (step s (told true call)).reply
      ≡ reply_at (step s (told true call)).state.point (step s (told false call)).reply
  reply_anew op accepted is more =
      rw (anew_is op accepted is more, next_is op accepted is)
      (same_reply s call.client call.access call.command call.moment call.random call.command
      (change_point s (told true call)) (change_point s (told false call)))
