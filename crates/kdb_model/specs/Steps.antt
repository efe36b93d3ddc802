-- What a command does to a state and answers, and what a list of commands does.
use Rattle.std.specs.Prelude.{ℕ, Bool, true, false, List, [], ◌∷◌, map, filter, Option, Some, None}
use Rattle.kadm_commands.specs.declared.commands.Command.{Command}
use Rattle.kadm_commands.specs.declared.commands.Command.TheVariants as command
use Rattle.kadm_commands.specs.declared.replies.Reply.{Reply}
use Rattle.kadm_commands.specs.declared.replies.Reply.TheVariants as reply
use Rattle.kadm_commands.specs.declared.shown.KeyShown.{KeyShown}
use Rattle.kadm_commands.specs.declared.shown.PrincShown.{PrincShown}
use Rattle.kadm_values.specs.Globs.{matches}
use Rattle.kdb_base.specs.declared.keys.Salt.{Salt}
use Rattle.kdb_base.specs.declared.keys.Salt.TheVariants.{Normal, Special}
use Rattle.kdb_base.specs.declared.moments.Point.{Point}
use Rattle.kdb_base.specs.declared.outcomes.Refusal.{Refusal}
use Rattle.kdb_base.specs.declared.outcomes.Refusal.TheVariants.{UnknownPrincipal, UnknownPolicy}
use Rattle.kdb_model.specs.Access.{privileges}
use Rattle.kdb_model.specs.Calls.{Call, change_point, secs_of}
use Rattle.kdb_model.specs.Entries.{entry}
use Rattle.kdb_model.specs.Masters.{master_rows, purge_rows, use_secs}
use Rattle.kdb_model.specs.Refusals.{refusal, target}
use Rattle.kdb_plain.specs.Changes.{effect_on}
use Rattle.kdb_plain.specs.declared.changes.PlainOp.{PlainOp}
use Rattle.plain_keys.specs.Keys.{extracts}
use Rattle.kdb_plain.specs.Lists.{princ_names}
use Rattle.kdb_plain.specs.States.{policy_named}
use Rattle.plain_keys.specs.declared.items.PlainItem.{PlainItem}
use Rattle.kdb_plain.specs.declared.princs.PlainPrinc.{PlainPrinc}
use Rattle.kdb_plain.specs.declared.states.State.{State}
use Rattle.master_keys.specs.Adding.{next_version}
use Rattle.policy_rules.specs.Rules.{Rules}
use Rattle.princ_rows.specs.Rows.{policy_keys}

-- ---- what is read

abbrev pub is_special : Salt → Bool
is_special Normal = false
is_special (Special bytes) = true

abbrev pub key_shown : PlainItem → KeyShown
key_shown k = record { kvno = k.kvno; etype = k.key.etype; special = is_special k.salt }

unfoldable pub shown_of : PlainPrinc → PrincShown
shown_of q = record {
  name = q.name;
  expire = q.expire;
  pw_expire = q.pw_expire;
  pw_changed = q.pw_changed;
  max_life = q.max_life;
  max_renew = q.max_renew;
  modified = q.modified;
  modifier = q.modifier;
  mkvno = q.mkvno;
  attributes = q.attributes;
  policy = q.policy;
  keys = map key_shown q.keys;
}

-- the names that a glob matches, all without one
unfoldable pub names_in : Option (List ℕ) → List (List ℕ) → List (List ℕ)
names_in None names = names
names_in (Some glob) names = filter (matches glob) names

abbrev pub policy_shown : Option Rules → Reply
policy_shown None = reply.Refused UnknownPolicy
policy_shown (Some p) = reply.PolicyShown p

-- Whether one step does the command. A rekeying of many principals is a step for each, and a dump is written and
-- answers no line: of these two the step says nothing.
abbrev pub is_one_step : Command → Bool
is_one_step (command.RekeyPrincs glob) = false
is_one_step command.Dump = false
is_one_step other = true

-- The answer to a command that makes no entry. A command that changes a principal or a policy makes one where that is
-- there, and is refused before where it is not.
unfoldable pub reading_of : State → Call → Command → Option PlainPrinc → Reply
reading_of s call (command.GetPrinc name) (Some q) = reply.Shown (shown_of q)
reading_of s call (command.GetStrings name) (Some q) = reply.Strings q.strings
reading_of s call (command.Extract name) (Some q) = reply.Extracted (extracts q.keys)
reading_of s call (command.ListPrincs glob) found = reply.Listed (names_in glob (princ_names s.princs))
reading_of s call (command.GetPolicy name) found = policy_shown (policy_named name s.policies)
reading_of s call command.ListPolicies found = reply.Listed (policy_keys s.policies)
reading_of s call command.GetPrivs found = reply.Privileges (privileges call)
reading_of s call command.ListMasters found = reply.MastersListed (master_rows s (secs_of s call))
reading_of s call command.PurgeMasters found = reply.MastersPurged None (purge_rows s (secs_of s call))
reading_of s call command.Stash found = reply.Stashed
reading_of s call _ found = reply.Refused UnknownPrincipal

abbrev pub reading : State → Call → Reply
reading s call = reading_of s call call.command (target s call.command)

-- the answer to a command that made its entry, at this point
unfoldable pub change_reply : State → Call → Point → Command → Reply
change_reply s call point (command.AddMaster etype) = reply.MasterAdded point (next_version s.masters)
change_reply s call point (command.UseMaster c) = reply.MasterUsed point c.version (use_secs s call c)
change_reply s call point command.PurgeMasters = reply.MastersPurged (Some point) (purge_rows s (secs_of s call))
change_reply s call point _ = reply.Done point

-- ---- one command

pub record Outcome : Type 0 where
  pub state : State
  pub reply : Reply

-- nothing is changed
abbrev pub answered : State → Reply → Outcome
answered s reply = record { state = s; reply = reply }

abbrev pub with_point : Point → State → State
with_point point s = record s { point = point }

-- the entry takes effect
abbrev pub committed : State → Call → PlainOp → Outcome
committed s call op = record {
  state = with_point (change_point s call) (effect_on op s);
  reply = change_reply s call (change_point s call) call.command;
}

unfoldable pub performed : State → Call → Option PlainOp → Outcome
performed s call None = answered s (reading s call)
performed s call (Some op) = committed s call op

unfoldable pub unless_refused : State → Call → Option Refusal → Outcome
unless_refused s call None = performed s call (entry s call)
unless_refused s call (Some refusal) = answered s (reply.Refused refusal)

-- what one command does and answers
unfoldable pub step : State → Call → Outcome
step s call = unless_refused s call (refusal s call)

-- ---- a list of commands

-- their answers, and the state after them
pub record Ran : Type 0 where
  pub replies : List Reply
  pub state : State

abbrev pub behind : Reply → Ran → Ran
behind reply ran = record { replies = reply ∷ ran.replies; state = ran.state }

unfoldable pub fold : State → List Call → Ran
fold s [] = record { replies = []; state = s }
fold s (call ∷ calls) = behind (step s call).reply (fold (step s call).state calls)
