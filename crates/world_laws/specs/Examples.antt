-- A run that there is: a database is made, a replica loads a dump of it, a policy is added, and the replica takes the
-- update.
use Rattle.std.specs.Prelude.{ℕ, ◌≡◌, true, false, List, [], ◌∷◌, codes, replicate, Some, None}
use Rattle.first_rows.specs.Creation.{first_point, first_rows, first_state}
use Rattle.first_rows.specs.Parts.{SpecParts}
use Rattle.iprop_truths.specs.Polls.{PollReply, reply_of, updates_here}
use Rattle.iprop_truths.specs.Truths.{Dumped, Reply}
use Rattle.kadm_commands.specs.declared.commands.Command.TheVariants as command
use Rattle.kadm_commands.specs.declared.replies.Reply.TheVariants as reply
use Rattle.kdb_base.specs.Moment.{Moment}
use Rattle.kdb_base.specs.declared.keys.Etype.TheVariants.{Aes256}
use Rattle.kdb_base.specs.declared.moments.Point.{Point}
use Rattle.kdb_histories.specs.Asks.{Ask, Commanded, Replied}
use Rattle.kdb_histories.specs.Calls.{Perform}
use Rattle.kdb_histories.specs.Seen.{did, moment_at}
use Rattle.kdb_histories.specs.Sites.{Calls, Creates, Dumps, Polls, Stands}
use Rattle.kdb_histories.specs.Stages.{Filled, Stage, stage}
use Rattle.kdb_model.specs.Calls.{call_of}
use Rattle.kdb_places.specs.Places.{Place, change, committed, contents_of, created, next_point, point_of}
use Rattle.kdb_plain.specs.declared.states.State.{State}
use Rattle.kdb_worlds.specs.Worlds.{AtPrimary, AtReplica, Event, Run, World, no_world}
use Rattle.policy_rules.specs.Rules.{Rules}
use Rattle.princ_rows.specs.declared.entries.Op.{Op}
use Rattle.princ_rows.specs.declared.entries.Op.TheVariants as op
use Rattle.princ_name.specs.Names.{NameParts}
use Rattle.replica_steps.specs.Replicas.{Does, Install, Reopen, Take}
use Rattle.stash_file.specs.Written.{stash_text}

-- ---- a policy is added at a place

-- who does it, and when
pub record Adding : Type 0 where
  pub client : NameParts
  pub policy : Rules
  pub clock : Moment
  pub random : List ℕ

-- by the machine's administrator, whom no access list holds back
abbrev pub adding_ask : Adding → Ask
adding_ask a = Commanded (call_of a.client None (command.AddPolicy a.policy) a.clock a.random false)

abbrev pub adding_op : Adding → Op
adding_op a = op.PutPolicy a.policy

abbrev pub added_point : Adding → Place → Point
added_point a p = next_point (moment_at a.clock p) p

abbrev pub added_place : Adding → Place → Place
added_place a p = committed (adding_op a) (moment_at a.clock p) p

abbrev pub added_stage : Adding → Place → Stage
added_stage a p = did (adding_ask a) false (adding_op a) p (added_place a p)

-- ---- the run

-- what a poll from this place's point is told behind it
abbrev pub update_reply : Adding → Place → PollReply
update_reply a p = reply_of updates_here (point_of p) (change (adding_op a) (added_point a p) ∷ [])

-- The creation of this place, of which the rows show this state; a dump, which a replica loads; the command; a poll,
-- and the update.
abbrev pub update_events : Adding → Place → State → List Event
update_events a p s =
    AtPrimary (Creates (stage p (Filled s)) true) None
    ∷ AtPrimary (Dumps a.client None) (Some (Dumped (contents_of p)))
    ∷ AtReplica 0 (Does (Reopen 1000)) None
    ∷ AtReplica 0 (Does (Install (contents_of p))) None
    ∷ AtPrimary (Calls (Perform (adding_ask a)) (Replied (reply.Done (added_point a p))) (added_stage a p ∷ [])) None
    ∷ AtPrimary (Polls a.client None (point_of p)) (Some (Reply (update_reply a p)))
    ∷ AtReplica 0 (Does (Take (update_reply a p))) None
    ∷ []

-- The events lead to a world whose primary stands at this place, and whose first replica has its contents.
pub record LeadsToUpdate (events : List Event) (q : Place) : Type 0 where
  pub world : World
  pub run : Run no_world events world
  pub at : Stands world.site
  pub last : at.last.place ≡ q
  pub copy : Place
  pub there : (world.replicas 0).place ≡ Some copy
  pub same : contents_of copy ≡ contents_of q

-- ---- one of them, in the realm EXAMPLE.ORG, whose log holds 1000 entries

abbrev pub example_spec : SpecParts
example_spec = record { realm = codes "EXAMPLE.ORG"; password = None; etype = Aes256; size = 1000 }

-- 2048 bytes
unfoldable pub example_random : List ℕ
example_random = replicate 2048 7

-- in September of 2001
abbrev pub example_moment : Moment
example_moment = record { secs = 1000000000; usecs = 0 }

abbrev pub example_state : State
example_state = first_state example_spec example_moment example_random

abbrev pub example_place : Place
example_place =
    created example_spec.realm (first_rows example_spec example_moment example_random)
    (first_point example_moment) example_spec.size 2048
    (Some (stash_text example_spec.realm example_moment.secs example_state.masters)) 2

-- addpol -minlength 8 -minclasses 2 staff, by admin/local, a second later
abbrev pub example_adding : Adding
example_adding = record {
  client = record { parts = codes "admin" ∷ codes "local" ∷ []; realm = codes "EXAMPLE.ORG" };
  policy = record { name = codes "staff"; max_life = 0; min_life = 0; min_length = 8; min_classes = 2; history = 1 };
  clock = record { secs = 1000000001; usecs = 0 };
  random = example_random;
}

abbrev pub example_events : List Event
example_events = update_events example_adding example_place example_state
