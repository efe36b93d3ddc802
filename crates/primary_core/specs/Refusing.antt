-- Why calls that are no commands are refused: the primary is closed, the access list does not allow them, or no later
-- time is left.
use Rattle.std.specs.Prelude.{Bool, nat_eq, List, [], ◌∷◌, Option, Some, None, if◌then◌else◌}
use Rattle.acl_text.specs.declared.rules.AclLine.{AclLine}
use Rattle.command_plans.specs.Causes.{denial_of}
use Rattle.kadm_commands.specs.declared.replies.Reply.{Reply}
use Rattle.kadm_commands.specs.declared.replies.Reply.TheVariants.{Refused, Stashed}
use Rattle.kdb_base.specs.declared.outcomes.Refusal.{Refusal}
use Rattle.kdb_base.specs.declared.outcomes.Refusal.TheVariants.{Busy, Closed, TimeEnd}
use Rattle.kdb_model.specs.Access.{asking, asking_alone, master_parts, propagating, setting}
use Rattle.kdb_model.specs.Calls.{is_last}
use Rattle.kdb_model.specs.Refusals.{when}
use Rattle.kdb_base.specs.Moment.{Moment}
use Rattle.kdb_histories.specs.Seen.{moment_at}
use Rattle.kdb_places.specs.Places.{Place, point_of, restashed}
use Rattle.primary_core.specs.Opened.{Opened, place_of}
use Rattle.princ_name.specs.Names.{NameParts}
use Rattle.stash_file.specs.Written.{stash_text}

-- after a fault of the disk it is closed, and else this
abbrev pub unless_closed : Opened → Option Refusal → Option Refusal
unless_closed o other = if o.kept.broken then Some Closed else other

-- the first of these two
abbrev pub or_else : Option Refusal → Option Refusal → Option Refusal
or_else None other = other
or_else (Some why) other = Some why

-- what the access list says against the letter s on K/M
abbrev pub setting_denied : Opened → NameParts → Option (List AclLine) → Option Refusal
setting_denied o client access = denial_of access client (asking setting (master_parts o.kept.realm) ∷ [])

-- and against the letter p
abbrev pub pulling_denied : NameParts → Option (List AclLine) → Option Refusal
pulling_denied client access = denial_of access client (asking_alone propagating ∷ [])

-- as many dumps are under way as may be
abbrev pub is_full : Opened → Bool
is_full o = nat_eq o.dumps o.room

-- why a list of names is refused
abbrev pub names_refused : Opened → NameParts → Option (List AclLine) → Option Refusal
names_refused o client access = unless_closed o (setting_denied o client access)

-- why a poll is refused; a client that is denied is told so by the reply
abbrev pub poll_refused : Opened → Option Refusal
poll_refused o = unless_closed o None

-- why a dump is not begun
abbrev pub dump_refused : Opened → NameParts → Option (List AclLine) → Option Refusal
dump_refused o client access = unless_closed o (or_else (pulling_denied client access) (when (is_full o) Busy))

-- why the log is not begun anew on request
abbrev pub reset_refused : Opened → Option Refusal
reset_refused o = unless_closed o (when (is_last (point_of (place_of o)).time) TimeEnd)

-- why no stash is written
abbrev pub stash_refused : Opened → Option Refusal
stash_refused o = unless_closed o None

-- the place with the master keys in the stash, as it is written at the clock's moment
abbrev pub restashed_at : Moment → Opened → Place
restashed_at clock o = restashed (stash_text o.kept.realm (moment_at clock (place_of o)).secs o.masters) (place_of o)

-- a stash was written, or why not is told
abbrev pub IsStashReply : Reply → Type 0
IsStashReply Stashed = Unit {0}
IsStashReply (Refused why) = Unit {0}
IsStashReply other = ⊥
