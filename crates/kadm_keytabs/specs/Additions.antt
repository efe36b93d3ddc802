-- What `ktadd` answers.
use Rattle.std.specs.Prelude.{ℕ, ◌≡◌, List, ◌++◌, Option, Some, None, Result, Ok, Err, if◌then◌else◌}
use Rattle.kadm_commands.specs.declared.replies.Reply.{Reply}
use Rattle.kadm_commands.specs.declared.replies.Reply.TheVariants as reply
use Rattle.kadm_keytabs.specs.Answers.{keytab_answer, refusal_answer}
use Rattle.kadm_keytabs.specs.declared.answers.Answer.{Answer}
use Rattle.kdb_base.specs.Moment.{Moment}
use Rattle.kdb_base.specs.Moments.{later_moment}
use Rattle.kdb_base.specs.declared.extracts.Extract.{Extract}
use Rattle.kdb_base.specs.declared.outcomes.Refusal.{Refusal}
use Rattle.kdb_base.specs.declared.outcomes.Refusal.TheVariants.{Protected, UnknownPrincipal}
use Rattle.kdb_model.specs.Refusals.{is_protected, named_in}
use Rattle.kdb_plain.specs.declared.princs.PlainPrinc.{PlainPrinc}
use Rattle.kdb_plain.specs.declared.states.State.{State}
use Rattle.keytab_out.specs.Written.{entries_of}
use Rattle.plain_keys.specs.Keys.{extracts}
use Rattle.princ_name.specs.Names.{NameParts}
use Rattle.stash_file.specs.Pieces.{Told}

-- ---- the keys of a principal

abbrev pub keys_found : Option PlainPrinc → Result (List Extract) Refusal
keys_found None = Err UnknownPrincipal
keys_found (Some q) = Ok (extracts q.keys)

-- Those of the greatest version, in the order of the record. The database's own keys are not handed out.
abbrev pub keys_told : State → NameParts → Result (List Extract) Refusal
keys_told s name = if is_protected s.realm name then Err Protected else keys_found (named_in s.princs name)

-- as the line `extract` answers them
abbrev pub reply_with : Result (List Extract) Refusal → Reply
reply_with (Ok keys) = reply.Extracted keys
reply_with (Err why) = reply.Refused why

-- ---- the keytab with them

abbrev pub addition_by : NameParts → ℕ → List Told → Result (List Extract) Refusal → Answer
addition_by name secs entries (Ok keys) = keytab_answer (entries ++ entries_of name secs keys)
addition_by name secs entries (Err why) = refusal_answer why

-- the seconds of a moment of the clock, or of the last change where that is later
abbrev pub secs_at : State → Moment → ℕ
secs_at s clock = (later_moment s.point.time clock).secs

-- The entries that were there, and behind them those of the principal's keys as they stand, with the time of this
-- moment of the clock.
abbrev pub Adds : State → NameParts → Moment → List Told → Answer → Type 0
Adds s name clock entries answer = answer ≡ addition_by name (secs_at s clock) entries (keys_told s name)
