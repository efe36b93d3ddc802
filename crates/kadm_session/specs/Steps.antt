-- What is answered to the lines of an input, and the places that the database goes through. All is a function of the
-- lines, of what the clock and the source of random bytes give, and of a place with the state that its rows show.
use Rattle.std.specs.Prelude.{ℕ, Bool, true, false, ◌||◌, List, [], ◌∷◌, ◌++◌, codes, Option, Some, None}
use Rattle.kadm_commands.specs.declared.commands.Command.{Command}
use Rattle.kadm_commands.specs.declared.replies.Reply.{Reply}
use Rattle.kadm_commands.specs.declared.replies.Reply.TheVariants as reply
use Rattle.session_base.specs.Draws.{Draws, behind_command, behind_moment, block_in, moment_in}
use Rattle.kadm_session.specs.Dumping.{dump_answer}
use Rattle.kadm_session.specs.Rekeying.{Progress, begun, rekeyed, rekeyed_reply}
use Rattle.kadm_session.specs.Renewing.{after_reset, places_reset, reset_reply}
use Rattle.session_base.specs.Replies.{text_of}
use Rattle.kadm_session.specs.declared.intake.Asked.{Asked}
use Rattle.kadm_session.specs.declared.intake.Asked.TheVariants.{Nothing, Refused, Does, Rekeys, ResetsLog, WritesDump}
use Rattle.kdb_base.specs.Moment.{Moment}
use Rattle.kdb_histories.specs.Asks.{Answer, Ask, Replied}
use Rattle.kdb_histories.specs.Seen.{Seen, after_ask, answer_at, made_at}
use Rattle.kdb_histories.specs.Stages.{places}
use Rattle.kdb_places.specs.Places.{Place}
use Rattle.kdb_plain.specs.Lists.{princ_names}
use Rattle.kdb_ports.specs.Told.{later_moments}
use Rattle.primary_answers.specs.Listing.{names_told}
use Rattle.primary_core.specs.Opened.{command_ask}
use Rattle.princ_name.specs.Names.{NameParts}
use Rattle.princ_name.specs.RealmNames.{name_in}

-- the administrator at the machine itself: admin/local of the realm
abbrev pub local_client : List ℕ → NameParts
local_client realm = name_in (codes "admin" ∷ codes "local" ∷ []) realm

-- ---- one line

-- the command as it is asked, without an access list, at a moment of the clock and with a block of random bytes
abbrev pub ask_at : Command → Moment → List ℕ → Seen → Ask
ask_at command now random at = command_ask (local_client at.place.realm) None command now random

abbrev pub ask_of : Command → Draws → Seen → Ask
ask_of command draws at = ask_at command (moment_in draws) (block_in draws) at

abbrev pub reply_in_answer : Answer → Option Reply
reply_in_answer (Replied reply) = Some reply
reply_in_answer other = None

-- the names of the state that the glob matches, rekeyed one after another at one moment
abbrev pub rekeyed_by : Option (List ℕ) → Draws → Seen → Progress
rekeyed_by glob draws at =
    rekeyed (names_told glob (princ_names at.state.princs)) (moment_in draws) (begun at draws.stream)

-- A skipped line has no reply. A dump is no value of a reply: what is written for it is a text alone.
unfoldable pub reply_to : Asked → Draws → Seen → Option Reply
reply_to Nothing draws at = None
reply_to (Refused refusal) draws at = Some (reply.Refused refusal)
reply_to (Does command) draws at = reply_in_answer (answer_at (ask_of command draws at) at)
reply_to (Rekeys glob) draws at = Some (rekeyed_reply (rekeyed_by glob draws at))
reply_to ResetsLog draws at = Some (reset_reply (moment_in draws) at)
reply_to WritesDump draws at = None

-- the place and the state after it
unfoldable pub seen_after : Asked → Draws → Seen → Seen
seen_after Nothing draws at = at
seen_after (Refused refusal) draws at = at
seen_after (Does command) draws at = after_ask (ask_of command draws at) at
seen_after (Rekeys glob) draws at = (rekeyed_by glob draws at).at
seen_after ResetsLog draws at = after_reset (moment_in draws) at
seen_after WritesDump draws at = at

-- the places that it makes: none, those of its change, those of the rekeyings, or that of the log begun anew on
-- request; a change has one, or before it that of a log begun anew
unfoldable pub places_by : Asked → Draws → Seen → List Place
places_by Nothing draws at = []
places_by (Refused refusal) draws at = []
places_by (Does command) draws at = places (made_at (ask_of command draws at) at)
places_by (Rekeys glob) draws at = (rekeyed_by glob draws at).made
places_by ResetsLog draws at = places_reset (moment_in draws) at
places_by WritesDump draws at = []

-- those at which it may stop for want of memory or of random bytes: rekeyings that were settled before stay
abbrev pub halfway : Asked → Draws → Seen → List Place
halfway (Rekeys glob) draws at = places_by (Rekeys glob) draws at
halfway other draws at = []

-- A line that gives no command reads no clock and draws nothing. Of many that are rekeyed each has its own 512 bytes,
-- up to the first that is refused. A log that is begun anew on request takes a moment alone, and a dump what each
-- command takes.
unfoldable pub draws_after : Asked → Draws → Seen → Draws
draws_after Nothing draws at = draws
draws_after (Refused refusal) draws at = draws
draws_after (Does command) draws at = behind_command draws
draws_after (Rekeys glob) draws at =
    record { moments = later_moments draws.moments; stream = (rekeyed_by glob draws at).stream }
draws_after ResetsLog draws at = behind_moment draws
draws_after WritesDump draws at = behind_command draws

abbrev pub refuses : Reply → Bool
refuses (reply.Refused refusal) = true
refuses other = false

abbrev pub is_refusal : Option Reply → Bool
is_refusal None = false
is_refusal (Some reply) = refuses reply

-- what is written for a line of which this is the reply, at this place: the reply, or a dump
abbrev pub line_text : Asked → Place → Option Reply → List ℕ
line_text WritesDump p reply = dump_answer p
line_text other p reply = text_of reply

abbrev pub text_to : Asked → Draws → Seen → List ℕ
text_to asked draws at = line_text asked at.place (reply_to asked draws at)

-- ---- one line after another

-- all that is answered, whether a refusal is among it, the place and the state in the end, and what the clock and the
-- source have left
pub record Said : Type 0 where
  pub bytes : List ℕ
  pub refused : Bool
  pub at : Seen
  pub draws : Draws

abbrev pub after_reply : List ℕ → Option Reply → Said → Said
after_reply text reply later = record {
  bytes = text ++ later.bytes;
  refused = is_refusal reply || later.refused;
  at = later.at;
  draws = later.draws;
}

unfoldable pub said : List Asked → Draws → Seen → Said
said [] draws at = record { bytes = []; refused = false; at = at; draws = draws }
said (asked ∷ commands) draws at =
    after_reply (text_to asked draws at) (reply_to asked draws at)
    (said commands (draws_after asked draws at) (seen_after asked draws at))

-- the places that they make, in their order
unfoldable pub places_made : List Asked → Draws → Seen → List Place
places_made [] draws at = []
places_made (asked ∷ commands) draws at =
    places_by asked draws at ++ places_made commands (draws_after asked draws at) (seen_after asked draws at)
