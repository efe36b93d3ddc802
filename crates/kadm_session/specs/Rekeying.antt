-- Many principals rekeyed one after another: what that answers, and the places that the database goes through.
use Rattle.std.specs.Prelude.{ℕ, ◌+◌, List, [], ◌∷◌, ◌++◌, Option, Some, None}
use Rattle.kadm_commands.specs.declared.replies.Reply.{Reply}
use Rattle.kadm_commands.specs.declared.replies.Reply.TheVariants as reply
use Rattle.kadm_commands.specs.declared.replies.Totals.{Totals}
use Rattle.session_base.specs.Draws.{bytes_of}
use Rattle.kdb_base.specs.Moment.{Moment}
use Rattle.kdb_base.specs.declared.outcomes.Refusal.{Refusal}
use Rattle.kdb_histories.specs.Asks.{Answer, Ask, Moved, NotMoved, RekeyedNow}
use Rattle.kdb_histories.specs.Seen.{Seen, after_ask, answer_at, made_at}
use Rattle.kdb_histories.specs.Stages.{places}
use Rattle.kdb_places.specs.Places.{Place}
use Rattle.kdb_ports.specs.Told.{later_bytes}
use Rattle.princ_name.specs.Readings.{name_said}
use Rattle.rekey_work.specs.declared.works.Settled.{Settled}
use Rattle.rekey_work.specs.declared.works.Settled.TheVariants as settled

-- ---- one name

-- the name that is printed so is rekeyed, as an event of its own
abbrev pub rekey_ask : Moment → List ℕ → List ℕ → Ask
rekey_ask clock random word = RekeyedNow (name_said word []) clock random

abbrev pub no_totals : Totals
no_totals = record { updated = 0; already = 0; gone = 0 }

abbrev pub counted : Settled → Totals → Totals
counted (settled.Updated made) totals = record totals { updated = totals.updated + 1 }
counted settled.Already totals = record totals { already = totals.already + 1 }
counted settled.Gone totals = record totals { gone = totals.gone + 1 }
counted (settled.Changed found active) totals = totals

-- an answer as it counts
abbrev pub tally : Answer → Totals → Totals
tally (Moved done) totals = counted done totals
tally other totals = totals

abbrev pub refused_by : Answer → Option Refusal
refused_by (NotMoved why) = Some why
refused_by other = None

-- ---- one name after another

-- Where it stands, the places that were made so far, what was counted, the refusal at which it stopped, and what the
-- source of random bytes has left.
pub record Progress : Type 0 where
  pub at : Seen
  pub made : List Place
  pub totals : Totals
  pub why : Option Refusal
  pub stream : ℕ → ℕ

abbrev pub progress : Seen → List Place → Totals → Option Refusal → (ℕ → ℕ) → Progress
progress at made totals why stream = record { at = at; made = made; totals = totals; why = why; stream = stream }

abbrev pub begun : Seen → (ℕ → ℕ) → Progress
begun at stream = progress at [] no_totals None stream

-- one name more, by how it is asked
abbrev pub asked_more : Ask → Progress → Progress
asked_more ask p =
    progress (after_ask ask p.at) (p.made ++ places (made_at ask p.at)) (tally (answer_at ask p.at) p.totals)
    (refused_by (answer_at ask p.at)) (later_bytes 512 p.stream)

-- with the 512 random bytes that come next
abbrev pub one_more : Moment → List ℕ → Progress → Progress
one_more clock word p = asked_more (rekey_ask clock (bytes_of 512 p.stream) word) p

-- it stops at the first refusal
abbrev pub unless_refused : Option Refusal → Progress → Progress → Progress
unless_refused None p later = later
unless_refused (Some why) p later = p

unfoldable pub rekeyed : List (List ℕ) → Moment → Progress → Progress
rekeyed [] clock p = p
rekeyed (word ∷ words) clock p =
    unless_refused (one_more clock word p).why (one_more clock word p) (rekeyed words clock (one_more clock word p))

abbrev pub totals_or : Option Refusal → Totals → Reply
totals_or None totals = reply.Rekeyed totals
totals_or (Some why) totals = reply.Refused why

-- the totals, or the refusal at which it stopped
abbrev pub rekeyed_reply : Progress → Reply
rekeyed_reply p = totals_or p.why p.totals
