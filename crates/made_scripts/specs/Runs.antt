-- A script that is played over a database made for it.
use Rattle.std.specs.Prelude.{ℕ, ◌≡◌, List, codes, length, Option, Some, None, replicate}
use Rattle.first_rows.specs.Creation.{first_state}
use Rattle.first_rows.specs.Parts.{SpecParts}
use Rattle.kdb_base.specs.declared.keys.Etype.TheVariants.{Aes256}
use Rattle.kdb_histories.specs.Seen.{seen}
use Rattle.kdb_places.specs.Places.{Place, point_of}
use Rattle.kdb_ports.specs.ChaCha.{key_byte}
use Rattle.kadm_session.specs.Opened.{HasState, Opened, place_of}
use Rattle.kadm_session.specs.Opening.{first_place}
use Rattle.rand_chacha.specs.ChaCha.{key_of}
use Rattle.session_base.specs.Draws.{Draws, behind_command, block_in, moment_in}
use Rattle.made_scripts.specs.Counts.{keys_in}
use Rattle.made_scripts.specs.Plays.{Progress, no_tally, played, progress}
use Rattle.made_scripts.specs.Scripts.{lines_of}
use Rattle.made_scripts.specs.Summaries.{summary_text}
use Rattle.made_scripts.specs.declared.plays.Tally.{Tally}
use Rattle.made_scripts.specs.declared.summaries.Summary.{Summary}
use Rattle.made_scripts.specs.declared.words.Script.{Script}

-- ---- the database

unfoldable pub own_realm : List ℕ
own_realm = codes "EXAMPLE.ORG"

-- as `create EXAMPLE.ORG` makes it: a random master key of enctype 18, and a log of 1000 entries
abbrev pub own_spec : SpecParts
own_spec = record { realm = own_realm; password = None; etype = Aes256; size = 1000 }

-- made at the next moment and with the next block of random bytes
abbrev pub made : Draws → Progress
made draws =
    progress (seen (first_place own_spec (moment_in draws) (block_in draws))
    (first_state own_spec (moment_in draws) (block_in draws)))
    (behind_command draws) no_tally

-- this was made, and what is left of the draws is what comes behind it
pub record IsMade (draws : Draws) (o : Opened) (left : Option Draws) : Type 0 where
  pub place_is : place_of o ≡ first_place own_spec (moment_in draws) (block_in draws)
  pub shows : HasState o (first_state own_spec (moment_in draws) (block_in draws))
  pub left_is : left ≡ Some (behind_command draws)

-- ---- what is told

-- of the rows and of the point of a place
abbrev pub summary_at : ℕ → Tally → Place → Summary
summary_at lines tally place = record {
  lines = lines;
  accepted = tally.accepted;
  refused = tally.refused;
  principals = length place.rows.princs;
  keys = keys_in place.rows.princs;
  point = point_of place;
}

abbrev pub summary_behind : ℕ → Progress → Summary
summary_behind lines end = summary_at lines end.tally end.at.place

-- of a script, where this comes of the clock and of the source of random bytes
abbrev pub summary_of : Script → Draws → Summary
summary_of script draws = summary_behind (length (lines_of script)) (played (lines_of script) (made draws))

-- ---- a clock and a source of its own

-- the key stream of 32 zeros
unfoldable pub own_stream : ℕ → ℕ
own_stream i = key_byte (key_of (replicate 32 0)) i

-- a clock that stands still
abbrev pub own_draws : Draws
own_draws = record { moments = λ _. record { secs = 1700000000; usecs = 0 }; stream = own_stream }

-- a function of the script alone
unfoldable pub told_of : Script → List ℕ
told_of script = summary_text (summary_of script own_draws)
