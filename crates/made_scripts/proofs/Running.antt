-- A script that is run over what was made for it, and a clock and a source of random bytes of its own.
use Rattle.std.proofs.Common.{◌≡◌, ◌∙◌, ℕ, sym}
use Rattle.std.specs.Prelude.{Option, Some, Result, Ok, Err, IfOk, replicate}
use Rattle.first_rows.specs.Creation.{first_state}
use Rattle.kdb_base.specs.Moment.{Moment}
use Rattle.kdb_histories.specs.Seen.{seen}
use Rattle.kdb_ports.specs.ChaCha.{key_byte}
use Rattle.kdb_ports.specs.Told.{always}
use Rattle.kadm_session.specs.Opened.{Opened, place_of}
use Rattle.rand_chacha.specs.ChaCha.{key_of}
use Rattle.session_base.specs.Draws.{Draws, behind_command, block_in, moment_in, told_draws}
use Rattle.made_scripts.proofs.Playing.{lines_counted}
use Rattle.made_scripts.specs.Plays.{no_tally, played, progress}
use Rattle.made_scripts.specs.Runs.{IsMade, own_draws, own_spec, own_stream, summary_behind, summary_of}
use Rattle.made_scripts.specs.Scripts.{lines_of}
use Rattle.made_scripts.specs.declared.summaries.Summary.{Summary}
use Rattle.made_scripts.specs.declared.words.Script.{Script}

-- what was told of a script that is played over what was made is what is told of the script
pub told_whole : {E : Type 0} (r : Result Summary E) (script : Script) (draws : Draws) (o : Opened)
    (left : Option Draws) → IsMade draws o left
    → IfOk r (λ summary. summary ≡ summary_behind script.count (played (lines_of script) (progress
    (seen (place_of o) (first_state own_spec (moment_in draws) (block_in draws))) (behind_command draws) no_tally)))
    → IfOk r (λ summary. summary ≡ summary_of script draws)
told_whole {E} (Ok summary) script draws o left is_made told =
    told ∙ (λ i. summary_behind (sym (lines_counted script.seed 0 script.count) i)
    (played (lines_of script)
    (progress (seen (is_made.place_is i) (first_state own_spec (moment_in draws) (block_in draws)))
    (behind_command draws) no_tally)))
told_whole {E} (Err halt) script draws o left is_made told = tt

pub own_told : (now_ : Moment) (stream : Option (ℕ → ℕ)) → now_ ≡ record { secs = 1700000000; usecs = 0 }
    → stream ≡ Some (key_byte (key_of (replicate 32 0)))
    → told_draws (always now_) stream ≡ Some own_draws
unfolding own_stream
own_told now_ stream stands comes = λ i. told_draws (always (stands i)) (comes i)
