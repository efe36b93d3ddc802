use Rattle.std.proofs.Common.{◌≡◌, ◌+◌, ◌-◌, false}
use Rattle.std.specs.Prelude.{Some}
use Rattle.kdb_histories.specs.Seen.{seen}
use Rattle.kdb_plain.specs.declared.states.State.{State}
use Rattle.kadm_session.specs.Opened.{HasState, place_of}
use Rattle.session_base.specs.Draws.{Draws, told_draws}
use Rattle.store_files.specs.Kept.{IsOnDisk}
use Rattle.made_scripts.specs.Plays.{IsUnderWay, no_tally, played, progress}
use Rattle.made_scripts.specs.Scripts.{lines_from, lines_of}
use Rattle.made_scripts.proofs.plays.play.Given as goal

-- What the lines to come come to is the end of the whole script, and the disk holds the place of the primary.
abbrev pub invariant-loop-number : goal.invariant-loop-number
invariant-loop-number g l = record {
  goes : (s : State) (draws : Draws) → HasState l.fn.primary s
      → told_draws (g.C.Clock.moments l.fn.clock) (g.E.Entropy.stream l.fn.entropy) ≡ Some draws
      → IsUnderWay (played (lines_of l.script) (progress (seen (place_of l.fn.primary) s) draws no_tally))
      (lines_from l.script.seed l.number (l.script.count - l.number))
      l.primary (told_draws (g.C.Clock.moments l.clock) (g.E.Entropy.stream l.entropy)) l.tally;
  on : g.D.Disk.tells → IsOnDisk l.primary.kept (g.D.Disk.view l.disk);
  whole : l.primary.kept.broken ≡ false;
  many : l.tally.accepted + l.tally.refused ≡ l.number;
}
