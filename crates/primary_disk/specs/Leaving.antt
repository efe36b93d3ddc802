-- What the calls that may change something leave of a primary and of its disk.
use Rattle.std.specs.Prelude.{◌≡◌, true, false, Result, OnErr}
use Rattle.kdb_disk.specs.Frames.{IsCall, IsCrashSafe}
use Rattle.kdb_disk.specs.declared.disk.Disk.{Ghosts}
use Rattle.kdb_histories.specs.Asks.{Answer, Ask}
use Rattle.kdb_histories.specs.Calls.{Call, Perform}
use Rattle.kdb_histories.specs.Leaving.{Does, MayReach}
use Rattle.kdb_histories.specs.Seen.{after_ask, seen}
use Rattle.kdb_plain.specs.declared.states.State.{State}
use Rattle.primary_core.specs.Opened.{HasState, MayLeave}
use Rattle.primary_disk.specs.Held.{Held, is_broken, place_in}

-- Whatever it answers: the dumps under way stay; where memory was wanted, the disk and the place are as before; where
-- the disk failed, the primary is closed; and what each call says of a disk.
pub record Leaves {D : Type 0} (g : Ghosts D) (old new : Held D) (wanted failed : Type 0) : Type 0 where
  pub dumps : new.opened.dumps ≡ old.opened.dumps
  pub room : new.opened.room ≡ old.opened.room
  pub memory : wanted → new.disk ≡ old.disk
  pub memory_place : wanted → place_in new ≡ place_in old
  pub whole_still : wanted → is_broken new ≡ false
  pub broken : failed → is_broken new ≡ true
  pub call : IsCall g old.disk new.disk failed

-- Where it is stopped or fails: a crash at any moment of it, and a fault, leave a place to which the call may have
-- come.
pub record MayStop {D A E : Type 0} (g : Ghosts D) (old new : Held D) (s : State) (call : Call)
    (result : Result A E) : Type 0 where
  pub crash : is_broken old ≡ false → IsCrashSafe g old.disk new.disk (MayLeave (place_in old) s call)
  pub reach : OnErr result (MayReach (place_in old) s call (place_in new))

-- Where it is done: what is asked answers this and makes its places, and the rows then show the state behind it.
pub record IsDone {D : Type 0} (old new : Held D) (s : State) (ask : Ask) (answer : Answer) : Type 0 where
  pub does : Does (place_in old) s (Perform ask) answer (place_in new)
  pub state : HasState new.opened (after_ask ask (seen (place_in old) s)).state
