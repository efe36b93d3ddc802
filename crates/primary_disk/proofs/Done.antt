-- What is asked of one principal, done: its answer and the state behind it.
use Rattle.std.proofs.Common.{◌≡◌, ℕ, List, Option, Some, false, subst}
use Rattle.kdb_histories.specs.Asks.{Answer, Ask}
use Rattle.kdb_histories.specs.Calls.{Perform}
use Rattle.kdb_histories.specs.Leaving.{Does}
use Rattle.kdb_histories.specs.Seen.{after_ask, seen}
use Rattle.kdb_plain.specs.declared.states.State.{State}
use Rattle.primary_core.specs.Opened.{HasState}
use Rattle.primary_disk.specs.Held.{Held, is_broken, place_in}
use Rattle.primary_disk.specs.Leaving.{IsDone}
use Rattle.princ_name.specs.Names.{NameParts, printed}

pub asked_done : {D : Type 0} (held old new : Held D) → held ≡ old
    → (name : List ℕ) (told : Option Answer) (ask : NameParts → Ask)
    → ((s : State) (who : NameParts) (answer : Answer) → is_broken held ≡ false → HasState held.opened s
    → printed who ≡ name → told ≡ Some answer → Does (place_in held) s (Perform (ask who)) answer (place_in new))
    → ((s : State) (who : NameParts) (answer : Answer) → is_broken held ≡ false → HasState held.opened s → printed who
    ≡ name → told ≡ Some answer → HasState new.opened (after_ask (ask who) (seen (place_in held) s)).state)
    → (s : State) (who : NameParts) (answer : Answer) → is_broken old ≡ false → HasState old.opened s
    → printed who ≡ name → told ≡ Some answer → IsDone old new s (ask who) answer
asked_done {D} held old new same name told ask does state =
    subst (λ (h : Held D). (s : State) (who : NameParts) (answer : Answer) → is_broken h ≡ false → HasState h.opened s
    → printed who ≡ name → told ≡ Some answer → IsDone h new s (ask who) answer) same
    (λ s who answer whole has named is.
    record { does = does s who answer whole has named is; state = state s who answer whole has named is })
