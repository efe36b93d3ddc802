-- How a round ends, and what a crash leaves on its way.
use Rattle.std.proofs.Common.{◌≡◌, ℕ, true, List, [], ◌++◌, Option, None, Ok}
use Rattle.std.proofs.Common.{Err, refl, sym, ap, subst, ◌∙◌, append-nil}
use Rattle.std.specs.Prelude.{Result}
use Rattle.kdb_disk.proofs.Runs.{weaken}
use Rattle.kdb_disk.specs.Frames.{IsCrashSafe}
use Rattle.kdb_disk.specs.declared.disk.Disk.{Ghosts}
use Rattle.iprop_truths.specs.Polls.{nothing_new, reply_of}
use Rattle.kdb_places.specs.Places.{Place, no_point}
use Rattle.dump_text.specs.Judged.{judged as dump_judged, judged_from, nothing}
use Rattle.dump_text.specs.Reader.{ReaderState, answer_of, fresh, judged_with}
use Rattle.dump_text.specs.declared.dumps.Dump.{Dump}
use Rattle.dump_text.specs.declared.stops.DumpStop.{DumpStop}
use Rattle.dump_text.specs.declared.stops.DumpStop.TheVariants as stop
use Rattle.kprop_rounds.specs.Rounds.{EndsAs, IsOfRound, IsReadAs, LeavesSome, RoundEnd, ended}
use Rattle.kprop_rounds.specs.declared.words.RoundWord.{RoundWord}
use Rattle.replica_core.proofs.Moments.{nothing_made}
use Rattle.replica_core.specs.Opened.{IsHeldOn, LeavesMade, place_in}
use Rattle.store_files.specs.Kept.{Kept}
use Rattle.replica_steps.specs.Replicas.{Take, Task, task_makes}

abbrev word_or_none : {E : Type 0} → Result (Option RoundWord) E → Option RoundWord
word_or_none (Ok w) = w
word_or_none (Err e) = None

pub ok_none : {E : Type 0} (w : Option RoundWord) → ◌≡◌ {A = Result (Option RoundWord) E} (Ok w) (Ok None) → w ≡ None
ok_none w e = ap (λ r. word_or_none r) e

-- ---- a dump that is read

read_as : (j : Result Dump ℕ) → IsReadAs (answer_of j) j
read_as (Ok dump) = refl
read_as (Err line) = refl

judged_fresh : (reader : ReaderState) (text : List ℕ) → reader ≡ fresh
    → judged_with reader (text ++ []) ≡ dump_judged text
unfolding judged_with dump_judged
judged_fresh reader text is = ap (λ (r : ReaderState). judged_with r (text ++ [])) is
    ∙ ap (λ (t : List ℕ). judged_from nothing 0 t) (append-nil text)

pub read_whole : (reader after : ReaderState) (text : List ℕ) (result : Result Dump DumpStop) → reader ≡ fresh
    → ((rest : List ℕ) → judged_with after rest ≡ judged_with reader (text ++ rest))
    → result ≡ answer_of (judged_with after []) → IsReadAs result (dump_judged text)
read_whole reader after text result is same answer =
    subst (λ (r : Result Dump DumpStop). IsReadAs r (dump_judged text))
    (sym (answer ∙ ap answer_of (same [] ∙ judged_fresh reader text is))) (read_as (dump_judged text))

pub read_stopped : (reader : ReaderState) (text : List ℕ) (r : Result Unit DumpStop) (s : DumpStop)
    → reader ≡ fresh → r ≡ Err s
    → ((line : ℕ) → r ≡ Err (stop.DumpBad line) → (rest : List ℕ) → judged_with reader (text ++ rest) ≡ Err line)
    → (r ≡ Err stop.WriteFault → ⊥) → IsReadAs (Err s) (dump_judged text)
read_stopped reader text r (stop.DumpBad line) is e bad never = sym (judged_fresh reader text is) ∙ bad line e []
read_stopped reader text r stop.WriteFault is e bad never = never e
read_stopped reader text r stop.MemoryOut is e bad never = tt

-- ---- what a crash leaves

pub crash_some : {D : Type 0} (g : Ghosts D) (old new : D) (size : ℕ) (place : Option Place) (task : Task)
    → IsOfRound task → IsCrashSafe g old new (LeavesMade place (task_makes size place task))
    → IsCrashSafe g old new (LeavesSome size place)
crash_some g old new size place task of_round safe =
    record {
      told = λ tells. weaken (safe.told tells) (λ c is. record { task = task; of_round = of_round; leaves = is });
    }

-- where nothing is done, the files stand for what is held
pub nothing_safe : {D : Type 0} (g : Ghosts D) (now : D) (o : Option Kept) (made : List Place)
    → (g.tells → IsHeldOn o (g.view now))
    → IsCrashSafe g now now (LeavesMade (place_in o) made)
nothing_safe g now o made on = record { told = λ tells. nothing_made o made (g.view now) (on tells) }

pub nothing_some : {D : Type 0} (g : Ghosts D) (now : D) (size : ℕ) (o : Option Kept)
    → (g.tells → IsHeldOn o (g.view now))
    → IsCrashSafe g now now (LeavesSome size (place_in o))
nothing_some g now size o on =
    let idle : Task = Take (reply_of nothing_new no_point []) in
    crash_some g now now size (place_in o) idle tt (nothing_safe g now o (task_makes size (place_in o) idle) on)

-- ---- a round that ends with no change

pub ended_here : (w : RoundWord) (end : RoundEnd) (place : Option Place) → end ≡ ended true w
    → EndsAs (Ok w) end place place
ended_here w end place is = subst (λ (e : RoundEnd). EndsAs (Ok w) e place place) (sym is)
    (record { word_is = refl; place_is = refl; part = tt })
