-- A disk on which nothing was done, and one on which a primary stands whatever its call answers.
use Rattle.std.proofs.Common.{◌≡◌, Bool, true, false, inl, refl, subst, sym}
use Rattle.std.specs.Prelude.{Result, Ok, Err, OnOk}
use Rattle.kdb_base.specs.declared.outcomes.Halt.TheVariants.{DiskFault, MemoryOut}
use Rattle.kdb_base.specs.declared.outcomes.Refusal.{Refusal}
use Rattle.kdb_base.specs.declared.outcomes.Stop.{Stop}
use Rattle.kdb_base.specs.declared.outcomes.Stop.TheVariants as stop
use Rattle.kdb_disk.proofs.Runs.{started}
use Rattle.kdb_disk.specs.Frames.{IsCrashSafe}
use Rattle.kdb_disk.specs.declared.disk.Disk.{Ghosts}
use Rattle.kdb_histories.specs.Calls.{Call}
use Rattle.kdb_places.specs.Places.{Place}
use Rattle.kdb_plain.specs.declared.states.State.{State}
use Rattle.primary_core.proofs.Called.{call_stays}
use Rattle.primary_core.specs.Opened.{MayLeave, Opened}
use Rattle.primary_disk.specs.Held.{Held, Stands, place_in}
use Rattle.primary_disk.specs.Leaving.{MayStop}
use Rattle.store_files.specs.Kept.{IsOnDisk, Kept, place_kept}
use Rattle.store_files.specs.Recovery.{RecoversTo}

still_safe : {D : Type 0} (g : Ghosts D) (disk : D) (p : Place) (s : State) (call : Call)
    → (g.tells → RecoversTo p (g.view disk)) → IsCrashSafe g disk disk (MayLeave p s call)
still_safe g disk p s call stands = record { told = λ t. started _ _ (λ f i. call_stays p s call f (stands t f i)) }

-- a call that stops before it does anything
pub still_stops : {D A E : Type 0} (g : Ghosts D) (held old : Held D) → held ≡ old → (s : State) (call : Call) (e : E)
    → Stands g held.disk held.opened
    → ((k : Kept) → IsOnDisk k (g.view held.disk) → RecoversTo (place_kept k) (g.view held.disk))
    → MayStop {A = A} g old old s call (Err e)
still_stops {D} {A} {E} g held old same s call e stands recovers =
    subst (λ (h : Held D). MayStop {A = A} g h h s call (Err e)) same
    (record {
      crash = λ whole. still_safe g held.disk (place_in held) s call (λ t. recovers held.opened.kept (stands t whole));
      reach = inl refl;
    })

-- ---- what is open stands on the disk

not_both : {P : Type 0} (b : Bool) → b ≡ true → b ≡ false → P
not_both true t f = absurd cc
not_both false t f = absurd cc

-- A call that keeps both where it refuses, and tells of the disk where it does not, leaves what is open standing on it.
pub stands_after : {D A : Type 0} (g : Ghosts D) (disk disk_new : D) (old new : Opened) (r : Result A Stop)
    → Stands g disk old
    → ((why : Refusal) → r ≡ Err (stop.Refused why) → (new ≡ old) × (disk_new ≡ disk))
    → (g.tells → OnOk r (IsOnDisk new.kept (g.view disk_new)))
    → (g.tells → r ≡ Err (stop.Halt MemoryOut) → IsOnDisk new.kept (g.view disk_new))
    → (r ≡ Err (stop.Halt DiskFault) → new.kept.broken ≡ true)
    → Stands g disk_new new
stands_after g disk disk_new old new (Ok a) stands keeps on still broken = λ t whole. on t
stands_after {D} {A} g disk disk_new old new (Err (stop.Refused why)) stands keeps on still broken =
    let same = keeps why refl in
    subst (λ (d : D). Stands g d new) (sym same.1) (subst (λ (o : Opened). Stands g disk o) (sym same.0) stands)
stands_after g disk disk_new old new (Err (stop.Halt MemoryOut)) stands keeps on still broken = λ t whole. still t refl
stands_after g disk disk_new old new (Err (stop.Halt DiskFault)) stands keeps on still broken =
    λ t whole. not_both new.kept.broken (broken refl) whole
