-- From what a run comes to, to what its status says.
use Rattle.std.proofs.Common.{◌≡◌, ◌≢◌, ℕ, Bool, true, false, List, Option, Ok, Err, refl, sym, subst, ◌∙◌}
use Rattle.std.specs.Prelude.{Result, IfOk, OnErr, OnOk}
use Rattle.iprop_links.specs.Arriving.{Counts}
use Rattle.iprop_links.specs.Asking.{sent_in}
use Rattle.kdb_base.specs.declared.outcomes.Refusal.{Refusal}
use Rattle.kdb_base.specs.declared.outcomes.Status.{Status}
use Rattle.kdb_base.specs.declared.outcomes.Status.TheVariants as status
use Rattle.kdb_disk.specs.Frames.{IsCall}
use Rattle.kdb_disk.specs.View.{View}
use Rattle.kdb_disk.specs.declared.disk.Disk.{Ghosts}
use Rattle.kdb_places.specs.Places.{Place}
use Rattle.kdb_ports.specs.Links.{Wire}
use Rattle.kdb_ports.specs.Parts.{SaidPart}
use Rattle.kdb_ports.specs.Told.{after_told}
use Rattle.kprop_runs.specs.Halts.{OnEnd, OnStop, status_after}
use Rattle.kprop_runs.specs.Openings.{Opening}
use Rattle.kprop_runs.specs.Runs.{EndsAs, HasRefusal, HasRun, IsRefusal, IsRun, RunHolds, RunStops, Stands, run_end}
use Rattle.kprop_runs.specs.declared.halts.RunHalt.{RunHalt}
use Rattle.kprop_runs.specs.declared.halts.RunHalt.TheVariants as run

-- a run that went through
on_end : (r : Result Bool RunHalt) (P : Bool → Type 0) → IfOk r P → OnEnd (status_after r) P
on_end (Ok true) P p = p
on_end (Ok false) P p = p
on_end (Err run.MemoryOut) P p = tt
on_end (Err run.WriteFault) P p = tt
on_end (Err run.DiskFault) P p = tt
on_end (Err run.LinkFault) P p = tt
on_end (Err run.InputTooLong) P p = tt

on_done : (r : Result Bool RunHalt) (P : Type 0) → OnOk r P → OnEnd (status_after r) (λ refused. P)
on_done (Ok true) P p = p
on_done (Ok false) P p = p
on_done (Err run.MemoryOut) P p = tt
on_done (Err run.WriteFault) P p = tt
on_done (Err run.DiskFault) P p = tt
on_done (Err run.LinkFault) P p = tt
on_done (Err run.InputTooLong) P p = tt

-- a run that was stopped
on_stop : (r : Result Bool RunHalt) (P : Type 0) → OnErr r P → OnStop (status_after r) P
on_stop (Ok true) P p = tt
on_stop (Ok false) P p = tt
on_stop (Err run.MemoryOut) P p = p
on_stop (Err run.WriteFault) P p = p
on_stop (Err run.DiskFault) P p = p
on_stop (Err run.LinkFault) P p = p
on_stop (Err run.InputTooLong) P p = p

-- ---- which result a status comes from

for_write : (r : Result Bool RunHalt) → status_after r ≡ status.WriteFault → r ≡ Err run.WriteFault
for_write (Ok true) e = absurd cc
for_write (Ok false) e = absurd cc
for_write (Err run.MemoryOut) e = absurd cc
for_write (Err run.WriteFault) e = refl
for_write (Err run.DiskFault) e = absurd cc
for_write (Err run.LinkFault) e = absurd cc
for_write (Err run.InputTooLong) e = absurd cc

for_disk : (r : Result Bool RunHalt) → status_after r ≡ status.DiskFault → r ≡ Err run.DiskFault
for_disk (Ok true) e = absurd cc
for_disk (Ok false) e = absurd cc
for_disk (Err run.MemoryOut) e = absurd cc
for_disk (Err run.WriteFault) e = absurd cc
for_disk (Err run.DiskFault) e = refl
for_disk (Err run.LinkFault) e = absurd cc
for_disk (Err run.InputTooLong) e = absurd cc

for_link : (r : Result Bool RunHalt) → status_after r ≡ status.LinkFault → r ≡ Err run.LinkFault
for_link (Ok true) e = absurd cc
for_link (Ok false) e = absurd cc
for_link (Err run.MemoryOut) e = absurd cc
for_link (Err run.WriteFault) e = absurd cc
for_link (Err run.DiskFault) e = absurd cc
for_link (Err run.LinkFault) e = refl
for_link (Err run.InputTooLong) e = absurd cc

no_read : (r : Result Bool RunHalt) → status_after r ≢ status.ReadFault
no_read (Ok true) e = absurd cc
no_read (Ok false) e = absurd cc
no_read (Err run.MemoryOut) e = absurd cc
no_read (Err run.WriteFault) e = absurd cc
no_read (Err run.DiskFault) e = absurd cc
no_read (Err run.LinkFault) e = absurd cc
no_read (Err run.InputTooLong) e = absurd cc

-- ---- all of it

module _ (s : Status) (r : Result Bool RunHalt) (is : s ≡ status_after r) where
  pub run_by : (o : Opening) (found : Result Place Refusal) (w : Wire) (taken : Option (List ℕ)) (old now : View)
      (told : Option Wire) (out : Option (List ℕ))
      → HasRun o found w taken old now told out r → IsRun o found w taken old now told out s
  run_by o found w taken old now told out has =
      subst (λ (x : Status). IsRun o found w taken old now told out x) (sym is) (record {
        ended = on_end r (λ refused. EndsAs (run_end o w taken) told out refused × Stands o w taken old now) has.ended;
        stopped = on_stop r (RunStops o w taken (sent_in told) out) has.stopped;
        holds = on_stop r (RunHolds o w taken out now) has.holds;
        moments = has.moments;
      })

  pub ends_by : (P : Type 0) → OnOk r P → OnEnd s (λ refused. P)
  ends_by P p = subst (λ (x : Status). OnEnd x (λ refused. P)) (sym is) (on_done r P p)

  pub refusal_by : (text : List ℕ) (taken out : Option (List ℕ)) → HasRefusal text taken out r
      → IsRefusal text taken out s
  refusal_by text taken out has =
      subst (λ (x : Status). IsRefusal text taken out x) (sym is) (record {
        ended = on_end r (λ refused. (refused ≡ true) × (out ≡ after_told taken text)) has.ended;
        stopped = on_stop r (SaidPart text taken out) has.stopped;
      })

  pub call_by : {D : Type 0} (g : Ghosts D) (old new : D) → IsCall g old new (r ≡ Err run.DiskFault)
      → IsCall g old new (s ≡ status.DiskFault)
  call_by g old new call =
      record { same = call.same; later = call.later; cause = λ e. call.cause (for_disk r (sym is ∙ e)) }

  pub links_by : (before now : ℕ) → Counts before now (r ≡ Err run.LinkFault) → Counts before now (s ≡ status.LinkFault)
  links_by before now counts = record { later = counts.later; cause = λ e. counts.cause (for_link r (sym is ∙ e)) }

  pub writes_by : (before now : ℕ) → Counts before now (r ≡ Err run.WriteFault)
      → Counts before now (s ≡ status.WriteFault)
  writes_by before now counts = record { later = counts.later; cause = λ e. counts.cause (for_write r (sym is ∙ e)) }

  pub never_read : s ≢ status.ReadFault
  never_read e = no_read r (sym is ∙ e)
