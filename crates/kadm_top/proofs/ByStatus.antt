-- From what a run comes to, to what its status says.
use Rattle.std.proofs.Common.{◌≡◌, ◌≢◌, ◌≤◌, ◌∙◌, ◌⊎◌, ℕ, refl, sym, subst, inl, inr, Bool, true, false, arith}
use Rattle.std.specs.Prelude.{Option, List, Result, Ok, Err, IfErr, IfOk, OnErr, OnOk}
use Rattle.kadm_loading.specs.Halts.{SparesOutput}
use Rattle.kadm_session.specs.declared.intake.Asked.{Asked}
use Rattle.session_base.specs.declared.halts.SessionHalt.{SessionHalt}
use Rattle.session_base.specs.declared.halts.SessionHalt.TheVariants as session
use Rattle.kadm_top.specs.Openings.{Opening}
use Rattle.kadm_top.specs.Reads.{InputIsRead}
use Rattle.kadm_top.specs.Run.{HasRun, RunRests, Told, begun_at}
use Rattle.kadm_top.specs.Statuses.{Faults, HasCauses, IsRun, IsSayHalt, OnEnd, OnRest}
use Rattle.kadm_top.specs.Statuses.{OnStop, StatusHasCauses, begun_by, faults, status_after}
use Rattle.kdb_base.specs.Causes.{Rose}
use Rattle.kdb_base.specs.declared.outcomes.Status.{Status}
use Rattle.kdb_base.specs.declared.outcomes.Status.TheVariants as status
use Rattle.kdb_disk.specs.View.{View}
use Rattle.kdb_places.specs.Places.{Place}

-- a run that went through
on_end : (r : Result Bool SessionHalt) (P : Bool → Type 0) → IfOk r P → OnEnd (status_after r) P
on_end (Ok true) P p = p
on_end (Ok false) P p = p
on_end (Err session.MemoryOut) P p = tt
on_end (Err session.ReadFault) P p = tt
on_end (Err session.WriteFault) P p = tt
on_end (Err session.DiskFault) P p = tt
on_end (Err session.DrawFault) P p = tt
on_end (Err session.InputTooLong) P p = tt

on_end_any : (r : Result Bool SessionHalt) (P : Type 0) → OnOk r P → OnEnd (status_after r) (λ _. P)
on_end_any (Ok true) P p = p
on_end_any (Ok false) P p = p
on_end_any (Err session.MemoryOut) P p = tt
on_end_any (Err session.ReadFault) P p = tt
on_end_any (Err session.WriteFault) P p = tt
on_end_any (Err session.DiskFault) P p = tt
on_end_any (Err session.DrawFault) P p = tt
on_end_any (Err session.InputTooLong) P p = tt

-- a run that was stopped
on_stop : (r : Result Bool SessionHalt) (P : Type 0) → OnErr r P → OnStop (status_after r) P
on_stop (Ok true) P p = tt
on_stop (Ok false) P p = tt
on_stop (Err session.MemoryOut) P p = p
on_stop (Err session.ReadFault) P p = p
on_stop (Err session.WriteFault) P p = p
on_stop (Err session.DiskFault) P p = p
on_stop (Err session.DrawFault) P p = p
on_stop (Err session.InputTooLong) P p = p

on_rest : (r : Result Bool SessionHalt) (P : (List Asked → Place → List ℕ) → Type 0)
    → IfErr r (λ halt. SparesOutput halt → P (begun_at halt))
    → OnRest (status_after r) (P (begun_by (status_after r)))
on_rest (Ok true) P p = tt
on_rest (Ok false) P p = tt
on_rest (Err session.MemoryOut) P p = p tt
on_rest (Err session.ReadFault) P p = p tt
on_rest (Err session.WriteFault) P p = tt
on_rest (Err session.DiskFault) P p = tt
on_rest (Err session.DrawFault) P p = p tt
on_rest (Err session.InputTooLong) P p = p tt

-- ---- which result a status comes from

for_read : (r : Result Bool SessionHalt) → status_after r ≡ status.ReadFault
    → (r ≡ Err session.ReadFault) ⊎ (r ≡ Err session.DrawFault)
for_read (Ok true) e = absurd cc
for_read (Ok false) e = absurd cc
for_read (Err session.MemoryOut) e = absurd cc
for_read (Err session.ReadFault) e = inl refl
for_read (Err session.WriteFault) e = absurd cc
for_read (Err session.DiskFault) e = absurd cc
for_read (Err session.DrawFault) e = inr refl
for_read (Err session.InputTooLong) e = absurd cc

for_write : (r : Result Bool SessionHalt) → status_after r ≡ status.WriteFault → r ≡ Err session.WriteFault
for_write (Ok true) e = absurd cc
for_write (Ok false) e = absurd cc
for_write (Err session.MemoryOut) e = absurd cc
for_write (Err session.ReadFault) e = absurd cc
for_write (Err session.WriteFault) e = refl
for_write (Err session.DiskFault) e = absurd cc
for_write (Err session.DrawFault) e = absurd cc
for_write (Err session.InputTooLong) e = absurd cc

for_disk : (r : Result Bool SessionHalt) → status_after r ≡ status.DiskFault → r ≡ Err session.DiskFault
for_disk (Ok true) e = absurd cc
for_disk (Ok false) e = absurd cc
for_disk (Err session.MemoryOut) e = absurd cc
for_disk (Err session.ReadFault) e = absurd cc
for_disk (Err session.WriteFault) e = absurd cc
for_disk (Err session.DiskFault) e = refl
for_disk (Err session.DrawFault) e = absurd cc
for_disk (Err session.InputTooLong) e = absurd cc

for_long : (r : Result Bool SessionHalt) → status_after r ≡ status.InputTooLong → r ≡ Err session.InputTooLong
for_long (Ok true) e = absurd cc
for_long (Ok false) e = absurd cc
for_long (Err session.MemoryOut) e = absurd cc
for_long (Err session.ReadFault) e = absurd cc
for_long (Err session.WriteFault) e = absurd cc
for_long (Err session.DiskFault) e = absurd cc
for_long (Err session.DrawFault) e = absurd cc
for_long (Err session.InputTooLong) e = refl

for_done : (r : Result Bool SessionHalt) → status_after r ≡ status.Done → r ≡ Ok false
for_done (Ok true) e = absurd cc
for_done (Ok false) e = refl
for_done (Err session.MemoryOut) e = absurd cc
for_done (Err session.ReadFault) e = absurd cc
for_done (Err session.WriteFault) e = absurd cc
for_done (Err session.DiskFault) e = absurd cc
for_done (Err session.DrawFault) e = absurd cc
for_done (Err session.InputTooLong) e = absurd cc

for_refused : (r : Result Bool SessionHalt) → status_after r ≡ status.Refused → r ≡ Ok true
for_refused (Ok true) e = refl
for_refused (Ok false) e = absurd cc
for_refused (Err session.MemoryOut) e = absurd cc
for_refused (Err session.ReadFault) e = absurd cc
for_refused (Err session.WriteFault) e = absurd cc
for_refused (Err session.DiskFault) e = absurd cc
for_refused (Err session.DrawFault) e = absurd cc
for_refused (Err session.InputTooLong) e = absurd cc

for_link : (r : Result Bool SessionHalt) → status_after r ≢ status.LinkFault
for_link (Ok true) e = absurd cc
for_link (Ok false) e = absurd cc
for_link (Err session.MemoryOut) e = absurd cc
for_link (Err session.ReadFault) e = absurd cc
for_link (Err session.WriteFault) e = absurd cc
for_link (Err session.DiskFault) e = absurd cc
for_link (Err session.DrawFault) e = absurd cc
for_link (Err session.InputTooLong) e = absurd cc

-- ---- all of it

pub run_by_status : {o : Opening} {old now : View} {before after : Told} (s : Status) (r : Result Bool SessionHalt)
    → s ≡ status_after r → HasRun o old now before after r → IsRun o old now before after s
run_by_status {o} {old} {now} {before} {after} s r is run =
    subst (λ (x : Status). IsRun o old now before after x) (sym is) (record {
      ended = λ end e. on_end r _ (run.ended end e);
      stopped = on_stop r _ run.stopped;
      rests = on_rest r (λ begun. RunRests begun o old before after.taken now) run.rests;
      moments = run.moments;
      read = λ reads. on_end_any r _ (run.read reads);
    })

pub end_by_status : (s : Status) (r : Result Bool SessionHalt) (P : Type 0) → s ≡ status_after r → OnOk r P
    → OnEnd s (λ _. P)
end_by_status s r P is ok = subst (λ (x : Status). OnEnd x (λ _. P)) (sym is) (on_end_any r P ok)

pub input_by_status : {S : Type 0} {left : S → Option (List ℕ)} {old new : S} {found words : Type 0} (s : Status)
    (r : Result Bool SessionHalt) → s ≡ status_after r → (words → found)
    → InputIsRead left old new (found × (r ≡ Ok false)) (r ≡ Ok true) (r ≡ Err session.InputTooLong)
    → InputIsRead left old new (words × (s ≡ status.Done)) (s ≡ status.Refused) (s ≡ status.InputTooLong)
input_by_status s r is reads input = record {
  when_done = λ both. input.when_done (reads both.0, for_done r (sym is ∙ both.1));
  when_refused = λ e. input.when_refused (for_refused r (sym is ∙ e));
  when_long = λ e. input.when_long (for_long r (sym is ∙ e));
}

-- nothing failed and nothing was read
pub causes_out : (f : Faults) → HasCauses f f (Err session.MemoryOut)
causes_out f = record {
  reads = record { later = omega arith; cause = λ e. absurd cc };
  writes = record { later = omega arith; cause = λ e. absurd cc };
  calls = record { later = omega arith; cause = λ e. absurd cc };
  draws = record { later = omega arith; cause = λ e. absurd cc };
}

pub causes_by_status : {before now : Faults} (s : Status) (r : Result Bool SessionHalt) → s ≡ status_after r
    → HasCauses before now r → StatusHasCauses before now s
causes_by_status {before} {now} s r is causes = record {
  reads = causes.reads.later;
  draws = causes.draws.later;
  read = λ e. by (for_read r (sym is ∙ e));
  writes = record { later = causes.writes.later; cause = λ e. causes.writes.cause (for_write r (sym is ∙ e)) };
  calls = record { later = causes.calls.later; cause = λ e. causes.calls.cause (for_disk r (sym is ∙ e)) };
  no_link = λ e. for_link r (sym is ∙ e);
}
  where
    by : (r ≡ Err session.ReadFault) ⊎ (r ≡ Err session.DrawFault)
        → Rose before.reads now.reads ⊎ Rose before.draws now.draws
    by (inl e) = inl (causes.reads.cause e)
    by (inr e) = inr (causes.draws.cause e)

-- ---- causes, one call after another

-- a call of the disk came first
pub causes_behind : {before now : Faults} {mid : ℕ} (r : Result Bool SessionHalt) → before.calls ≤ mid
    → HasCauses (faults before.reads before.writes mid before.draws) now r → HasCauses before now r
causes_behind {before} {now} {mid} r later causes = record {
  reads = causes.reads;
  writes = causes.writes;
  calls = record {
    later = omega (arith, later, causes.calls.later);
    cause = λ e. let rose = causes.calls.cause e in omega (arith, later, rose);
  };
  draws = causes.draws;
}

-- a refusal was not written whole
pub said_causes : {before : Faults} {writes : ℕ} (halt : SessionHalt) → before.writes ≤ writes → IsSayHalt halt
    → (halt ≡ session.WriteFault → Rose before.writes writes)
    → HasCauses before (faults before.reads writes before.calls before.draws) (Err halt)
said_causes session.MemoryOut later says rose = record {
  reads = record { later = omega arith; cause = λ e. absurd cc };
  writes = record { later = later; cause = λ e. absurd cc };
  calls = record { later = omega arith; cause = λ e. absurd cc };
  draws = record { later = omega arith; cause = λ e. absurd cc };
}
said_causes session.WriteFault later says rose = record {
  reads = record { later = omega arith; cause = λ e. absurd cc };
  writes = record { later = later; cause = λ e. rose refl };
  calls = record { later = omega arith; cause = λ e. absurd cc };
  draws = record { later = omega arith; cause = λ e. absurd cc };
}
said_causes session.ReadFault later says rose = absurd says
said_causes session.DiskFault later says rose = absurd says
said_causes session.DrawFault later says rose = absurd says
said_causes session.InputTooLong later says rose = absurd says
