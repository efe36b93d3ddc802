-- What the writing of a text, and the calls before it, leave of the faults.
use Rattle.std.proofs.Common.{◌≡◌, ℕ, Bool, List, Option, Ok, Err, refl, sym, ap, ◌∙◌}
use Rattle.std.specs.Prelude.{Result, IfErr, IfOk, OnOk}
use Rattle.iprop_links.specs.Arriving.{Counts}
use Rattle.kdb_disk.specs.Frames.{IsCall}
use Rattle.kdb_disk.specs.declared.disk.Disk.{Ghosts}
use Rattle.kdb_ports.proofs.Told.{after_told-nil}
use Rattle.kdb_ports.specs.Parts.{SaidPart}
use Rattle.kprop_rounds.specs.declared.words.RoundHalt.{RoundHalt}
use Rattle.kprop_rounds.specs.declared.words.RoundHalt.TheVariants as round
use Rattle.kprop_runs.specs.Halts.{IsSayHalt, round_as_run}
use Rattle.kprop_runs.specs.declared.halts.RunHalt.{RunHalt}
use Rattle.kprop_runs.specs.declared.halts.RunHalt.TheVariants as run

-- nothing was written
pub said_nothing : (text : List ℕ) (taken : Option (List ℕ)) → SaidPart text taken taken
said_nothing text taken = record { count = 0; part = sym (after_told-nil taken) }

pub on_ok : {A E P : Type 0} (r : Result A E) → P → OnOk r P
on_ok (Ok x) p = p
on_ok (Err e) p = tt

pub if_ok : {A E P : Type 0} (r : Result A E) → OnOk r P → (Q : A → Type 0) → ((x : A) → P → Q x) → IfOk r Q
if_ok (Ok x) p Q f = f x p
if_ok (Err e) p Q f = tt

-- ---- behind calls that went well, only a write may fail

no_disk : (r : Result Bool RunHalt) → IfErr r IsSayHalt → r ≡ Err run.DiskFault → ⊥
no_disk (Ok b) says e = absurd cc
no_disk (Err run.MemoryOut) says e = absurd cc
no_disk (Err run.WriteFault) says e = absurd cc
no_disk (Err run.DiskFault) says e = says
no_disk (Err run.LinkFault) says e = says
no_disk (Err run.InputTooLong) says e = says

no_link : (r : Result Bool RunHalt) → IfErr r IsSayHalt → r ≡ Err run.LinkFault → ⊥
no_link (Ok b) says e = absurd cc
no_link (Err run.MemoryOut) says e = absurd cc
no_link (Err run.WriteFault) says e = absurd cc
no_link (Err run.DiskFault) says e = says
no_link (Err run.LinkFault) says e = says
no_link (Err run.InputTooLong) says e = says

pub call_said : {D P : Type 0} (g : Ghosts D) (old new : D) (r : Result Bool RunHalt) → IsCall g old new P
    → IfErr r IsSayHalt → IsCall g old new (r ≡ Err run.DiskFault)
call_said g old new r call says =
    record { same = call.same; later = call.later; cause = λ e. absurd (no_disk r says e) }

pub links_said : {P : Type 0} (before now : ℕ) (r : Result Bool RunHalt) → Counts before now P → IfErr r IsSayHalt
    → Counts before now (r ≡ Err run.LinkFault)
links_said before now r counts says = record { later = counts.later; cause = λ e. absurd (no_link r says e) }

-- ---- where a round was stopped

is_err : {A E : Type 0} (a b : E) → ◌≡◌ {A = Result A E} (Err a) (Err b) → a ≡ b
is_err a b e = cc

for_disk : (halt : RoundHalt) → round_as_run halt ≡ run.DiskFault → halt ≡ round.DiskFault
for_disk round.MemoryOut e = absurd cc
for_disk round.DiskFault e = refl
for_disk round.LinkFault e = absurd cc
for_disk round.InputTooLong e = absurd cc

for_link : (halt : RoundHalt) → round_as_run halt ≡ run.LinkFault → halt ≡ round.LinkFault
for_link round.MemoryOut e = absurd cc
for_link round.DiskFault e = absurd cc
for_link round.LinkFault e = refl
for_link round.InputTooLong e = absurd cc

no_write : (halt : RoundHalt) → round_as_run halt ≡ run.WriteFault → ⊥
no_write round.MemoryOut e = absurd cc
no_write round.DiskFault e = absurd cc
no_write round.LinkFault e = absurd cc
no_write round.InputTooLong e = absurd cc

module _ {A : Type 0} (r : Result A RoundHalt) (halt : RoundHalt) (is : r ≡ Err halt) (made : RunHalt)
    (made_is : made ≡ round_as_run halt) where
  pub call_halted : {B D : Type 0} (g : Ghosts D) (old new : D) → IsCall g old new (r ≡ Err round.DiskFault)
      → IsCall g old new (◌≡◌ {A = Result B RunHalt} (Err made) (Err run.DiskFault))
  call_halted g old new call = record {
    same = call.same;
    later = call.later;
    cause = λ e. call.cause (is ∙ ap Err (for_disk halt (sym made_is ∙ is_err made run.DiskFault e)));
  }

  pub links_halted : {B : Type 0} (before now : ℕ) → Counts before now (r ≡ Err round.LinkFault)
      → Counts before now (◌≡◌ {A = Result B RunHalt} (Err made) (Err run.LinkFault))
  links_halted before now counts = record {
    later = counts.later;
    cause = λ e. counts.cause (is ∙ ap Err (for_link halt (sym made_is ∙ is_err made run.LinkFault e)));
  }
