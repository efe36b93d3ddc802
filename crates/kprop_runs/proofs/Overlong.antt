-- A round that received too much, among those of a run.
use Rattle.std.proofs.Common.{◌≡◌, ◌≤◌, ℕ, zero, suc, Bool, true, false, List, [], ◌∷◌, length}
use Rattle.std.proofs.Common.{Option, Some, None, Ok, Err, refl, sym, ap, subst, ◌∙◌, arith}
use Rattle.std.specs.Prelude.{Result, IfErr}
use Rattle.iprop_links.specs.Asking.{later_in}
use Rattle.kdb_base.specs.declared.outcomes.Status.{Status}
use Rattle.kdb_base.specs.declared.outcomes.Status.TheVariants as status
use Rattle.kdb_ports.specs.Links.{Wire, behind_first, first_of}
use Rattle.kprop_rounds.specs.declared.words.RoundHalt.{RoundHalt}
use Rattle.kprop_rounds.specs.declared.words.RoundHalt.TheVariants as round
use Rattle.kprop_runs.specs.Halts.{IsSayHalt, disk_as_run, round_as_run, status_after}
use Rattle.kprop_runs.specs.Longs.{GivesTooMuch}
use Rattle.kprop_runs.specs.Stages.{Stage, after_rounds}
use Rattle.kprop_runs.specs.declared.halts.RunHalt.{RunHalt}
use Rattle.kprop_runs.specs.declared.halts.RunHalt.TheVariants as run

-- ---- among the connections

pub first_long : (to_come : List (List ℕ)) → 4294967296 ≤ length (first_of to_come) → GivesTooMuch to_come
first_long [] long = absurd (omega (arith, long))
first_long (text ∷ more) long = record { text = text; among = (0, omega arith, refl); long = long }

behind_long : (to_come : List (List ℕ)) → GivesTooMuch (behind_first to_come) → GivesTooMuch to_come
behind_long [] one = one
behind_long (text ∷ more) one =
    record { text = one.text; among = (suc one.among.0, omega (arith, one.among.1), one.among.2); long = one.long }

pub rounds_long : (name : List ℕ) (size n : ℕ) (s : Stage) → GivesTooMuch (after_rounds name size n s).to_come
    → GivesTooMuch s.to_come
unfolding after_rounds
rounds_long name size zero s one = one
rounds_long name size (suc n) s one = rounds_long name size n s (behind_long (after_rounds name size n s).to_come one)

some_is : {A : Type 0} (a b : A) → Some a ≡ Some b → a ≡ b
some_is a b e = cc

-- behind so many rounds
pub long_behind : (name : List ℕ) (size n : ℕ) (s : Stage) (told : Option Wire) (w : Wire) → told ≡ Some w
    → later_in told ≡ Some (after_rounds name size n s).to_come
    → 4294967296 ≤ length (first_of w.to_come) → GivesTooMuch s.to_come
long_behind name size n s told w is later_is long =
    rounds_long name size n s
    (subst GivesTooMuch (some_is w.to_come (after_rounds name size n s).to_come (sym (ap later_in is) ∙ later_is))
    (first_long w.to_come long))

-- ---- which result it comes from

pub err_is : {A : Type 0} (a b : RunHalt) → ◌≡◌ {A = Result A RunHalt} (Err a) (Err b) → a ≡ b
err_is a b e = cc

pub for_long : (halt : RoundHalt) → round_as_run halt ≡ run.InputTooLong → halt ≡ round.InputTooLong
for_long round.MemoryOut e = absurd cc
for_long round.DiskFault e = absurd cc
for_long round.LinkFault e = absurd cc
for_long round.InputTooLong e = refl

pub said_short : (r : Result Bool RunHalt) → IfErr r IsSayHalt → r ≡ Err run.InputTooLong → ⊥
said_short (Ok b) says e = absurd cc
said_short (Err run.MemoryOut) says e = absurd cc
said_short (Err run.WriteFault) says e = absurd cc
said_short (Err run.DiskFault) says e = says
said_short (Err run.LinkFault) says e = says
said_short (Err run.InputTooLong) says e = says

pub by_status : (r : Result Bool RunHalt) → status_after r ≡ status.InputTooLong → r ≡ Err run.InputTooLong
by_status (Ok true) e = absurd cc
by_status (Ok false) e = absurd cc
by_status (Err run.MemoryOut) e = absurd cc
by_status (Err run.WriteFault) e = absurd cc
by_status (Err run.DiskFault) e = absurd cc
by_status (Err run.LinkFault) e = absurd cc
by_status (Err run.InputTooLong) e = refl
