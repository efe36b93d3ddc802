-- How the control file is erased.
use Rattle.std.proofs.Common.{◌≡◌, ℕ, ◌+◌, ◌<◌, ◌≤◌, inl, inr, ⊎_elim, [], ◌∙◌, ap, arith}
use Rattle.std.proofs.lemmas.Bool.{cases_eq}
use Rattle.kdb_disk.specs.Files.{Files, with_file}
use Rattle.kdb_disk.specs.View.{View, IsAfter}
use Rattle.kdb_disk.specs.Moments.{IsSettled, Keeps, LeavesOnly, Differs, Replaced}
use Rattle.kdb_disk.proofs.Puts.{with_file-same, with_file-other}
use Rattle.kdb_disk.proofs.Runs.{started, then_on, weaken, at_end}
use Rattle.kdb_control.specs.declared.force.Force.TheVariants.{Nothing, Is}
use Rattle.kdb_control.specs.Choice.{Choice}
use Rattle.kdb_control.specs.declared.force.Force.{Force}
use Rattle.kdb_control.specs.Force.{in_force, slot, slot_bytes, newer}
use Rattle.kdb_control.specs.Moments.{HasInForce, IsInForce, HasNothing, Erases, LeavesEither}

pub nothing_first : {v : View} → HasInForce Nothing v → LeavesOnly v v HasNothing
nothing_first {v} has = started v HasNothing (λ c now. record { is = has c now })

-- another file is changed
pub cut_more : {old mid new : View} (file : ℕ) → 1 ≤ file → LeavesOnly old mid HasNothing
    → LeavesOnly mid new (IsAfter (Differs file) mid) → LeavesOnly old new HasNothing
cut_more file one run step = then_on run step (λ c from.
    record {
      is = ap in_force (ap (λ (files : Files). files 0) from.went.is
          ∙ with_file-other file 0 from.went.content from.before (λ (e : 0 ≡ file). absurd (omega (arith, one, e))))
          ∙ (at_end run from.before from.was).is;
    })

pub nothing_left : {old new : View} → LeavesOnly old new HasNothing → HasInForce Nothing new
nothing_left run c now = (at_end run c now).is

-- one file more is empty
pub empty_more : {mid new : View} (file : ℕ) → ((g : ℕ) → 1 ≤ g → g < file → mid.seen g ≡ []) → Replaced file [] mid new
    → (g : ℕ) → 1 ≤ g → g < file + 1 → new.seen g ≡ []
empty_more {mid} {new} file below replaced g one lt = ap (λ (files : Files). files g) replaced.seen ∙ ⊎_elim
    (λ is. ap (with_file file [] mid.seen) is ∙ with_file-same file [] mid.seen)
    (λ other. with_file-other file g [] mid.seen other ∙ below g one (omega (arith, lt, other)))
    (cases_eq g file)

pub erasing : {now : Choice} {old mid : View} → LeavesOnly old mid (LeavesEither (Is now) Nothing old)
    → LeavesOnly old mid (Erases now old)
erasing {now} {old} run =
    weaken {P = Erases now old} run (λ c has. ⊎_elim (λ l. inl l) (λ l. inr (record { is = l.here })) has)

pub erased : {now : Choice} {old mid new : View} → LeavesOnly old mid (LeavesEither (Is now) Nothing old)
    → LeavesOnly mid new HasNothing → LeavesOnly old new (Erases now old)
erased {now} {old} run next = then_on (erasing run) next (λ c has. inr has)

-- an empty control file has nothing in force
pub empty_has_nothing : (v : View) → IsSettled v → v.seen 0 ≡ [] → HasInForce Nothing v
unfolding in_force slot slot_bytes newer
empty_has_nothing v settled none c now = ap in_force (ap (λ (files : Files). files 0) (settled.only c now) ∙ none)

-- what is in force on the disk is so in every image
pub has_in_force : (force : Force) (old new : View) → IsInForce force old new → HasInForce force new
has_in_force force old new set c now = ap in_force (set.durable c now) ∙ set.here

pub has_after : {force : Force} {old mid new : View} → IsInForce force old mid → Keeps mid new → HasInForce force new
has_after set keeps c now = ap in_force (set.durable c (at_end keeps.leaves c now)) ∙ set.here
