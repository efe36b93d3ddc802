-- Runs that write files while nothing is in force.
use Rattle.std.proofs.Common.{◌≡◌, ◌≢◌, ℕ, ◌≤◌, ⊎_elim, List, Option, Some, None, Err, refl, sym, ap, ◌∙◌, arith}
use Rattle.std.proofs.lemmas.Bool.{cases_eq, eq-eqb, ne_eqb}
use Rattle.kdb_base.specs.declared.outcomes.Refusal.TheVariants.{NotADatabase}
use Rattle.kdb_disk.specs.Files.{Files}
use Rattle.kdb_disk.specs.View.{View, IsAfter}
use Rattle.kdb_disk.specs.Moments.{LeavesOnly, IsSettled, Differs, Replaced}
use Rattle.kdb_disk.proofs.Puts.{with_file-other}
use Rattle.kdb_disk.proofs.Runs.{weaken, started, then_on, at_end}
use Rattle.kdb_control.specs.Choice.{Choice}
use Rattle.kdb_control.specs.Force.{in_force}
use Rattle.kdb_control.specs.declared.force.Force.{Force}
use Rattle.kdb_control.specs.declared.force.Force.TheVariants.{Nothing}
use Rattle.kdb_control.specs.Moments.{HasInForce}
use Rattle.store_files.specs.Found.{stash_in, found_by, found_in}
use Rattle.store_files.specs.Recovery.{HasNone}
use Rattle.store_opening.specs.Made.{first_stash}
use Rattle.store_opening.specs.Moments.{HasFile, HasStash, IsQuiet}

pub found_none : (files : Files) → in_force (files 0) ≡ Nothing → found_in files ≡ Err NotADatabase
unfolding found_in
found_none files force = ap (λ (f : Force). found_by f files) force

-- the stash of a choice by its file
pub stash_of_one : (choice : Choice) (files : Files) → choice.stash ≢ 0
    → stash_in choice files ≡ Some (files choice.stash)
unfolding stash_in
stash_of_one choice files some = rw (ne_eqb choice.stash 0 some) refl

pub stash_of_none : (choice : Choice) (files : Files) → choice.stash ≡ 0 → stash_in choice files ≡ None
unfolding stash_in
stash_of_none choice files none = rw (eq-eqb choice.stash 0 none) refl

pub stash_alike : (choice : Choice) (a b : Files) → (choice.stash ≢ 0 → a choice.stash ≡ b choice.stash)
    → stash_in choice a ≡ stash_in choice b
stash_alike choice a b same = ⊎_elim
    (λ none. stash_of_none choice a none ∙ sym (stash_of_none choice b none))
    (λ some. stash_of_one choice a some ∙ ap Some (same some) ∙ sym (stash_of_one choice b some))
    (cases_eq choice.stash 0)

-- another file than the one that differs
other_file : {file g : ℕ} {old : View} {c : Files} → g ≢ file → (from : IsAfter (Differs file) old c)
    → c g ≡ from.before g
other_file {file} {g} other from =
    ap (λ (files : Files). files g) from.went.is ∙ with_file-other file g from.went.content from.before other

-- ---- nothing is in force

still_nothing : {file : ℕ} {old : View} → 1 ≤ file → HasInForce Nothing old → (c : Files) → IsAfter (Differs file) old c
    → in_force (c 0) ≡ Nothing
still_nothing {file} one nothing c from =
    ap in_force (other_file (λ (e : 0 ≡ file). absurd (omega (arith, one, e))) from) ∙ nothing from.before from.was

pub quiet_run : {old new : View} (file : ℕ) → 1 ≤ file → HasInForce Nothing old
    → LeavesOnly old new (IsAfter (Differs file) old) → IsQuiet old new
quiet_run file one nothing run = record {
  nothing = λ c now. still_nothing one nothing c (at_end run c now);
  moments = weaken run (λ c from. found_none c (still_nothing one nothing c from));
}

pub quiet_none : (v : View) → HasInForce Nothing v → IsQuiet v v
quiet_none v nothing = record { nothing = nothing; moments = started v HasNone (λ c now. found_none c (nothing c now)) }

pub quiet_then : {old mid new : View} → IsQuiet old mid → IsQuiet mid new → IsQuiet old new
quiet_then first next = record { nothing = next.nothing; moments = then_on first.moments next.moments (λ c none. none) }

pub settled_nothing : {v : View} → IsSettled v → in_force (v.seen 0) ≡ Nothing → HasInForce Nothing v
settled_nothing {v} settled nothing c now = ap (λ (files : Files). in_force (files 0)) (settled.only c now) ∙ nothing

-- ---- what stands in other files

pub file_stays : {old new : View} (file g : ℕ) (x : List ℕ) → g ≢ file → HasFile g x old
    → LeavesOnly old new (IsAfter (Differs file) old) → HasFile g x new
file_stays file g x other has run c now = let from =
    at_end run c now in other_file other from ∙ has from.before from.was

pub stash_stays : {old new : View} (file : ℕ) (choice : Choice) (stash : Option (List ℕ))
    → (choice.stash ≢ 0 → choice.stash ≢ file) → HasStash choice stash old
    → LeavesOnly old new (IsAfter (Differs file) old) → HasStash choice stash new
stash_stays file choice stash other has run c now =
    let from = at_end run c now in
    stash_alike choice c from.before (λ some. other_file (other some) from) ∙ has from.before from.was

pub file_written : {old new : View} (file : ℕ) (content : List ℕ) → Replaced file content old new
    → HasFile file content new
file_written file content replaced c now = replaced.durable c now

-- ---- the stash

pub stash_written : {old new : View} (choice : Choice) (stash : Option (List ℕ)) (bytes : List ℕ) → stash ≡ Some bytes
    → choice.stash ≡ first_stash stash → Replaced 5 bytes old new → HasStash choice stash new
stash_written choice stash bytes some is replaced c now =
    let here : choice.stash ≡ 5 = is ∙ ap first_stash some in
    stash_of_one choice c (λ none. absurd (omega (arith, here, none))) ∙ ap (λ (g : ℕ). Some (c g)) here
    ∙ ap Some (replaced.durable c now) ∙ sym some

pub no_stash : (v : View) (choice : Choice) (stash : Option (List ℕ)) → stash ≡ None → choice.stash ≡ first_stash stash
    → HasStash choice stash v
no_stash v choice stash none is c now = stash_of_none choice c (is ∙ ap first_stash none) ∙ sym none
