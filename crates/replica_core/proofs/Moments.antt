-- What a crash leaves at the moments of a replica's calls.
use Rattle.std.proofs.Common.{◌≡◌, ℕ, Bool, true, false, inl, inr, ⊎_elim, List}
use Rattle.std.proofs.Common.{[], ◌∷◌, Option, Some, None, Ok, Err, refl, ap, ◌∙◌}
use Rattle.std.specs.Prelude.{Result, if◌then◌else◌, nat_lt}
use Rattle.kdb_base.specs.declared.outcomes.Halt.TheVariants as halting
use Rattle.kdb_base.specs.declared.outcomes.Refusal.{Refusal}
use Rattle.kdb_base.specs.declared.outcomes.Refusal.TheVariants.{NotADatabase, Damaged}
use Rattle.kdb_base.specs.declared.outcomes.Stop.{Stop}
use Rattle.kdb_base.specs.declared.outcomes.Stop.TheVariants as stop
use Rattle.kdb_cells.specs.Scanning.{skipping}
use Rattle.kdb_cells.specs.Sheets.{Sheet, count_of, sheet_in}
use Rattle.kdb_control.specs.Choice.{Choice}
use Rattle.kdb_control.specs.Force.{in_force}
use Rattle.kdb_control.specs.declared.force.Force.{Force}
use Rattle.kdb_control.specs.declared.force.Force.TheVariants.{Nothing, Is, Broken}
use Rattle.kdb_disk.specs.Files.{Files}
use Rattle.kdb_disk.specs.Moments.{IsSettled, Keeps, LeavesOnly}
use Rattle.kdb_disk.specs.View.{View}
use Rattle.kdb_disk.proofs.Runs.{started, weaken}
use Rattle.kdb_places.specs.Places.{Place}
use Rattle.princ_rows.specs.declared.entries.Logged.{Logged}
use Rattle.replica_core.specs.Opened.{IsHeldOn, LeavesFirst, LeavesMade, halted, place_in}
use Rattle.replica_core.proofs.Ways.{leaves_here}
use Rattle.store_files.specs.Found.{Found, found_by, found_done, found_in, found_last, found_log, is_placed}
use Rattle.store_files.specs.Found.{last_of, last_place, left_by, redone, stash_in, unit_changed}
use Rattle.store_files.specs.Kept.{Kept, IsOnDisk, place_kept}
use Rattle.store_files.specs.Recovery.{Creates, HasNone, IsLike, LeavesPart, RecoversToNone}
use Rattle.store_files.proofs.Placed.{kept_recovers}
use Rattle.store_opening.specs.Made.{AnswersMade}
use Rattle.update_log.specs.Runs.{log_in}

-- ---- nothing was done

pub nothing_leaves : (k : Kept) (made : List Place) (now : View) → IsOnDisk k now
    → LeavesOnly now now (LeavesPart (place_kept k) made)
nothing_leaves k made now on = started now (LeavesPart (place_kept k) made)
    (λ c here. leaves_here (place_kept k) made c (kept_recovers k now on c here))

first_none : (made : List Place) (c : Files) → HasNone c → LeavesFirst made c
first_none [] c none = none
first_none (q ∷ made) c none = inl none

pub nothing_made : (o : Option Kept) (made : List Place) (now : View) → IsHeldOn o now
    → LeavesOnly now now (LeavesMade (place_in o) made)
nothing_made None made now none = started now (LeavesFirst made) (λ c here. first_none made c (none.each c here))
nothing_made (Some k) made now on = nothing_leaves k made now on

-- ---- a first database

pub first_made : {old new : View} (q : Place) → RecoversToNone old → LeavesOnly old new (Creates old q)
    → LeavesOnly old new (LeavesMade None (q ∷ []))
unfolding LeavesPart
first_made {old} {new} q none run =
    weaken {P = LeavesMade None (q ∷ [])} run (λ c creates. ⊎_elim
    (λ (like : IsLike old c). inl (like.same ∙ none.each like.before like.was))
    (λ others. ⊎_elim (λ quiet. inl quiet) (λ made. inr made) others)
    creates)

-- ---- files without a database

not_placed : (f : Found) (file place : ℕ) (b : Bool)
    → ◌≡◌ {A = Result Found Refusal} (if b then Ok f else Err (Damaged file place)) (Err NotADatabase) → ⊥
not_placed f file place true e = absurd cc
not_placed f file place false e = absurd cc

done_some : (choice : Choice) (held : List Logged) (stash : Option (List ℕ)) (last : Logged) (sheet : Result Sheet ℕ)
    → found_done choice held stash last sheet ≡ Err NotADatabase → ⊥
done_some choice held stash last (Err place) e = absurd cc
done_some choice held stash last (Ok sheet) e =
    not_placed (record {
      control = choice;
      held = held;
      sheet = record { realm = sheet.realm; cells = redone last sheet.cells };
      stash = stash;
    }) choice.log (last_place choice last)
    (is_placed (unit_changed last) (left_by last.entry.op) sheet.cells) e

not_far : (file place : ℕ) (rest : Result Found Refusal) (b : Bool) → (rest ≡ Err NotADatabase → ⊥)
    → ◌≡◌ {A = Result Found Refusal} (if b then Err (Damaged file place) else rest) (Err NotADatabase) → ⊥
not_far file place rest true some e = absurd cc
not_far file place rest false some e = some e

last_some : (choice : Choice) (held : List Logged) (stash : Option (List ℕ)) (last : Logged) (file : List ℕ)
    → found_last choice held stash last file ≡ Err NotADatabase → ⊥
unfolding found_last
last_some choice held stash last file e =
    let sheet = sheet_in choice.format (skipping choice.format (unit_changed last) file) in
    not_far choice.log (last_place choice last) (found_done choice held stash last sheet)
    (nat_lt (count_of choice.format file) last.cell) (done_some choice held stash last sheet) e

log_some : (choice : Choice) (files : Files) (log : Result (List Logged) ℕ)
    → found_log choice files log ≡ Err NotADatabase → ⊥
log_some choice files (Err place) e = absurd cc
log_some choice files (Ok held) e =
    last_some choice held (stash_in choice files) (last_of choice.base held) (files choice.image) e

force_none : (force : Force) (files : Files) → found_by force files ≡ Err NotADatabase → force ≡ Nothing
force_none Nothing files e = refl
force_none (Broken place) files e = absurd cc
force_none (Is choice) files e =
    absurd (log_some choice files (log_in choice.format choice.base choice.size choice.block (files choice.log)) e)

pub none_in_force : (files : Files) → HasNone files → in_force (files 0) ≡ Nothing
unfolding found_in
none_in_force files none = force_none (in_force (files 0)) files none

-- a creation there is not refused
pub only_memory : (s : Stop) (force : Force) → AnswersMade {A = Kept} (Err s) force → force ≡ Nothing
    → halted s ≡ halting.MemoryOut → s ≡ stop.Halt halting.MemoryOut
only_memory (stop.Refused why) force answer nothing e = absurd (answer.1 nothing)
only_memory (stop.Halt halt) force answer nothing e = ap stop.Halt e

-- after a refusal of files that have none
pub none_settled : {old new : View} → IsSettled new → Keeps old new → found_in old.seen ≡ Err NotADatabase
    → RecoversToNone new
none_settled {old} {new} settled keeps none = record {
  each = λ c here. ap found_in (settled.only c here) ∙ ap found_in keeps.seen ∙ none;
}
