-- A switch to another choice of files: what stands before it, and what stands after it.
use Rattle.std.proofs.Common.{◌≡◌, ◌≢◌, ℕ, ◌<◌, ◌⊎◌, inl, inr, ⊎_elim, List, []}
use Rattle.std.proofs.Common.{◌∷◌, Option, Some, None, refl, sym, ap, subst, ◌∙◌}
use Rattle.std.specs.Prelude.{Ok, nat_eq}
use Rattle.std.proofs.lemmas.Bool.{cases_eq, eq-eqb, ne_eqb}
use Rattle.kdb_base.specs.declared.moments.Point.{Point}
use Rattle.kdb_disk.specs.Files.{Files}
use Rattle.kdb_control.specs.Choice.{Choice}
use Rattle.kdb_control.specs.Force.{in_force}
use Rattle.kdb_control.specs.declared.force.Force.TheVariants.{Is}
use Rattle.update_log.specs.Logs.{HoldsIn, marker_of}
use Rattle.update_log.specs.Runs.{log_in}
use Rattle.kdb_cells.specs.Sheets.{sheet_in}
use Rattle.store_files.specs.Found.{Found, stash_in}
use Rattle.store_files.specs.Standing.{HasFiles, Would, StandsOnDisk, IsDone}
use Rattle.store_files.specs.Switches.{IsSpareFor, reset_choice, after_reset, stash_choice, after_stash}
use Rattle.store_files.proofs.Committing.{log_reads}

stash_same : (choice : Choice) (c d : Files) → (choice.stash ≢ 0 → c choice.stash ≡ d choice.stash)
    → stash_in choice c ≡ stash_in choice d
unfolding stash_in
stash_same choice c d same = ⊎_elim
    (λ none. rw (eq-eqb choice.stash 0 none) refl)
    (λ some. rw (ne_eqb choice.stash 0 some) (ap Some (same some)))
    (cases_eq choice.stash 0)

turned : (a b : ℕ) → a ≢ b → b ≢ a
turned a b apart e = apart (sym e)

-- what would stand does so once the choice is in force
pub would_stand : (o : Found) (c d : Files) → HasFiles o.control → Would o d → ((g : ℕ) → g ≢ 0 → c g ≡ d g)
    → in_force (c 0) ≡ Is o.control
    → StandsOnDisk o c
would_stand o c d files would others force = record {
  force = force;
  would = record {
    log = ap (log_in o.control.format o.control.base o.control.size o.control.block) (others o.control.log files.log)
        ∙ would.log;
    sheet = ap (sheet_in o.control.format) (others o.control.image files.image) ∙ would.sheet;
    stash = stash_same o.control c d (λ some. others o.control.stash some) ∙ would.stash;
  };
}

-- a file that the choice does not name may have any bytes
pub spare_stands : (o : Found) (c d : Files) (file : ℕ) → IsSpareFor o.control file → StandsOnDisk o d
    → ((g : ℕ) → g ≢ file → c g ≡ d g)
    → StandsOnDisk o c
spare_stands o c d file spare stands others = record {
  force = ap in_force (others 0 (turned file 0 spare.control)) ∙ stands.force;
  would = record {
    log = ap (log_in o.control.format o.control.base o.control.size o.control.block) (others o.control.log spare.log)
        ∙ stands.would.log;
    sheet = ap (sheet_in o.control.format) (others o.control.image spare.image) ∙ stands.would.sheet;
    stash = stash_same o.control c d (λ some. others o.control.stash (spare.stash some)) ∙ stands.would.stash;
  };
}

-- a log that was begun anew in a file
pub reset_would : (o : Found) (c : Files) (file : ℕ) (base : Point) (size block : ℕ) → o.control.format ≡ 2 → Would o c
    → HoldsIn base size block (marker_of base ∷ []) (c file) → Would (after_reset file base size block o) c
unfolding stash_in
reset_would o c file base size block newer would holds = record {
  log = log_reads 2 base size block (marker_of base ∷ []) (c file) refl holds;
  sheet = ap (λ (f : ℕ). sheet_in f (c o.control.image)) (sym newer) ∙ would.sheet;
  stash = would.stash;
}

-- a stash that was written into a file
pub stash_would : (o : Found) (c : Files) (file : ℕ) (bytes : List ℕ) → file ≢ 0 → Would o c → c file ≡ bytes
    → Would (after_stash file bytes o) c
unfolding stash_in
stash_would o c file bytes some would is = record {
  log = would.log;
  sheet = would.sheet;
  stash = rw (ne_eqb file 0 some) (ap Some is);
}
