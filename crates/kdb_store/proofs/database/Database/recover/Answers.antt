use Rattle.std.proofs.Common.{◌≡◌, ◌≢◌, ℕ, Ok, sym, subst}
use Rattle.store_files.specs.Found.{place_in, found_in}
use Rattle.store_files.specs.Kept.{Kept, place_kept}
use Rattle.store_opening.specs.Parts.{kept_of}
use Rattle.kdb_store.specs.Reading.{IsFoundAs}
use Rattle.kdb_store.proofs.Recovered.{found_as, answers_ok, answers_err}
use Rattle.kdb_store.proofs.database.Database.recover.Goals as goal

pub returns-in-Ok-clause-answer : goal.returns-in-Ok-clause-answer
returns-in-Ok-clause-answer g c tells =
    let found = found_in (g.D.Disk.view c.args.disk.now).seen in
    subst (λ (k : Kept). place_in found ≡ Ok (place_kept k)) (sym c.database_of.ensures)
    (answers_ok (kept_of c.in-Ok.parts) found (c.in-Ok.ensures.found tells))

pub returns-in-Ok-clause-found : goal.returns-in-Ok-clause-found
returns-in-Ok-clause-found g c tells =
    let found = found_in (g.D.Disk.view c.args.disk.now).seen in
    subst (λ (k : Kept). IsFoundAs k found) (sym c.database_of.ensures)
    (found_as (kept_of c.in-Ok.parts) found (c.in-Ok.ensures.found tells))

pub returns-in-Err-clause-answer : goal.returns-in-Err-clause-answer
returns-in-Err-clause-answer g c tells = answers_err place_kept c.in-Err.stop
    (found_in (g.D.Disk.view c.args.disk.now).seen) (c.in-Err.ensures.refused tells)

pub returns-in-Ok-clause-image : goal.returns-in-Ok-clause-image
returns-in-Ok-clause-image g c tells =
    let old = (g.D.Disk.view c.args.disk.now).seen in
    let new = (g.D.Disk.view c.recover_parts.new.disk).seen in
    subst (λ (k : Kept). (file : ℕ) → file ≢ k.control.image → new file ≡ old file) (sym c.database_of.ensures)
    (c.in-Ok.ensures.image tells)
