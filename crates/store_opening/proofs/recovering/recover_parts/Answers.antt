use Rattle.std.proofs.Common.{◌≡◌, ◌≢◌, ℕ, ap, subst, ◌∙◌}
use Rattle.std.specs.Prelude.{Err, IfOk}
use Rattle.kdb_disk.specs.Files.{Files}
use Rattle.kdb_disk.proofs.Runs.{keeps_then}
use Rattle.store_files.specs.Found.{found_in}
use Rattle.store_opening.specs.Parts.{kept_of}
use Rattle.store_opening.specs.Reading.{IsFoundOf}
use Rattle.store_opening.proofs.Redone.{like_first, like_kept}
use Rattle.store_opening.proofs.recovering.recover_parts.Goals as goal

pub returns-in-Ok-clause-found : goal.returns-in-Ok-clause-found
returns-in-Ok-clause-found g c tells =
    subst (λ (files : Files). IfOk c.recover_settled.result (λ p. IsFoundOf (kept_of p) (found_in files)))
    (c.settle_all.ensures.keeps tells).seen (c.recover_settled.ensures.found tells)

pub returns-in-Ok-clause-refused : goal.returns-in-Ok-clause-refused
returns-in-Ok-clause-refused g c tells r is = subst (λ (files : Files). found_in files ≡ Err r)
    (c.settle_all.ensures.keeps tells).seen (c.recover_settled.ensures.refused tells r is)

pub returns-in-Ok-clause-moments : goal.returns-in-Ok-clause-moments
returns-in-Ok-clause-moments g c tells =
    like_first (c.settle_all.ensures.keeps tells) (c.recover_settled.ensures.moments tells)

pub returns-in-Ok-clause-refused_keeps : goal.returns-in-Ok-clause-refused_keeps
returns-in-Ok-clause-refused_keeps g c tells r is =
    keeps_then (c.settle_all.ensures.keeps tells) (c.recover_settled.ensures.refused_keeps tells r is)

pub returns-in-Err-clause-moments : goal.returns-in-Err-clause-moments
returns-in-Err-clause-moments g c tells = like_kept (c.settle_all.ensures.keeps tells)

pub returns-in-Ok-clause-memory_keeps : goal.returns-in-Ok-clause-memory_keeps
returns-in-Ok-clause-memory_keeps g c tells is =
    keeps_then (c.settle_all.ensures.keeps tells) (c.recover_settled.ensures.memory_keeps tells is)

pub returns-in-Ok-clause-others : goal.returns-in-Ok-clause-others
returns-in-Ok-clause-others g c tells file one two = c.recover_settled.ensures.others tells file one two
    ∙ ap (λ (f : Files). f file) (c.settle_all.ensures.keeps tells).seen

pub returns-in-Ok-clause-image : goal.returns-in-Ok-clause-image
returns-in-Ok-clause-image g c tells =
    subst (λ (files : Files). IfOk c.recover_settled.result (λ p. (file : ℕ) → file ≢ p.control.image
    → (g.D.Disk.view c.recover_settled.new.disk).seen file ≡ files file))
    (c.settle_all.ensures.keeps tells).seen (c.recover_settled.ensures.image tells)

pub returns-in-Err-clause-others : goal.returns-in-Err-clause-others
returns-in-Err-clause-others g c tells file one two =
    ap (λ (f : Files). f file) (c.settle_all.ensures.keeps tells).seen
