use Rattle.std.proofs.Common.{ap, subst, ◌∙◌}
use Rattle.kdb_disk.specs.Files.{Files}
use Rattle.kdb_disk.proofs.Runs.{settled_keeps}
use Rattle.store_files.specs.Found.{found_in}
use Rattle.store_opening.specs.Parts.{kept_of}
use Rattle.store_opening.specs.Reading.{IsFoundOf}
use Rattle.store_opening.proofs.Redone.{looked_kept, like_first, like_kept}
use Rattle.store_opening.proofs.recovering.recover_settled.Goals as goal

pub write_again-requires : goal.write_again-requires
write_again-requires g c = record {
  looked = looked_kept g.D.Disk.tells c.in-Ok.again (g.D.Disk.view c.args.disk.now).seen
      (g.D.Disk.view c.look.new.disk).seen (λ tells. (c.look.ensures.keeps tells).seen) c.in-Ok.ensures.looked;
  log = λ tells. c.in-Ok.ensures.log tells (c.requires.settled tells);
  settled = λ tells. settled_keeps (c.requires.settled tells) (c.look.ensures.keeps tells);
}

pub returns-in-Err-clause-moments : goal.returns-in-Err-clause-moments
returns-in-Err-clause-moments g c tells = like_kept (c.look.ensures.keeps tells)

pub returns-in-Ok-write_again-clause-found : goal.returns-in-Ok-write_again-clause-found
returns-in-Ok-write_again-clause-found g c tells =
    subst (λ (files : Files). IsFoundOf (kept_of c.in-Ok-write_again.parts) (found_in files))
    (c.look.ensures.keeps tells).seen (c.in-Ok-write_again.ensures.found tells)

pub returns-in-Ok-write_again-clause-moments : goal.returns-in-Ok-write_again-clause-moments
returns-in-Ok-write_again-clause-moments g c tells =
    like_first (c.look.ensures.keeps tells) (c.write_again.ensures.moments tells)

pub returns-in-Err-write_again-clause-moments : goal.returns-in-Err-write_again-clause-moments
returns-in-Err-write_again-clause-moments g c tells =
    like_first (c.look.ensures.keeps tells) (c.write_again.ensures.moments tells)

pub returns-in-Err-clause-refused_settled : goal.returns-in-Err-clause-refused_settled
returns-in-Err-clause-refused_settled g c tells r is =
    settled_keeps (c.requires.settled tells) (c.look.ensures.keeps tells)

pub returns-in-Ok-write_again-clause-others : goal.returns-in-Ok-write_again-clause-others
returns-in-Ok-write_again-clause-others g c tells file one two =
    c.write_again.ensures.others tells file one two ∙ ap (λ (f : Files). f file) (c.look.ensures.keeps tells).seen

pub returns-in-Err-write_again-clause-others : goal.returns-in-Err-write_again-clause-others
returns-in-Err-write_again-clause-others g c tells file one two =
    c.write_again.ensures.others tells file one two ∙ ap (λ (f : Files). f file) (c.look.ensures.keeps tells).seen

pub returns-in-Ok-write_again-clause-image : goal.returns-in-Ok-write_again-clause-image
returns-in-Ok-write_again-clause-image g c tells file other =
    c.in-Ok-write_again.ensures.image tells file other ∙ ap (λ (f : Files). f file) (c.look.ensures.keeps tells).seen

pub returns-in-Err-clause-others : goal.returns-in-Err-clause-others
returns-in-Err-clause-others g c tells file one two = ap (λ (f : Files). f file) (c.look.ensures.keeps tells).seen
