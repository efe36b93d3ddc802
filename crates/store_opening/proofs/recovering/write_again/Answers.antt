use Rattle.std.proofs.Common.{⊎_elim, ◌∙◌}
use Rattle.store_opening.proofs.Redone.{left_again, writes_again, within_again, kept_hangs}
use Rattle.store_opening.proofs.Redone.{kept_found, again_runs, again_written, again_others, on_again}
use Rattle.store_opening.proofs.recovering.write_again.Goals as goal

pub write_unit-requires : goal.write_unit-requires
write_unit-requires g c =
    let a = c.args.again in
    let looked = c.requires.looked in
    let cells = looked.cells in
    let is = looked.again in
    record {
      writes = (left_again a, writes_again a cells is);
      given = is.given;
      may = is.may;
      within = λ tells. within_again a cells (g.D.Disk.view c.args.disk.now).seen is (looked.read tells);
    }

pub returns-in-Ok-clause-kept : goal.returns-in-Ok-clause-kept
returns-in-Ok-clause-kept g c =
    let a = c.args.again in
    let looked = c.requires.looked in
    let cells = looked.cells in
    let is = looked.again in
    kept_hangs a cells c.write_unit.new.cells is (record {
      file_is = c.write_unit.ensures.number;
      format_is = c.write_unit.ensures.same_format;
      holds = c.in-Ok.ensures.leads (left_again a) cells (writes_again a cells is) is.holds is.within;
    })

pub returns-in-Ok-clause-found : goal.returns-in-Ok-clause-found
returns-in-Ok-clause-found g c tells =
    let a = c.args.again in
    let looked = c.requires.looked in
    let cells = looked.cells in
    let is = looked.again in
    kept_found a cells c.write_unit.new.cells (g.D.Disk.view c.args.disk.now).seen is (looked.read tells)

pub returns-in-Ok-clause-on : goal.returns-in-Ok-clause-on
returns-in-Ok-clause-on g c tells =
    let a = c.args.again in
    let looked = c.requires.looked in
    let cells = looked.cells in
    let is = looked.again in
    on_again a cells c.write_unit.new.cells is (record {
      file_is = c.write_unit.ensures.number;
      format_is = c.write_unit.ensures.same_format;
      holds = c.in-Ok.ensures.leads (left_again a) cells (writes_again a cells is) is.holds is.within;
    }) (g.met.D.Disk.reads_as_image c.args.disk.now tells) (c.requires.log tells)
    (again_written g.D.Disk.view c.args.disk.now c.write_unit.new.disk a cells is
    (c.requires.settled tells) (looked.read tells) c.write_unit.ensures.nothing (c.write_unit.ensures.crash tells)
    (c.in-Ok.ensures.stands tells (left_again a) (writes_again a cells is)))

pub returns-in-Ok-clause-moments : goal.returns-in-Ok-clause-moments
returns-in-Ok-clause-moments g c tells =
    let a = c.args.again in
    let looked = c.requires.looked in
    let cells = looked.cells in
    let is = looked.again in
    again_runs g.D.Disk.view c.args.disk.now c.write_unit.new.disk a cells is
    (c.requires.settled tells) (looked.read tells) c.write_unit.ensures.nothing (c.write_unit.ensures.crash tells)
    (g.met.D.Disk.reads_as_image c.args.disk.now tells)

pub returns-in-Err-clause-moments : goal.returns-in-Err-clause-moments
returns-in-Err-clause-moments g c tells =
    let a = c.args.again in
    let looked = c.requires.looked in
    let cells = looked.cells in
    let is = looked.again in
    again_runs g.D.Disk.view c.args.disk.now c.write_unit.new.disk a cells is
    (c.requires.settled tells) (looked.read tells) c.write_unit.ensures.nothing (c.write_unit.ensures.crash tells)
    (g.met.D.Disk.reads_as_image c.args.disk.now tells)

pub returns-in-Ok-clause-others : goal.returns-in-Ok-clause-others
returns-in-Ok-clause-others g c tells file one two =
    let a = c.args.again in
    let looked = c.requires.looked in
    again_others a looked.cells looked.again (c.requires.settled tells)
    (g.met.D.Disk.reads_as_image c.write_unit.new.disk tells) (c.write_unit.ensures.crash tells) file
    (λ e. ⊎_elim (λ is. one (e ∙ is)) (λ is. two (e ∙ is)) c.holds_image.ensures)

pub returns-in-Err-clause-others : goal.returns-in-Err-clause-others
returns-in-Err-clause-others g c tells file one two =
    let a = c.args.again in
    let looked = c.requires.looked in
    again_others a looked.cells looked.again (c.requires.settled tells)
    (g.met.D.Disk.reads_as_image c.write_unit.new.disk tells) (c.write_unit.ensures.crash tells) file
    (λ e. ⊎_elim (λ is. one (e ∙ is)) (λ is. two (e ∙ is)) c.holds_image.ensures)

pub returns-in-Ok-clause-image : goal.returns-in-Ok-clause-image
returns-in-Ok-clause-image g c tells file other =
    let a = c.args.again in
    let looked = c.requires.looked in
    again_others a looked.cells looked.again (c.requires.settled tells)
    (g.met.D.Disk.reads_as_image c.write_unit.new.disk tells) (c.write_unit.ensures.crash tells) file other
