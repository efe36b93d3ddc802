use Rattle.std.proofs.Common.{◌≡◌, ℕ, ◌+◌, List, Some, None, ap, subst, ◌∙◌, arith}
use Rattle.kdb_disk.specs.Moments.{Stands}
use Rattle.kdb_cells.specs.Cells.{unit_text}
use Rattle.kdb_cells.specs.CellFiles.{CellFile, place_of, units, count}
use Rattle.kdb_cells.specs.Indexes as indexes
use Rattle.kdb_cells.specs.Leads.{IsFree, freed}
use Rattle.kdb_disk.proofs.Runs.{stands_here}
use Rattle.kdb_cells.proofs.Cellwise.{take_out_keeps}
use Rattle.kdb_cells.proofs.UnitTexts.{free_page}
use Rattle.kdb_cells.proofs.cells.Cells.take_out.Goals as goal

pub returns-in-Ok-clause-ok : goal.returns-in-Ok-clause-ok
returns-in-Ok-clause-ok g c = λ tells.
    let i = c.self.inside in
    let old = g.D.Disk.view c.args.disk.now in
    let new = g.D.Disk.view c.write_synced.new.disk in
    let bytes = c.deref.ensures.value
    ∙ free_page i.format c.clear_page.new.page.items _ c.self.invariant.1 c.clear_page.ensures.bytes in
    let have =
    subst (λ (b : List ℕ). Stands i.file c.unit_place-at.result b old new) bytes (c.in-Ok.ensures.ok tells) in
    subst (λ (x : CellFile). Stands x.file (place_of c.args.cell x) (unit_text x.format None) old new) c.self.view_is
    (subst (λ (n : ℕ). Stands i.file n (unit_text i.format None) old new) c.unit_place-at.ensures.value have)

pub returns-in-Ok-clause-keeps : goal.returns-in-Ok-clause-keeps
returns-in-Ok-clause-keeps g c = λ sheet from tells tie.
    let old = c.args.self.now in
    let cell = c.args.cell in
    let index = c.free.new.self in
    let stands = returns-in-Ok-clause-ok g c tells in
    take_out_keeps old _ cell ((g.D.Disk.view c.args.disk.now).seen old.file) _ sheet (record {
      format = ap (λ (x : CellFile). x.format) c.self.view_is;
      from = from;
      near = omega arith;
      within = c.requires.within tells;
      counts = record {
        free = λ none. let same = subst (λ (x : CellFile). IsFree cell (units x) → indexes.count index ≡ count x)
            c.self.view_is c.free.ensures.as_many none in omega (arith, same);
        led = λ k there. let less =
            subst (λ (x : CellFile). (k : List ℕ) → (units x).of k ≡ Some cell → indexes.count index + 1 ≡ count x)
            c.self.view_is c.free.ensures.fewer k there in omega (arith, less);
      };
      file = stands_here stands;
    }) (subst (λ (x : CellFile). indexes.units index ≡ freed cell (units x)) c.self.view_is c.free.ensures.units) tie
