use Rattle.std.proofs.Common.{◌≡◌, ℕ, ◌+◌, List, Some, sym, ap, subst, ◌∙◌, arith}
use Rattle.kdb_disk.specs.Moments.{Stands}
use Rattle.kdb_cells.specs.Cells.{unit_size, unit_text, IsRowText}
use Rattle.kdb_cells.specs.CellFiles.{CellFile, place_of, units, count}
use Rattle.kdb_cells.specs.Indexes as indexes
use Rattle.kdb_cells.specs.Leads.{IsFree, leading}
use Rattle.kdb_disk.proofs.Runs.{stands_here}
use Rattle.kdb_cells.proofs.Cellwise.{put_keeps}
use Rattle.kdb_cells.proofs.UnitTexts.{row_fits, row_page}
use Rattle.kdb_cells.proofs.cells.Cells.put.Goals as goal

pub fill_page-requires-clause-counted : goal.fill_page-requires-clause-counted
fill_page-requires-clause-counted g c = (row_fits c.requires.row.1).0

pub fill_page-requires-clause-room : goal.fill_page-requires-clause-room
fill_page-requires-clause-room g c =
    let same : unit_size c.self.inside.format ≡ unit_size c.args.self.now.format =
    ap (λ (x : CellFile). unit_size x.format) c.self.view_is in
    omega (arith, (row_fits c.requires.row.1).1, same, c.self.invariant.1)

pub returns-in-Ok-clause-ok : goal.returns-in-Ok-clause-ok
returns-in-Ok-clause-ok g c = λ r is tells.
    let i = c.self.inside in
    let old = g.D.Disk.view c.args.disk.now in
    let new = g.D.Disk.view c.write_synced.new.disk in
    let here =
    subst (λ (x : CellFile). IsRowText x.format c.args.kind c.args.key c.args.row.now r) (sym c.self.view_is) is in
    let bytes =
    c.deref.ensures.value ∙ row_page c.fill_page.new.page.items _ c.self.invariant.1 c.fill_page.ensures.bytes here in
    let have =
    subst (λ (b : List ℕ). Stands i.file c.unit_place-at.result b old new) bytes (c.in-Ok.ensures.ok tells) in
    subst (λ (x : CellFile). Stands x.file (place_of c.args.cell x) (unit_text x.format (Some r)) old new)
    c.self.view_is
    (subst (λ (n : ℕ). Stands i.file n (unit_text i.format (Some r)) old new) c.unit_place-at.ensures.value have)

pub returns-in-Ok-clause-keeps : goal.returns-in-Ok-clause-keeps
returns-in-Ok-clause-keeps g c = λ r sheet is from tells tie.
    let old = c.args.self.now in
    let cell = c.args.cell in
    let index = c.lead.new.self in
    let stands = returns-in-Ok-clause-ok g c r is tells in
    let led = subst (λ (key : List ℕ). indexes.units index ≡ leading key cell (units old)) is.named (subst
    (λ (x : CellFile). indexes.units index ≡ leading c.args.key cell (units x)) c.self.view_is c.lead.ensures.units) in
    put_keeps old _ cell r ((g.D.Disk.view c.args.disk.now).seen old.file) _ sheet (record {
      format = ap (λ (x : CellFile). x.format) c.self.view_is;
      from = from;
      near = omega arith;
      within = c.requires.within tells;
      counts = record {
        free = subst (λ (x : CellFile). IsFree cell (units x) → indexes.count index ≡ count x + 1) c.self.view_is
            c.lead.ensures.more;
        led = λ k there. ap (λ (n : ℕ). n + 1)
            (subst (λ (x : CellFile). (k : List ℕ) → (units x).of k ≡ Some cell → indexes.count index ≡ count x)
            c.self.view_is c.lead.ensures.as_many k there);
      };
      file = stands_here stands;
    }) led is.stored (λ i there. c.requires.alone i (ap (units old).of is.named ∙ there)) c.requires.few tie
