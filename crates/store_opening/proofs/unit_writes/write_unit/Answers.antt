use Rattle.std.proofs.Common.{◌*◌, ℕ, List, sym, subst}
use Rattle.kdb_disk.proofs.Runs.{torn_none}
use Rattle.kdb_cells.specs.Cells.{unit_size, IsRowText}
use Rattle.store_opening.specs.Writes.{number_of}
use Rattle.store_opening.proofs.WrittenUnits.{put_nothing, put_file, put_leads, put_stands}
use Rattle.store_opening.proofs.WrittenUnits.{free_nothing, free_file, free_leads, free_stands}
use Rattle.store_opening.proofs.unit_writes.write_unit.Goals as goal

pub returns-in-Nothing-clause-crash : goal.returns-in-Nothing-clause-crash
returns-in-Nothing-clause-crash g c tells =
    torn_none c.args.cells.now.file (number_of c.args.write * unit_size c.args.cells.now.format)
    (unit_size c.args.cells.now.format) (g.D.Disk.view c.args.disk.now)

pub returns-in-Put-clause-nothing : goal.returns-in-Put-clause-nothing
returns-in-Put-clause-nothing g c none = put_nothing c.args.write c.args.cells.now c.in-Put.cell c.in-Put.kind
    c.in-Put.key c.in-Put.row c.in-Put.is c.requires.given none

pub returns-in-Put-clause-file : goal.returns-in-Put-clause-file
returns-in-Put-clause-file g c tells =
    put_file c.put.result c.args.cells.now c.put.new.self c.args.write c.in-Put.cell c.in-Put.kind
    c.in-Put.key c.in-Put.row
    ((g.D.Disk.view c.args.disk.now).seen c.args.cells.now.file)
    ((g.D.Disk.view c.put.new.disk).seen c.args.cells.now.file) c.in-Put.is c.requires.given
    (λ r sheet text low tie. c.put.ensures.keeps r sheet
    (subst (λ (b : List ℕ). IsRowText c.args.cells.now.format c.in-Put.kind c.in-Put.key b r)
    (sym c.as_slice.ensures) text) low tells tie)

pub returns-in-Put-clause-leads : goal.returns-in-Put-clause-leads
returns-in-Put-clause-leads g c =
    put_leads c.put.result c.args.cells.now c.put.new.self c.args.write c.in-Put.cell c.in-Put.kind
    c.in-Put.key c.in-Put.row c.in-Put.is c.requires.given c.requires.may c.put.ensures.units c.put.ensures.more
    c.put.ensures.as_many

pub returns-in-Free-clause-nothing : goal.returns-in-Free-clause-nothing
returns-in-Free-clause-nothing g c none =
    free_nothing c.args.write c.args.cells.now c.in-Free.cell c.in-Free.is c.requires.given none

pub returns-in-Free-clause-file : goal.returns-in-Free-clause-file
returns-in-Free-clause-file g c tells =
    free_file c.take_out.result c.args.cells.now c.take_out.new.self c.args.write c.in-Free.cell
    ((g.D.Disk.view c.args.disk.now).seen c.args.cells.now.file)
    ((g.D.Disk.view c.take_out.new.disk).seen c.args.cells.now.file) c.in-Free.is c.requires.given
    (λ sheet low tie. c.take_out.ensures.keeps sheet low tells tie)

pub returns-in-Free-clause-leads : goal.returns-in-Free-clause-leads
returns-in-Free-clause-leads g c =
    free_leads c.take_out.result c.args.cells.now c.take_out.new.self c.args.write c.in-Free.cell c.in-Free.is
    c.requires.given c.take_out.ensures.units c.take_out.ensures.as_many c.take_out.ensures.fewer

pub returns-in-Put-clause-stands : goal.returns-in-Put-clause-stands
returns-in-Put-clause-stands g c tells cell writes some =
    put_stands (g.D.Disk.view c.args.disk.now) (g.D.Disk.view c.put.new.disk) c.put.result c.args.cells.now c.args.write
    c.in-Put.cell c.in-Put.kind c.in-Put.key c.in-Put.row c.in-Put.is
    (λ r text. c.put.ensures.ok r
    (subst (λ (b : List ℕ). IsRowText c.args.cells.now.format c.in-Put.kind c.in-Put.key b r)
    (sym c.as_slice.ensures) text) tells) cell writes

pub returns-in-Free-clause-stands : goal.returns-in-Free-clause-stands
returns-in-Free-clause-stands g c tells cell writes some =
    free_stands (g.D.Disk.view c.args.disk.now) (g.D.Disk.view c.take_out.new.disk) c.take_out.result c.args.cells.now
    c.args.write c.in-Free.cell c.in-Free.is (c.take_out.ensures.ok tells) cell writes
