use Rattle.std.proofs.Common.{◌≡◌, Bool, take, ap, sym, ◌∙◌}
use Rattle.kdb_base.specs.declared.outcomes.Stop.TheVariants.{Refused}
use Rattle.kdb_disk.specs.Reader.{left_of}
use Rattle.kdb_cells.specs.Cells.{unit_size}
use Rattle.kdb_cells.specs.Indexes.{units, count}
use Rattle.kdb_cells.specs.Scanning.{cell_next}
use Rattle.kdb_cells.proofs.Gathered.{next_cell, more_in, none_damaged, row_damaged, same_damaged}
use Rattle.kdb_cells.proofs.scanning.gather_unit.Goals as goal

pub returns-in-Err-clause-refused : goal.returns-in-Err-clause-refused
returns-in-Err-clause-refused g c = λ tells cells long is read realm named lt r same.
    let a = c.args in
    let v = g.D.Disk.view c.args.disk.now in
    let bytes = v.seen a.file in
    let left = left_of a.reader.now v.seen in
    let old = a.gathered.now in
    let here =
    next_cell a.format a.torn bytes a.unit left (c.requires.torn tells) c.requires.first (c.requires.left tells)
    ∙ ap (λ (b : Bool). cell_next a.format b (take (unit_size a.format) left)) (sym c.is_torn-skips.ensures.value) in
    let stop : c.in-Err.stop ≡ Refused r = cc in
    none_damaged a.file a.format a.torn bytes (units old.index) (count old.index) old.princs.items old.policies.items
    cells realm a.unit r _ is read long named lt here c.in-Err.stop stop (c.in-Err.ensures.found tells)

pub returns-in-Ok-gather_cell-clause-gathered : goal.returns-in-Ok-gather_cell-clause-gathered
returns-in-Ok-gather_cell-clause-gathered g c = λ cells long is read.
    let a = c.args in
    let v = g.D.Disk.view c.args.disk.now in
    let bytes = v.seen a.file in
    let left = left_of a.reader.now v.seen in
    record {
      cell = c.in-Ok.cell;
      gathered = c.in-Ok-gather_cell.ensures.gathered cells is;
      read = λ tells.
          let here =
          next_cell a.format a.torn bytes a.unit left (c.requires.torn tells) c.requires.first (c.requires.left tells)
          ∙ ap (λ (b : Bool). cell_next a.format b (take (unit_size a.format) left))
          (sym c.is_torn-skips.ensures.value) in
          more_in a.format a.torn bytes a.unit cells c.in-Ok.cell long (read tells)
          (here ∙ c.in-Ok.ensures.found tells);
    }

pub returns-in-Err-Malformed-clause-refused : goal.returns-in-Err-Malformed-clause-refused
returns-in-Err-Malformed-clause-refused g c = λ tells cells long is read realm named lt r same.
    let a = c.args in
    let v = g.D.Disk.view c.args.disk.now in
    let bytes = v.seen a.file in
    let left = left_of a.reader.now v.seen in
    let old = a.gathered.now in
    let here =
    next_cell a.format a.torn bytes a.unit left (c.requires.torn tells) c.requires.first (c.requires.left tells)
    ∙ ap (λ (b : Bool). cell_next a.format b (take (unit_size a.format) left)) (sym c.is_torn-skips.ensures.value) in
    row_damaged a.file a.format a.torn bytes (units old.index) (count old.index) old.princs.items old.policies.items
    cells realm a.unit r c.in-Ok.cell is read long named lt (here ∙ c.in-Ok.ensures.found tells) c.in-Ok.ensures.stored
    (c.gather_cell.ensures.refused cc) (same_damaged c.damaged.result _ r c.damaged.ensures.value same)
