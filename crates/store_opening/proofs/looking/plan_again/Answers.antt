use Rattle.std.proofs.Common.{Option, sym, ap, subst}
use Rattle.princ_rows.specs.Entries.{IsOp}
use Rattle.princ_rows.specs.declared.entries.Entry.{Entry}
use Rattle.princ_rows.specs.declared.entries.Op.{Op}
use Rattle.update_log.specs.Logs.{marker_of}
use Rattle.kdb_cells.specs.CellFiles.{units, count}
use Rattle.kdb_cells.proofs.Apart.{gathered_apart}
use Rattle.store_files.specs.Found.{unit_changed, left_by}
use Rattle.store_opening.specs.Looking.{last_read}
use Rattle.store_opening.specs.Redoing.{MayJoin}
use Rattle.store_opening.proofs.Again.{again_planned, left_joins, last_op, last_fits, none_numbered}
use Rattle.store_opening.proofs.looking.plan_again.Goals as goal

pub left_write-requires-clause-op : goal.left_write-requires-clause-op
left_write-requires-clause-op c =
    subst (λ (o : Option Op). IsOp o) (sym (ap (λ (e : Entry). e.op) (c.last.ensures (marker_of c.args.control.base))))
    (last_op c.args.control c.args.log c.requires.headed)

pub left_write-requires-clause-none : goal.left_write-requires-clause-none
left_write-requires-clause-none c none =
    let last = last_read c.args.control c.args.log in
    none_numbered c.last_cell.result last.cell c.last.result.now.op last.entry.op c.requires.fitting.0
    (c.last_cell.ensures (marker_of c.args.control.base))
    (ap (λ (e : Entry). e.op) (c.last.ensures (marker_of c.args.control.base))) c.requires.fitting.1.placed none

pub rows_after-requires-clause-apart : goal.rows_after-requires-clause-apart
rows_after-requires-clause-apart c =
    let s = c.args.scanned in
    gathered_apart c.args.control.format (units s.cells)
    (count s.cells) s.princs.items s.policies.items c.requires.fitting.0 c.requires.fitting.1.gathered

pub rows_after-requires-clause-joins : goal.rows_after-requires-clause-joins
rows_after-requires-clause-joins c =
    let s = c.args.scanned in
    let last = last_read c.args.control c.args.log in
    subst (λ (o : Option Op). MayJoin (left_by o) s.princs.items s.policies.items)
    (sym (ap (λ (e : Entry). e.op) (c.last-2.ensures (marker_of c.args.control.base))))
    (left_joins c.args.control.format s.cells s.princs.items
    s.policies.items c.requires.fitting.0 c.requires.fitting.1.gathered (unit_changed last) (left_by last.entry.op)
    (last_fits c.args.control c.args.log c.requires.headed) c.requires.fitting.1.placed)

pub returns-clause-again : goal.returns-clause-again
returns-clause-again c cells fitting =
    again_planned c.args.control c.args.log c.args.scanned cells c.in-Ok-rows_after.rows c.args.stash c.in-Ok.write
    c.last.result.now.op c.last-2.result.now.op c.last_cell.result c.requires.headed fitting
    (ap (λ (e : Entry). e.op) (c.last.ensures (marker_of c.args.control.base)))
    (ap (λ (e : Entry). e.op) (c.last-2.ensures (marker_of c.args.control.base)))
    (c.last_cell.ensures (marker_of c.args.control.base)) c.in-Ok.ensures c.in-Ok-rows_after.ensures

pub returns-clause-looked : goal.returns-clause-looked
returns-clause-looked c cells files looked = looked
