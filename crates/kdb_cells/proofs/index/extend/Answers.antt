use Rattle.std.proofs.Common.{heap_items, length, Some, ap, ◌∙◌, length-append, arith}
use Rattle.indexmap.proofs.CallerLemmas.{insert_entry-new}
use Rattle.kdb_cells.specs.Indexes.{unit_of}
use Rattle.kdb_cells.proofs.Entries.{key_eq, updated}
use Rattle.kdb_cells.proofs.Indexing.{extended, from_ok}
use Rattle.kdb_cells.proofs.index.extend.Goals as goal

pub returns-clause-index : goal.returns-clause-index
unfolding unit_of
returns-clause-index c =
    let ok = c.insert.ensures.succeeds (omega (arith, c.requires.spare)) in
    let is = from_ok c.insert.result ok c.insert.ensures.entries
    ∙ insert_entry-new key_eq c.args.entries.now c.args.key c.args.next c.requires.new in
    extended c.args.entries.now.entries c.insert.new.self.entries (heap_items c.args.free.now) c.args.next
    c.args.placed.now c.args.key is c.requires.few c.requires.near c.requires.other c.requires.index

pub returns-clause-of : goal.returns-clause-of
returns-clause-of c =
    let ok = c.insert.ensures.succeeds (omega (arith, c.requires.spare)) in
    let u = from_ok c.insert.result ok c.insert.ensures.updates in
    updated c.args.key (Some c.args.next) c.args.entries.now.entries c.insert.new.self.entries u.1 u.3

pub returns-clause-more : goal.returns-clause-more
unfolding unit_of
returns-clause-more c =
    let ok = c.insert.ensures.succeeds (omega (arith, c.requires.spare)) in
    let is = from_ok c.insert.result ok c.insert.ensures.entries
    ∙ insert_entry-new key_eq c.args.entries.now c.args.key c.args.next c.requires.new in
    ap length is ∙ length-append c.args.entries.now.entries _
