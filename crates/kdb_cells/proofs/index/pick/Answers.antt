use Rattle.std.proofs.Common.{heap_items, None, ◌∙◌, arith}
use Rattle.std.proofs.lemmas.Option.{same_Some}
use Rattle.kdb_cells.specs.Indexes.{unit_of}
use Rattle.kdb_cells.proofs.Entries.{led_place}
use Rattle.kdb_cells.proofs.Indexing.{led_parts}
use Rattle.kdb_cells.proofs.index.pick.Goals as goal

pub returns-in-Some-clause-own : goal.returns-in-Some-clause-own
unfolding unit_of
returns-in-Some-clause-own c = λ i e. same_Some c.in-Some.unit.now i (c.in-Some.ensures.value ∙ e)

pub returns-in-Some-clause-new : goal.returns-in-Some-clause-new
unfolding unit_of
returns-in-Some-clause-new c = λ none. let both = c.in-Some.ensures.value ∙ none in absurd cc

pub returns-in-Some-clause-low : goal.returns-in-Some-clause-low
returns-in-Some-clause-low c =
    let leads = led_place c.in-Some.unit.now c.in-Some.at c.in-Some.field-0-1.now c.args.entries.now.entries
    c.in-Some.ensures.entry in
    (led_parts c.args.entries.now.entries (heap_items c.args.free.now) c.args.next c.in-Some.unit.now None
    c.requires.index leads).1.1.0

pub returns-in-Some-clause-high : goal.returns-in-Some-clause-high
returns-in-Some-clause-high c =
    let leads = led_place c.in-Some.unit.now c.in-Some.at c.in-Some.field-0-1.now c.args.entries.now.entries
    c.in-Some.ensures.entry in
    let parts = led_parts c.args.entries.now.entries (heap_items c.args.free.now) c.args.next c.in-Some.unit.now None
    c.requires.index leads in
    omega (arith, parts.1.1.1)

pub returns-in-None-clause-own : goal.returns-in-None-clause-own
unfolding unit_of
returns-in-None-clause-own c = λ i e. let both = c.in-None.ensures.value ∙ e in absurd cc
