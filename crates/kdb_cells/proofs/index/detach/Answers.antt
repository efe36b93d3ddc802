use Rattle.std.proofs.Common.{heap_items, Some, arith, subst}
use Rattle.kdb_cells.specs.Indexes.{IsIndex}
use Rattle.kdb_cells.specs.declared.index.Spot.{Spot}
use Rattle.kdb_cells.proofs.Entries.{led_free, free_led}
use Rattle.kdb_cells.proofs.Indexing.{key_out, of_taken, past_end, taken_parts}
use Rattle.kdb_cells.proofs.index.detach.Goals as goal

pub returns-in-Led-clause-index : goal.returns-in-Led-clause-index
returns-in-Led-clause-index c =
    let e = c.swap_remove_index-entry.ensures in
    (key_out c.args.entries.now c.swap_remove_index-entry.new.self (heap_items c.args.free.now) c.args.next c.in-Led.at
    c.args.placed.now c.swap_remove_index-entry.result c.in-Led.is c.requires.index c.len-count.ensures.unique e.entry
    e.entries e.updates e.len).index

pub returns-in-Led-clause-of : goal.returns-in-Led-clause-of
returns-in-Led-clause-of c =
    let e = c.swap_remove_index-entry.ensures in
    (key_out c.args.entries.now c.swap_remove_index-entry.new.self (heap_items c.args.free.now) c.args.next c.in-Led.at
    c.args.placed.now c.swap_remove_index-entry.result c.in-Led.is c.requires.index c.len-count.ensures.unique e.entry
    e.entries e.updates e.len).of

pub returns-in-Led-clause-next : goal.returns-in-Led-clause-next
returns-in-Led-clause-next c =
    let e = c.swap_remove_index-entry.ensures in
    let out = key_out c.args.entries.now c.swap_remove_index-entry.new.self
    (heap_items c.args.free.now) c.args.next c.in-Led.at c.args.placed.now c.swap_remove_index-entry.result c.in-Led.is
    c.requires.index c.len-count.ensures.unique e.entry e.entries e.updates e.len in
    omega (arith, out.below)

pub returns-in-Led-clause-as_many : goal.returns-in-Led-clause-as_many
returns-in-Led-clause-as_many c = λ free.
    let e = c.swap_remove_index-entry.ensures in
    let out = key_out c.args.entries.now c.swap_remove_index-entry.new.self
    (heap_items c.args.free.now) c.args.next c.in-Led.at c.args.placed.now c.swap_remove_index-entry.result c.in-Led.is
    c.requires.index c.len-count.ensures.unique e.entry e.entries e.updates e.len in
    omega (
      arith,
      out.was_led,
      free_led c.args.placed.now.unit c.args.entries.now.entries c.len-count.ensures.unique free,
    )

pub returns-in-Led-clause-fewer : goal.returns-in-Led-clause-fewer
returns-in-Led-clause-fewer c = λ key leads.
    let e = c.swap_remove_index-entry.ensures in
    (key_out c.args.entries.now c.swap_remove_index-entry.new.self (heap_items c.args.free.now) c.args.next c.in-Led.at
    c.args.placed.now c.swap_remove_index-entry.result c.in-Led.is c.requires.index c.len-count.ensures.unique e.entry
    e.entries e.updates e.len).fewer

pub returns-in-Taken-clause-of : goal.returns-in-Taken-clause-of
returns-in-Taken-clause-of c =
    let x = subst (λ (s : Spot). IsIndex c.args.entries.now.entries (heap_items c.args.free.now) c.args.next
    (Some (record { unit = c.args.placed.now.unit; spot = s }))) c.in-Taken.is c.requires.index in
    of_taken c.args.entries.now.entries c.args.placed.now.unit
    (taken_parts c.args.entries.now.entries (heap_items c.args.free.now) c.args.next c.args.placed.now.unit x).0

pub returns-in-Taken-clause-next : goal.returns-in-Taken-clause-next
returns-in-Taken-clause-next c =
    let x = subst (λ (s : Spot). IsIndex c.args.entries.now.entries (heap_items c.args.free.now) c.args.next
    (Some (record { unit = c.args.placed.now.unit; spot = s }))) c.in-Taken.is c.requires.index in
    omega (
      arith,
      (taken_parts c.args.entries.now.entries (heap_items c.args.free.now) c.args.next c.args.placed.now.unit x).1.1.0,
    )

pub returns-in-Taken-clause-fewer : goal.returns-in-Taken-clause-fewer
returns-in-Taken-clause-fewer c = λ key leads.
    let x = subst (λ (s : Spot). IsIndex c.args.entries.now.entries (heap_items c.args.free.now) c.args.next
    (Some (record { unit = c.args.placed.now.unit; spot = s }))) c.in-Taken.is c.requires.index in
    absurd (led_free c.args.placed.now.unit c.args.entries.now.entries (taken_parts c.args.entries.now.entries
    (heap_items c.args.free.now) c.args.next c.args.placed.now.unit x).0 key leads)

pub returns-in-Next-clause-of : goal.returns-in-Next-clause-of
returns-in-Next-clause-of c =
    let x = subst (λ (s : Spot). IsIndex c.args.entries.now.entries (heap_items c.args.free.now) c.args.next
    (Some (record { unit = c.args.placed.now.unit; spot = s }))) c.in-Next.is c.requires.index in
    of_taken c.args.entries.now.entries c.args.placed.now.unit (past_end c.args.entries.now.entries
    (heap_items c.args.free.now) c.args.next c.args.placed.now.unit _ x (omega (arith, x.spot)))

pub returns-in-Next-clause-fewer : goal.returns-in-Next-clause-fewer
returns-in-Next-clause-fewer c = λ key leads.
    let x = subst (λ (s : Spot). IsIndex c.args.entries.now.entries (heap_items c.args.free.now) c.args.next
    (Some (record { unit = c.args.placed.now.unit; spot = s }))) c.in-Next.is c.requires.index in
    absurd (led_free c.args.placed.now.unit c.args.entries.now.entries (past_end c.args.entries.now.entries
    (heap_items c.args.free.now) c.args.next c.args.placed.now.unit _ x (omega (arith, x.spot))) key leads)

pub returns-in-Taken-clause-few : goal.returns-in-Taken-clause-few
returns-in-Taken-clause-few c = λ few.
    let x = subst (λ (s : Spot). IsIndex c.args.entries.now.entries (heap_items c.args.free.now) c.args.next
    (Some (record { unit = c.args.placed.now.unit; spot = s }))) c.in-Taken.is c.requires.index in
    few (led_free c.args.placed.now.unit c.args.entries.now.entries
    (taken_parts c.args.entries.now.entries (heap_items c.args.free.now) c.args.next c.args.placed.now.unit x).0)

pub returns-in-Next-clause-few : goal.returns-in-Next-clause-few
returns-in-Next-clause-few c = λ few.
    let x = subst (λ (s : Spot). IsIndex c.args.entries.now.entries (heap_items c.args.free.now) c.args.next
    (Some (record { unit = c.args.placed.now.unit; spot = s }))) c.in-Next.is c.requires.index in
    few (led_free c.args.placed.now.unit c.args.entries.now.entries (past_end c.args.entries.now.entries
    (heap_items c.args.free.now) c.args.next c.args.placed.now.unit _ x (omega (arith, x.spot))))
