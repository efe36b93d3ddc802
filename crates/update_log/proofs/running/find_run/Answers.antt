use Rattle.std.proofs.Common.{◌∙◌, sym, ap}
use Rattle.std.specs.Prelude.{option_map}
use Rattle.update_log.proofs.ReadSlots.{none_held, left_held, whole_held, place_same, zeroth_place}
use Rattle.update_log.proofs.running.find_run.Goals as goal

pub returns-in-None-clause-left : goal.returns-in-None-clause-left
returns-in-None-clause-left c slot same =
    let choice = c.args.control.now in
    let last = sym c.last_entry.ensures ∙ ap (option_map (λ l. l.now)) c.in-None.is in
    place_same choice.block 0 slot _ same (zeroth_place choice.block _ (none_held choice c.args.slots.now last))

pub returns-in-Some-first_left-clause-left : goal.returns-in-Some-first_left-clause-left
returns-in-Some-first_left-clause-left c slot same =
    let choice = c.args.control.now in
    let last = sym c.last_entry.ensures ∙ ap (option_map (λ l. l.now)) c.in-Some.is in
    place_same choice.block c.in-Some-first_left.slot slot _ same
    (left_held choice c.args.slots.now c.in-Some.last.now c.run_len.result c.in-Some-first_left.slot last
    (sym c.run_len.ensures.value) (sym c.first_left.ensures.first ∙ c.in-Some-first_left.is))

pub returns-in-None-first_left-clause-run : goal.returns-in-None-first_left-clause-run
returns-in-None-first_left-clause-run c =
    let choice = c.args.control.now in
    let last = sym c.last_entry.ensures ∙ ap (option_map (λ l. l.now)) c.in-Some.is in
    whole_held choice c.args.slots.now c.in-Some.last.now c.run_len.result last (sym c.run_len.ensures.value)
    (sym c.first_left.ensures.first ∙ c.in-None-first_left.is)
