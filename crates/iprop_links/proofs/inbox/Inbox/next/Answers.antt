use Rattle.std.proofs.Common.{rules, Ok, inl, inr, refl, ap, ◌∙◌}
use Rattle.iprop_wire.specs.Decoding.{is_going}
use Rattle.iprop_wire.specs.Due.{narrowed}
use Rattle.iprop_links.proofs.Needed.{has_ended, reads_of, reads_on, stops_memory, stops_short, wants_more}
use Rattle.iprop_links.proofs.Steps.{cut_then, given_none, given_then, step_none, steps_read, steps_same, steps_then}
use Rattle.iprop_links.proofs.inbox.Inbox.next.Goals as goal

pub loop-arrival-init : goal.loop-arrival-init
loop-arrival-init g c = record {
  steps = steps_same _ _;
  gave = given_none _;
  same = refl;
  faults = search rules;
  reads = inl (refl, (refl, refl));
}

pub loop-arrival-preserved : goal.loop-arrival-preserved
loop-arrival-preserved g c =
    let none = c.in-Ok-None.is ∙ ap Ok c.in-Ok-None.field-0-is in
    let step = step_none _ _ _ _ _ _ none (c.take_held.ensures.holds (g.L.Link.wire c.loop-arrival.link)) in
    record {
      steps = steps_read _ _ _ _ _ _ (steps_then _ _ _ _ _ _ c.loop-arrival.invariant.steps step)
          c.read_on.ensures.state c.read_on.ensures.same;
      gave = given_then _ _ _ c.loop-arrival.invariant.gave c.read_on.ensures.gave;
      same = search rules;
      faults = search rules;
      reads = inr (reads_on g.L.Link.wire _ _ _ _ _ _ _ c.loop-arrival.invariant.reads _
          (c.take_held.ensures.leads none) (c.take_held.ensures.going none) _ _ _
          c.read_on.ensures.state c.read_on.ensures.piece c.read_on.ensures.few);
    }

pub returns-in-Ok-false-clause-arrives : goal.returns-in-Ok-false-clause-arrives
returns-in-Ok-false-clause-arrives g c =
    let none = c.in-Ok-None.is ∙ ap Ok c.in-Ok-None.field-0-is in
    let step = step_none _ _ _ _ _ _ none (c.take_held.ensures.holds (g.L.Link.wire c.loop-arrival.link)) in
    let over = c.read_on.ensures.over (c.in-Ok-false.is ∙ ap Ok c.in-Ok-false.field-0-test) in
    cut_then c.args.due _ _ _ _ _ (steps_read _ _ _ _ _ _ (steps_then _ _ _ _ _ _ c.loop-arrival.invariant.steps step)
    c.read_on.ensures.state c.read_on.ensures.same)
    (ap (λ u. is_going (narrowed c.args.due u)) c.read_on.ensures.state ∙ c.take_held.ensures.going none) over

pub returns-in-Ok-false-clause-gave : goal.returns-in-Ok-false-clause-gave
returns-in-Ok-false-clause-gave g c = given_then _ _ _ c.loop-arrival.invariant.gave c.read_on.ensures.gave

pub returns-in-Ok-false-clause-reads : goal.returns-in-Ok-false-clause-reads
returns-in-Ok-false-clause-reads g c =
    let none = c.in-Ok-None.is ∙ ap Ok c.in-Ok-None.field-0-is in
    let reads = reads_on g.L.Link.wire _ _ _ _ _ _ _ c.loop-arrival.invariant.reads _ (c.take_held.ensures.leads none)
    (c.take_held.ensures.going none) _ _ _
    c.read_on.ensures.state c.read_on.ensures.piece c.read_on.ensures.few in
    inr reads.needs

pub returns-in-Err-read_on-clause-gave : goal.returns-in-Err-read_on-clause-gave
returns-in-Err-read_on-clause-gave g c = given_then _ _ _ c.loop-arrival.invariant.gave c.read_on.ensures.gave

pub returns-in-Err-read_on-clause-reads : goal.returns-in-Err-read_on-clause-reads
returns-in-Err-read_on-clause-reads g c =
    let none = c.in-Ok-None.is ∙ ap Ok c.in-Ok-None.field-0-is in
    let reads = reads_on g.L.Link.wire _ _ _ _ _ _ _ c.loop-arrival.invariant.reads _ (c.take_held.ensures.leads none)
    (c.take_held.ensures.going none) _ _ _
    c.read_on.ensures.state c.read_on.ensures.piece c.read_on.ensures.few in
    inr reads.needs

pub returns-in-Err-read_on-clause-short : goal.returns-in-Err-read_on-clause-short
returns-in-Err-read_on-clause-short g c =
    let none = c.in-Ok-None.is ∙ ap Ok c.in-Ok-None.field-0-is in
    stops_short _ _ _ _ _ _ (wants_more g.L.Link.wire _ _ _ _ _ _ _ c.loop-arrival.invariant.reads _
    (c.take_held.ensures.leads none) (c.take_held.ensures.going none) _ c.in-Err-read_on.ensures.err)

pub returns-in-Err-clause-reads : goal.returns-in-Err-clause-reads
returns-in-Err-clause-reads g c = reads_of g.L.Link.wire _ _ _ _ _ _ _ c.loop-arrival.invariant.reads

pub returns-in-Err-clause-short : goal.returns-in-Err-clause-short
returns-in-Err-clause-short g c = stops_memory _ _ _ _ _ _ c.in-Err.ensures.halt

pub returns-in-Ok-Some-clause-reads : goal.returns-in-Ok-Some-clause-reads
returns-in-Ok-Some-clause-reads g c = reads_of g.L.Link.wire _ _ _ _ _ _ _ c.loop-arrival.invariant.reads

pub returns-in-Ok-Some-clause-in_time : goal.returns-in-Ok-Some-clause-in_time
returns-in-Ok-Some-clause-in_time g c =
    inl (has_ended g.L.Link.wire _ _ _ _ _ _ _ c.loop-arrival.invariant.reads
    (c.take_held.ensures.ended _ (c.in-Ok-Some.is ∙ ap Ok c.in-Ok-Some.field-0-is)))

pub returns-in-Ok-false-clause-in_time : goal.returns-in-Ok-false-clause-in_time
returns-in-Ok-false-clause-in_time g c =
    let none_came = c.in-Ok-false.is ∙ ap Ok c.in-Ok-false.field-0-test in
    inr (record { few = c.read_on.ensures.early none_came; over = c.read_on.ensures.over none_came })
