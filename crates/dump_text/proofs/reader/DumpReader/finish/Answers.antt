use Rattle.std.proofs.Common.{◌∙◌, sym, arith}
use Rattle.std.proofs.lemmas.Bool.{eqb-true, eqb-false}
use Rattle.dump_text.proofs.Judging.{ends_bad, ends_held, ends_ok, ends_early}
use Rattle.dump_text.proofs.reader.DumpReader.finish.Goals as goal

pub returns-in-Some : goal.returns-in-Some
returns-in-Some c = ends_bad (record {
  said = c.self.inside.said;
  count = c.self.inside.count;
  held = c.self.inside.held.items;
  bad = c.self.inside.bad;
}) c.args.self c.in-Some.line c.self.view_is c.in-Some.is

pub returns-then-not-is_empty : goal.returns-then-not-is_empty
returns-then-not-is_empty c =
    ends_held (record {
      said = c.self.inside.said;
      count = c.self.inside.count;
      held = c.self.inside.held.items;
      bad = c.self.inside.bad;
    }) c.args.self c.saturating_add-line.result c.self.view_is c.in-None.is c.self.invariant
    c.saturating_add-line.ensures
    (grind (arith, eqb-false _ _ (sym c.is_empty.ensures ∙ c.if-not-is_empty.true)))

pub returns-in-Some-into_dump : goal.returns-in-Some-into_dump
returns-in-Some-into_dump c =
    ends_ok (record {
      said = c.self.inside.said;
      count = c.self.inside.count;
      held = c.self.inside.held.items;
      bad = c.self.inside.bad;
    }) c.args.self c.in-Some-into_dump.dump c.self.view_is c.in-None.is c.self.invariant
    (omega (arith, eqb-true _ _ (sym c.is_empty.ensures ∙ c.if-not-is_empty.false)))
    (sym c.into_dump.ensures ∙ c.in-Some-into_dump.is)

pub returns : goal.returns
returns c =
    ends_early (record {
      said = c.self.inside.said;
      count = c.self.inside.count;
      held = c.self.inside.held.items;
      bad = c.self.inside.bad;
    }) c.args.self c.saturating_add-line.result c.self.view_is c.in-None.is c.self.invariant
    c.saturating_add-line.ensures (sym c.into_dump.ensures ∙ c.in-None-into_dump.is)
