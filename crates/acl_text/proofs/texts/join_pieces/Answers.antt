use Rattle.std.proofs.Common.{refl, sym, ap, ◌∙◌, arith}
use Rattle.acl_text.specs.Joining.{lines_with}
use Rattle.acl_text.proofs.TextLemmas.{begins, ends, taken_on, texts_end}
use Rattle.acl_text.proofs.texts.join_pieces.Goals as goal

pub loop-at-init : goal.loop-at-init
loop-at-init c = record {
  first = omega arith;
  lines = begins (record { lines = c.new.result; text = c.new-2.result; first = 0 }) _ c.new.ensures.items
      c.new-2.ensures.items refl;
}

pub loop-at-preserved : goal.loop-at-preserved
loop-at-preserved c = record {
  first = c.in_ok-take.ensures.first;
  lines = taken_on c.args.pieces.now c.loop-at.at _ c.loop-at.joiner c.take.new.self c.loop-at-test.true
      c.in_ok-take.ensures.taken ∙ c.loop-at.invariant.lines;
}

pub returns : goal.returns
returns c =
    sym (ends c.loop-at.joiner c.loop-at.at)
    ∙ ap (lines_with c.loop-at.joiner c.loop-at.at)
    (sym (texts_end c.args.pieces.now c.loop-at.at c.loop-at-test.false))
    ∙ c.loop-at.invariant.lines
