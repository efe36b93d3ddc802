use Rattle.std.proofs.Common.{◌∙◌, sym, ap, Err, Some, ◌++◌, ℕ}
use Rattle.dump_text.specs.Judged.{judged_from, line_behind}
use Rattle.dump_text.specs.Lines.{lacks}
use Rattle.dump_text.proofs.Judging.{bad_line, good_line, line_said, line_rest, lacks-none, grows_on}
use Rattle.dump_text.proofs.Judging.{last_said, last_rest, last_clear, last_long, last_goes}
use Rattle.dump_text.proofs.reader.take_piece.Goals as goal

pub returns-in-Err-clause-bad : goal.returns-in-Err-clause-bad
returns-in-Err-clause-bad c = λ e rest.
    sym (c.loop-front.invariant.0 rest)
    ∙ bad_line c.loop-front.said c.loop-front.count c.loop-front.line.items c.loop-front.rest.now c.in-Some.front.now
    c.in-Some.behind.now rest c.in-Some.ensures.some c.loop-front.invariant.3 (c.in-Err.ensures.bad e)
    ∙ ap (λ (n : ℕ). Err (line_behind n)) (sym c.in-Err.ensures.err_count)

pub loop-front-preserved : goal.loop-front-preserved
loop-front-preserved c = (
  λ rest. good_line c.loop-front.said c.take_whole.new.said c.loop-front.count
      c.take_whole.new.count c.loop-front.line.items c.loop-front.rest.now c.in-Some.front.now c.in-Some.behind.now
      c.take_whole.new.line.items rest
      c.in-Some.ensures.some c.loop-front.invariant.3 c.in-Ok.ensures.ok c.in-Ok.ensures.count c.in-Ok.ensures.line
      ∙ c.loop-front.invariant.0 rest,
  line_said c.loop-front.said c.take_whole.new.said c.loop-front.line.items c.loop-front.rest.now c.in-Some.front.now
      c.in-Some.behind.now c.take_whole.new.line.items c.in-Some.ensures.some c.loop-front.invariant.3
      c.in-Ok.ensures.ok c.in-Ok.ensures.line ∙ c.loop-front.invariant.1,
  line_rest c.loop-front.line.items c.loop-front.rest.now c.in-Some.front.now c.in-Some.behind.now
      c.take_whole.new.line.items c.in-Some.ensures.some c.loop-front.invariant.3 c.in-Ok.ensures.line
      ∙ c.loop-front.invariant.2,
  ap (lacks 10) c.in-Ok.ensures.line ∙ lacks-none,
  grows_on _ _ _ c.loop-front.invariant.4 c.take_whole.ensures.grows,
)

pub returns-in-Ok-take_rest-clause-same : goal.returns-in-Ok-take_rest-clause-same
returns-in-Ok-take_rest-clause-same c = λ rest.
    ap (λ s. judged_from s c.loop-front.count (c.take_rest.new.line.items ++ rest)) c.take_rest.ensures.said
    ∙ last_goes c.loop-front.said c.loop-front.count c.loop-front.line.items c.loop-front.rest.now
    c.take_rest.new.line.items rest c.in-Ok-take_rest.ensures.ok ∙ c.loop-front.invariant.0 rest

pub returns-in-Ok-take_rest-clause-whole : goal.returns-in-Ok-take_rest-clause-whole
returns-in-Ok-take_rest-clause-whole c =
    sym c.loop-front.invariant.1 ∙ last_said c.loop-front.said c.loop-front.line.items c.loop-front.rest.now
    c.loop-front.invariant.3 (c.cut_line.ensures.none c.in-None.is)
    ∙ ap Some (sym c.take_rest.ensures.said)

pub returns-in-Ok-take_rest-clause-held : goal.returns-in-Ok-take_rest-clause-held
returns-in-Ok-take_rest-clause-held c =
    last_rest c.loop-front.line.items c.loop-front.rest.now c.take_rest.new.line.items c.loop-front.invariant.3
    (c.cut_line.ensures.none c.in-None.is) c.in-Ok-take_rest.ensures.ok
    ∙ c.loop-front.invariant.2

pub returns-in-Ok-take_rest-clause-clear : goal.returns-in-Ok-take_rest-clause-clear
returns-in-Ok-take_rest-clause-clear c =
    last_clear c.loop-front.line.items c.loop-front.rest.now c.take_rest.new.line.items c.loop-front.invariant.3
    (c.cut_line.ensures.none c.in-None.is) c.in-Ok-take_rest.ensures.ok

pub returns-in-Err-take_rest-clause-bad : goal.returns-in-Err-take_rest-clause-bad
returns-in-Err-take_rest-clause-bad c = λ e rest.
    sym (c.loop-front.invariant.0 rest)
    ∙ last_long c.loop-front.said c.loop-front.count c.loop-front.line.items c.loop-front.rest.now rest
    c.take_rest.ensures.few c.loop-front.invariant.3 (c.cut_line.ensures.none c.in-None.is)
    (c.in-Err-take_rest.ensures.long e)
