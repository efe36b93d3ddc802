use Rattle.std.proofs.Common.{arith, refl}
use Rattle.made_scripts.proofs.Playing.{begins, ends, goes_on, lines_all, lines_more, lines_none}
use Rattle.made_scripts.proofs.plays.play.Goals as goal

pub loop-number-init : goal.loop-number-init
loop-number-init g c = record {
  goes = λ s draws has told. begins _ _ _ s draws _ (lines_all c.args.script.seed c.args.script.count) has told;
  on = λ tells. c.requires.on tells;
  whole = c.requires.whole;
  many = refl;
}

pub loop-number-preserved : goal.loop-number-preserved
loop-number-preserved g c =
    let was = c.loop-number.invariant in
    record {
      goes = λ s draws has told.
          let way = was.goes s draws has told in
          goes_on _ _ _ _ _ _ _ _ _ _ _ (lines_more c.args.script.seed c.loop-number.number c.args.script.count
          c.loop-number-test.true) c.counted-tally.ensures.value way
          (c.in_ok-refused.ensures.answered way.state way.draws way.shows way.told_is);
      on = λ tells. c.in_ok-refused.ensures.on tells;
      whole = c.in_ok-refused.ensures.whole;
      many = omega (arith, was.many, c.counted-tally.ensures.sum);
    }

pub returns : goal.returns
returns g c = λ s draws has told.
    ends _ _ _ _ _ (lines_none c.args.script.seed c.loop-number.number c.args.script.count
    (omega (arith, c.loop-number-test.false))) (c.loop-number.invariant.goes s draws has told)
