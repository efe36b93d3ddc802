use Rattle.row_keys.proofs.Judgements.{not_listed}
use Rattle.row_keys.proofs.sound.chain_is_sound.Goals as goal

pub returns-then-not-are_listed-clause-no : goal.returns-then-not-are_listed-clause-no
returns-then-not-are_listed-clause-no c e s =
    not_listed c.args.masters.now c.args.secs c.args.princ.now c.in-Some.part c.as_slice.result.now c.are_listed.result
    c.in-Some.is c.as_slice.ensures.value c.are_listed.ensures c.if-not-are_listed.true s
