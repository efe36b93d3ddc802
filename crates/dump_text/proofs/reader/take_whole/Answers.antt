use Rattle.dump_text.proofs.Led.{after_grows, after_long}
use Rattle.dump_text.proofs.reader.take_whole.Goals as goal

pub returns-in-Ok-take_line-clause-grows : goal.returns-in-Ok-take_line-clause-grows
returns-in-Ok-take_line-clause-grows c = after_grows c.args.said.now _ _ c.in-Ok-take_line.ensures

pub returns-in-Err-clause-bad : goal.returns-in-Err-clause-bad
returns-in-Err-clause-bad c = λ e. after_long c.args.said.now _ c.holds_rows.ensures.few (c.in-Err.ensures.long e)
