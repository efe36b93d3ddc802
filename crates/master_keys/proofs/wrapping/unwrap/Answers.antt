use Rattle.std.proofs.Common.{◌∙◌, ap}
use Rattle.master_keys.specs.Faults.{chain_fault}
use Rattle.master_keys.proofs.wrapping.unwrap.Goals as goal

pub returns-in-Err-clause-after_wrap : goal.returns-in-Err-clause-after_wrap
returns-in-Err-clause-after_wrap c key u =
    c.from.ensures ∙ ap chain_fault (c.in-Err.ensures.only key (rw c.new.ensures u))

pub returns-in-Err-clause-wrong : goal.returns-in-Err-clause-wrong
returns-in-Err-clause-wrong c e key u =
    let memory = c.from.ensures ∙ ap chain_fault (c.in-Err.ensures.only key (rw c.new.ensures u)) in
    cc

pub returns-in-Ok-clause-after_wrap : goal.returns-in-Ok-clause-after_wrap
returns-in-Ok-clause-after_wrap c key u = c.in-Ok.ensures.only key (rw c.new.ensures u)
