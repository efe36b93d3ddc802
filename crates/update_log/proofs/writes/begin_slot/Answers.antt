use Rattle.std.proofs.lemmas.Result.{on_ok_weaker}
use Rattle.update_log.proofs.Leaving.{behind_look, shut_behind}
use Rattle.update_log.proofs.writes.begin_slot.Goals as goal

pub returns-in-Ok-clause-moments : goal.returns-in-Ok-clause-moments
returns-in-Ok-clause-moments g c tells block slot two is =
    behind_look (c.requires.durable tells) (c.length.ensures.looks tells)
    (c.shut_slot.ensures.moments tells block slot two is)

pub returns-in-Ok-clause-ok : goal.returns-in-Ok-clause-ok
returns-in-Ok-clause-ok g c tells block slot two is = on_ok_weaker c.shut_slot.result
    (λ shut. shut_behind (c.length.ensures.looks tells) shut) (c.shut_slot.ensures.ok tells block slot two is)

pub returns-in-Ok-2-clause-moments : goal.returns-in-Ok-2-clause-moments
returns-in-Ok-2-clause-moments g c tells block slot two is =
    behind_look (c.requires.durable tells) (c.length.ensures.looks tells)
    (c.close_slot.ensures.moments tells block slot two is)

pub returns-in-Ok-2-clause-ok : goal.returns-in-Ok-2-clause-ok
returns-in-Ok-2-clause-ok g c tells block slot two is = on_ok_weaker c.close_slot.result
    (λ shut. shut_behind (c.length.ensures.looks tells) shut) (c.close_slot.ensures.ok tells block slot two is)
