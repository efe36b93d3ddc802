use Rattle.std.proofs.Common.{sym, subst, ap}
use Rattle.update_log.specs.Logs.{Journal}
use Rattle.update_log.specs.Moments.{HasLog, IsDurable}
use Rattle.update_log.proofs.log.Log.commit.Goals as goal

pub returns-in-Ok-clause-log : goal.returns-in-Ok-clause-log
returns-in-Ok-clause-log g c tells =
    let new = g.D.Disk.view c.open_prepared.new.disk in
    subst (λ (j : Journal). HasLog j new) (sym c.take_prepared.ensures) (c.in-Ok.ensures.log tells)

pub returns-in-Ok-clause-durable : goal.returns-in-Ok-clause-durable
returns-in-Ok-clause-durable g c tells =
    let new = g.D.Disk.view c.open_prepared.new.disk in
    subst (λ (j : Journal). IsDurable j.file new) (sym c.take_prepared.ensures) (c.in-Ok.ensures.durable tells)
