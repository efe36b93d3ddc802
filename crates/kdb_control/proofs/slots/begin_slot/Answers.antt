use Rattle.std.proofs.Common.{◌≡◌, ◌∙◌, ap}
use Rattle.kdb_disk.specs.Files.{Files}
use Rattle.kdb_control.specs.Force.{in_force}
use Rattle.kdb_control.specs.Moments.{without}
use Rattle.kdb_control.proofs.Steps.{behind_look}
use Rattle.kdb_control.proofs.slots.begin_slot.Goals as goal

pub returns-in-Ok-clause-crash : goal.returns-in-Ok-clause-crash
returns-in-Ok-clause-crash g c tells one other is rest =
    let look = c.length.ensures.looks tells in
    let same : (g.D.Disk.view c.length.new.self).seen 0 ≡ (g.D.Disk.view c.args.disk.now).seen 0 =
    ap (λ (files : Files). files 0) look.seen in
    behind_look (c.requires.durable tells) is look
    (c.shut_slot.ensures.crash tells one other (ap in_force same ∙ is) (ap (without c.args.at) same ∙ rest))

pub returns-in-Ok-2-clause-crash : goal.returns-in-Ok-2-clause-crash
returns-in-Ok-2-clause-crash g c tells one other is rest =
    let look = c.length.ensures.looks tells in
    let same : (g.D.Disk.view c.length.new.self).seen 0 ≡ (g.D.Disk.view c.args.disk.now).seen 0 =
    ap (λ (files : Files). files 0) look.seen in
    behind_look (c.requires.durable tells) is look
    (c.close_slot.ensures.crash tells one other (ap in_force same ∙ is) (ap (without c.args.at) same ∙ rest))
