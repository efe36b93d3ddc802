use Rattle.std.proofs.Common.{◌∙◌, ap}
use Rattle.std.proofs.lemmas.Result.{on_ok_weaker}
use Rattle.kdb_disk.proofs.Runs.{stands_here, stands_other}
use Rattle.kdb_control.specs.Force.{in_force}
use Rattle.kdb_control.proofs.Effects.{open_torn, opened}
use Rattle.kdb_control.proofs.Steps.{torn_either}
use Rattle.kdb_control.proofs.slots.open_slot.Goals as goal

pub returns-clause-crash : goal.returns-clause-crash
returns-clause-crash g c tells now next may =
    let ready = may.ready in
    torn_either c.args.at 1 ready.durable (c.open_gate.ensures.moments tells) (λ bytes few.
    open_torn c.args.at now next bytes ((g.D.Disk.view c.args.disk.now).seen 0) c.requires.place may.known ready.long
    ready.gate ready.bytes ready.fits may.rest may.turn few)

pub returns-clause-ok : goal.returns-clause-ok
returns-clause-ok g c tells now next may =
    let ready = may.ready in
    on_ok_weaker c.open_gate.result (λ stands. record {
      here = ap in_force (stands_here stands) ∙ opened c.args.at now next ((g.D.Disk.view c.args.disk.now).seen 0)
          c.requires.place may.known ready.long ready.bytes ready.fits may.rest may.turn;
      durable = stands.durable;
      others = λ h ne. stands_other h stands ne;
    }) (c.open_gate.ensures.ok tells)
