use Rattle.std.proofs.Common.{ap, ◌∙◌}
use Rattle.update_log.specs.Logs.{marker_of}
use Rattle.store_files.specs.Found.{unit_numbered}
use Rattle.store_opening.proofs.looking.last_unit.Goals as goal

pub returns : goal.returns
returns c = c.unit_numbered.ensures ∙ ap unit_numbered (c.last_cell.ensures (marker_of c.args.control.now.base))
