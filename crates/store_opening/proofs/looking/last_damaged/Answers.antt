use Rattle.store_opening.proofs.Again.{last_serial}
use Rattle.store_opening.proofs.looking.last_damaged.Goals as goal

pub last_slot-requires : goal.last_slot-requires
last_slot-requires c = record { serial = last_serial c.args.control.now c.args.log.now c.requires }
