use Rattle.std.proofs.Common.{List, ℕ, ◌∙◌, ap, arith}
use Rattle.kdb_control.specs.Force.{slot, slot_bytes}
use Rattle.kdb_control.proofs.Places.{slot_front}
use Rattle.kdb_control.proofs.front.first_slot.Goals as goal

pub returns-in-Ok-clause-slot : goal.returns-in-Ok-clause-slot
returns-in-Ok-clause-slot g c tells =
    c.slot_at.ensures ∙ ap (λ (l : List ℕ). slot (slot_bytes 0 l)) (c.in-Ok.ensures.bytes tells)
    ∙ ap slot (slot_front 0 ((g.D.Disk.view c.args.disk.now).seen 0) (omega arith))
