use Rattle.std.proofs.Common.{◌+◌, length, refl, arith}
use Rattle.std.proofs.lemmas.Result.{on_ok_weaker}
use Rattle.kdb_disk.proofs.Differing.{torn_more}
use Rattle.update_log.proofs.Leaving.{durable_stands}
use Rattle.update_log.proofs.Preparing.{fill_differs, first_holds, first_others}
use Rattle.update_log.proofs.SlotWrites.{slot_within}
use Rattle.update_log.proofs.writes.write_first.Goals as goal

pub returns-in_err-fill_slot-clause-crash : goal.returns-in_err-fill_slot-clause-crash
returns-in_err-fill_slot-clause-crash g c = record {
  told = λ tells. fill_differs (c.empty_file.ensures.moments tells)
      (c.fill_slot.ensures.moments tells (length c.args.body.now + 1) 0 refl (omega arith));
}

pub open_gate-requires-clause-at : goal.open_gate-requires-clause-at
open_gate-requires-clause-at g c tells =
    let block = length c.args.body.now + 1 in
    let filled = c.in_ok-fill_slot.ensures.ok tells block 0 refl (omega arith) in
    let within =
    slot_within block 0 ((g.D.Disk.view c.fill_slot.new.disk).seen c.args.file) (omega arith) filled.fills.whole in
    omega (arith, within)

pub returns-clause-crash : goal.returns-clause-crash
returns-clause-crash g c = record {
  told = λ tells.
      torn_more (fill_differs (c.empty_file.ensures.moments tells)
      (c.fill_slot.ensures.moments tells (length c.args.body.now + 1) 0 refl (omega arith)))
      (c.open_gate.ensures.moments tells);
}

pub returns-clause-ok : goal.returns-clause-ok
returns-clause-ok g c tells base size block marker is =
    on_ok_weaker c.open_gate.result
    (λ stands. first_holds is (c.in_ok-empty_file.ensures.ok tells)
    (c.in_ok-fill_slot.ensures.ok tells block 0 is.long (omega arith)) stands)
    (c.open_gate.ensures.ok tells)

pub returns-clause-durable : goal.returns-clause-durable
returns-clause-durable g c tells =
    on_ok_weaker c.open_gate.result (λ stands. durable_stands stands) (c.open_gate.ensures.ok tells)

pub returns-clause-others : goal.returns-clause-others
returns-clause-others g c tells =
    on_ok_weaker c.open_gate.result
    (λ stands. first_others (c.in_ok-empty_file.ensures.ok tells)
    (c.in_ok-fill_slot.ensures.ok tells (length c.args.body.now + 1) 0 refl (omega arith)) stands)
    (c.open_gate.ensures.ok tells)
