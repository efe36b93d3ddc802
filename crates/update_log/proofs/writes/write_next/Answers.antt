use Rattle.std.proofs.Common.{ℕ, sym, subst}
use Rattle.std.proofs.lemmas.Result.{on_ok_weaker}
use Rattle.update_log.specs.Slots.{slot_of}
use Rattle.update_log.specs.Moments.{IsFilled}
use Rattle.update_log.proofs.Preparing.{next_moments, next_prepared}
use Rattle.update_log.proofs.writes.write_next.Goals as goal

pub returns-clause-crash : goal.returns-clause-crash
returns-clause-crash g c tells log next plan has =
    next_moments plan (has.each ((g.D.Disk.view c.args.disk.now).seen)
    (g.met.D.Disk.reads_as_image c.args.disk.now tells)) (c.fill_slot.ensures.moments tells)

pub returns-clause-ok : goal.returns-clause-ok
returns-clause-ok g c tells log next plan has =
    let holds = has.each ((g.D.Disk.view c.args.disk.now).seen) (g.met.D.Disk.reads_as_image c.args.disk.now tells) in
    let slot = slot_of log.base log.size next.entry.point.sno in
    let filled = c.fill_slot.ensures.ok tells log.block slot plan.long plan.place in
    on_ok_weaker c.fill_slot.result
    (λ is. next_prepared plan holds
    (subst (λ (f : ℕ). IsFilled f log.block slot c.args.body.now (g.D.Disk.view c.args.disk.now)
    (g.D.Disk.view c.fill_slot.new.disk)) (sym plan.file_is) is)) filled
