use Rattle.std.proofs.Common.{◌≡◌, ℕ, ◌+◌, ◌/◌, ◌≤◌, ◌∙◌, ⊎_elim, Some, Option, List, ap, subst, sym, length, arith}
use Rattle.std.specs.Prelude.{Err}
use Rattle.std.proofs.lemmas.Bool.{cases_lt}
use Rattle.std.proofs.lemmas.List.{length_push}
use Rattle.kdb_base.specs.declared.outcomes.Stop.TheVariants.{Refused}
use Rattle.kdb_control.specs.Choice.{Choice}
use Rattle.kdb_disk.proofs.Runs.{keeps_then}
use Rattle.kdb_disk.specs.Reader.{left_of}
use Rattle.princ_rows.specs.declared.entries.Logged.{Logged}
use Rattle.update_log.specs.Runs.{slot_in}
use Rattle.update_log.specs.Scanning.{SlotAnswers}
use Rattle.update_log.proofs.ReadSlots.{read_more, has_more, next_bytes, left_behind}
use Rattle.update_log.proofs.ReadSlots.{next_wrong, past_closed, past_none}
use Rattle.update_log.proofs.scanning.read_slots.Goals as goal

pub returns-in-Err-next_slot-clause-refused : goal.returns-in-Err-next_slot-clause-refused
returns-in-Err-next_slot-clause-refused g c tells r same =
    let choice = c.args.control.now in
    let file = (g.D.Disk.view c.args.disk.now).seen choice.log in
    let inv = c.loop-slot.invariant in
    let k = c.loop-slot.slot in
    let bytes = next_bytes choice.block k file (left_of c.loop-slot.reader (g.D.Disk.view c.loop-slot.disk).seen)
    (inv.left tells) in
    let is : c.in-Err-next_slot.stop ≡ Refused r = cc in
    next_wrong choice file c.loop-slot.slots.items k c.in-Err-next_slot.stop r is
    (omega (arith, c.loop-slot-test.true, c.slot_count-count.ensures.most)) (inv.here tells)
    (subst (λ (o : List ℕ).
    SlotAnswers (Err c.in-Err-next_slot.stop) choice k (slot_in choice.format choice.base choice.size choice.block k o))
    (sym bytes) (c.in-Err-next_slot.ensures.found tells))

pub returns-in-Err-next_slot-clause-keeps : goal.returns-in-Err-next_slot-clause-keeps
returns-in-Err-next_slot-clause-keeps g c tells =
    keeps_then (c.loop-slot.invariant.keeps tells) (c.next_slot.ensures.keeps tells)

pub returns-in-Err-push_slot-clause-keeps : goal.returns-in-Err-push_slot-clause-keeps
returns-in-Err-push_slot-clause-keeps g c tells =
    keeps_then (c.loop-slot.invariant.keeps tells) (c.next_slot.ensures.keeps tells)

pub loop-slot-preserved : goal.loop-slot-preserved
loop-slot-preserved g c =
    let choice = c.args.control.now in
    let file = (g.D.Disk.view c.args.disk.now).seen choice.log in
    let inv = c.loop-slot.invariant in
    let k = c.loop-slot.slot in
    let slots = c.loop-slot.slots.items in
    let found = c.in-Ok-next_slot.found in
    let left = left_of c.loop-slot.reader (g.D.Disk.view c.loop-slot.disk).seen in
    let is = c.in-Ok-push_slot.ensures in
    record {
      long = ap (λ (l : List (Option Logged)). length l) is ∙ length_push slots found ∙ ap (λ (n : ℕ). n + 1) inv.long;
      read = read_more choice slots _ found k is inv.long inv.read c.in-Ok-next_slot.ensures.read;
      here = λ tells. has_more choice file slots _ found k is inv.long (inv.here tells)
          (ap (slot_in choice.format choice.base choice.size choice.block k)
          (next_bytes choice.block k file left (inv.left tells)) ∙ c.in-Ok-next_slot.ensures.found tells);
      left = λ tells. left_behind choice.block k file left _ (inv.left tells) (c.in-Ok-next_slot.ensures.left tells);
      over = λ tells. c.next_slot.ensures.over tells;
      keeps = λ tells. keeps_then (inv.keeps tells) (c.next_slot.ensures.keeps tells);
      same = cc (inv.same, c.next_slot.ensures.call.same);
      faults = omega (arith, inv.faults, c.next_slot.ensures.call.later);
    }

pub returns-clause-slots : goal.returns-clause-slots
returns-clause-slots g c tells k le =
    let choice = c.args.control.now in
    let file = (g.D.Disk.view c.args.disk.now).seen choice.log in
    let inv = c.loop-slot.invariant in
    let slots = c.loop-slot.slots.items in
    let whole = length file / choice.block in
    ⊎_elim
    (λ below. inv.here tells k below)
    (λ past. past_closed choice file k c.slot_count-count.ensures.some
    (subst (λ (n : ℕ). n / choice.block ≤ k) (c.in-Ok.ensures.value tells
    ∙ ap (λ (f : ℕ). length ((g.D.Disk.view c.args.disk.now).seen f)) (ap (λ (ch : Choice). ch.log) c.control.view_is))
    (c.slot_count-count.ensures.past k (omega (arith, past, c.loop-slot-test.false)) le))
    ∙ ap Some (sym (past_none slots k (omega (arith, inv.long, past)))))
    (cases_lt k c.loop-slot.slot)
