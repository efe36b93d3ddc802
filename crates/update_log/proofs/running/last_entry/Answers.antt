use Rattle.std.proofs.Common.{◌≡◌, ℕ, suc, ◌+◌, ◌-◌, ◌∙◌, refl, sym, ap, arith, Option}
use Rattle.std.specs.Prelude.{option_map}
use Rattle.princ_rows.specs.declared.entries.Logged.{Logged}
use Rattle.update_log.specs.Runs.{last_upto, later}
use Rattle.update_log.specs.Scanning.{read_at}
use Rattle.update_log.proofs.ReadSlots.{last_past}
use Rattle.update_log.proofs.running.last_entry.Goals as goal

pub loop-slot-init : goal.loop-slot-init
unfolding last_upto
loop-slot-init c = refl

-- the last of one slot more
one_more : (at : ℕ → Option Logged) (n : ℕ) → last_upto at (n + 1) ≡ later (last_upto at n) (at n)
unfolding last_upto
one_more at n = let on : n + 1 ≡ suc n = omega arith in ap (last_upto at) on

pub loop-slot-preserved : goal.loop-slot-preserved
loop-slot-preserved c =
    let at = read_at c.args.slots.now in
    c.later-last.ensures
    ∙ ap (λ (o : Option Logged). later o (option_map (λ l. l.now) c.read_at.result)) c.loop-slot.invariant
    ∙ ap (later (last_upto at c.loop-slot.slot)) c.read_at.ensures
    ∙ sym (one_more at c.loop-slot.slot)

pub returns : goal.returns
returns c =
    let slots = c.args.slots.now in
    let size = c.args.control.now.size in
    c.loop-slot.invariant ∙ sym (last_past slots c.loop-slot.slot ((size + 1) - c.loop-slot.slot) (size + 1)
    (omega (arith, c.loop-slot-test.false)) (omega (arith, c.requires, c.loop-slot.auto)))
