use Rattle.std.proofs.Common.{◌≡◌, ℕ, ◌+◌, ◌-◌, ◌∙◌, Some, refl, sym, ap, arith, length}
use Rattle.std.specs.Prelude.{option_map}
use Rattle.kdb_control.specs.Choice.{Choice}
use Rattle.update_log.specs.Runs.{back, before}
use Rattle.update_log.specs.Scanning.{read_at}
use Rattle.update_log.proofs.ReadSlots.{back_more, back_end, back_over}
use Rattle.update_log.proofs.running.run_len.Goals as goal

pub loop-init : goal.loop-init
loop-init c =
    let choice = c.args.control.now in
    let at = read_at c.args.slots.now in
    let last = c.args.last.now in
    let first = back_more choice.base choice.size at (choice.size + 1) last (Some last) refl (omega arith) in
    let same : choice.size + 1 - 1 ≡ choice.size - 0 = omega arith in
    let n = ap (λ (k : ℕ). length (back choice.base choice.size at k (before choice.base choice.size at last))) same in
    record { so_far = refl; rest = omega (arith, first, n) }

pub returns-in-None-clause-value : goal.returns-in-None-clause-value
returns-in-None-clause-value c =
    let choice = c.args.control.now in
    let at = read_at c.args.slots.now in
    let none = sym c.before-in-loop.ensures ∙ ap (option_map (λ l. l.now)) c.in-None.is in
    let rest = back_end choice.base choice.size at (choice.size - c.loop.counter) _ none in
    omega (arith, c.loop.invariant.rest, rest)

pub overflow_add-len : goal.overflow_add-len
overflow_add-len c = omega (
  arith,
  c.loop.invariant.so_far,
  c.loop-test.true,
  c.holds_ranges.ensures.size.1,
  ap (λ (ch : Choice). ch.size) c.control.view_is,
)

pub loop-preserved : goal.loop-preserved
loop-preserved c =
    let choice = c.args.control.now in
    let at = read_at c.args.slots.now in
    let logged = c.in-Some.logged.now in
    let is = sym c.before-in-loop.ensures ∙ ap (option_map (λ l. l.now)) c.in-Some.is in
    let one = back_more choice.base choice.size at (choice.size - c.loop.counter) logged _ is
    (omega (arith, c.loop-test.true, ap (λ (ch : Choice). ch.size) c.control.view_is)) in
    let same : choice.size - c.loop.counter - 1 ≡ choice.size - (c.loop.counter + 1) = omega arith in
    let n =
    ap (λ (k : ℕ). length (back choice.base choice.size at k (before choice.base choice.size at logged))) same in
    record { so_far = omega (arith, c.loop.invariant.so_far); rest = omega (arith, c.loop.invariant.rest, one, n) }

pub returns-clause-value : goal.returns-clause-value
returns-clause-value c =
    let choice = c.args.control.now in
    let at = read_at c.args.slots.now in
    let rest = back_over choice.base choice.size at (choice.size - c.loop.counter) (before choice.base choice.size at
    c.loop.next.now) (omega (arith, c.loop-test.false, ap (λ (ch : Choice). ch.size) c.control.view_is)) in
    omega (arith, c.loop.invariant.rest, rest)
