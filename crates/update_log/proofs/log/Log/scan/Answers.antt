use Rattle.std.proofs.Common.{◌≡◌, true, List, ap, sym, subst, ◌∙◌, arith}
use Rattle.std.specs.List.{All}
use Rattle.princ_rows.specs.declared.entries.Logged.{Logged}
use Rattle.update_log.specs.Logs.{Journal, log_of}
use Rattle.update_log.specs.Runs.{stands_in}
use Rattle.update_log.proofs.ReadSlots.{scans_held, scans_refused, has_scanned}
use Rattle.update_log.proofs.log.Log.scan.Goals as goal

pub returns-in-Ok-hold-clause-answer : goal.returns-in-Ok-hold-clause-answer
returns-in-Ok-hold-clause-answer g c tells =
    let choice = c.args.control.now in
    scans_held choice _ c.in-Ok.slots.items c.in-Ok-hold.held.items c.log_under.result
    (c.in-Ok.ensures.slots tells) c.in-Ok-hold.ensures.held c.log_under.ensures

pub returns-in-Ok-hold-clause-log : goal.returns-in-Ok-hold-clause-log
returns-in-Ok-hold-clause-log g c tells durable =
    let choice = c.args.control.now in
    has_scanned choice (g.D.Disk.view c.args.disk.now) (g.D.Disk.view c.read_slots.new.disk) c.in-Ok.slots.items
    c.in-Ok-hold.held.items c.log_under.result (omega (arith, c.holds_ranges.ensures.size.0))
    (c.in-Ok.ensures.slots tells) c.in-Ok-hold.ensures.held c.log_under.ensures durable
    (c.read_slots.ensures.keeps tells)

pub returns-in-Err-hold-clause-answer : goal.returns-in-Err-hold-clause-answer
returns-in-Err-hold-clause-answer g c tells =
    scans_refused c.args.control.now _ c.in-Ok.slots.items c.in-Err-hold.stop (c.in-Ok.ensures.slots tells)
    (λ r same. c.in-Err-hold.ensures.refused r cc)

pub returns-in-Ok-hold-clause-chosen : goal.returns-in-Ok-hold-clause-chosen
returns-in-Ok-hold-clause-chosen g c =
    let choice = c.args.control.now in
    let log : List Logged → Journal = log_of choice.log choice.base choice.size choice.block in
    c.log_under.ensures ∙ ap log (sym (ap (λ (j : Journal). j.held) c.log_under.ensures))

pub returns-in-Ok-hold-clause-stands : goal.returns-in-Ok-hold-clause-stands
returns-in-Ok-hold-clause-stands g c =
    let choice = c.args.control.now in
    subst (λ (j : Journal). All (λ (l : Logged). stands_in choice.format l ≡ true) j.held)
    (sym c.log_under.ensures) c.in-Ok-hold.ensures.stands
