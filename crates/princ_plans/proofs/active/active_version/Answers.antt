use Rattle.std.proofs.Common.{option_map, sym, ap, ◌∙◌}
use Rattle.command_plans.proofs.RenamedFits.{row_fits}
use Rattle.princ_plans.proofs.active.active_version.Goals as goal

pub returns-in-Some-clause-known : goal.returns-in-Some-clause-known
returns-in-Some-clause-known c =
    c.active_of.ensures.known
    (row_fits c.as_slice.result.now c.args.given.now.rows.now c.in-Some.entry.now c.found.ensures.rows
    (sym c.found.ensures.found ∙ ap (option_map (λ p. p.now)) c.in-Some.is))
