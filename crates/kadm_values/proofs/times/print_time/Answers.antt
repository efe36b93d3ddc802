use Rattle.std.proofs.Common.{inr}
use Rattle.kadm_values.specs.Times.{SpellsTime}
use Rattle.kadm_values.proofs.CalendarLemmas.{spells-civil_text_at}
use Rattle.kadm_values.proofs.TimeLemmas.{only_text}
use Rattle.kadm_values.proofs.times.print_time.Goals as goal

pub returns-clause-only : goal.returns-clause-only
returns-clause-only c =
    λ text s. only_text c.civil_at.result c.args.secs _ text c.civil_at.ensures c.print_civil.ensures s

pub returns-clause-time : goal.returns-clause-time
unfolding SpellsTime
returns-clause-time c =
    inr (inr (record { time = c.civil_at.result; at = c.civil_at.ensures; text_is = c.print_civil.ensures }))

pub returns-clause-value : goal.returns-clause-value
returns-clause-value c =
    spells-civil_text_at _ c.args.secs
    (record { time = c.civil_at.result; at = c.civil_at.ensures; text_is = c.print_civil.ensures })
