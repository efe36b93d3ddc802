use Rattle.std.specs.Prelude.{◌≡◌, Some}
use Rattle.std.proofs.Common.{sym, subst}
use Rattle.kadm_plan.proofs.Lines.{no_master_line}
use Rattle.kadm_plan.proofs.laws.changes_show_the_next_state.Goals as goal
use Rattle.kdb_model.specs.Steps.{step}
use Rattle.kdb_plain.specs.Changes.{effect_on}
use Rattle.kdb_plain.specs.declared.states.State.{State}
use Rattle.princ_rows.specs.Effects.{effect}
use Rattle.row_keys.proofs.Effects.{shows_at}
use Rattle.row_keys.specs.Shows.{Shows}

pub returns : goal.returns
returns c = λ rows s call op planned shows is.
    let spared = c.changed_rows_show.ensures.ordinary s is.plain (c.changes_spare_the_own_keys.ensures s call is.plain
    is.accepted is.entry_is (no_master_line call.command planned)) in
    let shown = c.changed_rows_show.ensures.shows rows s shows.history op is.plain shows shows.history_is
    (is.shown shows.history shows.history_is) spared in
    subst (λ (t : State). Shows (effect (Some op) rows) t)
    (sym (c.accepted_change_takes_effect.ensures.state s call is.plain is.accepted is.entry_is))
    (shows_at (effect (Some op) rows) (step s call).state.point (effect_on is.plain s) shown)
