use Rattle.std.proofs.Common.{Ok, ap, sym, ◌∙◌}
use Rattle.row_keys.proofs.Judgements.{history_closed, history_opened}
use Rattle.row_keys.proofs.sound.history_of.Goals as goal

pub returns-in-Some-2 : goal.returns-in-Some-2
returns-in-Some-2 c =
    history_opened c.args.ring.now c.args.realm.now c.args.rows.now.princs c.as_slice.result.now c.in-Some.entry.now
    c.in-Some-2.key c.new.result
    (c.as_slice.ensures ∙ c.in_ok-name.ensures) (sym c.in-Some.ensures) c.new.ensures
    (c.in_ok-key.ensures.some c.in-Some-2.key (ap Ok c.in-Some-2.is))
    (λ other h. sym c.in-Some-2.is ∙ c.in_ok-key.ensures.only other h)

pub returns : goal.returns
returns c =
    history_closed c.args.ring.now c.args.realm.now c.args.rows.now.princs c.as_slice.result.now c.in-Some.entry.now
    (c.as_slice.ensures ∙ c.in_ok-name.ensures) (sym c.in-Some.ensures)
    (λ other h. sym c.in-None.is ∙ c.in_ok-key.ensures.only other h)
