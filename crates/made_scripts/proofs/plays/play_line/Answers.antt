use Rattle.std.proofs.Common.{◌∙◌, List, ℕ, ap, subst}
use Rattle.std.specs.Prelude.{IfOk}
use Rattle.kdb_histories.specs.Seen.{seen}
use Rattle.kadm_session.specs.declared.intake.Asked.{Asked}
use Rattle.kadm_session.specs.Opened.{place_of}
use Rattle.session_base.specs.Draws.{told_draws}
use Rattle.made_scripts.specs.Plays.{IsAnswered, asked_line}
use Rattle.made_scripts.proofs.plays.play_line.Goals as goal

pub returns-clause-answered : goal.returns-clause-answered
returns-clause-answered g c = λ s draws has told.
    subst (λ (a : Asked). IfOk c.answer_alone.result
    (λ refused. IsAnswered a draws (seen (place_of c.args.primary.now) s) refused c.answer_alone.new.primary
    (told_draws (g.C.Clock.moments c.answer_alone.new.clock) (g.E.Entropy.stream c.answer_alone.new.entropy))))
    (c.in_ok-asked.ensures.value
    ∙ ap (λ (realm : List ℕ). asked_line realm c.args.line.now) (c.as_slice.ensures.value ∙ c.realm.ensures))
    (c.answer_alone.ensures.answered s draws has told)
