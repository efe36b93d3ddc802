use Rattle.std.proofs.Common.{sym, ap, ◌∙◌}
use Rattle.kprop_rounds.proofs.Ends.{ok_none}
use Rattle.kprop_rounds.proofs.Judgements.{is_resync, made_none, untaken}
use Rattle.replica_core.specs.Opened.{place_of}
use Rattle.replica_core.specs.Taking.{judgement_of, told_reply}
use Rattle.replica_steps.specs.Replicas.{place_after}
use Rattle.kprop_rounds.proofs.rounds.take.Goals as goal

pub returns-in-Ok-clause-untouched : goal.returns-in-Ok-clause-untouched
returns-in-Ok-clause-untouched g c e =
    c.take_reply.ensures.untouched
    (untaken c.args.replica.now.size (place_of c.args.replica.now) (told_reply c.args.reply)
    (c.in-Ok.ensures.answer
    ∙ is_resync (judgement_of c.in-Ok.taken) (sym c.word_of.ensures ∙ ok_none c.word_of.result e)))

pub returns-in-Ok-clause-same : goal.returns-in-Ok-clause-same
returns-in-Ok-clause-same g c e =
    c.in-Ok.ensures.place
    ∙ ap (place_after (place_of c.args.replica.now))
    (made_none c.args.replica.now.size (place_of c.args.replica.now) (told_reply c.args.reply)
    (c.in-Ok.ensures.answer
    ∙ is_resync (judgement_of c.in-Ok.taken) (sym c.word_of.ensures ∙ ok_none c.word_of.result e)))
