use Rattle.std.proofs.Common.{true, Option, ap}
use Rattle.std.specs.Prelude.{Ok, Err}
use Rattle.kadm_keytabs.specs.declared.answers.Answer.{Answer}
use Rattle.kadm_top.proofs.KeytabRuns.{added_name, answer_named, by_name}
use Rattle.kadm_top.proofs.KeytabRuns.{refusal_addition, refusal_cut, refusal_written}
use Rattle.kadm_top.proofs.keytabs.add_named.Goals as goal
use Rattle.kadm_top.specs.Run.{HasWritten}
use Rattle.kdb_base.specs.declared.outcomes.Refusal.TheVariants.{BadName}

pub returns-in-Ok-clause-written : goal.returns-in-Ok-clause-written
returns-in-Ok-clause-written g c = λ s reads what has is.
    added_name c.args.name.now s c.args.moment (g.S.Source.left c.args.source.now) reads what _ is c.in-Ok.name
    c.in-Ok.is (λ told. c.write_added.ensures.written s what has told)

pub returns-in-Ok-clause-addition : goal.returns-in-Ok-clause-addition
returns-in-Ok-clause-addition g c =
    λ s has. answer_named c.args.name.now s c.args.moment (g.S.Source.left c.args.source.now) c.in-Ok.name c.in-Ok.is
    c.write_added.result (c.write_added.ensures.answer s has)

pub returns-in-Ok-refuse-clause-written : goal.returns-in-Ok-refuse-clause-written
returns-in-Ok-refuse-clause-written g c = λ s reads what has is.
    by_name c.args.name.now s c.args.moment (g.S.Source.left c.args.source.now) reads what
    (λ (w : Option Answer). HasWritten w (g.K.Sink.taken c.args.sink.now) (g.K.Sink.taken c.refuse.new.sink) (Ok true))
    is c.in-Err.offset c.in-Err.is
    (refusal_written (BadName c.in-Err.offset) (g.K.Sink.taken c.args.sink.now) _ c.in-Ok-refuse.ensures.ok)

pub returns-in-Err-refuse-clause-written : goal.returns-in-Err-refuse-clause-written
returns-in-Err-refuse-clause-written g c = λ s reads what has is.
    by_name c.args.name.now s c.args.moment (g.S.Source.left c.args.source.now) reads what
    (λ (w : Option Answer). HasWritten w (g.K.Sink.taken c.args.sink.now) (g.K.Sink.taken c.refuse.new.sink)
    (Err c.in-Err-refuse.halt)) is c.in-Err.offset c.in-Err.is
    (refusal_cut (BadName c.in-Err.offset) (g.K.Sink.taken c.args.sink.now) _ _ c.in-Err-refuse.ensures.err
    (λ spares. ap g.K.Sink.taken (c.in-Err-refuse.ensures.rests spares)))

pub returns-in-Ok-refuse-clause-addition : goal.returns-in-Ok-refuse-clause-addition
returns-in-Ok-refuse-clause-addition g c = λ s has.
    refusal_addition c.args.name.now s c.args.moment (g.S.Source.left c.args.source.now) c.in-Err.offset c.in-Err.is
