use Rattle.std.proofs.Common.{ap, ◌∙◌}
use Rattle.session_base.specs.Draws.{told_draws}
use Rattle.kadm_session.specs.Steps.{local_client}
use Rattle.kadm_top.proofs.RenewalRuns.{has_for, nothing_renewed, told_for}
use Rattle.kadm_top.proofs.renewing.write_renewed.Goals as goal
use Rattle.kdb_histories.specs.Seen.{seen}
use Rattle.primary_core.specs.Opened.{place_of}

pub returns-in-Ok-clause-renewed : goal.returns-in-Ok-clause-renewed
returns-in-Ok-clause-renewed g c = λ tells s draws what has told is.
    c.write_for.ensures.renewed tells s draws what has told
    (told_for c.in-Ok.client (local_client c.args.primary.now.kept.realm) c.args.name.now c.args.etypes.now
    (g.S.Source.left c.args.source.now) draws (seen (place_of c.args.primary.now) s) what
    (c.in-Ok.ensures ∙ ap local_client (c.as_slice.ensures.value ∙ c.realm.ensures)) is)

pub returns-in-Ok-clause-renewal : goal.returns-in-Ok-clause-renewal
returns-in-Ok-clause-renewal g c = λ s draws has told.
    has_for c.in-Ok.client (local_client c.args.primary.now.kept.realm) c.args.name.now c.args.etypes.now
    (g.S.Source.left c.args.source.now) draws (seen (place_of c.args.primary.now) s) c.write_for.result
    (c.in-Ok.ensures ∙ ap local_client (c.as_slice.ensures.value ∙ c.realm.ensures))
    (c.write_for.ensures.renewal s draws has told)

pub returns-in-Err-clause-renewed : goal.returns-in-Err-clause-renewed
returns-in-Err-clause-renewed g c = λ tells s draws what has told is.
    nothing_renewed what (seen (place_of c.args.primary.now) s)
    (g.D.Disk.view c.args.disk.now) (g.K.Sink.taken c.args.sink.now)
    (told_draws (g.C.Clock.moments c.args.clock.now) (g.E.Entropy.stream c.args.entropy.now))
    (c.what_is_kept_is_recovered.ensures c.args.primary.now.kept (c.requires.on tells))
