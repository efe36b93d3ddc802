use Rattle.std.proofs.Common.{true, ap}
use Rattle.std.specs.Prelude.{Ok, Err}
use Rattle.kadm_top.proofs.RenewalRuns.{has_named, has_refused, refusal_renewed}
use Rattle.kadm_top.proofs.RenewalRuns.{refusal_renewed_cut, renewal_named, renewal_refused}
use Rattle.kadm_top.proofs.renewing.renew_named.Goals as goal
use Rattle.kadm_top.specs.Openings.{Renewing}
use Rattle.kadm_top.specs.Run.{HasRenewed}
use Rattle.kdb_base.specs.declared.outcomes.Refusal.TheVariants.{BadName}
use Rattle.kdb_histories.specs.Seen.{seen}
use Rattle.primary_core.specs.Opened.{place_of}
use Rattle.session_base.specs.Draws.{told_draws}

pub returns-in-Ok-clause-renewed : goal.returns-in-Ok-clause-renewed
returns-in-Ok-clause-renewed g c = λ tells s draws reads what has told is.
    renewal_named c.args.name.now c.args.etypes.now (g.S.Source.left c.args.source.now) draws
    (seen (place_of c.args.primary.now) s) reads what _ is c.in-Ok.name c.in-Ok.is
    (λ comes. c.write_renewed.ensures.renewed tells s draws what has told comes)

pub returns-in-Ok-clause-renewal : goal.returns-in-Ok-clause-renewal
returns-in-Ok-clause-renewal g c = λ s draws has told.
    has_named c.args.name.now c.args.etypes.now (g.S.Source.left c.args.source.now) draws
    (seen (place_of c.args.primary.now) s) c.in-Ok.name c.in-Ok.is c.write_renewed.result
    (c.write_renewed.ensures.renewal s draws has told)

pub returns-in-Ok-refuse-clause-renewed : goal.returns-in-Ok-refuse-clause-renewed
returns-in-Ok-refuse-clause-renewed g c = λ tells s draws reads what has told is.
    let at = seen (place_of c.args.primary.now) s in
    let view = g.D.Disk.view c.args.disk.now in
    let taken = g.K.Sink.taken c.args.sink.now in
    let later = told_draws (g.C.Clock.moments c.args.clock.now) (g.E.Entropy.stream c.args.entropy.now) in
    renewal_refused c.args.name.now c.args.etypes.now (g.S.Source.left c.args.source.now) draws at reads what
    (λ (w : Renewing). HasRenewed w at view view taken (g.K.Sink.taken c.refuse.new.sink) later (Ok true)) is
    c.in-Err.offset c.in-Err.is
    (refusal_renewed (BadName c.in-Err.offset) draws at view taken (g.K.Sink.taken c.refuse.new.sink) later
    (c.what_is_kept_is_recovered.ensures c.args.primary.now.kept (c.requires.on tells)) has.shows
    c.in-Ok-refuse.ensures.ok told)

pub returns-in-Err-refuse-clause-renewed : goal.returns-in-Err-refuse-clause-renewed
returns-in-Err-refuse-clause-renewed g c = λ tells s draws reads what has told is.
    let at = seen (place_of c.args.primary.now) s in
    let view = g.D.Disk.view c.args.disk.now in
    let taken = g.K.Sink.taken c.args.sink.now in
    let later = told_draws (g.C.Clock.moments c.args.clock.now) (g.E.Entropy.stream c.args.entropy.now) in
    renewal_refused c.args.name.now c.args.etypes.now (g.S.Source.left c.args.source.now) draws at reads what
    (λ (w : Renewing). HasRenewed w at view view taken (g.K.Sink.taken c.refuse.new.sink) later
    (Err c.in-Err-refuse.halt)) is c.in-Err.offset c.in-Err.is
    (refusal_renewed_cut (BadName c.in-Err.offset) draws at view taken
    (g.K.Sink.taken c.refuse.new.sink) later c.in-Err-refuse.halt
    (c.what_is_kept_is_recovered.ensures c.args.primary.now.kept (c.requires.on tells)) c.in-Err-refuse.ensures.err
    (λ spares. ap g.K.Sink.taken (c.in-Err-refuse.ensures.rests spares)))

pub returns-in-Ok-refuse-clause-renewal : goal.returns-in-Ok-refuse-clause-renewal
returns-in-Ok-refuse-clause-renewal g c = λ s draws has told.
    has_refused c.args.name.now c.args.etypes.now (g.S.Source.left c.args.source.now) draws
    (seen (place_of c.args.primary.now) s) c.in-Err.offset c.in-Err.is
