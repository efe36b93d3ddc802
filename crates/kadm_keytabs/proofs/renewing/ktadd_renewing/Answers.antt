use Rattle.std.proofs.Common.{inl, refl}
use Rattle.kdb_histories.specs.Seen.{seen}
use Rattle.primary_core.specs.Opened.{place_of}
use Rattle.session_base.specs.Draws.{told_draws}
use Rattle.kadm_keytabs.specs.Renewals.{wanted}
use Rattle.kadm_keytabs.proofs.Renewed.{ends_so, leaves_safe, leaves_still, stops_safe, stops_still, stops_written_so}
use Rattle.kadm_keytabs.proofs.renewing.ktadd_renewing.Goals as goal

pub returns-in-Err-clause-stopped : goal.returns-in-Err-clause-stopped
returns-in-Err-clause-stopped g c = λ tells s has.
    stops_still (wanted c.args.client.now c.args.name.now c.args.etypes.now) (g.K.Sink.taken c.args.sink.now)
    (g.S.Source.left c.args.source.now) (told_draws (g.C.Clock.moments c.args.clock.now)
    (g.E.Entropy.stream c.args.entropy.now)) (seen (place_of c.args.primary.now) s) _
    (c.what_is_kept_is_recovered.ensures c.args.primary.now.kept (c.requires.on tells))

pub returns-in-Err-clause-moments : goal.returns-in-Err-clause-moments
returns-in-Err-clause-moments g c = λ tells s has.
    leaves_still (wanted c.args.client.now c.args.name.now c.args.etypes.now) (g.S.Source.left c.args.source.now)
    (told_draws (g.C.Clock.moments c.args.clock.now) (g.E.Entropy.stream c.args.entropy.now))
    (seen (place_of c.args.primary.now) s) _
    (c.what_is_kept_is_recovered.ensures c.args.primary.now.kept (c.requires.on tells))

pub returns-clause-stopped : goal.returns-clause-stopped
returns-clause-stopped g c = λ tells s has.
    stops_safe g.D.Disk c.args.disk.now c.renew_input.new.disk
    (wanted c.args.client.now c.args.name.now c.args.etypes.now)
    (g.K.Sink.taken c.args.sink.now) (g.S.Source.left c.args.source.now)
    (told_draws (g.C.Clock.moments c.args.clock.now) (g.E.Entropy.stream c.args.entropy.now))
    (seen (place_of c.args.primary.now) s) c.in-Ok.kept c.as_slice-kept.result.now
    c.in-Ok.ensures.kept c.as_slice-kept.ensures (c.renew_input.ensures.safe s has) tells

pub returns-clause-moments : goal.returns-clause-moments
returns-clause-moments g c = λ tells s has.
    leaves_safe g.D.Disk c.args.disk.now c.renew_input.new.disk
    (wanted c.args.client.now c.args.name.now c.args.etypes.now) (g.S.Source.left c.args.source.now)
    (told_draws (g.C.Clock.moments c.args.clock.now) (g.E.Entropy.stream c.args.entropy.now))
    (seen (place_of c.args.primary.now) s) c.in-Ok.kept c.as_slice-kept.result.now
    c.in-Ok.ensures.kept c.as_slice-kept.ensures (c.renew_input.ensures.safe s has) tells

pub returns-in-Ok-renew_input-clause-ended : goal.returns-in-Ok-renew_input-clause-ended
returns-in-Ok-renew_input-clause-ended g c = λ s text draws has is told.
    ends_so c.write_answer.result (wanted c.args.client.now c.args.name.now c.args.etypes.now) draws
    (seen (place_of c.args.primary.now) s) (g.S.Source.left c.args.source.now) text c.in-Ok.kept
    c.as_slice-kept.result.now c.in-Ok-renew_input.answer c.renew_input.new.primary _ _ _
    is c.in-Ok.ensures.kept c.as_slice-kept.ensures (c.in-Ok-renew_input.ensures.renewed s draws has told)
    c.write_answer.ensures.told c.write_answer.ensures.ok

pub returns-in-Ok-renew_input-clause-stopped : goal.returns-in-Ok-renew_input-clause-stopped
returns-in-Ok-renew_input-clause-stopped g c = λ tells s has.
    stops_written_so c.write_answer.result (wanted c.args.client.now c.args.name.now c.args.etypes.now)
    (g.K.Sink.taken c.args.sink.now) _ (g.S.Source.left c.args.source.now)
    (told_draws (g.C.Clock.moments c.args.clock.now) (g.E.Entropy.stream c.args.entropy.now))
    (seen (place_of c.args.primary.now) s) c.in-Ok.kept c.as_slice-kept.result.now c.in-Ok-renew_input.answer
    c.renew_input.new.primary _ _
    c.in-Ok.ensures.kept c.as_slice-kept.ensures (λ draws told. c.in-Ok-renew_input.ensures.renewed s draws has told)
    c.write_answer.ensures.err
    (c.what_is_kept_is_recovered-in-Ok-renew_input.ensures _ (c.in-Ok-renew_input.ensures.on tells))

pub returns-in-Ok-renew_input-clause-moments : goal.returns-in-Ok-renew_input-clause-moments
returns-in-Ok-renew_input-clause-moments g c = λ tells s has.
    leaves_safe g.D.Disk c.args.disk.now c.renew_input.new.disk
    (wanted c.args.client.now c.args.name.now c.args.etypes.now) (g.S.Source.left c.args.source.now)
    (told_draws (g.C.Clock.moments c.args.clock.now) (g.E.Entropy.stream c.args.entropy.now))
    (seen (place_of c.args.primary.now) s) c.in-Ok.kept c.as_slice-kept.result.now
    c.in-Ok.ensures.kept c.as_slice-kept.ensures (c.renew_input.ensures.safe s has) tells

pub returns-in-Err-clause-done : goal.returns-in-Err-clause-done
returns-in-Err-clause-done g c = λ s draws has told. inl refl
