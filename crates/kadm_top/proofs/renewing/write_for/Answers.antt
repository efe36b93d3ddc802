use Rattle.std.proofs.Common.{◌≡◌}
use Rattle.std.proofs.lemmas.Result.{on_ok_weaker}
use Rattle.kadm_keytabs.specs.Renewals.{IsAsked, ask_for, wanted}
use Rattle.kadm_top.proofs.RenewalRuns.{Says, are_etypes, has_renewal, renewed, rests_same}
use Rattle.kadm_top.proofs.RenewalRuns.{stopped_told, moments_told, unread_disk, untouched_or}
use Rattle.kadm_top.proofs.renewing.write_for.Goals as goal
use Rattle.kdb_histories.specs.Seen.{seen}
use Rattle.primary_core.specs.Opened.{place_of}
use Rattle.session_base.specs.Draws.{block_in, moment_in, told_draws}

pub ktadd_renewing-answered-requires-clause-etypes : goal.ktadd_renewing-answered-requires-clause-etypes
ktadd_renewing-answered-requires-clause-etypes g c = are_etypes c.args.etypes.now c.requires.types

pub returns-clause-renewed : goal.returns-clause-renewed
returns-clause-renewed g c = λ tells s draws what has told is.
    let w = wanted c.args.client.now c.args.name.now c.args.etypes.now in
    let at = seen (place_of c.args.primary.now) s in
    let left = g.S.Source.left c.args.source.now in
    let taken = g.K.Sink.taken c.args.sink.now in
    let out = g.K.Sink.taken c.ktadd_renewing-answered.new.sink in
    let old = g.D.Disk.view c.args.disk.now in
    let now = g.D.Disk.view c.ktadd_renewing-answered.new.disk in
    let later = told_draws (g.C.Clock.moments c.ktadd_renewing-answered.new.clock)
    (g.E.Entropy.stream c.ktadd_renewing-answered.new.entropy) in
    let r = c.ktadd_renewing-answered.result in
    let says : Says w left draws at old now taken out c.ktadd_renewing-answered.new.primary later r = record {
      ended = λ text e. c.ktadd_renewing-answered.ensures.ended s text draws has e told;
      stopped = stopped_told w taken left
          (told_draws (g.C.Clock.moments c.args.clock.now) (g.E.Entropy.stream c.args.entropy.now)) draws at out now r
          told (c.ktadd_renewing-answered.ensures.stopped tells s has);
      moments =
          moments_told w left (told_draws (g.C.Clock.moments c.args.clock.now) (g.E.Entropy.stream c.args.entropy.now))
          draws at old now told (c.ktadd_renewing-answered.ensures.moments tells s has);
      rests = rests_same g.D.Disk.view g.K.Sink.taken c.args.disk.now c.ktadd_renewing-answered.new.disk c.args.sink.now
          c.ktadd_renewing-answered.new.sink at.place r (c.requires.stands tells)
          c.ktadd_renewing-answered.ensures.unwritten (λ e. (c.ktadd_renewing-answered.ensures.memory e).0)
          (λ e. (c.ktadd_renewing-answered.ensures.drawn e).0)
          (unread_disk r (c.ktadd_renewing-answered.new.disk ≡ c.args.disk.now) (c.ktadd_renewing-answered.new.primary
          ≡ c.args.primary.now) (c.ktadd_renewing-answered.new.clock ≡ c.args.clock.now)
          (c.ktadd_renewing-answered.new.entropy ≡ c.args.entropy.now) c.ktadd_renewing-answered.ensures.unread);
      stands = on_ok_weaker r (λ on. c.what_is_kept_is_recovered.ensures c.ktadd_renewing-answered.new.primary.kept on)
          (c.ktadd_renewing-answered.ensures.on tells);
      done = untouched_or g.D.Disk.view c.args.disk.now c.ktadd_renewing-answered.new.disk at.place
          (IsAsked (ask_for w (moment_in draws) (block_in draws)) at) (c.requires.stands tells)
          (c.ktadd_renewing-answered.ensures.done s draws has told);
    } in
    renewed w left draws at old now taken out c.ktadd_renewing-answered.new.primary later r what says is

pub returns-clause-renewal : goal.returns-clause-renewal
returns-clause-renewal g c = λ s draws has told.
    has_renewal (wanted c.args.client.now c.args.name.now c.args.etypes.now) (g.S.Source.left c.args.source.now) draws
    (seen (place_of c.args.primary.now) s)
    (g.K.Sink.taken c.args.sink.now) (g.K.Sink.taken c.ktadd_renewing-answered.new.sink)
    c.ktadd_renewing-answered.new.primary
    (told_draws (g.C.Clock.moments c.ktadd_renewing-answered.new.clock)
    (g.E.Entropy.stream c.ktadd_renewing-answered.new.entropy)) c.ktadd_renewing-answered.result
    (λ text e. c.ktadd_renewing-answered.ensures.ended s text draws has e told)
