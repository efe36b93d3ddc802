use Rattle.std.proofs.Common.{◌≡◌, ◌∙◌, ap, inl, length, refl}
use Rattle.kdb_histories.specs.Seen.{seen}
use Rattle.primary_core.specs.Opened.{place_of}
use Rattle.session_base.specs.Draws.{told_draws}
use Rattle.kadm_keytabs.specs.Renewals.{wanted}
use Rattle.kadm_keytabs.proofs.Carried.{bytes_seen}
use Rattle.kadm_keytabs.proofs.Renewed.{asked_drawn, command_done, made_drawn, safe_done, safe_still}
use Rattle.kadm_keytabs.proofs.renewing.renew_list.Goals as goal

pub returns-in-Ok-clause-made : goal.returns-in-Ok-clause-made
returns-in-Ok-clause-made g c = λ s draws has told.
    made_drawn c.renew_at.result (wanted c.args.client.now c.args.name.now c.args.etypes.now)
    (g.C.Clock.moments c.args.clock.now) (g.C.Clock.moments c.now-now.new.self) (g.E.Entropy.stream c.args.entropy.now)
    (g.E.Entropy.stream c.draw.new.entropy)
    c.now-now.result c.as_slice.result.now (seen (place_of c.args.primary.now) s) c.args.list
    c.renew_at.new.primary draws
    c.now-now.ensures.first c.now-now.ensures.others
    (bytes_seen (g.E.Entropy.stream c.args.entropy.now) c.in-Ok.random.items c.as_slice.result.now 2048
    c.as_slice.ensures.value c.in-Ok.ensures.value) c.in-Ok.ensures.rest
    (c.renew_at.ensures.answer s has) (c.renew_at.ensures.stands s has) told

pub returns-in-Ok-clause-safe : goal.returns-in-Ok-clause-safe
returns-in-Ok-clause-safe g c = λ s has.
    safe_done g.D.Disk c.args.disk.now c.renew_at.new.disk (wanted c.args.client.now c.args.name.now c.args.etypes.now)
    (g.C.Clock.moments c.args.clock.now) (g.E.Entropy.stream c.args.entropy.now)
    c.now-now.result c.as_slice.result.now (seen (place_of c.args.primary.now) s)
    c.now-now.ensures.first
    (bytes_seen (g.E.Entropy.stream c.args.entropy.now) c.in-Ok.random.items c.as_slice.result.now 2048
    c.as_slice.ensures.value c.in-Ok.ensures.value)
    (c.renew_at.ensures.crash s has)
    (command_done g.D.Disk c.args.disk.now c.renew_at.new.disk
    (wanted c.args.client.now c.args.name.now c.args.etypes.now) c.now-now.result c.as_slice.result.now
    (seen (place_of c.args.primary.now) s)
    c.holds_moment.ensures (ap length c.as_slice.ensures.value ∙ c.in-Ok.ensures.length)
    (λ told. c.what_is_kept_is_recovered.ensures c.args.primary.now.kept (c.requires.on told))
    (c.renew_at.ensures.crash s has) (c.renew_at.ensures.done s has))

pub returns-in-Err-clause-safe : goal.returns-in-Err-clause-safe
returns-in-Err-clause-safe g c = λ s has.
    safe_still g.D.Disk c.args.disk.now c.args.disk.now (wanted c.args.client.now c.args.name.now c.args.etypes.now)
    (told_draws (g.C.Clock.moments c.args.clock.now) (g.E.Entropy.stream c.args.entropy.now))
    (seen (place_of c.args.primary.now) s) refl
    (λ told. c.what_is_kept_is_recovered.ensures c.args.primary.now.kept (c.requires.on told))

pub returns-in-Ok-clause-done : goal.returns-in-Ok-clause-done
returns-in-Ok-clause-done g c = λ s draws has told.
    asked_drawn (c.renew_at.new.disk ≡ c.args.disk.now) (wanted c.args.client.now c.args.name.now c.args.etypes.now)
    (g.C.Clock.moments c.args.clock.now) (g.E.Entropy.stream c.args.entropy.now)
    c.now-now.result c.as_slice.result.now (seen (place_of c.args.primary.now) s) draws
    c.now-now.ensures.first
    (bytes_seen (g.E.Entropy.stream c.args.entropy.now) c.in-Ok.random.items c.as_slice.result.now 2048
    c.as_slice.ensures.value c.in-Ok.ensures.value)
    told (c.renew_at.ensures.done s has)

pub returns-in-Err-clause-done : goal.returns-in-Err-clause-done
returns-in-Err-clause-done g c = λ s draws has told. inl refl
