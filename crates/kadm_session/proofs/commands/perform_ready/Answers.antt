use Rattle.std.proofs.Common.{refl}
use Rattle.kdb_histories.specs.Seen.{seen}
use Rattle.primary_core.specs.Opened.{place_of}
use Rattle.session_base.specs.Draws.{told_draws}
use Rattle.kadm_session.specs.declared.intake.Asked.TheVariants.{Does}
use Rattle.kadm_session.proofs.Leaving.{safe_still}
use Rattle.kadm_session.proofs.Making.{bytes_seen, decides_drawn, safe_done}
use Rattle.kadm_session.proofs.commands.perform_ready.Goals as goal

pub returns-in-Ok-clause-decided : goal.returns-in-Ok-clause-decided
returns-in-Ok-clause-decided g c = λ s has.
    decides_drawn c.perform_at.result c.args.ready.now.command
    (g.C.Clock.moments c.args.clock.now) (g.C.Clock.moments c.now-now.new.self) (g.E.Entropy.stream c.args.entropy.now)
    (g.E.Entropy.stream c.draw.new.entropy)
    c.now-now.result c.as_slice.result.now (place_of c.args.primary.now) s c.perform_at.new.primary
    c.holds_moment.ensures c.now-now.ensures.first c.now-now.ensures.others
    (bytes_seen (g.E.Entropy.stream c.args.entropy.now) c.in-Ok.random.items c.as_slice.result.now 2048
    c.as_slice.ensures.value c.in-Ok.ensures.value) c.in-Ok.ensures.rest
    (c.perform_at.ensures.performs s has) (c.perform_at.ensures.stands s has)

pub returns-in-Ok-clause-safe : goal.returns-in-Ok-clause-safe
returns-in-Ok-clause-safe g c = λ s has.
    safe_done g.D.Disk c.args.disk.now c.perform_at.new.disk c.args.ready.now.command
    (g.C.Clock.moments c.args.clock.now) (g.E.Entropy.stream c.args.entropy.now)
    c.now-now.result c.as_slice.result.now (place_of c.args.primary.now) s
    c.holds_moment.ensures c.now-now.ensures.first
    (bytes_seen (g.E.Entropy.stream c.args.entropy.now) c.in-Ok.random.items c.as_slice.result.now 2048
    c.as_slice.ensures.value c.in-Ok.ensures.value)
    (c.perform_at.ensures.crash s has)

pub returns-in-Err-clause-safe : goal.returns-in-Err-clause-safe
returns-in-Err-clause-safe g c = λ s has.
    safe_still g.D.Disk c.args.disk.now c.args.disk.now (Does c.args.ready.now.command)
    (told_draws (g.C.Clock.moments c.args.clock.now) (g.E.Entropy.stream c.args.entropy.now))
    (seen (place_of c.args.primary.now) s) refl
    (λ told. c.what_is_kept_is_recovered.ensures c.args.primary.now.kept (c.requires.on told))
