use Rattle.std.proofs.Common.{refl}
use Rattle.kdb_histories.specs.Seen.{seen}
use Rattle.primary_core.specs.Opened.{place_of}
use Rattle.session_base.specs.Draws.{told_draws}
use Rattle.kadm_session.specs.declared.intake.Asked.TheVariants.{ResetsLog}
use Rattle.kadm_session.proofs.Leaving.{safe_still}
use Rattle.kadm_session.proofs.Renewed.{decides_late, decides_reset, safe_reset}
use Rattle.kadm_session.proofs.renewing.renew.Goals as goal

pub returns-in-Some-clause-decided : goal.returns-in-Some-clause-decided
returns-in-Some-clause-decided g c = λ stream s has.
    decides_reset c.renew_at.result (g.C.Clock.moments c.args.clock.now) (g.C.Clock.moments c.now-now.new.self) stream
    c.now-now.result (seen (place_of c.args.primary.now) s) c.renew_at.new.primary
    c.in-Some.ensures.before c.holds_moment.ensures c.now-now.ensures.first c.now-now.ensures.others
    c.renew_at.ensures.reply (c.renew_at.ensures.stands s has) c.renew_at.ensures.time

pub returns-in-Some-clause-safe : goal.returns-in-Some-clause-safe
returns-in-Some-clause-safe g c = λ stream s has.
    safe_reset g.D.Disk c.args.disk.now c.renew_at.new.disk (g.C.Clock.moments c.args.clock.now) stream c.now-now.result
    (place_of c.args.primary.now) s
    c.in-Some.ensures.before c.holds_moment.ensures c.now-now.ensures.first (c.renew_at.ensures.crash s has)

pub returns-in-Ok-clause-decided : goal.returns-in-Ok-clause-decided
returns-in-Ok-clause-decided g c = λ stream s has.
    decides_late (g.C.Clock.moments c.args.clock.now) (g.C.Clock.moments c.now-now.new.self) stream c.now-now.result
    c.args.primary.now s c.in-Ok.printed.reply
    (c.base_point.ensures.none c.in-None.is) c.holds_moment.ensures c.now-now.ensures.first c.now-now.ensures.others
    c.in-Ok.ensures.reply has

pub returns-in-Ok-clause-safe : goal.returns-in-Ok-clause-safe
returns-in-Ok-clause-safe g c = λ stream s has.
    safe_still g.D.Disk c.args.disk.now c.args.disk.now ResetsLog
    (told_draws (g.C.Clock.moments c.args.clock.now) stream) (seen (place_of c.args.primary.now) s) refl
    (λ told. c.what_is_kept_is_recovered.ensures c.args.primary.now.kept (c.requires.on told))

pub returns-in-Err-clause-safe : goal.returns-in-Err-clause-safe
returns-in-Err-clause-safe g c = λ stream s has.
    safe_still g.D.Disk c.args.disk.now c.args.disk.now ResetsLog
    (told_draws (g.C.Clock.moments c.args.clock.now) stream) (seen (place_of c.args.primary.now) s) refl
    (λ told. c.what_is_kept_is_recovered.ensures c.args.primary.now.kept (c.requires.on told))
