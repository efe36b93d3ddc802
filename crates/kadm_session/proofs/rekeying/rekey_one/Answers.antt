use Rattle.std.proofs.Common.{refl}
use Rattle.primary_core.specs.Opened.{place_of}
use Rattle.kadm_session.proofs.Making.{bytes_seen}
use Rattle.kadm_session.proofs.Leaving.{crash_still, may_still}
use Rattle.kadm_session.proofs.Moving.{move_drawn, move_still}
use Rattle.kadm_session.proofs.rekeying.rekey_one.Goals as goal

pub returns-in-Err-clause-safe : goal.returns-in-Err-clause-safe
returns-in-Err-clause-safe g c = λ s has.
    move_still g.D.Disk c.args.disk.now c.args.disk.now c.args.name.now c.args.now
    (g.E.Entropy.stream c.args.entropy.now) (place_of c.args.primary.now) s
    (λ made. crash_still g.D.Disk c.args.disk.now c.args.disk.now (place_of c.args.primary.now) made refl
    (λ told. c.what_is_kept_is_recovered.ensures c.args.primary.now.kept (c.requires.on told)))
    (λ call. may_still g.D.Disk c.args.disk.now c.args.disk.now (place_of c.args.primary.now) s call refl
    (λ told. c.what_is_kept_is_recovered.ensures c.args.primary.now.kept (c.requires.on told)))

pub returns-in-Ok-clause-safe : goal.returns-in-Ok-clause-safe
returns-in-Ok-clause-safe g c = λ s has.
    move_drawn g.D.Disk c.args.disk.now c.rekey_with.new.disk c.args.name.now c.args.now
    (g.E.Entropy.stream c.args.entropy.now) (place_of c.args.primary.now) s c.as_slice.result.now
    (bytes_seen (g.E.Entropy.stream c.args.entropy.now) c.in-Ok.random.items c.as_slice.result.now 512
    c.as_slice.ensures.value c.in-Ok.ensures.value)
    (c.rekey_with.ensures.crash s has)
