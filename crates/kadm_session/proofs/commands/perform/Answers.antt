use Rattle.std.proofs.Common.{refl}
use Rattle.kdb_histories.specs.Seen.{seen}
use Rattle.primary_core.specs.Opened.{place_of}
use Rattle.session_base.specs.Draws.{told_draws}
use Rattle.kadm_session.specs.declared.intake.Asked.TheVariants.{Does}
use Rattle.kadm_session.proofs.Leaving.{safe_still}
use Rattle.kadm_session.proofs.commands.perform.Goals as goal

pub returns-in-Err-clause-safe : goal.returns-in-Err-clause-safe
returns-in-Err-clause-safe g c = λ s has.
    safe_still g.D.Disk c.args.disk.now c.args.disk.now
    (Does c.args.command.now) (told_draws (g.C.Clock.moments c.args.clock.now) (g.E.Entropy.stream c.args.entropy.now))
    (seen (place_of c.args.primary.now) s) refl
    (λ told. c.what_is_kept_is_recovered.ensures c.args.primary.now.kept (c.requires.on told))
