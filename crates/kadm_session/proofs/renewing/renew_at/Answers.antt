use Rattle.std.proofs.Common.{refl}
use Rattle.kdb_histories.specs.Calls.{ResetLog}
use Rattle.primary_core.specs.Opened.{place_of}
use Rattle.kadm_session.proofs.Leaving.{may_still}
use Rattle.kadm_session.proofs.renewing.renew_at.Goals as goal

pub returns-in-Err-clause-crash : goal.returns-in-Err-clause-crash
returns-in-Err-clause-crash g c = λ s has.
    may_still g.D.Disk c.args.disk.now c.args.disk.now (place_of c.args.primary.now) s (ResetLog c.args.now) refl
    (λ told. c.what_is_kept_is_recovered.ensures c.args.primary.now.kept (c.requires.on told))
