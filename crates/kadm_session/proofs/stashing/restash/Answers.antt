use Rattle.std.proofs.Common.{refl}
use Rattle.kadm_commands.specs.declared.commands.Command.TheVariants.{Stash}
use Rattle.kadm_session.proofs.Leaving.{may_still}
use Rattle.kadm_session.proofs.stashing.restash.Goals as goal
use Rattle.kadm_session.specs.Steps.{ask_at}
use Rattle.kdb_histories.specs.Calls.{Perform}
use Rattle.kdb_histories.specs.Seen.{seen}
use Rattle.primary_core.specs.Opened.{place_of}

pub returns-in-Err-clause-crash : goal.returns-in-Err-clause-crash
returns-in-Err-clause-crash g c = λ s random has.
    let p = place_of c.args.primary.now in
    may_still g.D.Disk c.args.disk.now c.args.disk.now p s (Perform (ask_at Stash c.args.now random (seen p s))) refl
    (λ told. c.what_is_kept_is_recovered.ensures c.args.primary.now.kept (c.requires.on told))
