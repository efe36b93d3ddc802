use Rattle.std.proofs.Common.{refl}
use Rattle.kdb_histories.specs.Calls.{Perform}
use Rattle.kdb_histories.specs.Seen.{seen}
use Rattle.primary_core.specs.Opened.{place_of}
use Rattle.kadm_session.specs.Steps.{ask_at}
use Rattle.kadm_session.proofs.Leaving.{may_still}
use Rattle.kadm_session.proofs.Making.{performed_same}
use Rattle.kadm_session.proofs.commands.perform_judged.Goals as goal

pub returns-in-Ok-clause-performs : goal.returns-in-Ok-clause-performs
returns-in-Ok-clause-performs g c = λ s has.
    let p = place_of c.args.primary.now in
    performed_same c.carry_out.result c.args.primary.now (ask_at c.args.ready.now.command c.args.now c.args.random.now
    (seen p s)) c.in-Ok.judged.change s c.in-Ok.judged.printed
    c.carry_out.ensures.same c.in-Ok.ensures.decided has

pub returns-in-Err-clause-crash : goal.returns-in-Err-clause-crash
returns-in-Err-clause-crash g c = λ s has.
    let p = place_of c.args.primary.now in
    may_still g.D.Disk c.args.disk.now c.args.disk.now p s
    (Perform (ask_at c.args.ready.now.command c.args.now c.args.random.now (seen p s))) refl
    (λ told. c.what_is_kept_is_recovered.ensures c.args.primary.now.kept (c.requires.on told))
