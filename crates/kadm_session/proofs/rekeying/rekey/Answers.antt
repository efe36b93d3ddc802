use Rattle.std.proofs.Common.{refl, subst, sym}
use Rattle.std.specs.Prelude.{Some}
use Rattle.kadm_commands.specs.declared.replies.Reply.{Reply}
use Rattle.kdb_histories.specs.Seen.{seen}
use Rattle.primary_core.specs.Opened.{place_of}
use Rattle.kadm_session.specs.Deciding.{Decides}
use Rattle.session_base.specs.Draws.{told_draws}
use Rattle.session_base.specs.declared.halts.SessionHalt.TheVariants.{MemoryOut, DrawFault}
use Rattle.kadm_session.specs.declared.intake.Asked.TheVariants.{Rekeys}
use Rattle.kadm_session.proofs.Lines.{halfway_done}
use Rattle.kadm_session.proofs.Turning.{err_on}
use Rattle.kadm_session.proofs.rekeying.rekey.Goals as goal

pub returns-in-Ok-print-clause-decided : goal.returns-in-Ok-print-clause-decided
returns-in-Ok-print-clause-decided g c = λ s has.
    subst (λ (r : Reply). Decides (Rekeys c.args.glob.now)
    (told_draws (g.C.Clock.moments c.args.clock.now) (g.E.Entropy.stream c.args.entropy.now))
    (seen (place_of c.args.primary.now) s) (Some r) c.rekey_matching.new.primary
    (told_draws (g.C.Clock.moments c.rekey_matching.new.clock) (g.E.Entropy.stream c.rekey_matching.new.entropy)))
    (sym c.in-Ok-print.ensures.reply) (c.in-Ok.ensures.decided s has)

pub returns-in-Err-print-clause-rests : goal.returns-in-Err-print-clause-rests
returns-in-Err-print-clause-rests g c = λ s has. record {
  memory = λ is.
      halfway_done g.D.Disk c.rekey_matching.new.disk c.args.glob.now
      (told_draws (g.C.Clock.moments c.args.clock.now) (g.E.Entropy.stream c.args.entropy.now))
      (told_draws (g.C.Clock.moments c.rekey_matching.new.clock) (g.E.Entropy.stream c.rekey_matching.new.entropy))
      (seen (place_of c.args.primary.now) s) (Some c.in-Ok.reply) c.rekey_matching.new.primary
      (c.in-Ok.ensures.decided s has)
      (λ told. c.what_is_kept_is_recovered.ensures c.rekey_matching.new.primary.kept (c.in-Ok.ensures.stays.on told));
  drawn = λ is. absurd cc;
}

pub returns-in-Err-clause-rests : goal.returns-in-Err-clause-rests
returns-in-Err-clause-rests g c = λ s has. record {
  memory = λ is. (c.rekey_matching.ensures.rests s has).memory
      (err_on c.rekey_matching.result _ _ c.in-Err.halt MemoryOut c.in-Err.is refl refl is);
  drawn = λ is. (c.rekey_matching.ensures.rests s has).drawn
      (err_on c.rekey_matching.result _ _ c.in-Err.halt DrawFault c.in-Err.is refl refl is);
}
