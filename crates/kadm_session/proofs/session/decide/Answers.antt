use Rattle.std.proofs.Common.{refl}
use Rattle.kdb_histories.specs.Seen.{seen}
use Rattle.primary_core.specs.Opened.{place_of}
use Rattle.session_base.specs.Draws.{told_draws}
use Rattle.kadm_session.proofs.Going.{decides_dump, decides_nothing, decides_refused}
use Rattle.session_base.specs.declared.halts.SessionHalt.TheVariants.{MemoryOut, DrawFault}
use Rattle.kadm_session.specs.declared.intake.Asked.TheVariants.{Rekeys}
use Rattle.kadm_session.proofs.Lines.{halfway_as, halfway_still}
use Rattle.kadm_session.proofs.Turning.{err_on, never_drawn}
use Rattle.kadm_session.proofs.Leaving.{safe_still}
use Rattle.kadm_session.proofs.session.decide.Goals as goal

pub returns-in-Nothing-clause-decided : goal.returns-in-Nothing-clause-decided
returns-in-Nothing-clause-decided g c = λ s has.
    decides_nothing c.args.asked.now (told_draws (g.C.Clock.moments c.args.clock.now)
    (g.E.Entropy.stream c.args.entropy.now)) c.args.primary.now s c.in-Nothing.is has

pub returns-in-Nothing-clause-safe : goal.returns-in-Nothing-clause-safe
returns-in-Nothing-clause-safe g c = λ s has.
    safe_still g.D.Disk c.args.disk.now c.args.disk.now c.args.asked.now
    (told_draws (g.C.Clock.moments c.args.clock.now) (g.E.Entropy.stream c.args.entropy.now))
    (seen (place_of c.args.primary.now) s) refl
    (λ told. c.what_is_kept_is_recovered.ensures c.args.primary.now.kept (c.requires.on told))

pub returns-in-Ok-clause-decided : goal.returns-in-Ok-clause-decided
returns-in-Ok-clause-decided g c = λ s has.
    decides_refused c.args.asked.now c.in-Refused.refusal
    (told_draws (g.C.Clock.moments c.args.clock.now) (g.E.Entropy.stream c.args.entropy.now)) c.args.primary.now s
    c.in-Ok.printed.reply c.in-Refused.is c.in-Ok.ensures.reply has

pub returns-in-Ok-clause-safe : goal.returns-in-Ok-clause-safe
returns-in-Ok-clause-safe g c = λ s has.
    safe_still g.D.Disk c.args.disk.now c.args.disk.now c.args.asked.now
    (told_draws (g.C.Clock.moments c.args.clock.now) (g.E.Entropy.stream c.args.entropy.now))
    (seen (place_of c.args.primary.now) s) refl
    (λ told. c.what_is_kept_is_recovered.ensures c.args.primary.now.kept (c.requires.on told))

pub returns-in-Err-clause-safe : goal.returns-in-Err-clause-safe
returns-in-Err-clause-safe g c = λ s has.
    safe_still g.D.Disk c.args.disk.now c.args.disk.now c.args.asked.now
    (told_draws (g.C.Clock.moments c.args.clock.now) (g.E.Entropy.stream c.args.entropy.now))
    (seen (place_of c.args.primary.now) s) refl
    (λ told. c.what_is_kept_is_recovered.ensures c.args.primary.now.kept (c.requires.on told))

pub returns-in-Ok-take_draws-clause-decided : goal.returns-in-Ok-take_draws-clause-decided
returns-in-Ok-take_draws-clause-decided g c = λ s has.
    decides_dump c.args.asked.now
    (told_draws (g.C.Clock.moments c.args.clock.now) (g.E.Entropy.stream c.args.entropy.now)) _ c.args.primary.now s
    c.in-WritesDump.is c.in-Ok-take_draws.ensures.taken has

pub returns-in-Ok-take_draws-clause-safe : goal.returns-in-Ok-take_draws-clause-safe
returns-in-Ok-take_draws-clause-safe g c = λ s has.
    safe_still g.D.Disk c.args.disk.now c.args.disk.now c.args.asked.now
    (told_draws (g.C.Clock.moments c.args.clock.now) (g.E.Entropy.stream c.args.entropy.now))
    (seen (place_of c.args.primary.now) s) refl
    (λ told. c.what_is_kept_is_recovered.ensures c.args.primary.now.kept (c.requires.on told))

pub returns-in-Err-take_draws-clause-safe : goal.returns-in-Err-take_draws-clause-safe
returns-in-Err-take_draws-clause-safe g c = λ s has.
    safe_still g.D.Disk c.args.disk.now c.args.disk.now c.args.asked.now
    (told_draws (g.C.Clock.moments c.args.clock.now) (g.E.Entropy.stream c.args.entropy.now))
    (seen (place_of c.args.primary.now) s) refl
    (λ told. c.what_is_kept_is_recovered.ensures c.args.primary.now.kept (c.requires.on told))

pub returns-in-Err-clause-rests : goal.returns-in-Err-clause-rests
returns-in-Err-clause-rests g c = λ s has. record {
  memory = λ is.
      halfway_still g.D.Disk c.args.disk.now c.args.disk.now c.args.asked.now
      (told_draws (g.C.Clock.moments c.args.clock.now) (g.E.Entropy.stream c.args.entropy.now))
      (seen (place_of c.args.primary.now) s) refl
      (λ told. c.what_is_kept_is_recovered.ensures c.args.primary.now.kept (c.requires.on told));
  drawn = λ is. absurd cc;
}

pub returns-in-Err-perform-clause-rests : goal.returns-in-Err-perform-clause-rests
returns-in-Err-perform-clause-rests g c = λ s has. record {
  memory = λ is.
      let same = c.perform.ensures.undone.memory
      (err_on c.perform.result _ _ c.in-Err-perform.halt MemoryOut c.in-Err-perform.is refl refl is) in
      halfway_still g.D.Disk c.args.disk.now c.perform.new.disk c.args.asked.now
      (told_draws (g.C.Clock.moments c.args.clock.now) (g.E.Entropy.stream c.args.entropy.now))
      (seen (place_of c.args.primary.now) s) same.0
      (λ told. c.what_is_kept_is_recovered.ensures c.args.primary.now.kept (c.requires.on told));
  drawn = λ is.
      let same = c.perform.ensures.undone.drawn
      (err_on c.perform.result _ _ c.in-Err-perform.halt DrawFault c.in-Err-perform.is refl refl is) in
      halfway_still g.D.Disk c.args.disk.now c.perform.new.disk c.args.asked.now
      (told_draws (g.C.Clock.moments c.args.clock.now) (g.E.Entropy.stream c.args.entropy.now))
      (seen (place_of c.args.primary.now) s) same.0
      (λ told. c.what_is_kept_is_recovered.ensures c.args.primary.now.kept (c.requires.on told));
}

pub returns-in-Err-rekey-clause-rests : goal.returns-in-Err-rekey-clause-rests
returns-in-Err-rekey-clause-rests g c = λ s has.
    let rests = c.rekey.ensures.rests s has in
    record {
      memory = λ is.
          halfway_as g.D.Disk c.rekey.new.disk c.args.asked.now (Rekeys c.in-Rekeys.glob)
          (told_draws (g.C.Clock.moments c.args.clock.now) (g.E.Entropy.stream c.args.entropy.now))
          (seen (place_of c.args.primary.now) s) c.in-Rekeys.is
          (rests.memory (err_on c.rekey.result _ _ c.in-Err-rekey.halt MemoryOut c.in-Err-rekey.is refl refl is));
      drawn = λ is.
          halfway_as g.D.Disk c.rekey.new.disk c.args.asked.now (Rekeys c.in-Rekeys.glob)
          (told_draws (g.C.Clock.moments c.args.clock.now) (g.E.Entropy.stream c.args.entropy.now))
          (seen (place_of c.args.primary.now) s) c.in-Rekeys.is
          (rests.drawn (err_on c.rekey.result _ _ c.in-Err-rekey.halt DrawFault c.in-Err-rekey.is refl refl is));
    }

pub returns-in-Err-renew-clause-rests : goal.returns-in-Err-renew-clause-rests
returns-in-Err-renew-clause-rests g c = λ s has. record {
  memory = λ is.
      let same = c.renew.ensures.memory
      (err_on c.renew.result _ _ c.in-Err-renew.halt MemoryOut c.in-Err-renew.is refl refl is) in
      halfway_still g.D.Disk c.args.disk.now c.renew.new.disk c.args.asked.now
      (told_draws (g.C.Clock.moments c.args.clock.now) (g.E.Entropy.stream c.args.entropy.now))
      (seen (place_of c.args.primary.now) s) same.0
      (λ told. c.what_is_kept_is_recovered.ensures c.args.primary.now.kept (c.requires.on told));
  drawn = λ is.
      never_drawn c.renew.result c.renew.ensures.not_drawn
      (err_on c.renew.result _ _ c.in-Err-renew.halt DrawFault c.in-Err-renew.is refl refl is);
}

pub returns-in-Err-take_draws-clause-rests : goal.returns-in-Err-take_draws-clause-rests
returns-in-Err-take_draws-clause-rests g c = λ s has. record {
  memory = λ is.
      halfway_still g.D.Disk c.args.disk.now c.args.disk.now c.args.asked.now
      (told_draws (g.C.Clock.moments c.args.clock.now) (g.E.Entropy.stream c.args.entropy.now))
      (seen (place_of c.args.primary.now) s) refl
      (λ told. c.what_is_kept_is_recovered.ensures c.args.primary.now.kept (c.requires.on told));
  drawn = λ is.
      halfway_still g.D.Disk c.args.disk.now c.args.disk.now c.args.asked.now
      (told_draws (g.C.Clock.moments c.args.clock.now) (g.E.Entropy.stream c.args.entropy.now))
      (seen (place_of c.args.primary.now) s) refl
      (λ told. c.what_is_kept_is_recovered.ensures c.args.primary.now.kept (c.requires.on told));
}
