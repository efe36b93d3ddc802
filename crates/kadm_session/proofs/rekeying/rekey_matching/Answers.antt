use Rattle.std.proofs.Common.{◌∙◌, refl}
use Rattle.kdb_histories.specs.Seen.{seen}
use Rattle.primary_core.specs.Opened.{place_of}
use Rattle.session_base.specs.Draws.{told_draws}
use Rattle.kadm_session.specs.declared.intake.Asked.TheVariants.{Rekeys}
use Rattle.kadm_session.proofs.Lines.{decides_matched, halfway_rekeyed, halfway_still, line_rekeyed}
use Rattle.kadm_session.proofs.Leaving.{safe_still}
use Rattle.kadm_session.proofs.rekeying.rekey_matching.Goals as goal

pub returns-in-Ok-clause-decided : goal.returns-in-Ok-clause-decided
returns-in-Ok-clause-decided g c = λ s has.
    decides_matched c.rekey_all.result c.args.glob.now c.as_slice.result.now
    (g.C.Clock.moments c.args.clock.now) (g.C.Clock.moments c.now-now.new.self) (g.E.Entropy.stream c.args.entropy.now)
    (g.E.Entropy.stream c.rekey_all.new.entropy) c.now-now.result c.args.primary.now c.rekey_all.new.primary s
    c.holds_moment.ensures (c.as_slice.ensures.value ∙ c.in-Ok.ensures.names s has) c.now-now.ensures.first
    c.now-now.ensures.others
    (c.rekey_all.ensures.done s has)

pub returns-in-Ok-clause-safe : goal.returns-in-Ok-clause-safe
returns-in-Ok-clause-safe g c = λ s has.
    line_rekeyed g.D.Disk c.args.disk.now c.rekey_all.new.disk c.args.glob.now c.as_slice.result.now
    (g.C.Clock.moments c.args.clock.now) (g.E.Entropy.stream c.args.entropy.now) c.now-now.result c.args.primary.now s
    c.holds_moment.ensures (c.as_slice.ensures.value ∙ c.in-Ok.ensures.names s has) c.now-now.ensures.first
    (c.rekey_all.ensures.safe s has)

pub returns-in-Err-clause-safe : goal.returns-in-Err-clause-safe
returns-in-Err-clause-safe g c = λ s has.
    safe_still g.D.Disk c.args.disk.now c.args.disk.now
    (Rekeys c.args.glob.now) (told_draws (g.C.Clock.moments c.args.clock.now) (g.E.Entropy.stream c.args.entropy.now))
    (seen (place_of c.args.primary.now) s) refl
    (λ told. c.what_is_kept_is_recovered.ensures c.args.primary.now.kept (c.requires.on told))

pub returns-in-Err-clause-rests : goal.returns-in-Err-clause-rests
returns-in-Err-clause-rests g c = λ s has. record {
  memory = λ is.
      halfway_still g.D.Disk c.args.disk.now c.args.disk.now (Rekeys c.args.glob.now)
      (told_draws (g.C.Clock.moments c.args.clock.now) (g.E.Entropy.stream c.args.entropy.now))
      (seen (place_of c.args.primary.now) s) refl
      (λ told. c.what_is_kept_is_recovered.ensures c.args.primary.now.kept (c.requires.on told));
  drawn = λ is. absurd cc;
}

pub returns-in-Ok-clause-rests : goal.returns-in-Ok-clause-rests
returns-in-Ok-clause-rests g c = λ s has. record {
  memory = λ is.
      halfway_rekeyed g.D.Disk c.rekey_all.new.disk c.args.glob.now c.as_slice.result.now
      (g.C.Clock.moments c.args.clock.now) (g.E.Entropy.stream c.args.entropy.now) c.now-now.result c.args.primary.now s
      (c.as_slice.ensures.value ∙ c.in-Ok.ensures.names s has) c.now-now.ensures.first
      (c.rekey_all.ensures.memory s has is);
  drawn = λ is.
      halfway_rekeyed g.D.Disk c.rekey_all.new.disk c.args.glob.now c.as_slice.result.now
      (g.C.Clock.moments c.args.clock.now) (g.E.Entropy.stream c.args.entropy.now) c.now-now.result c.args.primary.now s
      (c.as_slice.ensures.value ∙ c.in-Ok.ensures.names s has) c.now-now.ensures.first
      (c.rekey_all.ensures.drawn s has is);
}
