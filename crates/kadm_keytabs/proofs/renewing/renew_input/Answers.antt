use Rattle.std.proofs.Common.{Err, ap, inl, refl, sym, ◌∙◌}
use Rattle.kdb_histories.specs.Seen.{seen}
use Rattle.primary_core.specs.Opened.{place_of}
use Rattle.session_base.specs.Draws.{told_draws}
use Rattle.kadm_keytabs.specs.Renewals.{wanted}
use Rattle.kadm_keytabs.proofs.Renewed.{renewed_keytab, renewed_none, run_safe, run_still}
use Rattle.kadm_keytabs.proofs.renewing.renew_input.Goals as goal

pub returns-in-Ok-clause-renewed : goal.returns-in-Ok-clause-renewed
returns-in-Ok-clause-renewed g c = λ s draws has told.
    renewed_keytab c.renew_list.result (wanted c.args.client.now c.args.name.now c.args.etypes.now) draws
    (seen (place_of c.args.primary.now) s) c.args.kept.now c.in-Ok.list c.renew_list.new.primary _
    c.in-Ok.ensures.ok (c.renew_list.ensures.made s draws has told)

pub returns-in-Ok-clause-safe : goal.returns-in-Ok-clause-safe
returns-in-Ok-clause-safe g c = λ s has.
    run_safe g.D.Disk c.args.disk.now c.renew_list.new.disk (wanted c.args.client.now c.args.name.now c.args.etypes.now)
    (told_draws (g.C.Clock.moments c.args.clock.now) (g.E.Entropy.stream c.args.entropy.now))
    (seen (place_of c.args.primary.now) s) c.args.kept.now c.in-Ok.list
    c.in-Ok.ensures.ok (c.renew_list.ensures.safe s has)

pub returns-in-Err-BadKeytab-clause-renewed : goal.returns-in-Err-BadKeytab-clause-renewed
returns-in-Err-BadKeytab-clause-renewed g c = λ s draws has told.
    renewed_none c.refuse_input.result (wanted c.args.client.now c.args.name.now c.args.etypes.now) draws s
    c.args.kept.now c.in-Err-BadKeytab.place _ c.args.primary.now _
    (c.read_keytab_input.ensures.bad c.in-Err-BadKeytab.place
    (c.in-Err-BadKeytab.is ∙ ap Err c.in-Err-BadKeytab.field-0-is)) (sym c.in-Err-BadKeytab.place-is)
    c.refuse_input.ensures.answer has told

pub returns-in-Err-BadKeytab-clause-safe : goal.returns-in-Err-BadKeytab-clause-safe
returns-in-Err-BadKeytab-clause-safe g c = λ s has.
    run_still g.D.Disk c.args.disk.now c.args.disk.now (wanted c.args.client.now c.args.name.now c.args.etypes.now)
    (told_draws (g.C.Clock.moments c.args.clock.now) (g.E.Entropy.stream c.args.entropy.now))
    (seen (place_of c.args.primary.now) s) c.args.kept.now refl
    (λ told. c.what_is_kept_is_recovered.ensures c.args.primary.now.kept (c.requires.on told))

pub returns-in-Err-MemoryOut-clause-safe : goal.returns-in-Err-MemoryOut-clause-safe
returns-in-Err-MemoryOut-clause-safe g c = λ s has.
    run_still g.D.Disk c.args.disk.now c.args.disk.now (wanted c.args.client.now c.args.name.now c.args.etypes.now)
    (told_draws (g.C.Clock.moments c.args.clock.now) (g.E.Entropy.stream c.args.entropy.now))
    (seen (place_of c.args.primary.now) s) c.args.kept.now refl
    (λ told. c.what_is_kept_is_recovered.ensures c.args.primary.now.kept (c.requires.on told))

pub returns-in-Err-BadKeytab-clause-done : goal.returns-in-Err-BadKeytab-clause-done
returns-in-Err-BadKeytab-clause-done g c = λ s draws has told. inl refl

pub returns-in-Err-MemoryOut-clause-done : goal.returns-in-Err-MemoryOut-clause-done
returns-in-Err-MemoryOut-clause-done g c = λ s draws has told. inl refl
