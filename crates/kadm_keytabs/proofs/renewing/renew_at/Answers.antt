use Rattle.std.proofs.Common.{inl, inr, refl}
use Rattle.kdb_histories.specs.Seen.{made_at, seen}
use Rattle.kdb_histories.specs.Stages.{places}
use Rattle.primary_core.specs.Opened.{place_of}
use Rattle.kadm_keytabs.specs.Renewals.{ask_for, wanted}
use Rattle.kadm_keytabs.proofs.Carried.{crash_still}
use Rattle.kadm_keytabs.proofs.Judged.{same_so}
use Rattle.kadm_keytabs.proofs.Renewed.{asked_so}
use Rattle.kadm_keytabs.proofs.renewing.renew_at.Goals as goal

pub make_renewal-requires-clause-may : goal.make_renewal-requires-clause-may
make_renewal-requires-clause-may g c = c.in-Ok.ensures.may

pub returns-in-Ok-clause-answer : goal.returns-in-Ok-clause-answer
returns-in-Ok-clause-answer g c = λ s has.
    same_so c.make_renewal.result c.in-Ok.renewal.answer _ c.make_renewal.ensures.same (c.in-Ok.ensures.answer s has)

pub returns-in-Ok-clause-stands : goal.returns-in-Ok-clause-stands
returns-in-Ok-clause-stands g c = λ s has.
    c.make_renewal.ensures.stands (ask_for (wanted c.args.client.now c.args.name.now c.args.etypes.now) c.args.now
    c.args.random.now) s refl c.in-Ok.ensures.decided has

pub returns-in-Ok-clause-crash : goal.returns-in-Ok-clause-crash
returns-in-Ok-clause-crash g c = λ s has.
    c.make_renewal.ensures.crash (ask_for (wanted c.args.client.now c.args.name.now c.args.etypes.now) c.args.now
    c.args.random.now) s refl c.in-Ok.ensures.decided has

pub returns-in-Err-clause-crash : goal.returns-in-Err-clause-crash
returns-in-Err-clause-crash g c = λ s has.
    let ask = ask_for (wanted c.args.client.now c.args.name.now c.args.etypes.now) c.args.now c.args.random.now in
    crash_still g.D.Disk c.args.disk.now c.args.disk.now (place_of c.args.primary.now)
    (places (made_at ask (seen (place_of c.args.primary.now) s))) refl
    (λ told. c.what_is_kept_is_recovered.ensures c.args.primary.now.kept (c.requires.on told))

pub returns-in-Ok-clause-done : goal.returns-in-Ok-clause-done
returns-in-Ok-clause-done g c = λ s has.
    inr (asked_so c.args.primary.now (ask_for (wanted c.args.client.now c.args.name.now c.args.etypes.now) c.args.now
    c.args.random.now) c.in-Ok.renewal.judged.reply c.in-Ok.renewal.judged.change s c.in-Ok.ensures.decided has)

pub returns-in-Err-clause-done : goal.returns-in-Err-clause-done
returns-in-Err-clause-done g c = λ s has. inl refl
