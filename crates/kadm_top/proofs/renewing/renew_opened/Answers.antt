use Rattle.std.proofs.Common.{◌∙◌, Result, ℕ, ap, subst, sym}
use Rattle.kadm_top.proofs.KeytabRuns.{names_own}
use Rattle.kadm_top.proofs.RenewalRuns.{nothing_renewed}
use Rattle.kadm_top.proofs.renewing.renew_opened.Goals as goal
use Rattle.kadm_top.specs.Openings.{RenewsBy}
use Rattle.kdb_histories.specs.Seen.{seen}
use Rattle.primary_core.specs.Opened.{place_of}
use Rattle.princ_name.specs.Names.{NameParts}
use Rattle.princ_name.specs.Readings.{own_name_in}
use Rattle.session_base.specs.Draws.{told_draws}

pub renew_named-requires-clause-name : goal.renew_named-requires-clause-name
renew_named-requires-clause-name g c = names_own c.args.word.now c.args.opened.kept.realm _
    (c.in-Ok.ensures ∙ ap (own_name_in c.args.word.now) (c.as_slice.ensures.value ∙ c.realm.ensures))

pub returns-clause-renewed : goal.returns-clause-renewed
returns-clause-renewed g c = λ tells s draws reads what has told is.
    c.renew_named.ensures.renewed tells s draws reads what has told
    (subst (λ (n : Result NameParts ℕ).
    RenewsBy n c.args.etypes.now (g.S.Source.left c.args.source.now) draws (seen (place_of c.args.opened) s) reads what)
    (sym (c.in-Ok.ensures ∙ ap (own_name_in c.args.word.now) (c.as_slice.ensures.value ∙ c.realm.ensures))) is)

pub returns-in-Err-clause-renewed : goal.returns-in-Err-clause-renewed
returns-in-Err-clause-renewed g c = λ tells s draws reads what has told is.
    nothing_renewed what (seen (place_of c.args.opened) s)
    (g.D.Disk.view c.args.disk.now) (g.K.Sink.taken c.args.sink.now)
    (told_draws (g.C.Clock.moments c.args.clock.now) (g.E.Entropy.stream c.args.entropy.now))
    (c.what_is_kept_is_recovered.ensures c.args.opened.kept (c.requires.on tells))
