use Rattle.std.proofs.Common.{◌∙◌, ap, refl, subst, sym, true}
use Rattle.std.specs.Prelude.{Ok, Err}
use Rattle.std.proofs.lemmas.Result.{on_ok_weaker}
use Rattle.session_base.specs.Draws.{told_draws}
use Rattle.kadm_top.proofs.Accounts.{for_tell, tell_has}
use Rattle.kadm_top.proofs.ByStatus.{said_causes}
use Rattle.kadm_top.proofs.Loads.{for_load, load_has}
use Rattle.kadm_top.proofs.KeytabRuns.{for_keytab, keytab_has}
use Rattle.kadm_top.proofs.Openings.{admin_has, any_ok, create_has, destroy_has, for_admin}
use Rattle.kadm_top.proofs.Openings.{for_create, for_destroy, for_generate, for_line, for_refusal}
use Rattle.kadm_top.proofs.Openings.{for_renew, generate_has, line_has, refusal_has, renew_has}
use Rattle.kadm_top.proofs.Running.{cut_refusal_run, generated_run, refused_run}
use Rattle.kadm_top.proofs.run.run_words.Goals as goal
use Rattle.kadm_top.specs.Openings.{NoDraw, Opening}
use Rattle.kadm_top.specs.Run.{HasRun, told}
use Rattle.kdb_disk.proofs.Runs.{kept}
use Rattle.made_scripts.specs.Runs.{told_of}

pub returns-in-Ok-Admin-clause-run : goal.returns-in-Ok-Admin-clause-run
returns-in-Ok-Admin-clause-run g c = λ tells o opening.
    c.ask.ensures.run tells o (for_admin (g.S.Source.left c.args.source.now) (g.D.Disk.view c.args.disk.now).seen
    (told_draws (g.C.Clock.moments c.args.clock.now) (g.E.Entropy.stream c.args.entropy.now)) o c.args.words
    c.in-Ok-Admin.size (c.in-Ok-Admin.is ∙ ap Ok c.in-Ok-Admin.field-0-is) opening)

pub returns-in-Ok-Admin-clause-unread : goal.returns-in-Ok-Admin-clause-unread
returns-in-Ok-Admin-clause-unread g c = λ tells o opening not.
    c.ask.ensures.unread tells o (for_admin (g.S.Source.left c.args.source.now) (g.D.Disk.view c.args.disk.now).seen
    (told_draws (g.C.Clock.moments c.args.clock.now) (g.E.Entropy.stream c.args.entropy.now)) o c.args.words
    c.in-Ok-Admin.size (c.in-Ok-Admin.is ∙ ap Ok c.in-Ok-Admin.field-0-is) opening) not

pub returns-in-Ok-Create-clause-run : goal.returns-in-Ok-Create-clause-run
returns-in-Ok-Create-clause-run g c = λ tells o opening.
    subst (λ (x : Opening). HasRun x (g.D.Disk.view c.args.disk.now) (g.D.Disk.view c.create.new.disk)
    (told (g.K.Sink.taken c.args.sink.now) (g.S.Source.left c.args.source.now)
    (told_draws (g.C.Clock.moments c.args.clock.now) (g.E.Entropy.stream c.args.entropy.now)))
    (told (g.K.Sink.taken c.create.new.sink) (g.S.Source.left c.args.source.now)
    (told_draws (g.C.Clock.moments c.create.new.clock) (g.E.Entropy.stream c.create.new.entropy))) c.create.result)
    (sym (for_create (g.S.Source.left c.args.source.now) (g.D.Disk.view c.args.disk.now).seen
    (told_draws (g.C.Clock.moments c.args.clock.now) (g.E.Entropy.stream c.args.entropy.now)) o c.args.words
    c.in-Ok-Create.spec (c.in-Ok-Create.is ∙ ap Ok c.in-Ok-Create.field-0-is) opening))
    (c.create.ensures.run tells (g.S.Source.left c.args.source.now))

pub returns-in-Ok-Destroy-clause-run : goal.returns-in-Ok-Destroy-clause-run
returns-in-Ok-Destroy-clause-run g c = λ tells o opening.
    let draws = told_draws (g.C.Clock.moments c.args.clock.now) (g.E.Entropy.stream c.args.entropy.now) in
    subst (λ (x : Opening). HasRun x (g.D.Disk.view c.args.disk.now) (g.D.Disk.view c.end.new.disk)
    (told (g.K.Sink.taken c.args.sink.now) (g.S.Source.left c.args.source.now) draws)
    (told (g.K.Sink.taken c.end.new.sink) (g.S.Source.left c.args.source.now) draws) c.end.result)
    (sym (for_destroy (g.S.Source.left c.args.source.now) (g.D.Disk.view c.args.disk.now).seen
    (told_draws (g.C.Clock.moments c.args.clock.now) (g.E.Entropy.stream c.args.entropy.now)) o c.args.words
    (c.in-Ok-Destroy.is ∙ ap Ok c.in-Ok-Destroy.field-0-is) opening))
    (c.end.ensures.run tells (g.S.Source.left c.args.source.now) draws)

pub returns-in-Ok-Generate-clause-run : goal.returns-in-Ok-Generate-clause-run
returns-in-Ok-Generate-clause-run g c = λ tells o opening.
    let draws = told_draws (g.C.Clock.moments c.args.clock.now) (g.E.Entropy.stream c.args.entropy.now) in
    subst (λ (x : Opening). HasRun x (g.D.Disk.view c.args.disk.now) (g.D.Disk.view c.args.disk.now)
    (told (g.K.Sink.taken c.args.sink.now) (g.S.Source.left c.args.source.now) draws)
    (told (g.K.Sink.taken c.generate.new.sink) (g.S.Source.left c.args.source.now) draws) c.generate.result)
    (sym (for_generate (g.S.Source.left c.args.source.now) (g.D.Disk.view c.args.disk.now).seen draws o c.args.words
    c.in-Ok-Generate.script (c.in-Ok-Generate.is ∙ ap Ok c.in-Ok-Generate.field-0-is) opening))
    (generated_run c.generate.result (told_of c.in-Ok-Generate.script) c.generate.ensures.ok c.generate.ensures.err refl
    (kept (g.D.Disk.view c.args.disk.now)))

pub returns-in-Ok-Generate-clause-opening : goal.returns-in-Ok-Generate-clause-opening
returns-in-Ok-Generate-clause-opening g c = λ tells draws is.
    any_ok c.generate.result _ (generate_has (g.D.Disk.view c.args.disk.now).seen _ c.args.words c.in-Ok-Generate.script
    (c.in-Ok-Generate.is ∙ ap Ok c.in-Ok-Generate.field-0-is))

pub returns-in-Ok-clause-run : goal.returns-in-Ok-clause-run
returns-in-Ok-clause-run g c = λ tells o opening.
    let draws = told_draws (g.C.Clock.moments c.args.clock.now) (g.E.Entropy.stream c.args.entropy.now) in
    subst (λ (x : Opening). HasRun x (g.D.Disk.view c.args.disk.now) (g.D.Disk.view c.args.disk.now)
    (told (g.K.Sink.taken c.args.sink.now) (g.S.Source.left c.args.source.now) draws)
    (told (g.K.Sink.taken c.refuse.new.sink) (g.S.Source.left c.args.source.now) draws) (Ok true))
    (sym (for_refusal (g.S.Source.left c.args.source.now) (g.D.Disk.view c.args.disk.now).seen
    (told_draws (g.C.Clock.moments c.args.clock.now) (g.E.Entropy.stream c.args.entropy.now)) o c.args.words
    c.in-Err.refusal c.in-Err.is opening))
    (refused_run c.in-Err.refusal NoDraw c.in-Ok.ensures.ok refl (kept (g.D.Disk.view c.args.disk.now)))

pub returns-in-Err-refuse-clause-run : goal.returns-in-Err-refuse-clause-run
returns-in-Err-refuse-clause-run g c = λ tells o opening.
    let draws = told_draws (g.C.Clock.moments c.args.clock.now) (g.E.Entropy.stream c.args.entropy.now) in
    subst (λ (x : Opening). HasRun x (g.D.Disk.view c.args.disk.now) (g.D.Disk.view c.args.disk.now)
    (told (g.K.Sink.taken c.args.sink.now) (g.S.Source.left c.args.source.now) draws)
    (told (g.K.Sink.taken c.refuse.new.sink) (g.S.Source.left c.args.source.now) draws) (Err c.in-Err-refuse.halt))
    (sym (for_refusal (g.S.Source.left c.args.source.now) (g.D.Disk.view c.args.disk.now).seen
    (told_draws (g.C.Clock.moments c.args.clock.now) (g.E.Entropy.stream c.args.entropy.now)) o c.args.words
    c.in-Err.refusal c.in-Err.is opening))
    (cut_refusal_run c.in-Err.refusal NoDraw c.in-Err-refuse.halt c.in-Err-refuse.ensures.err
    (kept (g.D.Disk.view c.args.disk.now)) (λ spares. ap g.K.Sink.taken (c.in-Err-refuse.ensures.rests spares)))

pub returns-in-Err-refuse-clause-causes : goal.returns-in-Err-refuse-clause-causes
returns-in-Err-refuse-clause-causes g c = said_causes c.in-Err-refuse.halt c.refuse.ensures.faults.later
    c.in-Err-refuse.ensures.halt (λ is. c.refuse.ensures.faults.cause (c.in-Err-refuse.is ∙ ap Err is))

pub returns-in-Ok-Admin-clause-opening : goal.returns-in-Ok-Admin-clause-opening
returns-in-Ok-Admin-clause-opening g c = λ tells draws is.
    on_ok_weaker c.ask.result
    (admin_has (g.D.Disk.view c.args.disk.now).seen
    (told_draws (g.C.Clock.moments c.args.clock.now) (g.E.Entropy.stream c.args.entropy.now)) c.args.words
    c.in-Ok-Admin.size (c.in-Ok-Admin.is ∙ ap Ok c.in-Ok-Admin.field-0-is))
    (c.ask.ensures.opening tells draws is)

pub returns-in-Ok-Create-clause-opening : goal.returns-in-Ok-Create-clause-opening
returns-in-Ok-Create-clause-opening g c = λ tells draws is.
    any_ok c.create.result _ (create_has (g.D.Disk.view c.args.disk.now).seen _ c.args.words c.in-Ok-Create.spec
    (c.in-Ok-Create.is ∙ ap Ok c.in-Ok-Create.field-0-is))

pub returns-in-Ok-Destroy-clause-opening : goal.returns-in-Ok-Destroy-clause-opening
returns-in-Ok-Destroy-clause-opening g c = λ tells draws is.
    any_ok c.end.result _ (destroy_has (g.D.Disk.view c.args.disk.now).seen _ c.args.words
    (c.in-Ok-Destroy.is ∙ ap Ok c.in-Ok-Destroy.field-0-is))

pub returns-in-Ok-clause-opening : goal.returns-in-Ok-clause-opening
returns-in-Ok-clause-opening g c =
    λ tells draws is. refusal_has (g.D.Disk.view c.args.disk.now).seen _ c.args.words c.in-Err.refusal c.in-Err.is

pub returns-in-Ok-Line-clause-run : goal.returns-in-Ok-Line-clause-run
returns-in-Ok-Line-clause-run g c = λ tells o opening.
    c.ask-in-Ok-Line.ensures.run tells o
    (for_line (g.S.Source.left c.args.source.now) (g.D.Disk.view c.args.disk.now).seen
    (told_draws (g.C.Clock.moments c.args.clock.now) (g.E.Entropy.stream c.args.entropy.now)) o c.args.words
    c.in-Ok-Line.words (c.in-Ok-Line.is ∙ ap Ok c.in-Ok-Line.field-0-is) opening)

pub returns-in-Ok-Line-clause-unread : goal.returns-in-Ok-Line-clause-unread
returns-in-Ok-Line-clause-unread g c = λ tells o opening not. c.ask-in-Ok-Line.ensures.alone (λ input. input)

pub returns-in-Ok-Line-clause-opening : goal.returns-in-Ok-Line-clause-opening
returns-in-Ok-Line-clause-opening g c = λ tells draws is.
    on_ok_weaker c.ask-in-Ok-Line.result
    (line_has (g.D.Disk.view c.args.disk.now).seen
    (told_draws (g.C.Clock.moments c.args.clock.now) (g.E.Entropy.stream c.args.entropy.now)) c.args.words
    c.in-Ok-Line.words (c.in-Ok-Line.is ∙ ap Ok c.in-Ok-Line.field-0-is))
    (c.ask-in-Ok-Line.ensures.opening tells draws is)

pub returns-in-Ok-Tell-clause-run : goal.returns-in-Ok-Tell-clause-run
returns-in-Ok-Tell-clause-run g c = λ tells o opening.
    let stream = g.E.Entropy.stream c.args.entropy.now in
    c.tell.ensures.run tells (g.S.Source.left c.args.source.now) stream o
    (for_tell (g.S.Source.left c.args.source.now) (g.D.Disk.view c.args.disk.now).seen
    (told_draws (g.C.Clock.moments c.args.clock.now) stream) o c.args.words c.in-Ok-Tell.account
    (c.in-Ok-Tell.is ∙ ap Ok c.in-Ok-Tell.field-0-is) opening)

pub returns-in-Ok-Tell-clause-opening : goal.returns-in-Ok-Tell-clause-opening
returns-in-Ok-Tell-clause-opening g c = λ tells draws is.
    any_ok c.tell.result _ (tell_has (g.D.Disk.view c.args.disk.now).seen draws _ c.args.words c.in-Ok-Tell.account is
    (c.in-Ok-Tell.is ∙ ap Ok c.in-Ok-Tell.field-0-is))

pub returns-in-Ok-Renew-clause-run : goal.returns-in-Ok-Renew-clause-run
returns-in-Ok-Renew-clause-run g c = λ tells o opening.
    c.ask-in-Ok-Renew.ensures.run tells o
    (for_renew (g.S.Source.left c.args.source.now) (g.D.Disk.view c.args.disk.now).seen
    (told_draws (g.C.Clock.moments c.args.clock.now) (g.E.Entropy.stream c.args.entropy.now)) o c.args.words
    (c.in-Ok-Renew.is ∙ ap Ok c.in-Ok-Renew.field-0-is) opening)

pub returns-in-Ok-Renew-clause-unread : goal.returns-in-Ok-Renew-clause-unread
returns-in-Ok-Renew-clause-unread g c = λ tells o opening not. c.ask-in-Ok-Renew.ensures.alone (λ input. input)

pub returns-in-Ok-Renew-clause-opening : goal.returns-in-Ok-Renew-clause-opening
returns-in-Ok-Renew-clause-opening g c = λ tells draws is.
    on_ok_weaker c.ask-in-Ok-Renew.result
    (renew_has (g.D.Disk.view c.args.disk.now).seen
    (told_draws (g.C.Clock.moments c.args.clock.now) (g.E.Entropy.stream c.args.entropy.now)) c.args.words
    (c.in-Ok-Renew.is ∙ ap Ok c.in-Ok-Renew.field-0-is))
    (c.ask-in-Ok-Renew.ensures.opening tells draws is)

pub returns-in-Ok-Load-clause-run : goal.returns-in-Ok-Load-clause-run
returns-in-Ok-Load-clause-run g c = λ tells o opening.
    let stream = g.E.Entropy.stream c.args.entropy.now in
    c.load.ensures.run tells stream o
    (for_load (g.S.Source.left c.args.source.now)
    (g.D.Disk.view c.args.disk.now).seen (told_draws (g.C.Clock.moments c.args.clock.now) stream) o c.args.words
    (c.in-Ok-Load.is ∙ ap Ok c.in-Ok-Load.field-0-is) opening)

pub returns-in-Ok-Load-clause-unread : goal.returns-in-Ok-Load-clause-unread
returns-in-Ok-Load-clause-unread g c = λ tells o opening not.
    let stream = g.E.Entropy.stream c.args.entropy.now in
    c.load.ensures.unread tells stream o
    (for_load (g.S.Source.left c.args.source.now)
    (g.D.Disk.view c.args.disk.now).seen (told_draws (g.C.Clock.moments c.args.clock.now) stream) o c.args.words
    (c.in-Ok-Load.is ∙ ap Ok c.in-Ok-Load.field-0-is) opening) not

pub returns-in-Ok-Load-clause-opening : goal.returns-in-Ok-Load-clause-opening
returns-in-Ok-Load-clause-opening g c = λ tells draws is.
    on_ok_weaker c.load.result
    (load_has (g.D.Disk.view c.args.disk.now).seen
    (told_draws (g.C.Clock.moments c.args.clock.now) (g.E.Entropy.stream c.args.entropy.now)) c.args.words
    (c.in-Ok-Load.is ∙ ap Ok c.in-Ok-Load.field-0-is))
    (c.load.ensures.opening tells (g.E.Entropy.stream c.args.entropy.now) draws is)

pub returns-in-Ok-Keytab-clause-run : goal.returns-in-Ok-Keytab-clause-run
returns-in-Ok-Keytab-clause-run g c = λ tells o opening.
    let stream = g.E.Entropy.stream c.args.entropy.now in
    c.run_keytab.ensures.run tells o
    (for_keytab (g.S.Source.left c.args.source.now) (g.D.Disk.view c.args.disk.now).seen
    (told_draws (g.C.Clock.moments c.args.clock.now) stream) o c.args.words c.in-Ok-Keytab.words
    (c.in-Ok-Keytab.is ∙ ap Ok c.in-Ok-Keytab.field-0-is) opening)

pub returns-in-Ok-Keytab-clause-unread : goal.returns-in-Ok-Keytab-clause-unread
returns-in-Ok-Keytab-clause-unread g c = λ tells o opening not.
    let stream = g.E.Entropy.stream c.args.entropy.now in
    c.run_keytab.ensures.unread tells o
    (for_keytab (g.S.Source.left c.args.source.now) (g.D.Disk.view c.args.disk.now).seen
    (told_draws (g.C.Clock.moments c.args.clock.now) stream) o c.args.words c.in-Ok-Keytab.words
    (c.in-Ok-Keytab.is ∙ ap Ok c.in-Ok-Keytab.field-0-is) opening) not

pub returns-in-Ok-Keytab-clause-opening : goal.returns-in-Ok-Keytab-clause-opening
returns-in-Ok-Keytab-clause-opening g c = λ tells draws is.
    on_ok_weaker c.run_keytab.result
    (keytab_has (g.D.Disk.view c.args.disk.now).seen
    (told_draws (g.C.Clock.moments c.args.clock.now) (g.E.Entropy.stream c.args.entropy.now)) c.args.words
    c.in-Ok-Keytab.words (c.in-Ok-Keytab.is ∙ ap Ok c.in-Ok-Keytab.field-0-is))
    (c.run_keytab.ensures.opening tells draws is)
