use Rattle.std.proofs.Common.{refl, subst, sym}
use Rattle.std.specs.Prelude.{OnOk, Result, Err}
use Rattle.session_base.specs.Draws.{told_draws}
use Rattle.session_base.specs.declared.halts.SessionHalt.TheVariants as session
use Rattle.kadm_top.proofs.ByStatus.{causes_by_status, causes_out, end_by_status, input_by_status, run_by_status}
use Rattle.kadm_top.proofs.Running.{idle_run}
use Rattle.kadm_top.proofs.run.run_local.Goals as goal
use Rattle.kadm_top.specs.Openings.{HasOpening, IsOpening, WantsInput}
use Rattle.kadm_top.specs.Statuses.{faults}
use Rattle.kadm_top.specs.declared.words.Words.{Words}
use Rattle.kdb_base.specs.declared.outcomes.Refusal.{Refusal}
use Rattle.kdb_base.specs.declared.outcomes.Status.TheVariants as status
use Rattle.kdb_disk.proofs.Runs.{kept}

pub returns-in-Ok-clause-run : goal.returns-in-Ok-clause-run
returns-in-Ok-clause-run g c = λ tells o opening.
    run_by_status c.status_after.result c.run_words.result c.status_after.ensures
    (c.run_words.ensures.run tells o
    (subst (λ (w : Result Words Refusal).
    IsOpening w (g.S.Source.left c.args.source.now) (g.D.Disk.view c.args.disk.now).seen
    (told_draws (g.C.Clock.moments c.args.clock.now) (g.E.Entropy.stream c.args.entropy.now)) o)
    (sym c.in-Ok.ensures.value) opening))

pub returns-in-Ok-clause-input : goal.returns-in-Ok-clause-input
returns-in-Ok-clause-input g c = input_by_status c.status_after.result c.run_words.result c.status_after.ensures
    (subst WantsInput (sym c.in-Ok.ensures.value)) c.run_words.ensures.input

pub returns-in-Ok-clause-unread : goal.returns-in-Ok-clause-unread
returns-in-Ok-clause-unread g c = λ tells o opening not.
    c.run_words.ensures.unread tells o
    (subst (λ (w : Result Words Refusal). IsOpening w (g.S.Source.left c.args.source.now)
    (g.D.Disk.view c.args.disk.now).seen (told_draws (g.C.Clock.moments c.args.clock.now)
    (g.E.Entropy.stream c.args.entropy.now)) o) (sym c.in-Ok.ensures.value) opening) not

pub returns-in-Ok-clause-causes : goal.returns-in-Ok-clause-causes
returns-in-Ok-clause-causes g c =
    causes_by_status c.status_after.result c.run_words.result c.status_after.ensures c.run_words.ensures.causes

pub returns-in-Err-clause-run : goal.returns-in-Err-clause-run
returns-in-Err-clause-run g c = λ tells o opening. run_by_status status.MemoryOut (Err session.MemoryOut) refl
    (idle_run o session.MemoryOut (kept (g.D.Disk.view c.args.disk.now)) refl)

pub returns-in-Err-clause-causes : goal.returns-in-Err-clause-causes
returns-in-Err-clause-causes g c = causes_by_status status.MemoryOut (Err session.MemoryOut) refl
    (causes_out (faults (g.S.Source.faults c.args.source.now) (g.K.Sink.faults c.args.sink.now)
    (g.D.Disk.faults c.args.disk.now) (g.E.Entropy.faults c.args.entropy.now)))

pub returns-in-Ok-clause-opening : goal.returns-in-Ok-clause-opening
returns-in-Ok-clause-opening g c = λ tells draws is.
    end_by_status c.status_after.result c.run_words.result _ c.status_after.ensures
    (subst (λ (w : Result Words Refusal). OnOk c.run_words.result
    (HasOpening w (g.S.Source.left c.args.source.now) (g.D.Disk.view c.args.disk.now).seen
    (told_draws (g.C.Clock.moments c.args.clock.now) (g.E.Entropy.stream c.args.entropy.now)))) c.in-Ok.ensures.value
    (c.run_words.ensures.opening tells draws is))
