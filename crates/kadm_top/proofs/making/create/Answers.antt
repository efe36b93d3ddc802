use Rattle.std.proofs.Common.{◌≡◌, ◌∙◌, ℕ, Option, List, refl, rules, subst, sym}
use Rattle.session_base.specs.Draws.{Draws, told_draws}
use Rattle.kadm_top.proofs.Running.{idle_run}
use Rattle.kadm_top.proofs.Telling.{are_drawn, behind_both}
use Rattle.kadm_top.proofs.making.create.Goals as goal
use Rattle.kadm_top.specs.Openings.{create_of}
use Rattle.kadm_top.specs.Run.{AreDrawn, HasRun, told}
use Rattle.kdb_control.specs.Force.{in_force}
use Rattle.kdb_disk.proofs.Runs.{kept}

pub returns-in-Ok-clause-run : goal.returns-in-Ok-clause-run
returns-in-Ok-clause-run g c = λ tells left.
    let same : c.as_slice.result.now ≡ c.in-Ok.random.items = search rules in
    let behind_draw = (λ i. told_draws (c.now-moment.ensures.others i) (c.in-Ok.ensures.rest i))
    ∙ behind_both (g.C.Clock.moments c.args.clock.now) (g.E.Entropy.stream c.args.entropy.now) in
    subst (λ (d : Option Draws). HasRun (create_of c.args.spec.now (in_force ((g.D.Disk.view c.args.disk.now).seen 0)))
    (g.D.Disk.view c.args.disk.now) (g.D.Disk.view c.make.new.disk)
    (told (g.K.Sink.taken c.args.sink.now) left
    (told_draws (g.C.Clock.moments c.args.clock.now) (g.E.Entropy.stream c.args.entropy.now)))
    (told (g.K.Sink.taken c.make.new.sink) left d) c.make.result)
    (sym behind_draw)
    (c.make.ensures.run tells left
    (told_draws (g.C.Clock.moments c.args.clock.now) (g.E.Entropy.stream c.args.entropy.now))
    (subst (λ (bytes : List ℕ). AreDrawn (told_draws (g.C.Clock.moments c.args.clock.now)
    (g.E.Entropy.stream c.args.entropy.now)) c.now-moment.result bytes) (sym same)
    (are_drawn (g.C.Clock.moments c.args.clock.now)
    (g.E.Entropy.stream c.args.entropy.now) _ _ c.now-moment.ensures.first c.in-Ok.ensures.value)))

pub returns-in-Err-clause-run : goal.returns-in-Err-clause-run
returns-in-Err-clause-run g c =
    λ tells left. idle_run (create_of c.args.spec.now (in_force ((g.D.Disk.view c.args.disk.now).seen 0))) _
    (kept (g.D.Disk.view c.args.disk.now)) refl
