use Rattle.std.proofs.Common.{Ok, sym, ap, subst, ◌∙◌}
use Rattle.iprop_wire.specs.declared.due.Due.TheVariants as due
use Rattle.kdb_disk.specs.Frames.{IsCrashSafe}
use Rattle.kprop_rounds.specs.Hearing.{then_dump}
use Rattle.kprop_rounds.specs.Rounds.{EndsAs, RoundEnd, end_by_dump, end_of_asking}
use Rattle.kprop_rounds.proofs.Ends.{ended_here, nothing_safe, nothing_some}
use Rattle.kprop_rounds.proofs.Heard.{heard_is}
use Rattle.kprop_rounds.proofs.InTime.{ok_any}
use Rattle.replica_core.specs.Opened.{LeavesMade, place_of}
use Rattle.kprop_rounds.proofs.rounds.pull.Goals as goal

pub returns-in-Ok-heard_dump-clause-ends : goal.returns-in-Ok-heard_dump-clause-ends
returns-in-Ok-heard_dump-clause-ends g c rest told =
    subst (λ (e : RoundEnd). EndsAs c.install.result e (place_of c.args.replica.now) (place_of c.install.new.replica))
    (sym (ap (end_by_dump c.args.replica.now.size (place_of c.args.replica.now))
    (sym (ap then_dump (heard_is due.Dump c.in-Ok.arrival rest _ (c.in-Ok.ensures.arrives rest told)))
    ∙ sym c.heard_dump.ensures ∙ c.in-Ok-heard_dump.is ∙ ap Ok (sym c.as_slice.ensures))))
    c.install.ensures.ends

pub returns-in-Ok-heard_dump-clause-crash : goal.returns-in-Ok-heard_dump-clause-crash
returns-in-Ok-heard_dump-clause-crash g c rest told =
    subst (λ (e : RoundEnd).
    IsCrashSafe g.D.Disk c.args.disk.now c.install.new.disk (LeavesMade (place_of c.args.replica.now) e.made))
    (sym (ap (end_by_dump c.args.replica.now.size (place_of c.args.replica.now))
    (sym (ap then_dump (heard_is due.Dump c.in-Ok.arrival rest _ (c.in-Ok.ensures.arrives rest told)))
    ∙ sym c.heard_dump.ensures ∙ c.in-Ok-heard_dump.is ∙ ap Ok (sym c.as_slice.ensures))))
    c.install.ensures.crash

pub returns-in-Err-heard_dump-clause-ends : goal.returns-in-Err-heard_dump-clause-ends
returns-in-Err-heard_dump-clause-ends g c rest told =
    ended_here c.in-Err-heard_dump.word (end_of_asking c.args.replica.now.size (place_of c.args.replica.now) rest)
    (place_of c.args.replica.now)
    (ap (end_by_dump c.args.replica.now.size (place_of c.args.replica.now))
    (sym (ap then_dump (heard_is due.Dump c.in-Ok.arrival rest _ (c.in-Ok.ensures.arrives rest told)))
    ∙ sym c.heard_dump.ensures ∙ c.in-Err-heard_dump.is))

pub returns-in-Err-heard_dump-clause-crash : goal.returns-in-Err-heard_dump-clause-crash
returns-in-Err-heard_dump-clause-crash g c rest told =
    nothing_safe g.D.Disk c.args.disk.now c.args.replica.now.database
    (end_of_asking c.args.replica.now.size (place_of c.args.replica.now) rest).made c.requires.on

pub returns-in-Err-heard_dump-clause-some : goal.returns-in-Err-heard_dump-clause-some
returns-in-Err-heard_dump-clause-some g c =
    nothing_some g.D.Disk c.args.disk.now c.args.replica.now.size c.args.replica.now.database c.requires.on

pub returns-in-Err-clause-crash : goal.returns-in-Err-clause-crash
returns-in-Err-clause-crash g c rest told =
    nothing_safe g.D.Disk c.args.disk.now c.args.replica.now.database
    (end_of_asking c.args.replica.now.size (place_of c.args.replica.now) rest).made c.requires.on

pub returns-in-Err-clause-some : goal.returns-in-Err-clause-some
returns-in-Err-clause-some g c =
    nothing_some g.D.Disk c.args.disk.now c.args.replica.now.size c.args.replica.now.database c.requires.on

pub returns-in-Ok-heard_dump-clause-in_time : goal.returns-in-Ok-heard_dump-clause-in_time
returns-in-Ok-heard_dump-clause-in_time g c rest n told all =
    ok_any c.install.result (c.in-Ok.ensures.in_time rest n told all)
