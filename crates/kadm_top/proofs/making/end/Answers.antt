use Rattle.std.proofs.Common.{◌≡◌, ◌∙◌, ap, refl, rules}
use Rattle.std.specs.Prelude.{Err}
use Rattle.session_base.specs.Halts.{disk_as_session}
use Rattle.kadm_top.proofs.Creating.{end_cut, end_done, end_halted, end_refusal_cut, end_refused}
use Rattle.kadm_top.proofs.Running.{says_no_disk, spares_for_memory}
use Rattle.kadm_top.proofs.making.end.Goals as goal
use Rattle.kdb_base.specs.declared.outcomes.Stop.TheVariants.{Halt}
use Rattle.kdb_control.specs.Force.{in_force}

pub returns-in-Ok-say_ended-clause-run : goal.returns-in-Ok-say_ended-clause-run
returns-in-Ok-say_ended-clause-run g c = λ told left draws.
    end_done (in_force ((g.D.Disk.view c.args.disk.now).seen 0))
    (c.in-Ok.ensures.answer told) (c.destroy_files.ensures.crash.told told)
    (record { none = c.in-Ok.ensures.none told; empty = c.in-Ok.ensures.empty told }) c.in-Ok-say_ended.ensures.ok refl

pub returns-in-Err-clause-run : goal.returns-in-Err-clause-run
returns-in-Err-clause-run g c = λ told left draws.
    end_cut (in_force ((g.D.Disk.view c.args.disk.now).seen 0)) _
    (c.in-Ok.ensures.answer told) (c.destroy_files.ensures.crash.told told)
    (record { none = c.in-Ok.ensures.none told; empty = c.in-Ok.ensures.empty told }) c.in-Err.ensures.err (λ no. no)

pub returns-in-Ok-refuse-clause-run : goal.returns-in-Ok-refuse-clause-run
returns-in-Ok-refuse-clause-run g c = λ told left draws.
    let is = c.in-Err-Refused.is ∙ ap Err c.in-Err-Refused.field-0-is in
    end_refused c.destroy_files.result (in_force ((g.D.Disk.view c.args.disk.now).seen 0)) c.in-Err-Refused.refusal is
    (c.destroy_files.ensures.answer told) (c.destroy_files.ensures.refused told c.in-Err-Refused.refusal is)
    c.in-Ok-refuse.ensures.ok refl

pub returns-in-Err-refuse-clause-run : goal.returns-in-Err-refuse-clause-run
returns-in-Err-refuse-clause-run g c = λ told left draws.
    let is = c.in-Err-Refused.is ∙ ap Err c.in-Err-Refused.field-0-is in
    end_refusal_cut c.destroy_files.result (in_force ((g.D.Disk.view c.args.disk.now).seen 0)) c.in-Err-Refused.refusal
    _ is (c.destroy_files.ensures.answer told) (c.destroy_files.ensures.refused told c.in-Err-Refused.refusal is)
    c.in-Err-refuse.ensures.err (λ spares. ap g.K.Sink.taken (c.in-Err-refuse.ensures.rests spares))

pub returns-in-Err-Halt-clause-run : goal.returns-in-Err-Halt-clause-run
returns-in-Err-Halt-clause-run g c = λ told left draws.
    let gives : c.from.result ≡ disk_as_session c.in-Err-Halt.halt = search rules in
    end_halted (in_force ((g.D.Disk.view c.args.disk.now).seen 0)) _ (c.destroy_files.ensures.crash.told told)
    (c.destroy_files.ensures.unchosen told) refl
    (λ spares. c.destroy_files.ensures.memory (c.in-Err-Halt.is
    ∙ ap Err (c.in-Err-Halt.field-0-is ∙ ap Halt (spares_for_memory c.in-Err-Halt.halt c.from.result gives spares))))

pub returns-in-Err-clause-call : goal.returns-in-Err-clause-call
returns-in-Err-clause-call g c = record {
  same = c.destroy_files.ensures.call.same;
  later = c.destroy_files.ensures.call.later;
  cause = λ e. absurd cc;
}

pub returns-in-Err-refuse-clause-call : goal.returns-in-Err-refuse-clause-call
returns-in-Err-refuse-clause-call g c = record {
  same = c.destroy_files.ensures.call.same;
  later = c.destroy_files.ensures.call.later;
  cause = λ e. says_no_disk c.in-Err-refuse.halt c.in-Err-refuse.ensures.halt e;
}
