use Rattle.std.proofs.Common.{◌≡◌, ◌∙◌, List, ℕ, ap, refl, rules, subst}
use Rattle.std.specs.Prelude.{Err}
use Rattle.kadm_top.specs.Run.{refusal_line}
use Rattle.session_base.specs.Halts.{disk_as_session}
use Rattle.kadm_top.proofs.Creating.{create_cut, create_halted, create_made, create_refusal_cut, create_refused}
use Rattle.kadm_top.proofs.Running.{says_no_disk, spares_for_memory}
use Rattle.kadm_top.proofs.making.make_printed.Goals as goal
use Rattle.kdb_base.specs.declared.outcomes.Refusal.{Refusal}
use Rattle.kdb_base.specs.declared.outcomes.Stop.TheVariants.{Halt}
use Rattle.kdb_control.specs.Force.{in_force}
use Rattle.kdb_disk.proofs.Runs.{kept}
use Rattle.kdb_ports.specs.Parts.{SaidPart}
use Rattle.kdb_ports.specs.Told.{after_told}

pub returns-in-Ok-write_whole-clause-run : goal.returns-in-Ok-write_whole-clause-run
returns-in-Ok-write_whole-clause-run g c = λ told left draws drawn.
    create_made c.args.spec.now (in_force ((g.D.Disk.view c.args.disk.now).seen 0)) c.args.moment c.args.random.now
    drawn (c.in-Ok.ensures.answer told)
    (c.make_files.ensures.moments told) (c.in-Ok.ensures.made told)
    (c.in-Ok-write_whole.ensures.ok ∙ ap (after_told (g.K.Sink.taken c.args.sink.now)) c.requires.text) refl

pub returns-in-Err-clause-run : goal.returns-in-Err-clause-run
returns-in-Err-clause-run g c = λ told left draws drawn.
    create_cut c.args.spec.now (in_force ((g.D.Disk.view c.args.disk.now).seen 0)) c.args.moment c.args.random.now _
    drawn (c.in-Ok.ensures.answer told)
    (c.make_files.ensures.moments told) (c.in-Ok.ensures.made told)
    (subst (λ (text : List ℕ). SaidPart text (g.K.Sink.taken c.args.sink.now) (g.K.Sink.taken c.write_whole.new.sink))
    c.requires.text c.in-Err.ensures.err)
    (λ no. no)

pub returns-in-Ok-refuse-clause-run : goal.returns-in-Ok-refuse-clause-run
returns-in-Ok-refuse-clause-run g c = λ told left draws drawn.
    let is = c.in-Err-Refused.is ∙ ap Err c.in-Err-Refused.field-0-is in
    create_refused c.make_files.result c.args.spec.now (in_force ((g.D.Disk.view c.args.disk.now).seen 0))
    c.in-Err-Refused.refusal is (c.make_files.ensures.answer told)
    (c.make_files.ensures.refused told c.in-Err-Refused.refusal is)
    (c.in-Ok-refuse.ensures.ok ∙ ap (λ (r : Refusal). after_told (g.K.Sink.taken c.args.sink.now) (refusal_line r))
    c.in-Err-Refused.refusal-is) refl

pub returns-in-Err-refuse-clause-run : goal.returns-in-Err-refuse-clause-run
returns-in-Err-refuse-clause-run g c = λ told left draws drawn.
    let is = c.in-Err-Refused.is ∙ ap Err c.in-Err-Refused.field-0-is in
    create_refusal_cut c.make_files.result c.args.spec.now (in_force ((g.D.Disk.view c.args.disk.now).seen 0))
    c.in-Err-Refused.refusal _ is (c.make_files.ensures.answer told)
    (c.make_files.ensures.refused told c.in-Err-Refused.refusal is)
    c.in-Err-refuse.ensures.err (λ spares. ap g.K.Sink.taken (c.in-Err-refuse.ensures.rests spares))

pub returns-in-Err-Halt-clause-run : goal.returns-in-Err-Halt-clause-run
returns-in-Err-Halt-clause-run g c = λ told left draws drawn.
    let gives : c.from.result ≡ disk_as_session c.in-Err-Halt.halt = search rules in
    create_halted c.args.spec.now (in_force ((g.D.Disk.view c.args.disk.now).seen 0)) c.args.moment c.args.random.now _
    drawn (c.make_files.ensures.moments told) (c.make_files.ensures.there told) refl
    (λ spares.
    let same : c.make_files.new.disk ≡ c.args.disk.now = c.make_files.ensures.memory (c.in-Err-Halt.is
    ∙ ap Err (c.in-Err-Halt.field-0-is ∙ ap Halt (spares_for_memory c.in-Err-Halt.halt c.from.result gives spares))) in
    rw same (kept (g.D.Disk.view c.args.disk.now)))

pub returns-in-Err-clause-call : goal.returns-in-Err-clause-call
returns-in-Err-clause-call g c =
    record { same = c.make_files.ensures.call.same; later = c.make_files.ensures.call.later; cause = λ e. absurd cc }

pub returns-in-Err-refuse-clause-call : goal.returns-in-Err-refuse-clause-call
returns-in-Err-refuse-clause-call g c = record {
  same = c.make_files.ensures.call.same;
  later = c.make_files.ensures.call.later;
  cause = λ e. says_no_disk c.in-Err-refuse.halt c.in-Err-refuse.ensures.halt e;
}
