use Rattle.std.proofs.Common.{Ok, Err, ap, subst, ◌∙◌}
use Rattle.std.specs.Prelude.{option_map}
use Rattle.kdb_model.specs.Laws.{IsPoint}
use Rattle.primary_core.proofs.Decisions.{err_halted, rows_decided, stopped}
use Rattle.primary_core.proofs.primary.Primary.decide_rows.Goals as goal
use Rattle.primary_core.specs.Opened.{place_of}

pub decided-requires : goal.decided-requires
decided-requires c = λ op e. c.judge.ensures.applies op (c.in-Ok.is ∙ ap Ok e)

pub returns-in-Ok-clause-decided : goal.returns-in-Ok-clause-decided
returns-in-Ok-clause-decided c =
    rows_decided c.args.self.now c.args.client.now (option_map (λ acl. acl.now) c.args.acl) c.args.ready.now.command
    c.args.now c.args.random.now
    (record {
      opened = c.holds_opened.ensures;
      command = c.requires.command;
      random_is = c.requires.random;
      clock_is = c.holds_moment.ensures;
      point_is = subst IsPoint c.point.ensures c.holds_point.ensures;
    })
    (record {
      answers = c.plans_are_performed.ensures.answers;
      changes = c.plans_are_performed.ensures.changes;
      late = c.changes_end_with_time.ensures;
      masters = c.planned_commands_keep_the_masters.ensures;
    })
    c.requires.planned c.in-Ok.planned (record {
      answer = λ s reply has e. c.judge.ensures.answer s reply has (c.in-Ok.is ∙ ap Ok e);
      change = λ s op has e. c.judge.ensures.change s op has (c.in-Ok.is ∙ ap Ok e);
      applies = λ op e. c.judge.ensures.applies op (c.in-Ok.is ∙ ap Ok e);
    }) c.decided.result c.decided.ensures

pub returns-in-Err-clause-decided : goal.returns-in-Err-clause-decided
returns-in-Err-clause-decided c =
    stopped c.args.self.now c.args.client.now (option_map (λ acl. acl.now) c.args.acl) c.args.ready.now.command
    c.args.now c.args.random.now
    c.in-Err.stop c.answered.result c.answered.ensures.refused c.answered.ensures.halted
    (λ s why has e. c.plans_are_performed.ensures.refused (place_of c.args.self.now) s c.args.client.now
    (option_map (λ acl. acl.now) c.args.acl) c.args.ready.now.command c.args.now c.args.random.now why
    (c.judge.ensures.refused s why has (c.in-Err.is ∙ ap Err e)))

pub returns-in-Err-clause-halted : goal.returns-in-Err-clause-halted
returns-in-Err-clause-halted c =
    err_halted c.in-Err.stop c.answered.result c.answered.ensures.refused c.answered.ensures.halted
    (λ halt e. c.judge.ensures.halted halt (c.in-Err.is ∙ ap Err e))
