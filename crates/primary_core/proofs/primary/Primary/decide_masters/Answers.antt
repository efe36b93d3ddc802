use Rattle.std.proofs.Common.{Ok, Err, ap, subst, ◌∙◌}
use Rattle.std.specs.Prelude.{option_map}
use Rattle.kdb_model.specs.Laws.{IsPoint}
use Rattle.primary_core.proofs.Decisions.{err_halted, masters_decided, stopped}
use Rattle.primary_core.proofs.primary.Primary.decide_masters.Goals as goal
use Rattle.primary_core.specs.Opened.{place_of}

pub masters_decided-requires : goal.masters_decided-requires
masters_decided-requires c = λ change e. c.judge_masters.ensures.applies change (c.in-Ok.is ∙ ap Ok e)

pub returns-in-Ok-clause-decided : goal.returns-in-Ok-clause-decided
returns-in-Ok-clause-decided c =
    masters_decided c.args.self.now c.args.client.now (option_map (λ acl. acl.now) c.args.acl) c.args.command.now
    c.args.now c.args.random.now
    (record {
      opened = c.holds_opened.ensures;
      command = c.requires.command;
      random_is = c.requires.random;
      clock_is = c.holds_moment.ensures;
      point_is = subst IsPoint c.point.ensures c.holds_point.ensures;
    })
    (record {
      answers = c.master_plans_are_performed.ensures.answers;
      changes = c.master_plans_are_performed.ensures.changes;
      late = c.master_changes_end_with_time.ensures;
      masters = c.master_plans_are_performed.ensures.masters;
    })
    c.requires.masters c.in-Ok.planned (record {
      answer = λ s reply has e. c.judge_masters.ensures.answer s reply has (c.in-Ok.is ∙ ap Ok e);
      change = λ s change has e. c.judge_masters.ensures.change s change has (c.in-Ok.is ∙ ap Ok e);
      applies = λ change e. c.judge_masters.ensures.applies change (c.in-Ok.is ∙ ap Ok e);
    }) c.masters_decided.result c.masters_decided.ensures

pub returns-in-Err-clause-decided : goal.returns-in-Err-clause-decided
returns-in-Err-clause-decided c =
    stopped c.args.self.now c.args.client.now (option_map (λ acl. acl.now) c.args.acl) c.args.command.now c.args.now
    c.args.random.now
    c.in-Err.stop c.answered.result c.answered.ensures.refused c.answered.ensures.halted
    (λ s why has e. c.plans_are_performed.ensures.refused (place_of c.args.self.now) s c.args.client.now
    (option_map (λ acl. acl.now) c.args.acl) c.args.command.now c.args.now c.args.random.now why
    (c.judge_masters.ensures.refused s why has (c.in-Err.is ∙ ap Err e)))

pub returns-in-Err-clause-halted : goal.returns-in-Err-clause-halted
returns-in-Err-clause-halted c =
    err_halted c.in-Err.stop c.answered.result c.answered.ensures.refused c.answered.ensures.halted
    (λ halt e. c.judge_masters.ensures.halted halt (c.in-Err.is ∙ ap Err e))
