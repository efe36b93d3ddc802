use Rattle.std.proofs.Common.{◌<◌, ℕ, false, ap, subst, ◌∙◌}
use Rattle.std.specs.Prelude.{option_map}
use Rattle.command_plans.specs.Given.{IsApplied}
use Rattle.kdb_model.specs.Calls.{call_of}
use Rattle.mkey_admin.specs.Plans.{IsMasterChange}
use Rattle.primary_core.proofs.Asked.{called_told, rows_told, seen_told}
use Rattle.primary_core.proofs.primary.Primary.judge_masters.Goals as goal
use Rattle.primary_core.specs.Opened.{Opened}
use Rattle.princ_rows.specs.Rows.{RowLists}

pub returns-clause-refused : goal.returns-clause-refused
returns-clause-refused c = λ s why has is.
    c.plan.ensures.refused s _ why
    (seen_told (record {
      kept = c.self.inside.database;
      masters = c.self.inside.masters;
      dumps = c.self.inside.dumps;
      room = c.self.inside.room;
    }) c.args.self.now c.rows.result.now c.as_slice.result.now c.point.result c.later-moment.result c.args.now
    (record {
      is = c.self.view_is;
      rows_are = c.rows.ensures;
      realm_is = c.as_slice.ensures.value ∙ c.realm.ensures;
      point_is = c.point.ensures;
      moment_is = c.later-moment.ensures;
      below = subst (λ (n : ℕ). n < 1000000) c.usecs-micros.ensures.value c.usecs-micros.ensures.in_second;
    })
    s has c.valid_later.ensures.later)
    (called_told (record {
      kept = c.self.inside.database;
      masters = c.self.inside.masters;
      dumps = c.self.inside.dumps;
      room = c.self.inside.room;
    }) c.args.self.now c.rows.result.now c.as_slice.result.now c.point.result c.later-moment.result c.args.now
    (record {
      is = c.self.view_is;
      rows_are = c.rows.ensures;
      realm_is = c.as_slice.ensures.value ∙ c.realm.ensures;
      point_is = c.point.ensures;
      moment_is = c.later-moment.ensures;
      below = subst (λ (n : ℕ). n < 1000000) c.usecs-micros.ensures.value c.usecs-micros.ensures.in_second;
    })
    s has _ _ _ _)
    is

pub returns-clause-answer : goal.returns-clause-answer
returns-clause-answer c = λ s reply has is.
    c.plan.ensures.answer s _ reply
    (seen_told (record {
      kept = c.self.inside.database;
      masters = c.self.inside.masters;
      dumps = c.self.inside.dumps;
      room = c.self.inside.room;
    }) c.args.self.now c.rows.result.now c.as_slice.result.now c.point.result c.later-moment.result c.args.now
    (record {
      is = c.self.view_is;
      rows_are = c.rows.ensures;
      realm_is = c.as_slice.ensures.value ∙ c.realm.ensures;
      point_is = c.point.ensures;
      moment_is = c.later-moment.ensures;
      below = subst (λ (n : ℕ). n < 1000000) c.usecs-micros.ensures.value c.usecs-micros.ensures.in_second;
    })
    s has c.valid_later.ensures.later)
    (called_told (record {
      kept = c.self.inside.database;
      masters = c.self.inside.masters;
      dumps = c.self.inside.dumps;
      room = c.self.inside.room;
    }) c.args.self.now c.rows.result.now c.as_slice.result.now c.point.result c.later-moment.result c.args.now
    (record {
      is = c.self.view_is;
      rows_are = c.rows.ensures;
      realm_is = c.as_slice.ensures.value ∙ c.realm.ensures;
      point_is = c.point.ensures;
      moment_is = c.later-moment.ensures;
      below = subst (λ (n : ℕ). n < 1000000) c.usecs-micros.ensures.value c.usecs-micros.ensures.in_second;
    })
    s has _ _ _ _)
    is

pub returns-clause-change : goal.returns-clause-change
returns-clause-change c = λ s change has is.
    rows_told (record {
      kept = c.self.inside.database;
      masters = c.self.inside.masters;
      dumps = c.self.inside.dumps;
      room = c.self.inside.room;
    }) c.args.self.now c.rows.result.now c.as_slice.result.now c.point.result c.later-moment.result c.args.now
    (record {
      is = c.self.view_is;
      rows_are = c.rows.ensures;
      realm_is = c.as_slice.ensures.value ∙ c.realm.ensures;
      point_is = c.point.ensures;
      moment_is = c.later-moment.ensures;
      below = subst (λ (n : ℕ). n < 1000000) c.usecs-micros.ensures.value c.usecs-micros.ensures.in_second;
    })
    s has (λ (rows : RowLists). IsMasterChange rows s (call_of c.args.client.now
    (option_map (λ acl. acl.now) c.args.acl) c.args.command.now c.args.now c.args.random.now false) change)
    (c.plan.ensures.change s _ change
    (seen_told (record {
      kept = c.self.inside.database;
      masters = c.self.inside.masters;
      dumps = c.self.inside.dumps;
      room = c.self.inside.room;
    }) c.args.self.now c.rows.result.now c.as_slice.result.now c.point.result c.later-moment.result c.args.now
    (record {
      is = c.self.view_is;
      rows_are = c.rows.ensures;
      realm_is = c.as_slice.ensures.value ∙ c.realm.ensures;
      point_is = c.point.ensures;
      moment_is = c.later-moment.ensures;
      below = subst (λ (n : ℕ). n < 1000000) c.usecs-micros.ensures.value c.usecs-micros.ensures.in_second;
    })
    s has c.valid_later.ensures.later)
    (called_told (record {
      kept = c.self.inside.database;
      masters = c.self.inside.masters;
      dumps = c.self.inside.dumps;
      room = c.self.inside.room;
    }) c.args.self.now c.rows.result.now c.as_slice.result.now c.point.result c.later-moment.result c.args.now
    (record {
      is = c.self.view_is;
      rows_are = c.rows.ensures;
      realm_is = c.as_slice.ensures.value ∙ c.realm.ensures;
      point_is = c.point.ensures;
      moment_is = c.later-moment.ensures;
      below = subst (λ (n : ℕ). n < 1000000) c.usecs-micros.ensures.value c.usecs-micros.ensures.in_second;
    })
    s has _ _ _ _)
    is)

pub returns-clause-applies : goal.returns-clause-applies
returns-clause-applies c = λ change is.
    subst (λ (rows : RowLists). IsApplied rows change.op)
    (c.rows.ensures ∙ ap (λ (x : Opened). x.kept.rows) c.self.view_is) (c.plan.ensures.applies change is)
