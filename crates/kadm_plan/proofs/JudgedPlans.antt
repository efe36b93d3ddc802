-- What a judged command tells of a state.
use Rattle.std.proofs.Common.{◌≡◌, List, Option, ap, subst, ◌∙◌}
use Rattle.std.specs.Prelude.{Result, Ok, Err, Some, option_map}
use Rattle.command_plans.specs.Given.{IsAnswer, IsApplied, IsCallOf, IsChange}
use Rattle.command_plans.specs.Given.{IsGiven, IsJudged, IsPlan, IsSeenBy, MayApply}
use Rattle.command_plans.specs.declared.given.Given.{Given}
use Rattle.command_plans.specs.declared.planned.Planned.{Planned}
use Rattle.command_plans.specs.declared.planned.Planned.TheVariants.{Answer, Change}
use Rattle.kadm_commands.specs.declared.commands.Command.{Command}
use Rattle.kadm_commands.specs.declared.replies.Reply.{Reply}
use Rattle.kdb_base.specs.declared.outcomes.Refusal.{Refusal}
use Rattle.kdb_base.specs.declared.outcomes.Stop.{Stop}
use Rattle.kdb_base.specs.declared.outcomes.Stop.TheVariants.{Refused, Halt}
use Rattle.kdb_model.specs.Calls.{Call}
use Rattle.kdb_model.specs.Refusals.{refusal}
use Rattle.kdb_plain.specs.declared.states.State.{State}
use Rattle.princ_rows.specs.declared.entries.Op.{Op}

module _ (g : Given) (cmd : Command) (plan : Result Planned Refusal) (judged : IsJudged g cmd plan) where
  module _ (s : State) (call : Call) (seen : IsSeenBy g.rows.now g.masters.now g.realm.now g.moment s)
      (called : IsCallOf s g.client.now (option_map (λ acl. acl.now) g.acl) cmd g.moment g.random.now call) where
    given : IsGiven g cmd s call
    given = record { seen = seen; called = called }

    pub judged_refused : (why : Refusal) → plan ≡ Err why → refusal s call ≡ Some why
    judged_refused why is = subst (IsPlan g.rows.now s call) is (judged.plan_is s call given)

    pub judged_answer : (reply : Reply) → plan ≡ Ok (Answer reply) → IsAnswer s call reply
    judged_answer reply is = subst (IsPlan g.rows.now s call) is (judged.plan_is s call given)

    pub judged_change : (op : Op) → plan ≡ Ok (Change op) → IsChange g.rows.now s call op
    judged_change op is = subst (IsPlan g.rows.now s call) is (judged.plan_is s call given)

  pub judged_applies : (op : Op) → plan ≡ Ok (Change op) → IsApplied g.rows.now op
  judged_applies op is = subst (MayApply g.rows.now) is judged.applies

-- ---- the same answer with another kind of refusal

abbrev planned_of : Planned → Result Planned Stop → Planned
planned_of other (Ok planned) = planned
planned_of other (Err stop) = other

abbrev why_of : Refusal → Result Planned Stop → Refusal
why_of other (Ok planned) = other
why_of other (Err (Refused why)) = why
why_of other (Err (Halt halt)) = other

pub planned_on : (plan : Result Planned Refusal) (a b : Planned) → plan ≡ Ok a
    → (let answer : Result Planned Stop = Ok a in answer) ≡ Ok b → plan ≡ Ok b
planned_on plan a b is same = is ∙ ap Ok (ap (planned_of a) same)

pub refused_on : (plan : Result Planned Refusal) (a b : Refusal) → plan ≡ Err a
    → (let answer : Result Planned Stop = Err (Refused a) in answer) ≡ Err (Refused b) → plan ≡ Err b
refused_on plan a b is same = is ∙ ap Err (ap (why_of a) same)
