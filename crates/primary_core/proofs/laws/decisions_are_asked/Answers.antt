use Rattle.primary_core.proofs.Asking.{answered, kept, left, mastered, placed}
use Rattle.primary_core.proofs.laws.decisions_are_asked.Goals as goal

pub returns-clause-answers : goal.returns-clause-answers
returns-clause-answers c = λ o ask reply change s d has. answered o ask reply s change d has

pub returns-clause-place : goal.returns-clause-place
returns-clause-place c = λ o ask reply change s d has. placed o ask reply s change d has

pub returns-clause-keeps : goal.returns-clause-keeps
returns-clause-keeps c = λ o ask reply s d has. kept o ask reply s d has

pub returns-clause-leaves : goal.returns-clause-leaves
returns-clause-leaves c = λ o ask reply change s d has. left o ask reply s change d has

pub returns-clause-masters : goal.returns-clause-masters
returns-clause-masters c = λ o ask reply change s d has. mastered o ask reply s change d has
