use Rattle.kdb_plain.specs.Changes.{name_of, policy_name}
use Rattle.kdb_plain.specs.States.{policy_named, princ_named}
use Rattle.kdb_plain.proofs.Named.{put_own, put_other, drop_own, drop_other}
use Rattle.kdb_plain.proofs.laws.changes_are_found.Goals as goal

pub returns-clause-put : goal.returns-clause-put
unfolding princ_named
returns-clause-put c = λ q s. put_own name_of q s.princs

pub returns-clause-others : goal.returns-clause-others
unfolding princ_named
returns-clause-others c = λ name q s other. put_other name_of name q s.princs other

pub returns-clause-dropped : goal.returns-clause-dropped
unfolding princ_named
returns-clause-dropped c = λ name s. drop_own name_of name s.princs

pub returns-clause-left : goal.returns-clause-left
unfolding princ_named
returns-clause-left c = λ name gone s other. drop_other name_of name gone s.princs other

pub returns-clause-put_policy : goal.returns-clause-put_policy
unfolding policy_named
returns-clause-put_policy c = λ p s. put_own policy_name p s.policies

pub returns-clause-other_policies : goal.returns-clause-other_policies
unfolding policy_named
returns-clause-other_policies c = λ name p s other. put_other policy_name name p s.policies other

pub returns-clause-dropped_policy : goal.returns-clause-dropped_policy
unfolding policy_named
returns-clause-dropped_policy c = λ name s. drop_own policy_name name s.policies

pub returns-clause-left_policies : goal.returns-clause-left_policies
unfolding policy_named
returns-clause-left_policies c = λ name gone s other. drop_other policy_name name gone s.policies other
