use Rattle.std.proofs.Common.{◌≡◌, ◌+◌, ℕ, length, subst}
use Rattle.std.specs.Prelude.{IfOk}
use Rattle.master_keys.specs.Versions.{last_version}
use Rattle.key_tests.proofs.master_chains.two_grown.Goals as goal

pub returns-clause-two : goal.returns-clause-two
returns-clause-two c = subst (λ (n : ℕ). IfOk c.grown.result (λ both. length both.1 ≡ n + 1))
    c.in_ok-entry.ensures.one c.grown.ensures.more

pub returns-clause-last : goal.returns-clause-last
returns-clause-last c = subst (λ (n : ℕ). IfOk c.grown.result (λ both. last_version both.1 ≡ n + 1))
    c.in_ok-entry.ensures.last c.grown.ensures.last
