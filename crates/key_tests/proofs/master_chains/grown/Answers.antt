use Rattle.std.proofs.Common.{ap, ◌∙◌, length, arith}
use Rattle.std.proofs.lemmas.List.{length-append}
use Rattle.master_keys.specs.Adding.{added_masters, next_version}
use Rattle.master_keys.specs.Versions.{last_version}
use Rattle.master_keys.proofs.Added.{last_added}
use Rattle.key_tests.proofs.master_chains.grown.Goals as goal

pub returns-clause-more : goal.returns-clause-more
unfolding added_masters
returns-clause-more c = rw c.in_ok-add.ensures.masters (length-append _ _)

pub returns-clause-last : goal.returns-clause-last
unfolding next_version
returns-clause-last c = ap last_version c.in_ok-add.ensures.masters ∙ last_added _ _
