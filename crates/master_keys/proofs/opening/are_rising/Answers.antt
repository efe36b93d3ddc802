use Rattle.std.proofs.Common.{rules}
use Rattle.std.proofs.lemmas.List.Sorted.{answers_always}
use Rattle.std.specs.Prelude.{nat_lt}
use Rattle.master_keys.proofs.Chains.{rising_answer}
use Rattle.master_keys.proofs.opening.are_rising.Goals as goal

pub returns : goal.returns
returns c =
    rising_answer c.args.masters.now c.is_sorted_by.result
    (c.is_sorted_by.ensures.cases (λ a b. nat_lt a.version b.version)
    (answers_always _ _ _ (λ f a r g called. search rules)))
