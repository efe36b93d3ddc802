use Rattle.std.proofs.Common.{rules}
use Rattle.std.specs.Ordering.{is_lt}
use Rattle.std.proofs.lemmas.Cmp.{nat_list_cmp_total}
use Rattle.std.proofs.lemmas.Fn.{always_returns_same}
use Rattle.std.proofs.lemmas.List.Sorted.{ranks_by}
use Rattle.tagged_data.specs.KeyOrder.{key_cmp}
use Rattle.cell_files.proofs.sorting.sort_rows.Goals as goal

pub returns-clause-sorted : goal.returns-clause-sorted
returns-clause-sorted g c =
    let key = g.T.Keyed.key_of in
    c.sort_unstable_by.ensures.sorted (λ x y. is_lt (key_cmp (key x) (key y))) (ranks_by nat_list_cmp_total key)
    (always_returns_same _ _ _ (λ a r f' called. (search rules, search rules)))
