use Rattle.std.proofs.Common.{◌≡◌, List, ap, ◌∙◌}
use Rattle.std.proofs.lemmas.List.Sorted.{All-permutation}
use Rattle.policy_rules.specs.Rules.{Rules}
use Rattle.princ_record.specs.Policies.{IsPolicy}
use Rattle.princ_record.specs.RowLimits.{IsRow}
use Rattle.princ_record.specs.declared.princs.Princ.{Princ as Principal}
use Rattle.princ_rows.specs.Rows.{RowLists}
use Rattle.kdb_cells.specs.Changes.{rows_of}
use Rattle.cell_files.proofs.KeptRows.{sorted_princs, sorted_policies, sorted_rows, is_some, at_some}
use Rattle.cell_files.proofs.sorting.rows_from.Goals as goal

pub from_vecs-requires-clause-princs : goal.from_vecs-requires-clause-princs
from_vecs-requires-clause-princs c =
    All-permutation IsRow c.args.princs.items _ c.sort_rows.ensures.moved c.requires.each_princ

pub from_vecs-requires-clause-policies : goal.from_vecs-requires-clause-policies
from_vecs-requires-clause-policies c =
    All-permutation IsPolicy c.args.policies.items _ c.sort_rows-2.ensures.moved c.requires.each_policy

pub unwrap-requires : goal.unwrap-requires
unwrap-requires c =
    let rows = sorted_rows c.args.princs.items c.sort_rows.new.items.items
    c.args.policies.items c.sort_rows-2.new.items.items c.requires c.sort_rows.ensures.moved c.sort_rows-2.ensures.moved
    c.sort_rows.ensures.sorted c.sort_rows-2.ensures.sorted in
    is_some c.from_vecs.result (λ none. c.from_vecs.ensures.none none rows)

pub returns : goal.returns
returns c = λ cells ps qs.
    let made : List Principal → List Rules → RowLists =
    λ princs policies. record { princs = princs; policies = policies } in
    let new = c.sort_rows.new.items.items in
    let later = c.sort_rows-2.new.items.items in
    at_some (λ (r : RowLists). r ≡ made new later) c.from_vecs.result c.unwrap.result c.unwrap.ensures
    c.from_vecs.ensures.some
    ∙ ap (λ (l : List Principal). made l later) (sorted_princs cells c.args.princs.items new ps
    c.sort_rows.ensures.moved c.sort_rows.ensures.sorted c.requires.princ_once)
    ∙ ap (made (rows_of cells).princs) (sorted_policies cells c.args.policies.items later qs c.sort_rows-2.ensures.moved
    c.sort_rows-2.ensures.sorted c.requires.policy_once)
