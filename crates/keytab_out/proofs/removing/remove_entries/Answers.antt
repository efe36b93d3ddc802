use Rattle.std.proofs.Common.{ap, subst, ◌∙◌, arith, map}
use Rattle.std.specs.List.{All}
use Rattle.stash_file.specs.Answers.{told}
use Rattle.keytab_out.specs.Entries.{IsListed}
use Rattle.keytab_out.specs.Removed.{greatest_of}
use Rattle.keytab_out.proofs.Removals.{all_left, are_kept}
use Rattle.keytab_out.proofs.removing.remove_entries.Goals as goal

pub from_vec-requires : goal.from_vec-requires
from_vec-requires c =
    let greatest =
    c.greatest_of-greatest.ensures ∙ ap (λ xs. greatest_of c.args.name.now (map told xs)) c.deref.ensures.value in
    let kept = are_kept c.args.name.now c.args.which c.args.list.now c.take-items.result.items _
    c.greatest_of-greatest.result c.take-items.ensures.value greatest c.keep_others.ensures in
    all_left c.args.name.now c.args.which c.args.list.now c.take-items.result.items _ kept
    (subst (All IsListed) c.take-items.ensures.value c.take-items.ensures.listed)

pub returns-clause-left : goal.returns-clause-left
returns-clause-left c =
    let greatest =
    c.greatest_of-greatest.ensures ∙ ap (λ xs. greatest_of c.args.name.now (map told xs)) c.deref.ensures.value in
    let kept = are_kept c.args.name.now c.args.which c.args.list.now c.take-items.result.items _
    c.greatest_of-greatest.result c.take-items.ensures.value greatest c.keep_others.ensures in
    c.from_vec.ensures ∙ kept.left

pub returns-clause-count : goal.returns-clause-count
returns-clause-count c =
    let greatest =
    c.greatest_of-greatest.ensures ∙ ap (λ xs. greatest_of c.args.name.now (map told xs)) c.deref.ensures.value in
    let kept = are_kept c.args.name.now c.args.which c.args.list.now c.take-items.result.items _
    c.greatest_of-greatest.result c.take-items.ensures.value greatest c.keep_others.ensures in
    omega (arith, kept.count, c.len.ensures, c.len-before.ensures)

pub overflow_sub-count : goal.overflow_sub-count
overflow_sub-count c =
    let greatest =
    c.greatest_of-greatest.ensures ∙ ap (λ xs. greatest_of c.args.name.now (map told xs)) c.deref.ensures.value in
    let kept = are_kept c.args.name.now c.args.which c.args.list.now c.take-items.result.items _
    c.greatest_of-greatest.result c.take-items.ensures.value greatest c.keep_others.ensures in
    omega (arith, kept.few, c.len.ensures, c.len-before.ensures)
