use Rattle.std.proofs.Common.{◌≡◌, List, length, sym, ap, ◌∙◌, arith}
use Rattle.std.specs.List.{sum_by}
use Rattle.tagged_data.specs.Strings.{strings_text}
use Rattle.tagged_data.specs.StringLaws.{string_len, length-strings_text, strings_short}
use Rattle.tagged_data.specs.declared.string_attributes.StringAttribute.{StringAttribute}
use Rattle.tagged_data.proofs.measures.strings_len.Goals as goal

is_sum : (items list : List StringAttribute) → items ≡ list → sum_by string_len items ≡ length (strings_text list)
is_sum items list e = ap (sum_by string_len) e ∙ sym (length-strings_text list)

pub measure_all-requires-clause-small : goal.measure_all-requires-clause-small
measure_all-requires-clause-small c =
    let total = is_sum c.as_slice.result.now c.args.list.now c.as_slice.ensures.value in
    let short = strings_short c.args.list.now c.requires in
    omega (arith, total)

pub returns-clause-value : goal.returns-clause-value
returns-clause-value c = c.measure_all.ensures ∙ is_sum c.as_slice.result.now c.args.list.now c.as_slice.ensures.value

pub returns-clause-small : goal.returns-clause-small
returns-clause-small c =
    let short = strings_short c.args.list.now c.requires in
    omega (arith, c.measure_all.ensures, is_sum c.as_slice.result.now c.args.list.now c.as_slice.ensures.value)
