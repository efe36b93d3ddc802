use Rattle.std.proofs.Common.{◌≡◌, ◌+◌, ◌^◌, ◌<◌, List, length, sym, ap, ◌∙◌, arith}
use Rattle.std.specs.List.{sum_by}
use Rattle.kdb_base.specs.declared.versions.AuxKey.{AuxKey}
use Rattle.tagged_data.specs.Versions.{aux_keys_text, length-aux_keys_text}
use Rattle.tagged_data.proofs.measures.aux_len.Goals as goal

is_sum : (items list : List AuxKey) → items ≡ list
    → sum_by (λ k. 6 + length k.wrapped) items ≡ length (aux_keys_text list)
is_sum items list e = ap (sum_by (λ (k : AuxKey). 6 + length k.wrapped)) e ∙ sym (length-aux_keys_text list)

pub measure_all-requires-clause-small : goal.measure_all-requires-clause-small
measure_all-requires-clause-small c =
    let total = is_sum c.as_slice.result.now c.args.list.now c.as_slice.ensures.value in
    let small : sum_by (λ (k : AuxKey). 6 + length k.wrapped) c.as_slice.result.now < 2 ^ 63 =
    omega (arith, total, c.requires.short) in
    small

pub returns : goal.returns
returns c = c.measure_all.ensures ∙ is_sum c.as_slice.result.now c.args.list.now c.as_slice.ensures.value
