use Rattle.std.proofs.Common.{◌≡◌, List, ap, ◌∙◌, arith}
use Rattle.std.specs.List.{sum_by}
use Rattle.princ_record.specs.SizeLaws.{length-princ}
use Rattle.princ_keys.specs.Sizes.{key_len, old_set_len}
use Rattle.princ_keys.specs.declared.keys.KeyItem.{KeyItem}
use Rattle.princ_keys.specs.declared.remembered.OldSet.{OldSet}
use Rattle.princ_record.proofs.measures.encoded_len.Goals as goal

pub returns : goal.returns
returns c =
    let keys : c.keys_len.result ≡ sum_by key_len c.args.value.now.keys =
    c.keys_len.ensures.value ∙ ap (λ (xs : List KeyItem). sum_by key_len xs) c.as_slice.ensures in
    let sets : c.sets_len.result ≡ sum_by old_set_len c.args.value.now.old =
    c.sets_len.ensures.value ∙ ap (λ (xs : List OldSet). sum_by old_set_len xs) c.as_slice-2.ensures in
    omega (
      arith,
      length-princ c.args.value.now,
      c.len.ensures,
      c.len-2.ensures,
      c.policy_name_len.ensures.value,
      c.pw_text_len.ensures.value,
      c.chain_len.ensures.value,
      c.strings_item_len.ensures.value,
      keys,
      sets,
    )
