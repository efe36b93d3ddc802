use Rattle.std.proofs.Common.{◌+◌, arith, refl, length, ap, ◌∙◌}
use Rattle.kdb_plain.specs.Heads.{plain_head}
use Rattle.kdb_plain.specs.Lengths.{in_64_bits}
use Rattle.princ_record.specs.Princs.{name_of}
use Rattle.princ_record.specs.SizeLaws.{length-princ}
use Rattle.princ_record.specs.Sizes.{pw_text_len, strings_item_len}
use Rattle.kdb_plain.proofs.lengths.head_len.Goals as goal

pub returns : goal.returns
returns c =
    let q = c.args.value.now in
    let names = c.add-names.ensures (length q.name) (length q.modifier) (grind arith) (grind arith) in
    let tags = c.add-tags.ensures (pw_text_len q.pw_changed) (strings_item_len q.strings)
    (grind arith) c.strings_item_len.ensures in
    let words =
    c.add-words.ensures (length q.name + length q.modifier) (length (name_of q.policy)) names (grind arith) in
    let fields = c.add.ensures (length q.name + length q.modifier + length (name_of q.policy))
    (pw_text_len q.pw_changed + strings_item_len q.strings) words tags in
    let whole = c.add-2.ensures 45 (length q.name + length q.modifier + length (name_of q.policy)
    + (pw_text_len q.pw_changed + strings_item_len q.strings)) refl fields in
    whole ∙ ap in_64_bits (omega (arith, length-princ (plain_head q)))
