use Rattle.std.proofs.Common.{List, subst, ap, ◌∙◌}
use Rattle.std.specs.Prelude.{nat_eq}
use Rattle.std.specs.List.{find}
use Rattle.kdb_format.specs.Fields.{IsBytes}
use Rattle.tagged_data.proofs.Found.{bytes_there, content_there, content_missing}
use Rattle.tagged_data.specs.Lists.{content}
use Rattle.tagged_data.specs.declared.items.TagItem.{TagItem}
use Rattle.tagged_data.proofs.lists.content.Goals as goal

pub returns-in-Some-clause-bytes : goal.returns-in-Some-clause-bytes
returns-in-Some-clause-bytes c =
    let same = ap (λ (items : List TagItem). find (λ i. nat_eq i.kind c.args.kind) items) c.as_slice.ensures.value in
    let here = content_there c.args.kind c.args.list.now c.in-Some.item.now (c.in-Some.ensures ∙ same) in
    bytes_there (content c.args.kind c.args.list.now) c.in-Some.item.now.bytes here
    (subst IsBytes (c.new.ensures ∙ c.as_slice-bytes.ensures) c.holds_bytes.ensures)

pub returns-in-None-clause-bytes : goal.returns-in-None-clause-bytes
returns-in-None-clause-bytes c = λ bytes e.
    let same = ap (λ (items : List TagItem). find (λ i. nat_eq i.kind c.args.kind) items) c.as_slice.ensures.value in
    absurd (content_missing c.args.kind c.args.list.now (c.in-None.ensures ∙ same) bytes e)
