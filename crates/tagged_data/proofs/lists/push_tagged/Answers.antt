use Rattle.std.proofs.Common.{length, ap, arith}
use Rattle.std.specs.Prelude.{List}
use Rattle.tagged_data.specs.Lists.{few}
use Rattle.tagged_data.specs.declared.items.TagItem.{TagItem}
use Rattle.tagged_data.proofs.lists.push_tagged.Goals as goal

pub write_list_u16-requires-clause-count : goal.write_list_u16-requires-clause-count
write_list_u16-requires-clause-count c = omega (
  arith,
  few c.args.list.now c.as_slice.ensures.tagged,
  ap (λ (items : List TagItem). length items) c.as_slice.ensures.value,
)
