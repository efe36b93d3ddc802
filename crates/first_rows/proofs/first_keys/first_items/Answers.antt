use Rattle.row_keys.proofs.Blocks.{drawn_taken}
use Rattle.first_rows.proofs.first_keys.first_items.Goals as goal

pub wrapped_items-requires : goal.wrapped_items-requires
wrapped_items-requires c =
    rw (
      c.as_slice-2.ensures,
      c.in_ok-plain.ensures,
      c.as_slice.ensures,
      c.in_ok-keys.ensures,
      drawn_taken c.args.random.now c.args.etypes.now 1,
    )
    c.requires
