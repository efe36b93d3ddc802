use Rattle.master_keys.proofs.Chains.{same_blob}
use Rattle.std.proofs.Common.{◌∙◌}
use Rattle.row_keys.proofs.Items.{item_is}
use Rattle.row_keys.proofs.opening.open_item.Goals as goal

pub returns-in-Ok-copy_salt-clause-only : goal.returns-in-Ok-copy_salt-clause-only
returns-in-Ok-copy_salt-clause-only c k h =
    item_is k c.args.item.now.kvno c.in-Ok-copy_salt.salt c.in-Ok.key h.kvno (c.in-Ok-copy_salt.ensures ∙ h.salt)
    (c.in-Ok.ensures.only k.key (same_blob _ _ c.as_slice.ensures h.holds))

pub returns-in-Err-clause-only : goal.returns-in-Err-clause-only
returns-in-Err-clause-only c k h = c.in-Err.ensures.only k.key (same_blob _ _ c.as_slice.ensures h.holds)
