use Rattle.std.proofs.Common.{◌≡◌, ap, rules, sym, Err}
use Rattle.std.specs.Prelude.{is_some}
use Rattle.kdb_base.specs.Key.{Key}
use Rattle.princ_keys.specs.declared.keys.KeyItem.{KeyItem}
use Rattle.master_keys.specs.Rewrapping.{Holds}
use Rattle.master_keys.proofs.Errors.{only_memory, was_wrong}
use Rattle.master_keys.proofs.Rewrapped.{not_each, zip_to}
use Rattle.master_keys.proofs.Spelled.{rewrapped_spelled}
use Rattle.master_keys.proofs.rewrapping.rewrap_by.Goals as goal

pub returns-in-Err-clause-complete : goal.returns-in-Err-clause-complete
returns-in-Err-clause-complete c all =
    only_memory c.in-Err.fault c.from.result c.from.ensures
    (λ wrong. not_each c.args.old.now c.args.princ.now.keys all
    (rw c.as_slice-items.ensures at c.in-Err.ensures.wrong (ap Err wrong)))

pub returns-in-Err-clause-wrong : goal.returns-in-Err-clause-wrong
returns-in-Err-clause-wrong c e = rw c.as_slice-items.ensures at c.in-Err.ensures.wrong
    (ap Err (was_wrong c.in-Err.fault c.from.result c.from.ensures e))

pub wrap_items-requires-clause-types : goal.wrap_items-requires-clause-types
wrap_items-requires-clause-types c =
    rw c.deref.ensures.value
    (zip_to (Holds c.args.old.now) (λ (item : KeyItem) (key : Key). item.etype ≡ key.etype)
    (λ item key h. sym h.of_type) c.as_slice-items.result.now c.in-Ok.keys.items c.in-Ok.ensures.ok)

pub returns-in-Ok-with_master-clause-ok : goal.returns-in-Ok-with_master-clause-ok
returns-in-Ok-with_master-clause-ok c = search rules

pub returns-in-Ok-with_master-clause-spelled : goal.returns-in-Ok-with_master-clause-spelled
returns-in-Ok-with_master-clause-spelled c f none some =
    rewrapped_spelled _ _ _ _ _ _ (returns-in-Ok-with_master-clause-ok c) f (ap is_some none) some c.ranges.version.fits
