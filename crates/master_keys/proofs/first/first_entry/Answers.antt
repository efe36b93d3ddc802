use Rattle.std.proofs.Common.{refl}
use Rattle.master_keys.specs.First.{master_name, admin_name, first_record}
use Rattle.master_keys.proofs.first.first_entry.Goals as goal

pub returns-clause-entry : goal.returns-clause-entry
unfolding first_record master_name admin_name
returns-clause-entry c =
    rw (
      c.in_ok-name.ensures,
      c.in_ok-modifier.ensures,
      c.in_ok-keys.ensures.keys,
      c.in_ok-part.ensures,
      c.from_vec.ensures,
      c.new.ensures.items,
      c.new-2.ensures,
    ) refl
