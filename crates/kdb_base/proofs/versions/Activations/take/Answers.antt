use Rattle.std.proofs.Common.{◌≡◌, []}
use Rattle.std.specs.List.Sorted.{IsStrictlySortedBy}
use Rattle.kdb_base.proofs.versions.Activations.take.Goals as goal

-- the list that stays is empty
pub invariant_of-self : goal.invariant_of-self
unfolding IsStrictlySortedBy
invariant_of-self c =
    let none : c.replace.new.dest.items ≡ [] = rw c.replace.ensures.after c.new.ensures.items in
    rw none tt
