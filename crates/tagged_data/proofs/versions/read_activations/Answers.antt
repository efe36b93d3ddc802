use Rattle.std.proofs.Common.{List, map, sym, ap, ◌∙◌}
use Rattle.kdb_base.specs.declared.versions.Activation.{Activation}
use Rattle.tagged_data.specs.Rising.{rising_from, rising_is}
use Rattle.tagged_data.proofs.versions.read_activations.Goals as goal

pub from_vec-requires : goal.from_vec-requires
from_vec-requires c =
    rising_is (map (λ (x : Activation). x.version) c.in-Ok.items.items)
    (ap (λ (xs : List Activation). rising_from 0 (map (λ (x : Activation). x.version) xs)) (sym c.deref.ensures.value)
    ∙ sym c.are_rising.ensures ∙ c.if-not-are_rising.false)
