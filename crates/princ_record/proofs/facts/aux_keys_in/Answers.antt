use Rattle.std.proofs.Common.{List, map, sym, ap, ◌∙◌}
use Rattle.kdb_base.specs.declared.versions.AuxKey.{AuxKey}
use Rattle.tagged_data.specs.Rising.{rising_from, rising_is}
use Rattle.princ_record.proofs.facts.aux_keys_in.Goals as goal

pub from_vec-requires : goal.from_vec-requires
from_vec-requires c =
    rising_is (map (λ (x : AuxKey). x.version) c.in_ok-keys.keys.items)
    (ap (λ (xs : List AuxKey). rising_from 0 (map (λ (x : AuxKey). x.version) xs)) (sym c.deref.ensures.value)
    ∙ sym c.are_rising.ensures ∙ c.if-not-are_rising.false)
