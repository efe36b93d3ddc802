use Rattle.std.proofs.Common.{◌∙◌, ap, subst, sym}
use Rattle.std.specs.Prelude.{map}
use Rattle.princ_rows.specs.Effects.{drop_by}
use Rattle.tagged_data.specs.KeyOrder.{AreInOrder}
use Rattle.princ_rows.proofs.Orders.{drop_order}
use Rattle.kdb_plain.specs.Strings.{key_of}
use Rattle.kdb_plain.proofs.strings.without_string.Goals as goal

pub from_vec-requires : goal.from_vec-requires
from_vec-requires c = subst (λ list. AreInOrder (map key_of list)) (sym c.take_away.ensures)
    (drop_order key_of c.args.key.now c.into_vec-items.result.items c.into_vec-items.ensures.rising)

pub returns : goal.returns
returns c = c.from_vec.ensures ∙ c.take_away.ensures ∙ ap (drop_by key_of c.args.key.now) c.into_vec-items.ensures.value
