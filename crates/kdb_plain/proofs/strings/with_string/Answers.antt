use Rattle.std.proofs.Common.{subst, sym}
use Rattle.std.specs.Prelude.{map}
use Rattle.tagged_data.specs.KeyOrder.{AreInOrder}
use Rattle.princ_rows.proofs.Orders.{put_order}
use Rattle.kdb_plain.specs.Strings.{key_of}
use Rattle.kdb_plain.proofs.strings.with_string.Goals as goal

pub from_vec-requires : goal.from_vec-requires
from_vec-requires c =
    subst (λ list. AreInOrder (map key_of list)) (sym c.in_ok-put.ensures) (put_order key_of
    (record { key = c.args.key; value = c.args.value }) c.into_vec-items.result.items c.into_vec-items.ensures.rising)
