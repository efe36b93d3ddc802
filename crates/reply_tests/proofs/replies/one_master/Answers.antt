use Rattle.std.proofs.Common.{List, map}
use Rattle.std.specs.List.Sorted.{IsStrictlySortedBy}
use Rattle.kadm_commands.specs.declared.versions.MasterRow.{MasterRow}
use Rattle.kdb_base.specs.Versions.{AreRising}
use Rattle.kadm_replies.proofs.TestLemmas.{one_item}
use Rattle.reply_tests.proofs.replies.one_master.Goals as goal

pub from_vec-requires : goal.from_vec-requires
unfolding IsStrictlySortedBy
from_vec-requires c =
    let P : List MasterRow → Type 0 = λ rows. AreRising (map (λ row. row.version) rows) in
    one_item P _ _ _ c.new-rows.ensures.items c.in_ok-push.ensures.items (tt, tt)
