use Rattle.std.proofs.Common.{◌∙◌, ap}
use Rattle.std.specs.List.{list_any}
use Rattle.kdb_base.specs.Key.{is_same_key}
use Rattle.plain_keys.specs.Keys.{has_kvno, is_item, newest_keys, newest_kvno}
use Rattle.plain_keys.proofs.Used.{any_kept}
use Rattle.plain_keys.proofs.remembering.is_newest.Goals as goal

pub returns : goal.returns
unfolding newest_keys
returns c =
    c.any_item.ensures
    ∙ ap (λ kvno. list_any (is_item kvno c.args.key.now) c.args.items.now) c.newest_kvno.ensures
    ∙ any_kept (λ other. is_same_key other c.args.key.now) (λ k. k.key)
    (has_kvno (newest_kvno c.args.items.now)) c.args.items.now
