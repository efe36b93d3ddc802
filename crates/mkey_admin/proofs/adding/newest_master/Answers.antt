use Rattle.std.proofs.Common.{None, ap, sym, ◌∙◌}
use Rattle.std.specs.List.{last_or}
use Rattle.kdb_plain.proofs.Lasts.{last_is}
use Rattle.mkey_admin.proofs.adding.newest_master.Goals as goal

pub returns-in-len1-up : goal.returns-in-len1-up
returns-in-len1-up c =
    sym (ap (last_or None) (sym c.as_slice.ensures.value)
    ∙ last_is c.as_slice.result.now c.newest-item.result c.in-len1-up.len_at_least c.newest-item.is)
