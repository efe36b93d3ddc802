use Rattle.std.proofs.Common.{◌∙◌}
use Rattle.kdb_disk.proofs.Kept.{contents_at}
use Rattle.kdb_disk.proofs.contents.file_at.Goals as goal

pub returns : goal.returns
returns c =
    c.deref.ensures.value ∙ contents_at c.args.files.now.items c.args.file c.index.result.now c.requires c.index.ensures
