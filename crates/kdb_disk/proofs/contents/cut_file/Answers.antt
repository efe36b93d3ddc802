use Rattle.std.proofs.Common.{◌∙◌, ap, take, ℕ, List}
use Rattle.kdb_disk.specs.Files.{with_file}
use Rattle.kdb_disk.specs.Memory.{contents}
use Rattle.kdb_disk.proofs.Kept.{contents_at, contents-set}
use Rattle.kdb_disk.proofs.contents.cut_file.Goals as goal

pub returns-clause-cut : goal.returns-clause-cut
returns-clause-cut c =
    let vs = c.args.files.now.items in
    let old = contents_at vs c.args.file c.index_mut.result.now c.requires c.index_mut.ensures.value in
    contents-set vs c.args.file c.truncate.new.self c.requires
    ∙ ap (λ (l : List ℕ). with_file c.args.file l (contents vs)) (c.truncate.ensures.items ∙ ap (take c.args.len) old)
