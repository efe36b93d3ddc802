use Rattle.std.proofs.Common.{◌∙◌, ap, ℕ, List}
use Rattle.std.proofs.lemmas.Result.{on_ok_weaker, on_err_weaker}
use Rattle.kdb_disk.specs.Files.{put, with_file, written}
use Rattle.kdb_disk.specs.Memory.{contents}
use Rattle.kdb_disk.proofs.Puts.{with_file_own}
use Rattle.kdb_disk.proofs.Kept.{contents_at, contents-set}
use Rattle.kdb_disk.proofs.contents.write_file.Goals as goal

pub returns-clause-written : goal.returns-clause-written
unfolding written
returns-clause-written c =
    let vs = c.args.files.now.items in
    let old = contents_at vs c.args.file c.index_mut.result.now c.requires c.index_mut.ensures.value in
    on_ok_weaker c.write_in.result (λ is. contents-set vs c.args.file c.write_in.new.file c.requires
    ∙ ap (λ (l : List ℕ). with_file c.args.file l (contents vs)) (is ∙ ap (put c.args.at c.args.bytes.now) old))
    c.write_in.ensures.written

pub returns-clause-refused : goal.returns-clause-refused
returns-clause-refused c =
    let vs = c.args.files.now.items in
    let old = contents_at vs c.args.file c.index_mut.result.now c.requires c.index_mut.ensures.value in
    on_err_weaker c.write_in.result (λ is. contents-set vs c.args.file c.write_in.new.file c.requires
    ∙ with_file_own c.args.file c.write_in.new.file.items (contents vs) (is ∙ old)) c.write_in.ensures.refused
