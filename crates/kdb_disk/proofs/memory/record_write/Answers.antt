use Rattle.std.proofs.Common.{ℕ, List, ap, drop, sym, subst, ◌≡◌, ◌∙◌}
use Rattle.kdb_disk.specs.Files.{written}
use Rattle.kdb_disk.specs.Memory.{contents, IsKept}
use Rattle.kdb_disk.proofs.Kept.{kept_wrote, kept_same}
use Rattle.kdb_disk.proofs.memory.record_write.Goals as goal

pub returns-in-Ok-clause-kept : goal.returns-in-Ok-clause-kept
returns-in-Ok-clause-kept c start kept =
    let old = c.args.files.now.items in
    let after = c.write_file.new.files.items in
    let here : contents after ≡ written c.args.file c.args.at c.args.copy.items (contents old) =
    c.in-Ok.ensures.written
    ∙ ap (λ (l : List ℕ). written c.args.file c.args.at l (contents old)) (sym c.requires.copy) in
    subst (IsKept start after) (sym c.in_ok-record.ensures.call)
    (kept_wrote start old after c.args.calls.now.items c.args.file c.args.at c.args.copy kept c.requires.file
    c.requires.at c.write_file.ensures.length here)

pub returns-in-Err-clause-kept : goal.returns-in-Err-clause-kept
returns-in-Err-clause-kept c start kept =
    let back : c.pop_front-unwritten.new.self.items ≡ c.args.calls.now.items =
    c.pop_front-unwritten.ensures.rest ∙ ap (drop 1) c.in_ok-record.ensures.call in
    subst (IsKept start c.write_file.new.files.items) (sym back)
    (kept_same start c.args.files.now.items c.write_file.new.files.items c.args.calls.now.items kept
    c.write_file.ensures.length c.in-Err.ensures.refused)
