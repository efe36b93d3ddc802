use Rattle.std.proofs.Common.{ℕ, List, length, take, drop, sym, subst, ap, ◌≤◌, ◌∙◌, arith}
use Rattle.kdb_disk.specs.Files.{Files}
use Rattle.kdb_disk.proofs.memory.MemoryDiskDisk.read.Goals as goal

pub copy_from-requires : goal.copy_from-requires
copy_from-requires c =
    let here = c.bytes.ensures ∙ ap (λ (files : Files). files c.args.file) c.look.ensures.looks.seen in
    subst (λ (l : List ℕ). c.args.at ≤ length l) (sym here) c.requires.at

pub returns-in-Ok-clause-bytes : goal.returns-in-Ok-clause-bytes
returns-in-Ok-clause-bytes c =
    let here = c.bytes.ensures ∙ ap (λ (files : Files). files c.args.file) c.look.ensures.looks.seen in
    c.copy_from.ensures.bytes ∙ ap (λ (l : List ℕ). take c.copy_from.result (drop c.args.at l)) here

pub returns-in-Ok-clause-within : goal.returns-in-Ok-clause-within
returns-in-Ok-clause-within c =
    let here = c.bytes.ensures ∙ ap (λ (files : Files). files c.args.file) c.look.ensures.looks.seen in
    omega (arith, ap length here, c.requires.at)

pub returns-in-Ok-clause-some : goal.returns-in-Ok-clause-some
returns-in-Ok-clause-some c room below =
    let here = c.bytes.ensures ∙ ap (λ (files : Files). files c.args.file) c.look.ensures.looks.seen in
    omega (arith, ap length here, room, below)
