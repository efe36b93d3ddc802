use Rattle.std.proofs.Common.{◌≡◌, map, take}
use Rattle.std.specs.List.{All}
use Rattle.stash_file.specs.Answers.{told}
use Rattle.keytab_out.specs.Entries.{IsListed}
use Rattle.keytab_out.specs.Written.{entries_of}
use Rattle.keytab_out.proofs.adding.entries_of.Given as goal

abbrev pub invariant-loop-extract : goal.invariant-loop-extract
invariant-loop-extract l = (map told l.entries.items ≡ entries_of l.name l.secs (take l.extract-index l.keys))
    × All IsListed (map told l.entries.items)
