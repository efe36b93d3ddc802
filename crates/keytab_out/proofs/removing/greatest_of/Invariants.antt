use Rattle.std.proofs.Common.{◌≡◌, drop, map, max}
use Rattle.stash_file.specs.Answers.{told}
use Rattle.keytab_out.specs.Removed.{greatest_of}
use Rattle.keytab_out.proofs.removing.greatest_of.Given as goal

abbrev pub invariant-loop-entry : goal.invariant-loop-entry
invariant-loop-entry l = max l.greatest (greatest_of l.name (map told (drop l.entry-index l.entries)))
    ≡ greatest_of l.name (map told l.entries)
