use Rattle.std.proofs.Common.{◌≡◌, ◌++◌, drop, map}
use Rattle.std.specs.List.{flat_map}
use Rattle.stash_file.specs.Answers.{told}
use Rattle.keytab_out.specs.Entries.{sized}
use Rattle.keytab_out.proofs.writing.push_entries.Given as goal

abbrev pub invariant-loop-entry : goal.invariant-loop-entry
invariant-loop-entry l = l.out.items ++ flat_map sized (map told (drop l.entry-index l.entries))
    ≡ l.fn.out.items ++ flat_map sized (map told l.entries)
