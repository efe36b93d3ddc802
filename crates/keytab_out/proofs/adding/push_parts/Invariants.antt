use Rattle.std.proofs.Common.{◌≡◌, ◌++◌, drop}
use Rattle.std.specs.List.{flat_map}
use Rattle.kdb_format.specs.Spellings.{counted}
use Rattle.keytab_out.proofs.adding.push_parts.Given as goal

abbrev pub invariant-loop-part : goal.invariant-loop-part
invariant-loop-part l =
    l.out.items ++ flat_map counted (drop l.part-index l.parts) ≡ l.fn.out.items ++ flat_map counted l.parts
