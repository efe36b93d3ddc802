-- The wildcards before this place are found.
use Rattle.std.proofs.Common.{take}
use Rattle.princ_name.specs.Patterns.{wild_places}
use Rattle.princ_name.specs.Found.{IsFound}
use Rattle.princ_name.proofs.patterns.hits_among.Given as goal

abbrev pub invariant-loop-place : goal.invariant-loop-place
invariant-loop-place l = IsFound (wild_places 0 (take l.place l.parts)) l.found
