use Rattle.std.proofs.Common.{◌≡◌, map, take}
use Rattle.princ_record.specs.declared.princs.Princ.{Princ}
use Rattle.primary_answers.proofs.listing.princ_keys.Given as goal

abbrev pub invariant-loop-princ : goal.invariant-loop-princ
invariant-loop-princ l = l.names.items ≡ map (λ (p : Princ). p.name) (take l.princ-index l.princs)
