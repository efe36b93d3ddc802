use Rattle.std.proofs.Common.{◌≡◌, map, take}
use Rattle.kdb_plain.specs.declared.princs.PlainPrinc.{PlainPrinc}
use Rattle.kdb_model.proofs.reading.princ_names.Given as goal

abbrev pub invariant-loop-princ : goal.invariant-loop-princ
invariant-loop-princ l = l.names.items ≡ map (λ (q : PlainPrinc). q.name) (take l.princ-index l.princs)
