use Rattle.std.proofs.Common.{◌≡◌, map, take}
use Rattle.kadm_keytabs.specs.Renewing.{extract_at}
use Rattle.kadm_keytabs.proofs.renewing.keys_at.Given as goal

abbrev pub invariant-loop-key : goal.invariant-loop-key
invariant-loop-key l = l.told.items ≡ map (extract_at l.fn.kvno) (take l.key-index l.keys)
