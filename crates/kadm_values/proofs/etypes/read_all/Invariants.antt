use Rattle.std.proofs.Common.{◌≡◌, ◌++◌, drop, map, option_map}
use Rattle.kadm_values.specs.EtypeWords.{all_listed}
use Rattle.kadm_values.proofs.etypes.read_all.Given as goal

abbrev pub invariant-loop-at : goal.invariant-loop-at
invariant-loop-at l =
    option_map (λ rest. l.etypes.items ++ rest) (all_listed (drop l.at (map (λ item. item.now) l.items)))
    ≡ all_listed (map (λ item. item.now) l.items)
