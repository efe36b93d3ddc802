use Rattle.std.proofs.Common.{◌≡◌, ◌-◌, ◌^◌, min, take}
use Rattle.kadm_values.specs.Numbers.{decimal_value}
use Rattle.kadm_values.proofs.numbers.value_of_digits.Given as goal

abbrev pub invariant-loop-byte : goal.invariant-loop-byte
invariant-loop-byte l = l.number ≡ min (2 ^ 64 - 1) (decimal_value (take l.byte-index l.text))
