-- Attributes behind the flags of a line.
use Rattle.std.proofs.Common.{◌≡◌, ℕ, Bool, true, false, List, [], ◌∷◌, fold}
use Rattle.std.specs.Prelude.{IsTrue, bit_and, bit_or, if◌then◌else◌}
use Rattle.std.specs.Int.{bit_not}
use Rattle.std.specs.Int.Width.{w32}
use Rattle.std.specs.List.{All, AllByRecursion}
use Rattle.std.proofs.lemmas.List.Elements.{recursion_from_All}
use Rattle.princ_record.proofs.Attributes.{either_known, part_known}
use Rattle.kadm_values.specs.Flags.{with_flag, with_flags}
use Rattle.kadm_values.specs.declared.flags.FlagChange.{FlagChange}
use Rattle.princ_record.specs.Princs.{are_attributes}

set_known : (set : Bool) (n bit : ℕ) → are_attributes n ≡ true → are_attributes bit ≡ true
    → are_attributes (if set then bit_or n bit else bit_and n (bit_not w32 bit)) ≡ true
set_known true n bit e f = either_known n bit e f
set_known false n bit e f = part_known n (bit_not w32 bit) e

abbrev IsKnown : FlagChange → Type 0
IsKnown flag = IsTrue (are_attributes flag.bit)

each_known : (n : ℕ) (flags : List FlagChange) → are_attributes n ≡ true → AllByRecursion IsKnown flags
    → are_attributes (fold with_flag n flags) ≡ true
each_known n [] e f = e
each_known n (flag ∷ flags) e f = each_known (with_flag n flag) flags (set_known flag.set n flag.bit e f.0) f.1

pub flags_known : (n : ℕ) (flags : List FlagChange) → are_attributes n ≡ true
    → All (λ (flag : FlagChange). IsTrue (are_attributes flag.bit)) flags
    → are_attributes (with_flags n flags) ≡ true
unfolding with_flags
flags_known n flags e f = each_known n flags e (recursion_from_All IsKnown flags f)
