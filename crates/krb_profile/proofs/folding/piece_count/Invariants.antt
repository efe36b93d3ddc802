use Rattle.std.proofs.Common.{◌≡◌, ◌-◌, ◌≤◌}
use Rattle.krb_profile.specs.NFold.{first_common, least_common_multiple}
use Rattle.krb_profile.proofs.folding.piece_count.Given as goal

-- the least common multiple is looked for from here on
abbrev pub invariant-loop-count : goal.invariant-loop-count
invariant-loop-count l = (1 ≤ l.count) × (l.count ≤ l.text_len)
    × (first_common l.text_len l.len l.count (l.text_len - l.count) ≡ least_common_multiple l.text_len l.len)

abbrev pub decreases-loop-count : goal.decreases-loop-count
decreases-loop-count l = l.text_len - l.count
