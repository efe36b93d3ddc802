use Rattle.std.proofs.Common.{List, map, not, nat_eq, bit_and, ap, ◌∙◌}
use Rattle.std.specs.List.{filter}
use Rattle.kadm_values.specs.Flags.{FlagRow, row_of, set_flags}
use Rattle.kadm_values.proofs.FlagLemmas.{filter-map}
use Rattle.kadm_values.proofs.flags.flags_in.Goals as goal

pub returns : goal.returns
unfolding set_flags
returns c =
    ap (map row_of) c.in_ok-flags.ensures
    ∙ filter-map row_of (λ (row : FlagRow). not (nat_eq (bit_and c.args.attributes row.bit) 0)) c.known_flags.result.now
    ∙ ap (λ (rows : List FlagRow). filter (λ row. not (nat_eq (bit_and c.args.attributes row.bit) 0)) rows)
    c.known_flags.ensures
