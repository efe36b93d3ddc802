use Rattle.std.proofs.Common.{arith, ap}
use Rattle.princ_record.specs.Sizes as sizes
use Rattle.row_keys.proofs.Lengths.{chain_long, row_long}
use Rattle.row_keys.proofs.laws.records_have_their_lengths.Goals as goal

pub returns-clause-row : goal.returns-clause-row
returns-clause-row c master history p q f none = omega (arith, row_long master history p q f, ap sizes.chain_len none)

pub returns-clause-master : goal.returns-clause-master
returns-clause-master c master history p q masters activations f chain =
    omega (arith, row_long master history p q f, chain_long masters activations p chain)
