use Rattle.std.proofs.Common.{arith}
use Rattle.kdb_format.proofs.Formats.{whole_found, whole_only}
use Rattle.kdb_format.proofs.format.read_whole.Goals as goal

pub returns-clause-found : goal.returns-clause-found
returns-clause-found g c = whole_found g.met.F.Format.is_field c.args.bytes.now c.read_all.result
    (λ i. omega (arith, c.type_inv.bytes i)) c.read_all.ensures

pub returns-clause-only : goal.returns-clause-only
returns-clause-only g c =
    λ x f e. whole_only g.met.F.Format.is_field c.args.bytes.now c.read_all.result c.read_all.ensures x f e
