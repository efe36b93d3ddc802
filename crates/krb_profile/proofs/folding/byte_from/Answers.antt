use Rattle.std.proofs.Common.{rules, ◌<◌}
use Rattle.krb_profile.proofs.Cyclic.{byte_of_pair}
use Rattle.krb_profile.proofs.folding.byte_from.Goals as goal

pub returns : goal.returns
returns c =
    let low : c.from-2.result < 256 = rw c.from-2.ensures (search rules) in
    byte_of_pair c.args.text.now c.args.first c.from.result c.from-2.result c.requires.within low c.from.ensures
    c.from-2.ensures
