use Rattle.std.proofs.Common.{sym, ◌∙◌}
use Rattle.kdb_model.specs.Access.{master_parts}
use Rattle.kdb_plain.proofs.OwnNames.{master_prints}
use Rattle.kdb_model.proofs.OwnParts.{master_is}
use Rattle.kdb_model.proofs.named.master_parts.Goals as goal

pub returns : goal.returns
returns c = c.read_printed.ensures (master_parts c.args.realm.now) (master_is c.args.realm.now c.requires)
    (sym (master_prints c.args.realm.now c.requires)
    ∙ (let a = c.as_slice.ensures in let b = c.in_ok-text.ensures in cc))
