-- What fits stands behind what was kept.
use Rattle.std.proofs.Common.{◌∙◌, arith}
use Rattle.kadm_keytabs.proofs.Taking.{fits}
use Rattle.kadm_keytabs.specs.Inputs.{most_kept}
use Rattle.kadm_keytabs.proofs.inputs.keep.Goals as goal

pub returns : goal.returns
returns c =
    c.in_ok-extend_from_slice.ensures.items
    ∙ fits most_kept c.min-count.result c.args.kept.now.items c.args.bytes.now c.requires (search (arith))
