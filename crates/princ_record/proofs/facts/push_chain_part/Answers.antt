use Rattle.std.proofs.Common.{arith}
use Rattle.tagged_data.specs.Versions.{length-activations_text}
use Rattle.princ_record.proofs.facts.push_chain_part.Goals as goal

pub push_activations_tag-requires : goal.push_activations_tag-requires
push_activations_tag-requires c =
    omega (arith, length-activations_text c.args.chain.now.activations, c.requires.activations_short)
