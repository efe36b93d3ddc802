use Rattle.std.proofs.Common.{List, length, ap, arith}
use Rattle.kdb_base.specs.declared.versions.Activation.{Activation}
use Rattle.tagged_data.specs.Versions.{length-activations_text}
use Rattle.princ_record.proofs.measures.part_len.Goals as goal

pub returns-clause-small : goal.returns-clause-small
returns-clause-small c =
    omega (
      arith,
      length-activations_text c.args.part.now.activations,
      ap (λ (xs : List Activation). length xs) c.as_slice.ensures.value,
      c.requires.activations_short,
      c.aux_len.ensures,
      c.requires.aux_short,
    )
