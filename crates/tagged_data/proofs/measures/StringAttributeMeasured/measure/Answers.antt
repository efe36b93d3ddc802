use Rattle.std.proofs.Common.{arith}
use Rattle.tagged_data.specs.StringLaws.{key_parts, value_parts}
use Rattle.tagged_data.proofs.measures.StringAttributeMeasured.measure.Goals as goal

pub overflow_add-result : goal.overflow_add-result
overflow_add-result c =
    let key = key_parts c.args.self.now.key c.requires.key in
    omega (arith, key.1.0, c.len.ensures)

pub overflow_add-result-2 : goal.overflow_add-result-2
overflow_add-result-2 c =
    let key = key_parts c.args.self.now.key c.requires.key in
    let value = value_parts c.args.self.now.value c.requires.value in
    omega (arith, key.1.0, value.0, c.len.ensures, c.len-2.ensures)
