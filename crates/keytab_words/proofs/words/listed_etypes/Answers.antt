use Rattle.std.proofs.Common.{ap, ◌∙◌}
use Rattle.std.specs.Prelude.{Some}
use Rattle.keytab_words.proofs.Listed.{list_told, listed_types}
use Rattle.keytab_words.proofs.words.listed_etypes.Goals as goal

pub returns-in-Some-clause-types : goal.returns-in-Some-clause-types
returns-in-Some-clause-types c =
    listed_types c.args.list.now c.from_vec.result
    (ap Some c.from_vec.ensures
    ∙ list_told _ c.in_ok-etypes.field-0 c.in-Some.etypes _ c.in-Some.is c.in_ok-etypes.ensures.value)
