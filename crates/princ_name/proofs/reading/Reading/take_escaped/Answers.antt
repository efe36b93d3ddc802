-- The byte that is meant goes behind the text.
use Rattle.std.proofs.Common.{◌++◌, ◌∷◌, [], ap, refl, ◌∙◌}
use Rattle.princ_name.proofs.Takes.{takes-escaped}
use Rattle.princ_name.proofs.reading.Reading.take_escaped.Goals as goal

pub returns-clause-taken : goal.returns-clause-taken
returns-clause-taken c =
    λ at. takes-escaped at c.args.byte c.args.self.now _ c.requires.allowed c.requires.behind refl refl
    (c.in_ok-push.ensures.items ∙ ap (λ b. c.args.self.now.text.items ++ b ∷ []) c.escaped.ensures) refl refl
