-- The byte goes behind the text.
use Rattle.std.proofs.Common.{refl}
use Rattle.princ_name.proofs.Takes.{takes-plain}
use Rattle.princ_name.proofs.reading.Reading.take_plain.Goals as goal

pub returns-clause-taken : goal.returns-clause-taken
returns-clause-taken c = λ at. takes-plain at c.args.byte c.args.self.now _ c.requires.plain c.requires.clear
    c.requires.clear refl c.in_ok-push.ensures.items refl refl
