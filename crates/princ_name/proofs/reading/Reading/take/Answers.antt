-- By the kind of the byte.
use Rattle.std.proofs.Common.{◌≡◌, Some, refl, sym, ap, ◌∙◌}
use Rattle.std.proofs.lemmas.Bool.{ne_eqb}
use Rattle.princ_name.specs.ByteLaws.{tests_plain}
use Rattle.princ_name.proofs.Takes.{takes-slash, fault-refused}
use Rattle.princ_name.proofs.reading.Reading.take.Goals as goal

pub returns-then-is_refused-clause-fault : goal.returns-then-is_refused-clause-fault
returns-then-is_refused-clause-fault c = λ offset is rest.
    let same : c.args.at ≡ offset = cc in
    fault-refused c.args.at c.args.byte c.args.self.now rest (sym c.is_refused.ensures ∙ c.if-is_refused.true)
    ∙ ap Some same

pub take_plain-requires-clause-plain : goal.take_plain-requires-clause-plain
take_plain-requires-clause-plain c = tests_plain c.args.byte (sym c.is_refused.ensures ∙ c.if-is_refused.false)
    (ne_eqb c.args.byte 47 c.if-byte-eq47.false) (ne_eqb c.args.byte 64 c.if-byte-eq64.false)
    (ne_eqb c.args.byte 92 c.if-byte-eq92.false)

pub returns-then-byte-eq92-clause-taken : goal.returns-then-byte-eq92-clause-taken
returns-then-byte-eq92-clause-taken c =
    takes-slash c.args.at c.args.byte c.args.self.now _ c.if-byte-eq92.true c.if-self.false refl refl refl refl refl
