use Rattle.std.proofs.Common.{[], ◌++◌, sym, ap, ◌∙◌}
use Rattle.std.proofs.lemmas.List.{append-nil}
use Rattle.iprop_wire.specs.Decoding.{fed, fresh}
use Rattle.iprop_wire.proofs.Awaited.{never_due, stays_not}
use Rattle.iprop_wire.proofs.Reading.{message_ends}
use Rattle.iprop_wire.proofs.laws.what_is_not_due_stays_so.Goals as goal

pub returns-clause-stays : goal.returns-clause-stays
returns-clause-stays c = λ due s bytes not_due. stays_not due s bytes not_due

pub returns-clause-none : goal.returns-clause-none
returns-clause-none c = λ due text rest message not_due spells.
    never_due due text rest message not_due
    (ap (fed fresh) (sym (append-nil (text ++ rest))) ∙ (message_ends (text ++ rest) message spells).leads [])
