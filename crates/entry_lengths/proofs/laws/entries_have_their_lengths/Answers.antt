use Rattle.entry_lengths.proofs.Entries.{entry_told}
use Rattle.entry_lengths.proofs.laws.entries_have_their_lengths.Goals as goal

pub returns-clause-change : goal.returns-clause-change
returns-clause-change c =
    λ rows s call op made. entry_told rows s call op made.plain made.accepted made.entry_is made.shown

pub returns-clause-master : goal.returns-clause-master
returns-clause-master c =
    λ rows s call m made. entry_told rows s call m.op made.plain made.accepted made.entry_is made.shown
