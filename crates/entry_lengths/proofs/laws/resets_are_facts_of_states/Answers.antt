use Rattle.entry_lengths.proofs.Due.{block_told, due_told, kept_is_entry, kept_is_masters}
use Rattle.entry_lengths.proofs.Entries.{entry_told}
use Rattle.entry_lengths.proofs.laws.resets_are_facts_of_states.Goals as goal

pub returns-clause-due : goal.returns-clause-due
returns-clause-due c = λ p s call op made at applied own.
    due_told p s call op made.plain (kept_is_entry p.rows s call op made.exact) made.entry_is at.at
    (entry_told p.rows s call op made.plain made.accepted made.entry_is made.shown at.shows applied at.valid.realm own)

pub returns-clause-block : goal.returns-clause-block
returns-clause-block c = λ p s call op made at applied own.
    block_told p s op made.plain
    (entry_told p.rows s call op made.plain made.accepted made.entry_is made.shown at.shows applied at.valid.realm own)

pub returns-clause-master_due : goal.returns-clause-master_due
returns-clause-master_due c = λ p s call m made at applied own.
    due_told p s call m.op made.plain (kept_is_masters p.rows s call m.op made.exact) made.entry_is at.at
    (entry_told p.rows s call m.op made.plain made.accepted made.entry_is made.shown at.shows applied
    at.valid.realm own)

pub returns-clause-master_block : goal.returns-clause-master_block
returns-clause-master_block c = λ p s call m made at applied own.
    block_told p s m.op made.plain (entry_told p.rows s call m.op made.plain made.accepted made.entry_is made.shown
    at.shows applied at.valid.realm own)
