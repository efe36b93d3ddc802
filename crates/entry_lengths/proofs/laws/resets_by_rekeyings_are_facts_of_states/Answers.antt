use Rattle.entry_lengths.proofs.Due.{block_both, due_both}
use Rattle.entry_lengths.specs.Rekeyings.{rekeyed_in}
use Rattle.kdb_histories.specs.Asks.{RekeyedNow, Settles, kept_op}
use Rattle.kdb_places.specs.Places.{point_of}
use Rattle.entry_lengths.proofs.laws.resets_by_rekeyings_are_facts_of_states.Goals as goal

pub returns-clause-rekeyed_due : goal.returns-clause-rekeyed_due
returns-clause-rekeyed_due c = λ p s clock name random at rows may.
    due_both p s (kept_op p.rows s (RekeyedNow name clock random)) (rekeyed_in s name clock) at.at
    (c.rekeyings_have_their_lengths.ensures.rekeyed p.rows s
    (point_of p).time clock name random at.shows at.valid rows may)

pub returns-clause-rekeyed_block : goal.returns-clause-rekeyed_block
returns-clause-rekeyed_block c = λ p s clock name random at rows may.
    block_both p s (kept_op p.rows s (RekeyedNow name clock random)) (rekeyed_in s name clock)
    (c.rekeyings_have_their_lengths.ensures.rekeyed p.rows s
    (point_of p).time clock name random at.shows at.valid rows may)

pub returns-clause-settled_due : goal.returns-clause-settled_due
returns-clause-settled_due c = λ p s clock name work at rows is may.
    due_both p s (kept_op p.rows s (Settles name clock work)) (rekeyed_in s name clock) at.at
    (c.rekeyings_have_their_lengths.ensures.settled p.rows s clock name work at.shows rows is may)

pub returns-clause-settled_block : goal.returns-clause-settled_block
returns-clause-settled_block c = λ p s clock name work at rows is may.
    block_both p s (kept_op p.rows s (Settles name clock work)) (rekeyed_in s name clock)
    (c.rekeyings_have_their_lengths.ensures.settled p.rows s clock name work at.shows rows is may)
