use Rattle.row_keys.proofs.sound.check_rows.Goals as goal

pub first_unsound-requires-clause-history : goal.first_unsound-requires-clause-history
first_unsound-requires-clause-history c = rw c.in_ok-ring.ensures at c.in_ok-history.ensures
