use Rattle.row_keys.proofs.OneState.{one_state}
use Rattle.row_keys.proofs.SoundStates.{sound_state}
use Rattle.row_keys.proofs.ValidRows.{valid_sound}
use Rattle.row_keys.proofs.laws.sound_rows_show_one_state.Goals as goal

pub returns-clause-shows : goal.returns-clause-shows
returns-clause-shows c j rows point are realm sound =
    sound_state c.blobs_hold_one_key.ensures j rows are realm sound point

pub returns-clause-sound : goal.returns-clause-sound
returns-clause-sound c rows s time shows valid = valid_sound rows s time shows valid

pub returns-clause-one : goal.returns-clause-one
returns-clause-one c = one_state c.blobs_hold_one_key.ensures
