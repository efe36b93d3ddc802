use Rattle.primary_worlds.proofs.Created.{created_opens}
use Rattle.primary_worlds.proofs.laws.new_databases_open.Goals as goal

pub returns : goal.returns
returns c spec now_ random =
    created_opens spec now_ random c.sound_rows_show_one_state.ensures.sound c.what_is_written_is_read.ensures
