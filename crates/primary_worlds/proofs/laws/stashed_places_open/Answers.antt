use Rattle.primary_worlds.proofs.Opened.{key_opens, stash_opens}
use Rattle.primary_worlds.proofs.laws.stashed_places_open.Goals as goal

pub returns-clause-any : goal.returns-clause-any
returns-clause-any c p s text keys found = key_opens p s text keys found c.sound_rows_show_one_state.ensures.sound

pub returns-clause-all : goal.returns-clause-all
returns-clause-all c p s text = stash_opens p s text c.sound_rows_show_one_state.ensures.sound
