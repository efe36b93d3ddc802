use Rattle.row_keys.proofs.Rekeyed.{keys_held, rewrapped_shows, with_keys_wraps}
use Rattle.row_keys.proofs.laws.rewrapped_records_show.Goals as goal

pub returns-clause-held : goal.returns-clause-held
returns-clause-held c master history p q f = keys_held master p.keys q.keys f.keys

pub returns-clause-shows : goal.returns-clause-shows
returns-clause-shows c = rewrapped_shows

pub returns-clause-exact : goal.returns-clause-exact
returns-clause-exact c = with_keys_wraps
