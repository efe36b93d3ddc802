use Rattle.stash_file.proofs.Entries.{stash_written}
use Rattle.stash_file.proofs.laws.what_is_written_is_read.Goals as goal

pub returns : goal.returns
returns c = stash_written
