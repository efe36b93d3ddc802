use Rattle.stash_file.proofs.KeytabStashes.{keytab_stashes}
use Rattle.stash_file.proofs.laws.keytab_is_a_stash.Goals as goal

pub returns : goal.returns
returns c = keytab_stashes
