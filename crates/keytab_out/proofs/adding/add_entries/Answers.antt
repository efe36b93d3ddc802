use Rattle.stash_file.specs.Answers.{told}
use Rattle.keytab_out.specs.Entries.{IsListed}
use Rattle.keytab_out.proofs.Mapped.{all_moved}
use Rattle.keytab_out.proofs.adding.add_entries.Goals as goal

pub from_vec-requires : goal.from_vec-requires
from_vec-requires c =
    all_moved IsListed told c.append-done.result c.take-items.result.items c.in_ok-more.more.items
    c.append-done.new.items.items
    c.append-done.ensures.ok c.append-done.ensures.err c.take-items.ensures.listed c.in_ok-more.ensures.listed
