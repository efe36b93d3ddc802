use Rattle.stash_file.specs.Answers.{told}
use Rattle.keytab_out.specs.Entries.{IsListed}
use Rattle.keytab_out.proofs.Listed.{listed_short}
use Rattle.keytab_out.proofs.Mapped.{at_item}
use Rattle.keytab_out.proofs.writing.push_entries.Goals as goal

pub push_sized-requires : goal.push_sized-requires
push_sized-requires c =
    listed_short (told c.entry-item.result) (at_item IsListed told c.args.entries.now c.loop-entry.entry-index
    c.entry-item.result c.loop-entry-test.true c.entry-item.is c.requires)
