use Rattle.std.proofs.Common.{ap, ◌∙◌}
use Rattle.std.specs.List.{list_any}
use Rattle.stash_file.specs.Answers.{told}
use Rattle.keytab_out.specs.Removed.{is_of}
use Rattle.keytab_out.proofs.Mapped.{mapped_any}
use Rattle.keytab_out.proofs.removing.has_entry.Goals as goal

pub returns : goal.returns
returns c = c.any_of.ensures ∙ mapped_any (is_of c.args.name.now) told c.as_slice.result.now
    ∙ ap (list_any (is_of c.args.name.now)) c.as_slice.ensures.value
