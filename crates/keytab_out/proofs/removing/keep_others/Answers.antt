use Rattle.std.proofs.Common.{rules}
use Rattle.std.specs.Prelude.{not}
use Rattle.std.proofs.lemmas.Fn.{filter_same}
use Rattle.stash_file.specs.Answers.{told}
use Rattle.stash_file.specs.declared.pieces.Entry.{Entry}
use Rattle.keytab_out.specs.Removed.{goes}
use Rattle.keytab_out.proofs.removing.keep_others.Goals as goal

pub returns : goal.returns
returns c = filter_same _ (λ (e : Entry). not (goes c.args.name.now c.args.which c.args.greatest (told e))) _
    (λ x b f' called. search rules) _ _ c.retain.ensures.filtered
