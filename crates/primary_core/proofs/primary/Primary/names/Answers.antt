use Rattle.std.proofs.Common.{◌≡◌, rules, ◌∙◌}
use Rattle.primary_answers.specs.Listing.{names_told}
use Rattle.primary_core.proofs.Told.{told_alike}
use Rattle.primary_core.proofs.primary.Primary.names.Goals as goal
use Rattle.primary_core.specs.Opened.{place_of}
use Rattle.princ_rows.specs.Rows.{princ_keys}

pub returns-in-Ok-list_names-clause-state : goal.returns-in-Ok-list_names-clause-state
returns-in-Ok-list_names-clause-state c = λ s has.
    let told : c.in-Ok-list_names.names
    ≡ names_told c.args.glob.now (princ_keys (place_of c.args.self.now).rows.princs) = search rules in
    told ∙ told_alike c.args.self.now s c.args.glob.now has
