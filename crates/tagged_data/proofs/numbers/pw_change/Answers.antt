use Rattle.std.proofs.Common.{◌≡◌, ℕ, ◌<◌, ◌^◌, Some, sym}
use Rattle.kdb_format.specs.Spellings.{little}
use Rattle.tagged_data.specs.declared.kinds.TheConstants.{PW_CHANGE}
use Rattle.tagged_data.specs.Lists.{content}
use Rattle.tagged_data.specs.Numbers.{secs_content}
use Rattle.tagged_data.proofs.Found.{number_found, number_only, first_of_both}
use Rattle.tagged_data.proofs.numbers.pw_change.Goals as goal

pub returns-in-Some-clause-found : goal.returns-in-Some-clause-found
returns-in-Some-clause-found c =
    let there : content PW_CHANGE c.args.list.now ≡ Some c.in-Some.bytes.now = sym c.in-Some.ensures.value in
    first_of_both (λ (secs : ℕ). content PW_CHANGE c.args.list.now ≡ Some (little 4 secs))
    (λ (secs : ℕ). secs < 2 ^ 32) c.read_secs.result
    (number_found secs_content (content PW_CHANGE c.args.list.now) c.in-Some.bytes.now there
    (c.in-Some.ensures.bytes c.in-Some.bytes.now there) c.read_secs.result c.read_secs.ensures)

pub returns-in-Some-clause-only : goal.returns-in-Some-clause-only
returns-in-Some-clause-only c = number_only secs_content (content PW_CHANGE c.args.list.now) c.in-Some.bytes.now
    (sym c.in-Some.ensures.value) c.read_secs.result c.read_secs.ensures
