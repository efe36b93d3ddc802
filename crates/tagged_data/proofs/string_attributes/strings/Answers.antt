use Rattle.std.proofs.Common.{◌≡◌, Some, sym}
use Rattle.tagged_data.specs.declared.kinds.TheConstants.{STRINGS}
use Rattle.tagged_data.specs.Lists.{content}
use Rattle.tagged_data.specs.StringLaws.{strings_content}
use Rattle.tagged_data.proofs.Found.{list_found, list_only}
use Rattle.tagged_data.proofs.string_attributes.strings.Goals as goal

pub returns-in-Some-clause-found : goal.returns-in-Some-clause-found
returns-in-Some-clause-found c =
    let there : content STRINGS c.args.list.now ≡ Some c.in-Some.bytes.now = sym c.in-Some.ensures.value in
    list_found strings_content (content STRINGS c.args.list.now) c.in-Some.bytes.now there
    (c.in-Some.ensures.bytes c.in-Some.bytes.now there) c.read_strings.result c.read_strings.ensures

pub returns-in-Some-clause-only : goal.returns-in-Some-clause-only
returns-in-Some-clause-only c = λ xs f some is. list_only strings_content (content STRINGS c.args.list.now)
    c.in-Some.bytes.now (sym c.in-Some.ensures.value) c.read_strings.result c.read_strings.ensures xs (f, some) is
