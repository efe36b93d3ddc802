use Rattle.std.proofs.Common.{◌≡◌, Some, sym}
use Rattle.tagged_data.specs.declared.kinds.TheConstants.{MKVNO}
use Rattle.tagged_data.specs.Lists.{content}
use Rattle.tagged_data.specs.Numbers.{version_content}
use Rattle.tagged_data.proofs.Found.{number_found, number_only}
use Rattle.tagged_data.proofs.numbers.mkvno.Goals as goal

pub returns-in-Some-clause-found : goal.returns-in-Some-clause-found
returns-in-Some-clause-found c =
    let there : content MKVNO c.args.list.now ≡ Some c.in-Some.bytes.now = sym c.in-Some.ensures.value in
    number_found version_content (content MKVNO c.args.list.now) c.in-Some.bytes.now there
    (c.in-Some.ensures.bytes c.in-Some.bytes.now there) c.read_version.result c.read_version.ensures

pub returns-in-Some-clause-only : goal.returns-in-Some-clause-only
returns-in-Some-clause-only c = number_only version_content (content MKVNO c.args.list.now) c.in-Some.bytes.now
    (sym c.in-Some.ensures.value) c.read_version.result c.read_version.ensures
