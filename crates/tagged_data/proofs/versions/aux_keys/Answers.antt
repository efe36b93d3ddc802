use Rattle.std.proofs.Common.{◌≡◌, Some, sym}
use Rattle.tagged_data.specs.declared.kinds.TheConstants.{AUX_KEYS}
use Rattle.tagged_data.specs.Lists.{content}
use Rattle.tagged_data.specs.Versions.{aux_keys_content}
use Rattle.tagged_data.proofs.Found.{list_found, list_only}
use Rattle.tagged_data.proofs.versions.aux_keys.Goals as goal

pub returns-in-Some-clause-found : goal.returns-in-Some-clause-found
returns-in-Some-clause-found c =
    let there : content AUX_KEYS c.args.list.now ≡ Some c.in-Some.bytes.now = sym c.in-Some.ensures.value in
    list_found aux_keys_content (content AUX_KEYS c.args.list.now) c.in-Some.bytes.now there
    (c.in-Some.ensures.bytes c.in-Some.bytes.now there) c.read_aux_keys.result c.read_aux_keys.ensures

pub returns-in-Some-clause-only : goal.returns-in-Some-clause-only
returns-in-Some-clause-only c = list_only aux_keys_content (content AUX_KEYS c.args.list.now) c.in-Some.bytes.now
    (sym c.in-Some.ensures.value) c.read_aux_keys.result c.read_aux_keys.ensures
