use Rattle.std.proofs.Common.{◌≡◌, ℕ, List, Some, Bor, sym}
use Rattle.tagged_data.specs.declared.kinds.TheConstants.{MODIFIER}
use Rattle.tagged_data.specs.Lists.{content}
use Rattle.tagged_data.specs.Modifiers.{modifier_content}
use Rattle.tagged_data.proofs.Found.{value_found, value_only}
use Rattle.tagged_data.proofs.modifiers.modifier.Goals as goal

-- the numbers of what was returned
abbrev view : ℕ × Bor (List ℕ) → ℕ × List ℕ
view x = (x.0, x.1.now)

pub returns-in-Some-clause-found : goal.returns-in-Some-clause-found
returns-in-Some-clause-found c =
    let there : content MODIFIER c.args.list.now ≡ Some c.in-Some.bytes.now = sym c.in-Some.ensures.value in
    value_found modifier_content view (content MODIFIER c.args.list.now) c.in-Some.bytes.now there
    (c.in-Some.ensures.bytes c.in-Some.bytes.now there) c.read_modifier.result c.read_modifier.ensures

pub returns-in-Some-clause-only : goal.returns-in-Some-clause-only
returns-in-Some-clause-only c = value_only modifier_content view (content MODIFIER c.args.list.now) c.in-Some.bytes.now
    (sym c.in-Some.ensures.value) c.read_modifier.result c.read_modifier.ensures
