use Rattle.std.proofs.lemmas.List.Elements.{recursion_from_All}
use Rattle.krb_profile.proofs.OnePlain.{one_plain}
use Rattle.krb_profile.proofs.laws.sealed_once.Goals as goal

pub returns : goal.returns
returns c = λ key usage blob one other long bytes s t.
    one_plain key usage blob one other long (recursion_from_All _ key.bytes bytes) s t
