-- The active version is a version.
use Rattle.std.proofs.Common.{◌≡◌, ℕ, List, Option, Some, None, refl, subst}
use Rattle.std.specs.Prelude.{IfSome}
use Rattle.std.proofs.lemmas.List.Elements.{All-contains}
use Rattle.kdb_base.specs.declared.versions.Activation.{Activation}
use Rattle.key_activation.specs.Activations.{IsActive}
use Rattle.princ_record.specs.Facts.{IsChainOr}
use Rattle.princ_record.specs.Princs.{IsPrinc}
use Rattle.princ_record.specs.declared.facts.ChainPart.{ChainPart}
use Rattle.princ_record.specs.declared.princs.Princ.{Princ}
use Rattle.tagged_data.specs.Numbers.{IsVersion}
use Rattle.tagged_data.specs.Versions.{AreActivations, IsActivation}

known_active : (list : List Activation) (secs : ℕ) (found : Option ℕ) → AreActivations list
    → ((v : ℕ) → found ≡ Some v → IsActive list secs v)
    → IfSome found IsVersion
known_active list secs None are active = tt
known_active list secs (Some v) are active =
    let is = active v refl in
    (All-contains IsActivation list (record { version = v; secs = is.at }) are.each is.listed).version

pub active_known : (p : Princ) (part : ChainPart) (secs : ℕ) (found : Option ℕ) → p.chain ≡ Some part → IsPrinc p
    → ((v : ℕ) → found ≡ Some v → IsActive part.activations secs v) → IfSome found IsVersion
active_known p part secs found is f active =
    known_active part.activations secs found (subst IsChainOr is f.facts.chain).activations active
