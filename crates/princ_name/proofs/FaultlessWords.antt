-- A word without a fault spells a name, within the limits or not.
use Rattle.std.proofs.Common.{◌≡◌, ℕ, false, None, List, inl, inr, refl}
use Rattle.princ_name.specs.Faults.{first_fault}
use Rattle.princ_name.specs.Names.{NameParts}
use Rattle.princ_name.specs.Spelling.{Spells}
use Rattle.princ_name.proofs.Projections.{texts_spelled}
use Rattle.princ_name.proofs.Sound.{sound}

pub faultless_name : (word given : List ℕ) → first_fault word ≡ None → (name : NameParts) × Spells word given name
unfolding first_fault
faultless_name word given h = elim (sound 0 0 false word refl h) [
  | inl none ↦ (record { parts = _; realm = given }, inl (texts_spelled _ word none.spelled, refl))
  | inr some ↦ (
    record { parts = _; realm = some.realm.text },
    inr (record {
      front = some.front;
      back = some.back;
      spells_parts = texts_spelled _ some.front some.first_spelled;
      spells_realm = some.realm_spelled.text;
      whole = some.whole;
    }),
  )
]
