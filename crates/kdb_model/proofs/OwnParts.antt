-- The name of K/M, whose printed form is known.
use Rattle.std.proofs.Common.{◌≡◌, ℕ, List, [], ◌∷◌, codes, refl, arith}
use Rattle.kdb_model.specs.Access.{master_parts}
use Rattle.princ_name.specs.Bytes.{can_stand, is_refused, is_sign, printed_byte}
use Rattle.princ_name.specs.Names.{IsName, printed_parts, printed_text}
use Rattle.princ_name.specs.RealmLaws.{is_name_in}
use Rattle.princ_name.specs.Realms.{IsRealm}

pub master_is : (realm : List ℕ) → IsRealm realm → IsName (master_parts realm)
unfolding printed_parts printed_text printed_byte is_sign can_stand is_refused
master_is realm is = is_name_in (codes "K" ∷ codes "M" ∷ []) realm is (λ e. absurd cc) (omega arith) refl (omega arith)
