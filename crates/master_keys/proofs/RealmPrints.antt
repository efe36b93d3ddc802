-- The names of a first record are printed names.
use Rattle.std.proofs.Common.{ℕ, List, [], ◌∷◌, codes, refl, sym, arith}
use Rattle.princ_name.specs.Bytes.{can_stand, is_refused, is_sign, printed_byte}
use Rattle.princ_name.specs.Names.{printed_parts, printed_text}
use Rattle.princ_name.specs.RealmNames.{name_in}
use Rattle.princ_name.specs.RealmLaws.{prints_in, is_name_in}
use Rattle.princ_name.specs.Realms.{IsRealm}
use Rattle.princ_name.specs.Printed.{IsPrinted}
use Rattle.master_keys.specs.First.{master_name, admin_name}

pub master_printed : (realm : List ℕ) → IsRealm realm → IsPrinted (master_name realm)
unfolding master_name printed_parts printed_text printed_byte is_sign can_stand is_refused
master_printed realm is =
    let parts : List (List ℕ) = codes "K" ∷ codes "M" ∷ [] in (
      name_in parts realm,
      (is_name_in parts realm is (λ e. absurd cc) (omega arith) refl (omega arith), sym (prints_in parts realm is)),
    )

pub admin_printed : (realm : List ℕ) → IsRealm realm → IsPrinted (admin_name realm)
unfolding admin_name printed_parts printed_text printed_byte is_sign can_stand is_refused
admin_printed realm is =
    let parts : List (List ℕ) = codes "admin" ∷ codes "local" ∷ [] in (
      name_in parts realm,
      (is_name_in parts realm is (λ e. absurd cc) (omega arith) refl (omega arith), sym (prints_in parts realm is)),
    )
