-- The names of K/M and of kadmin/history, as they are printed.
use Rattle.std.proofs.Common.{◌≡◌, ℕ, List, [], ◌∷◌, ◌++◌, codes, refl, sym, ap, ◌∙◌, arith}
use Rattle.std.specs.Str.{bytes_eq}
use Rattle.std.proofs.lemmas.Bool.{eq-eqb}
use Rattle.princ_name.specs.Bytes.{can_stand, is_refused, is_sign, printed_byte}
use Rattle.princ_name.specs.Names.{printed, printed_parts, printed_text}
use Rattle.princ_name.specs.RealmNames.{name_in}
use Rattle.princ_name.specs.RealmLaws.{prints_in, is_name_in}
use Rattle.princ_name.specs.Realms.{IsRealm}
use Rattle.princ_name.specs.Printed.{IsPrinted}
use Rattle.master_keys.specs.First.{master_name}
use Rattle.kdb_plain.specs.States.{history_name}

pub master_prints : (realm : List ℕ) → IsRealm realm
    → master_name realm ≡ printed (name_in (codes "K" ∷ codes "M" ∷ []) realm)
unfolding master_name printed_parts printed_text printed_byte is_sign can_stand is_refused
master_prints realm is = sym (prints_in (codes "K" ∷ codes "M" ∷ []) realm is)

pub history_prints : (realm : List ℕ) → IsRealm realm
    → history_name realm ≡ printed (name_in (codes "kadmin" ∷ codes "history" ∷ []) realm)
unfolding history_name printed_parts printed_text printed_byte is_sign can_stand is_refused
history_prints realm is = sym (prints_in (codes "kadmin" ∷ codes "history" ∷ []) realm is)

pub history_printed : (realm : List ℕ) → IsRealm realm → IsPrinted (history_name realm)
unfolding history_name printed_parts printed_text printed_byte is_sign can_stand is_refused
history_printed realm is =
    let parts : List (List ℕ) = codes "kadmin" ∷ codes "history" ∷ [] in (
      name_in parts realm,
      (is_name_in parts realm is (λ e. absurd cc) (omega arith) refl (omega arith), sym (prints_in parts realm is)),
    )

-- ---- behind the same front

same_front : (front xs ys : List ℕ) → bytes_eq (front ++ xs) (front ++ ys) ≡ bytes_eq xs ys
same_front [] xs ys = refl
same_front (b ∷ front) xs ys = rw (eq-eqb b b refl) (same_front front xs ys)

pub history_rest : (realm name rest : List ℕ) → name ≡ codes "kadmin/history@" ++ rest
    → bytes_eq name (history_name realm) ≡ bytes_eq rest realm
unfolding history_name
history_rest realm name rest is =
    ap (λ n. bytes_eq n (codes "kadmin/history@" ++ realm)) is ∙ same_front (codes "kadmin/history@") rest realm
