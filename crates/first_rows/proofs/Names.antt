-- The names of first principals.
use Rattle.std.proofs.Common.{◌≡◌, ◌≤◌, ℕ, true, false, List, [], ◌∷◌, ◌++◌, codes, length, refl, sym, ap, ◌∙◌, arith}
use Rattle.std.specs.List.{list_all}
use Rattle.std.specs.Str.{bytes_eq}
use Rattle.std.proofs.lemmas.List.{length-append}
use Rattle.princ_name.specs.Bytes.{can_stand, is_refused, is_sign, printed_byte}
use Rattle.princ_name.specs.Names.{printed_parts, printed_text}
use Rattle.princ_name.specs.RealmNames.{name_in}
use Rattle.princ_name.specs.RealmLaws.{all_stand, is_name_in, prints_in, prints_itself, realm_text}
use Rattle.princ_name.specs.Realms.{IsRealm}
use Rattle.princ_name.specs.Printed.{IsPrinted, is_master}
use Rattle.tagged_data.specs.KeyOrder.{AreInOrder, rises_from}
use Rattle.tagged_data.specs.KeyOrderLaws.{in_order}
use Rattle.kdb_plain.specs.States.{history_name}
use Rattle.master_keys.specs.First.{master_name}
use Rattle.first_rows.specs.Creation.{ticket_name}

module _ (realm : List ℕ) (is : IsRealm realm) where
  parts : List (List ℕ)
  parts = codes "krbtgt" ∷ realm ∷ []

  parts_printed : printed_parts parts ≡ codes "krbtgt/" ++ realm
  unfolding printed_parts printed_text printed_byte is_sign parts
  parts_printed = ap (λ (text : List ℕ). codes "krbtgt/" ++ text) (prints_itself realm (realm_text realm is).bytes)

  parts_stand : list_all (list_all can_stand) parts ≡ true
  unfolding can_stand is_refused parts
  parts_stand = rw (all_stand realm (realm_text realm is).bytes) refl

  pub ticket_printed : IsPrinted (ticket_name realm)
  unfolding ticket_name parts
  ticket_printed =
      let short = (realm_text realm is).short in
      let long : length (printed_parts parts) ≤ 190 =
      omega (arith, ap length parts_printed, length-append (codes "krbtgt/") realm) in
      let text = prints_in parts realm is ∙ ap (λ (front : List ℕ). front ++ 64 ∷ realm) parts_printed in
      (name_in parts realm, (is_name_in parts realm is (λ e. absurd cc) (omega arith) parts_stand long, sym text))

pub ticket_other : (realm : List ℕ) → is_master (ticket_name realm) ≡ false
unfolding is_master ticket_name
ticket_other realm = refl

pub history_other : (realm : List ℕ) → is_master (history_name realm) ≡ false
unfolding is_master history_name
history_other realm = refl

pub names_rise : (realm : List ℕ) → AreInOrder (master_name realm ∷ history_name realm ∷ ticket_name realm ∷ [])
unfolding rises_from master_name history_name ticket_name
names_rise realm = in_order (master_name realm ∷ history_name realm ∷ ticket_name realm ∷ []) refl

pub master_is_other : (realm : List ℕ) → bytes_eq (master_name realm) (history_name realm) ≡ false
unfolding master_name history_name
master_is_other realm = refl
