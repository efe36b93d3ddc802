-- The records of a creation are rows.
use Rattle.std.proofs.Common.{◌≡◌, ℕ, ◌*◌, ◌^◌, ◌<◌, ◌≤◌, false, List, [], ◌∷◌, length}
use Rattle.std.proofs.Common.{Option, Some, None, refl, sym, ap, subst, arith}
use Rattle.std.specs.List.{AllZip, sum_by}
use Rattle.std.specs.Prelude.{reverse}
use Rattle.std.specs.Option.{IsSome}
use Rattle.std.proofs.lemmas.List.Elements.{All-from_recursion, All-nil}
use Rattle.std.proofs.lemmas.List.Sums.{sum_by-cons}
use Rattle.kdb_base.specs.Key.{Key}
use Rattle.kdb_base.specs.Limits.{longest_row}
use Rattle.kdb_base.specs.declared.versions.Master.{Master}
use Rattle.kdb_plain.specs.States.{history_name}
use Rattle.kdb_plain.proofs.OwnNames.{history_printed}
use Rattle.master_keys.specs.Chain.{IsChain, IsKeyOf}
use Rattle.master_keys.specs.First.{admin_name, first_record, master_name}
use Rattle.master_keys.specs.Lengths.{few_bytes}
use Rattle.master_keys.proofs.RealmPrints.{admin_printed, master_printed}
use Rattle.plain_keys.specs.Keys.{item_of, items_of, random_keys}
use Rattle.princ_keys.specs.Keys.{salt_bytes}
use Rattle.princ_keys.specs.Remembered.{IsOldSet}
use Rattle.princ_keys.specs.Sizes.{key_len}
use Rattle.princ_keys.specs.declared.keys.KeyItem.{KeyItem}
use Rattle.princ_name.specs.Printed.{IsPrinted, is_master}
use Rattle.princ_name.specs.Realms.{IsRealm}
use Rattle.princ_record.specs.Princs.{IsPrinc, are_attributes, name_of, princ}
use Rattle.princ_record.specs.RowLimits.{IsRow}
use Rattle.princ_record.specs.SizeLaws.{length-princ}
use Rattle.princ_record.specs.declared.princs.Princ.{Princ}
use Rattle.princ_record.specs.Policies.{IsPolicy}
use Rattle.princ_rows.specs.Rows.{AreRows}
use Rattle.tagged_data.specs.KeyOrder.{AreInOrder, rises_from}
use Rattle.tagged_data.specs.KeyOrderLaws.{in_order}
use Rattle.policy_rules.specs.Rules.{Rules}
use Rattle.tagged_data.specs.StringLaws.{no_strings}
use Rattle.tagged_data.specs.Versions.{length-aux_keys_text}
use Rattle.row_keys.specs.Formed.{AreFields, AreItems, IsItem, are_ordered}
use Rattle.row_keys.specs.Shows.{ShowsItem}
use Rattle.row_keys.proofs.Formed.{fields_fit, items_to}
use Rattle.first_rows.specs.Creation.{first_head, first_items, first_kept, history_types, ticket_name, ticket_types}
use Rattle.first_rows.proofs.Names.{history_other, names_rise, ticket_other, ticket_printed}

printed_short : (name : List ℕ) → IsPrinted name → length name ≤ 255
printed_short name is = let short = is.1.0.short in omega (arith, ap length is.1.1)

-- ---- keys of first principals

first_item : (key : Key) → IsItem (item_of 1 key)
first_item key = record { from_one = omega arith; kvno = omega arith; salt = record { short = omega arith } }

pub history_formed : (random : List ℕ) → AreItems (first_items history_types random)
unfolding items_of random_keys are_ordered
history_formed random = record {
  few = omega arith;
  each = All-from_recursion IsItem (first_items history_types random) (first_item _, tt);
  ordered = refl;
}

pub ticket_formed : (random : List ℕ) → AreItems (first_items ticket_types random)
unfolding items_of random_keys are_ordered
ticket_formed random = record {
  few = omega arith;
  each = All-from_recursion IsItem (first_items ticket_types random)
      (first_item _, (first_item _, tt));
  ordered = refl;
}

-- a key takes at most 84 bytes of a row
few_item_bytes : (master : Key) (item : KeyItem) (key : Key) → ShowsItem master item (item_of 1 key) → key_len item ≤ 84
few_item_bytes master item key f = let blob = few_bytes f.holds in omega (arith, ap (λ s. length (salt_bytes s)) f.salt)

pub few_items_bytes : (master : Key) (items : List KeyItem) (keys : List Key)
    → AllZip (ShowsItem master) items (items_of 1 keys)
    → sum_by key_len items ≤ 84 * length keys
unfolding items_of
few_items_bytes master [] keys h = omega arith
few_items_bytes master (i ∷ items) [] h = absurd h
few_items_bytes master (i ∷ items) (k ∷ keys) h =
    omega (arith, sum_by-cons key_len i items, few_item_bytes master i k h.0, few_items_bytes master items keys h.1)

-- ---- records other than K/M's

module _ (realm : List ℕ) (is : IsRealm realm) (secs : ℕ) (short : secs < 2 ^ 32) (name : List ℕ)
    (printed : IsPrinted name)
    (other : is_master name ≡ false) (master : Key) where
  fields : AreFields (first_head realm name secs)
  unfolding first_head are_attributes
  fields = record {
    name = printed;
    other = other;
    attributes = refl;
    attributes_short = omega arith;
    lives = record { max_life = omega arith; max_renew = omega arith; expire = omega arith; pw_expire = omega arith };
    pw_changed = short;
    modified = short;
    modifier = admin_printed realm is;
    mkvno = record { some = omega arith; short = omega arith };
    strings = no_strings;
    policy = tt;
  }

  pub kept_row : (items : List KeyItem) (keys : List Key) → length keys ≤ 2
      → AllZip (ShowsItem master) items (items_of 1 keys)
      → AreItems (items_of 1 keys) → IsRow (first_kept realm name secs items)
  unfolding first_head name_of
  kept_row items keys few h formed =
      let p = first_kept realm name secs items in
      let admin = printed_short (admin_name realm) (admin_printed realm is) in
      let own = printed_short name printed in
      record {
        fits = fields_fit p refl fields (items_to master items (items_of 1 keys) h formed)
            (record { few = omega arith; each = All-nil IsOldSet });
        short = omega (arith, length-princ p, few_items_bytes master items keys h, few, admin, own);
      }

module _ (realm : List ℕ) (is : IsRealm realm) (secs : ℕ) (short : secs < 2 ^ 32) (master : Key) (random : List ℕ)
    (items : List KeyItem) where
  pub history_row : AllZip (ShowsItem master) items (first_items history_types random)
      → IsRow (first_kept realm (history_name realm) secs items)
  unfolding random_keys
  history_row h =
      kept_row realm is secs short (history_name realm) (history_printed realm is) (history_other realm) master items
      (random_keys random history_types) (omega arith) h (history_formed random)

  pub ticket_row : AllZip (ShowsItem master) items (first_items ticket_types random)
      → IsRow (first_kept realm (ticket_name realm) secs items)
  unfolding random_keys
  ticket_row h =
      kept_row realm is secs short (ticket_name realm) (ticket_printed realm is) (ticket_other realm) master items
      (random_keys random ticket_types) (omega arith) h (ticket_formed random)

-- ---- K/M

few_key : (newest : Key) (item : KeyItem) (masters : List Master) → AllZip (IsKeyOf newest) (item ∷ []) masters
    → length item.wrapped ≤ 74
few_key newest item [] h = absurd h
few_key newest item (m ∷ masters) h = few_bytes h.0.unwraps

first_short : (realm : List ℕ) (key : Key) (secs : ℕ) (confounder : List ℕ) (masters : List Master) → IsRealm realm
    → IsChain (first_record realm key secs confounder) masters
    → length (princ (first_record realm key secs confounder)) ≤ longest_row
unfolding first_record name_of
first_short realm key secs confounder masters is chain =
    let p = first_record realm key secs confounder in
    let name = printed_short (master_name realm) (master_printed realm is) in
    let admin = printed_short (admin_name realm) (admin_printed realm is) in
    let blob = few_key chain.newest _ (reverse masters) chain.under.keys in
    omega (arith, length-princ p, name, admin, blob, length-aux_keys_text [])

pub master_row : (p : Princ) (realm : List ℕ) (key : Key) (secs : ℕ) (confounder : List ℕ) (masters : List Master)
    → p ≡ first_record realm key secs confounder
    → IsRealm realm → IsChain p masters → IsPrinc p → IsRow p
master_row p realm key secs confounder masters e is chain fits =
    let short = first_short realm key secs confounder masters is (subst (λ (q : Princ). IsChain q masters) e chain) in
    record { fits = fits; short = subst (λ (q : Princ). length (princ q) ≤ longest_row) (sym e) short }

-- ---- all of them

pub three_rows : (realm : List ℕ) (a b c : Princ) (princs : List Princ) (policies : List Rules)
    → princs ≡ a ∷ b ∷ c ∷ [] → policies ≡ []
    → a.name ≡ master_name realm → b.name ≡ history_name realm → c.name ≡ ticket_name realm → IsRow a
    → IsRow b → IsRow c
    → AreRows (record { princs = princs; policies = policies })
unfolding rises_from
three_rows realm a b c princs policies e f first second third row_a row_b row_c =
    let order : AreInOrder (a.name ∷ b.name ∷ c.name ∷ []) =
    subst (λ (n : List ℕ). AreInOrder (n ∷ b.name ∷ c.name ∷ [])) (sym first)
    (subst (λ (n : List ℕ). AreInOrder (master_name realm ∷ n ∷ c.name ∷ [])) (sym second)
    (subst (λ (n : List ℕ). AreInOrder (master_name realm ∷ history_name realm ∷ n ∷ [])) (sym third)
    (names_rise realm))) in
    let rows : AreRows (record { princs = a ∷ b ∷ c ∷ []; policies = [] }) =
    record {
      princ_order = order;
      policy_order = in_order [] refl;
      few = omega arith;
      princs = All-from_recursion IsRow (a ∷ b ∷ c ∷ [])
          (row_a, (row_b, (row_c, tt)));
      policies = All-nil IsPolicy;
    } in
    subst (λ (ps : List Princ). AreRows (record { princs = ps; policies = policies })) (sym e)
    (subst (λ (qs : List Rules). AreRows (record { princs = a ∷ b ∷ c ∷ []; policies = qs })) (sym f) rows)

pub some_there : {A : Type 0} (o : Option A) → (o ≡ None → ⊥) → IsSome o
some_there None never = absurd (never refl)
some_there (Some x) never = refl
