-- The state of a creation is valid at the clock.
use Rattle.std.proofs.Common.{◌≡◌, ℕ, List, [], ◌∷◌, Some, refl, ap, ◌∙◌, arith}
use Rattle.std.specs.Prelude.{is_some}
use Rattle.std.proofs.lemmas.Bool.{le-leb}
use Rattle.std.proofs.lemmas.List.Elements.{All-from_recursion, All-nil}
use Rattle.kdb_base.specs.Moment.{Moment}
use Rattle.kdb_base.specs.declared.versions.Activation.{Activation}
use Rattle.kdb_plain.specs.States.{HasItsPolicy, IsListed, IsValid, NeverRise, history_name}
use Rattle.kdb_plain.specs.States.{is_named, master_of, never_rise, princ_named}
use Rattle.kdb_plain.specs.declared.princs.PlainPrinc.{PlainPrinc}
use Rattle.key_activation.specs.Activations.{active, begun, latest}
use Rattle.master_keys.specs.First.{master_name}
use Rattle.master_keys.proofs.Rising.{rising_one}
use Rattle.plain_keys.specs.Keys.{item_of, items_of, random_keys}
use Rattle.plain_keys.specs.declared.items.PlainItem.{PlainItem}
use Rattle.princ_rows.specs.EntryLaws.{bytes_same}
use Rattle.princ_record.specs.Policies.{IsPolicy}
use Rattle.tagged_data.specs.KeyOrder.{rises_from}
use Rattle.tagged_data.specs.KeyOrderLaws.{in_order}
use Rattle.first_rows.specs.Creation.{behind_history, behind_master, first_head, first_items, first_plain}
use Rattle.first_rows.specs.Creation.{first_princs, first_state, history_types}
use Rattle.first_rows.specs.Creation.{master_key_of, ticket_name, ticket_types}
use Rattle.first_rows.specs.Parts.{IsSpec, SpecParts}
use Rattle.row_keys.proofs.Sides.{found_first, passed}
use Rattle.first_rows.proofs.Names.{master_is_other, names_rise}

-- the version is active from these seconds on
active_one : (secs : ℕ) → active (record { version = 1; secs = secs } ∷ []) secs ≡ Some 1
unfolding active latest begun
active_one secs = rw (le-leb secs secs (omega arith)) refl

module _ (realm : List ℕ) (secs : ℕ) where
  abbrev three : List PlainItem → List PlainItem → List PlainItem → List PlainPrinc
  three a b c = first_plain realm (master_name realm) secs a ∷ first_plain realm (history_name realm) secs b
      ∷ first_plain realm (ticket_name realm)
      secs c ∷ []

  pub master_there : (a b c : List PlainItem)
      → princ_named (master_name realm) (three a b c) ≡ Some (first_plain realm (master_name realm) secs a)
  unfolding princ_named first_head
  master_there a b c =
      let name = master_name realm in
      found_first (is_named name) (first_plain realm name secs a)
      (first_plain realm (history_name realm) secs b ∷ first_plain realm (ticket_name realm) secs c ∷ [])
      (bytes_same name name refl)

  pub history_there : (a b c : List PlainItem)
      → princ_named (history_name realm) (three a b c) ≡ Some (first_plain realm (history_name realm) secs b)
  unfolding princ_named first_head
  history_there a b c =
      let name = history_name realm in
      passed (is_named name) (first_plain realm (master_name realm) secs a)
      (first_plain realm name secs b ∷ first_plain realm (ticket_name realm) secs c ∷ []) (master_is_other realm)
      ∙ found_first (is_named name) (first_plain realm name secs b) (first_plain realm (ticket_name realm) secs c ∷ [])
      (bytes_same name name refl)

module _ (spec : SpecParts) (now : Moment) (random : List ℕ) where
  abbrev own : List PlainItem
  own = item_of 1 (master_key_of spec random) ∷ []

  abbrev history : List PlainItem
  history = first_items history_types (behind_master spec random)

  abbrev tickets : List PlainItem
  tickets = first_items ticket_types (behind_history spec random)

  abbrev Falls : PlainPrinc → Type 0
  Falls q = NeverRise q.keys

  abbrev IsUnderFirst : PlainPrinc → Type 0
  IsUnderFirst q = IsListed (first_state spec now random).masters q.mkvno

  abbrev IsOfFirst : Activation → Type 0
  IsOfFirst a = IsListed (first_state spec now random).masters a.version

  pub first_valid : IsSpec spec → IsValid now (first_state spec now random)
  unfolding first_state first_princs first_head items_of random_keys never_rise master_of rises_from
  first_valid is =
      let s = first_state spec now random in
      record {
        realm = is.realm;
        princ_order = names_rise spec.realm;
        policy_order = in_order [] refl;
        few = omega arith;
        policies = All-nil IsPolicy;
        policies_there = All-from_recursion (HasItsPolicy []) s.princs (tt, (tt, (tt, tt)));
        falling = All-from_recursion Falls s.princs (refl, (refl, (refl, tt)));
        masters = record {
          entry = first_plain spec.realm (master_name spec.realm) now.secs own;
          there = master_there spec.realm now.secs own
              history tickets;
          keys = refl;
          newest = refl;
        };
        masters_rise = rising_one 1;
        listed = All-from_recursion IsUnderFirst s.princs (refl, (refl, (refl, tt)));
        activations = All-from_recursion IsOfFirst s.activations (refl, tt);
        activations_rise = rising_one 1;
        begun = ap is_some (active_one now.secs);
        history = record {
          entry = first_plain spec.realm (history_name spec.realm) now.secs history;
          there = history_there spec.realm now.secs own
              history tickets;
          one = refl;
        };
      }
