-- The rows of a creation show its state.
use Rattle.std.proofs.Common.{◌≡◌, ℕ, ◌+◌, ◌≤◌, true, List, [], ◌∷◌, length}
use Rattle.std.proofs.Common.{take, drop, Option, Some, None, refl, ap, arith}
use Rattle.std.specs.Prelude.{option_and_then}
use Rattle.std.specs.List.{AllZip, sum_by}
use Rattle.std.proofs.lemmas.List.{length-drop, length-take-le}
use Rattle.std.proofs.lemmas.List.Sums.{sum_by-cons}
use Rattle.aes_cts.specs.BlockKeys.{AreBytes}
use Rattle.aes_cts.proofs.Sums.{AreBytes-drop, AreBytes-take}
use Rattle.kdb_base.specs.EtypeLaws.{key_fits}
use Rattle.kdb_base.specs.Etypes.{key_len}
use Rattle.kdb_base.specs.Key.{Key}
use Rattle.kdb_base.specs.Moment.{Moment}
use Rattle.kdb_base.specs.declared.keys.Etype.{Etype}
use Rattle.kdb_base.specs.declared.keys.Etype.TheVariants.{Aes256}
use Rattle.kdb_plain.specs.States.{first_key, history_key, history_name, master_of}
use Rattle.kdb_plain.specs.declared.princs.PlainPrinc.{PlainPrinc}
use Rattle.master_keys.specs.First.{first_record, master_name}
use Rattle.master_keys.specs.Wrapping.{Unwraps, wrapped}
use Rattle.master_keys.proofs.FirstRecord.{first_chain}
use Rattle.plain_keys.specs.Keys.{drawn_len, item_of, items_of, random_keys}
use Rattle.princ_rows.specs.EntryLaws.{bytes_same}
use Rattle.row_keys.specs.Lookups.{has_name, record_named}
use Rattle.row_keys.specs.Shows.{Shows, ShowsItem}
use Rattle.row_keys.specs.Wraps.{wrapped_item, wrapped_items}
use Rattle.row_keys.proofs.Sides.{found_first}
use Rattle.row_keys.proofs.Whole.{IsWhole}
use Rattle.first_rows.specs.Creation.{behind_history, behind_master, first_head}
use Rattle.first_rows.specs.Creation.{first_items, first_princs, first_records, first_rows}
use Rattle.first_rows.specs.Creation.{first_state, first_wrapped, history_types, master_confounder}
use Rattle.first_rows.specs.Creation.{master_key_of, own_len, ticket_name, ticket_types}
use Rattle.first_rows.specs.Parts.{SpecParts}
use Rattle.first_rows.proofs.Sealed.{is_wrapped}
use Rattle.first_rows.proofs.Valid.{history_there}
use Rattle.first_rows.proofs.Whole.{AreRandom, bytes_from, drawn_whole, master_whole, random_from}

-- random keys, each wrapped with the 16 bytes behind its own
drawn_shown : (master : Key) → IsWhole master → (etypes : List Etype) (random : List ℕ)
    → sum_by drawn_len etypes ≤ length random → AreRandom random
    → AllZip (ShowsItem master) (wrapped_items master true random (first_items etypes random))
    (first_items etypes random)
unfolding items_of random_keys wrapped_items wrapped_item
drawn_shown master w [] random le h = tt
drawn_shown master w (e ∷ etypes) random le h =
    let key : Key = record { etype = e; bytes = take (key_len e) random } in
    let sum = sum_by-cons drawn_len e etypes in
    let behind = drop (key_len e) random in
    let enough : 16 ≤ length behind = omega (arith, sum, le, length-drop (key_len e) random) in
    let confounder = take 16 behind in (
      record {
        kvno = refl;
        salt = refl;
        holds =
            is_wrapped master key confounder w (drawn_whole e random (omega (arith, sum, le)) h)
            (length-take-le 16 behind enough)
            (bytes_from confounder (AreBytes-take 16 behind (AreBytes-drop (key_len e) random h)));
      },
      drawn_shown master w etypes (drop (drawn_len e) random) (omega (arith, sum, le, length-drop (drawn_len e) random))
          (AreBytes-drop (drawn_len e) random h),
    )

own_short : (password : Option (List ℕ)) (etype : Etype) → own_len password etype ≤ 32
own_short None etype = key_fits etype
own_short (Some password) etype = omega arith

module _ (spec : SpecParts) (now : Moment) (random : List ℕ) (long : length random ≡ 2048) (are : AreBytes random) where
  bytes : AreRandom random
  bytes = random_from random are

  key : Key
  key = master_key_of spec random

  whole : IsWhole key
  unfolding master_key_of key
  whole = master_whole spec.password spec.realm spec.etype random (omega (arith, long)) bytes

  own : ℕ
  own = own_len spec.password spec.etype

  master_unwraps : Unwraps key key.etype (wrapped key key (master_confounder spec random)) key
  unfolding own
  master_unwraps =
      let behind = drop (own_len spec.password spec.etype) random in
      let enough : 16 ≤ length behind = omega
      (arith, long, own_short spec.password spec.etype, length-drop (own_len spec.password spec.etype) random) in
      is_wrapped key key (master_confounder spec random) whole whole (length-take-le 16 behind enough)
      (bytes_from (master_confounder spec random)
      (AreBytes-take 16 behind (AreBytes-drop (own_len spec.password spec.etype) random bytes)))

  behind_long : 2000 ≤ length (behind_master spec random)
  unfolding behind_master
  behind_long = omega (
    arith,
    long,
    own_short spec.password spec.etype,
    length-drop (own_len spec.password spec.etype + 16) random,
  )

  behind_bytes : AreRandom (behind_master spec random)
  unfolding behind_master
  behind_bytes = AreBytes-drop (own_len spec.password spec.etype + 16) random bytes

  later_long : 80 ≤ length (behind_history spec random)
  unfolding behind_history
  later_long = omega (arith, behind_long, length-drop 48 (behind_master spec random))

  later_bytes : AreRandom (behind_history spec random)
  unfolding behind_history
  later_bytes = AreBytes-drop 48 (behind_master spec random) behind_bytes

  history_shown : AllZip (ShowsItem key)
      (wrapped_items key true (behind_master spec random) (first_items history_types (behind_master spec random)))
      (first_items history_types (behind_master spec random))
  history_shown =
      drawn_shown key whole history_types (behind_master spec random) (omega (arith, behind_long)) behind_bytes

  ticket_shown : AllZip (ShowsItem key)
      (wrapped_items key true (behind_history spec random) (first_items ticket_types (behind_history spec random)))
      (first_items ticket_types (behind_history spec random))
  ticket_shown = drawn_shown key whole ticket_types (behind_history spec random) (omega (arith, later_long)) later_bytes

  history : Key
  history = record { etype = Aes256; bytes = take 32 (behind_master spec random) }

  history_is : history_key spec.realm (first_princs spec now.secs random) ≡ Some history
  unfolding history_key first_princs items_of random_keys history
  history_is = ap (λ (o : Option PlainPrinc). option_and_then (λ (q : PlainPrinc). first_key q.keys) o)
      (history_there spec.realm now.secs (item_of 1 (master_key_of spec random) ∷ [])
      (first_items history_types (behind_master spec random))
      (first_items ticket_types (behind_history spec random)))

  entry_there : record_named (master_name spec.realm) (first_records spec now.secs random)
      ≡ Some (first_record spec.realm key now.secs (master_confounder spec random))
  unfolding record_named first_records first_record key
  entry_there =
      let name = master_name spec.realm in
      found_first (has_name name)
      (first_record spec.realm (master_key_of spec random) now.secs (master_confounder spec random))
      (first_wrapped key spec.realm (history_name spec.realm) now.secs history_types (behind_master spec random)
      ∷ first_wrapped key spec.realm
      (ticket_name spec.realm) now.secs ticket_types (behind_history spec random) ∷ []) (bytes_same name name refl)

  pub first_shows : Shows (first_rows spec now random) (first_state spec now random)
  unfolding first_rows first_state first_records first_princs first_record first_head master_of key history
  first_shows = record {
    history = history;
    history_is = history_is;
    princs = (
      record {
        master = key;
        named = refl;
        under = record {
          fields = refl;
          keys = (record { kvno = refl; salt = refl; holds = master_unwraps }, tt);
          old = tt;
        };
      },
      (
        record { master = key; named = refl; under = record { fields = refl; keys = history_shown; old = tt } },
        (record { master = key; named = refl; under = record { fields = refl; keys = ticket_shown; old = tt } }, tt),
      ),
    );
    policies = refl;
    entry = first_record spec.realm key now.secs (master_confounder spec random);
    there = entry_there;
    chain = record {
      chain = first_chain spec.realm key now.secs (master_confounder spec random) master_unwraps;
      part = record { activations = record { version = 1; secs = now.secs } ∷ []; aux = [] };
      part_is = refl;
      activations_are = refl;
    };
  }
