-- With a new newest key, the record of a chain still has a spelling.
use Rattle.std.proofs.Common.{◌≡◌, ℕ, ◌+◌, ◌<◌, true, List, [], ◌∷◌, ◌++◌, length}
use Rattle.std.proofs.Common.{refl, sym, ap, subst, ◌∙◌, arith, Option, Some}
use Rattle.std.specs.Prelude.{is_some, option_map}
use Rattle.std.specs.List.{list_all}
use Rattle.std.proofs.lemmas.Bool.{and_from, and_parts, eqb-true, lt-ltb, ltb-true}
use Rattle.std.proofs.lemmas.List.{length-append}
use Rattle.std.proofs.lemmas.List.Elements.{All-push, recursion_from_All}
use Rattle.kdb_base.specs.Key.{Key}
use Rattle.kdb_base.specs.declared.versions.Master.{Master}
use Rattle.tagged_data.specs.Numbers.{IsVersion}
use Rattle.princ_record.specs.Facts.{IsChain as IsPart, IsChainOr}
use Rattle.princ_keys.specs.Keys.{IsKey, are_falling, begins_at, is_below}
use Rattle.princ_record.specs.Princs.{IsPrinc}
use Rattle.princ_record.specs.declared.facts.ChainPart.{ChainPart}
use Rattle.princ_keys.specs.declared.keys.KeyItem.{KeyItem}
use Rattle.princ_record.specs.declared.princs.Princ.{Princ}
use Rattle.master_keys.specs.Adding.{added_keys, added_masters, added_record, aux_keys}
use Rattle.master_keys.specs.Adding.{newest_first, newest_item, next_version, with_aux}
use Rattle.master_keys.specs.Chain.{IsChain}
use Rattle.master_keys.specs.Rewrapping.{with_keys}
use Rattle.master_keys.specs.Versions.{last_version}
use Rattle.master_keys.proofs.Live.{last_is_named}
use Rattle.master_keys.proofs.Spelled.{all_to, all_with, chain_spelled, falling_with, master_versions, salts_with}

-- what falls from this version on is below a greater one
below : (version : ℕ) (keys : List KeyItem) (x : KeyItem) → begins_at version keys ≡ true → are_falling keys ≡ true
    → version < x.kvno → list_all (is_below x) keys ≡ true
unfolding begins_at are_falling
below version [] x first falling lt = absurd cc
below version (k ∷ keys) x first falling lt =
    let parts = and_parts (list_all (is_below k) keys) (are_falling keys) falling in
    let same = eqb-true _ _ first in
    let less : k.kvno < x.kvno = omega arith in
    and_from (is_below x k) (list_all (is_below x) keys) (lt-ltb _ _ less) (all_to (is_below k) (is_below x)
    (λ y e. let h = ltb-true y.kvno k.kvno e in lt-ltb _ _ (omega arith)) keys parts.0)

module _ (entry : Princ) (masters : List Master) (key : Key) (random : List ℕ) (h : IsChain entry masters)
    (f : IsPrinc entry) (room : last_version masters < 65535) where
  version : IsVersion (next_version masters)
  unfolding next_version
  version = record { some = omega arith; short = omega arith }

  there : is_some entry.chain ≡ true
  there = ap is_some h.under.part_is

  added_falling : are_falling (added_keys (next_version masters) entry.keys masters key random) ≡ true
  unfolding are_falling added_keys newest_item next_version
  added_falling =
      let newest = newest_item (next_version masters) key random in
      let old = f.masters (sym f.facts.chain_there ∙ there) in
      let rest = with_keys key random 1 entry.keys (newest_first masters) in
      and_from (list_all (is_below newest) rest) (are_falling rest)
      (all_with key random (is_below newest) (λ _ _. refl) 1 entry.keys (newest_first masters)
      (below entry.mkvno entry.keys newest old.newest old.falling (omega (arith, last_is_named entry masters h))))
      (falling_with key random 1 entry.keys (newest_first masters) old.falling)

  pub added_spelled : length masters < 32 → IsChain (added_record entry masters key random) (added_masters masters key)
      → IsPrinc (added_record entry masters key random)
  unfolding added_record added_masters added_keys newest_item
  added_spelled few chain =
      let keys = added_keys (next_version masters) entry.keys masters key random in
      let aux = aux_keys key random (1 + length entry.keys) masters in
      let newest : Master = record { version = next_version masters; key = key } in
      let part = with_aux aux h.under.part in
      let same : option_map (with_aux aux) entry.chain ≡ Some part = ap (option_map (with_aux aux)) h.under.part_is in
      let old : IsPart h.under.part = subst IsChainOr h.under.part_is f.facts.chain in
      let made : IsChain (record entry { mkvno = next_version masters; keys = keys; chain = Some part })
      (masters ++ newest ∷ []) = subst (λ (c : Option ChainPart). IsChain (record entry {
        mkvno = next_version masters;
        keys = keys;
        chain = c;
      }) (masters ++ newest ∷ [])) same chain in
      subst (λ (c : Option ChainPart). IsPrinc (record entry { mkvno = next_version masters; keys = keys; chain = c }))
      (sym same)
      (chain_spelled entry (next_version masters) keys part (masters ++ newest ∷ []) f there version made
      (recursion_from_All (λ (m : Master). IsVersion m.version) (masters ++ newest ∷ [])
      (All-push (λ (m : Master). IsVersion m.version) masters newest (master_versions entry masters h f) version))
      (omega (arith, few, length-append masters (newest ∷ []))) (
        record { short = omega arith },
        salts_with key random 1 entry.keys (newest_first masters) (recursion_from_All IsKey entry.keys f.keys.each),
      )
      added_falling old.activations old.activations_short)
