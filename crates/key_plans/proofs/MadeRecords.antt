-- The record with new keys, and the principal that it shows.
use Rattle.std.proofs.Common.{◌≡◌, ℕ, ◌++◌, List, refl, sym, ap, subst}
use Rattle.std.specs.Prelude.{Result, Ok, Err, IfOk}
use Rattle.std.specs.List.{AllZip}
use Rattle.kadm_commands.specs.declared.commands.ChangeKeys.{ChangeKeys}
use Rattle.kdb_base.specs.Key.{Key}
use Rattle.kdb_model.specs.Fields.{By, rekeyed_head}
use Rattle.kdb_plain.specs.Heads.{head, plain_head}
use Rattle.kdb_plain.specs.declared.princs.PlainPrinc.{PlainPrinc}
use Rattle.key_plans.specs.Changing.{kept_items, kept_sets, kept_with, next_items, plain_sets, plain_with}
use Rattle.key_plans.specs.declared.rekeying.With.{With}
use Rattle.plain_keys.specs.Keys.{kept_keys}
use Rattle.princ_keys.specs.declared.keys.KeyItem.{KeyItem}
use Rattle.princ_keys.specs.declared.remembered.OldSet.{OldSet}
use Rattle.princ_record.specs.declared.princs.Princ.{Princ}
use Rattle.row_keys.specs.Shows.{ShowsItem, ShowsSet, ShowsUnder}

-- what holds of a record holds of what is equal to it
pub on_made : {E : Type 0} (r : Result Princ E) (F : Princ → Type 0) (h : Princ) → IfOk r (λ (x : Princ). x ≡ h)
    → F h → IfOk r F
on_made (Ok x) F h e f = subst F (sym e) f
on_made (Err why) F h e f = tt

module _ (w : With) (by : By) (c : ChangeKeys) (fresh : List Key) (q : PlainPrinc) (p made : Princ)
    (keys : List KeyItem) (old : List OldSet) (same : made ≡ p) where
  abbrev made_head : Princ
  made_head = rekeyed_head w.active.version w.numbers.max_life by (record made { keys = keys; old = old })

  pub made_from : (random : List ℕ) → keys ≡ kept_items w.active.key random c fresh q
      → old ≡ kept_sets w.history w.numbers.history random c fresh q made.old
      → made_head ≡ kept_with w random by c fresh q p
  unfolding rekeyed_head
  made_from random keys_are old_are = rw (keys_are, old_are, same) refl

  pub made_shows : (master : Key) → ShowsUnder master w.history p q
      → AllZip (ShowsItem w.active.key) keys (next_items fresh q.keys ++ kept_keys c.keep_old q.keys)
      → AllZip (ShowsSet w.history) old (plain_sets w.numbers.history c q)
      → ShowsUnder w.active.key w.history made_head (plain_with w by c fresh q)
  unfolding rekeyed_head
  made_shows master f items sets = record {
    fields = ap (rekeyed_head w.active.version w.numbers.max_life by)
        (subst (λ (x : Princ). head x ≡ plain_head q) (sym same) f.fields);
    keys = items;
    old = sets;
  }
