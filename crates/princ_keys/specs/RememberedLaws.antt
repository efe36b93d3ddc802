-- The format of remembered keys agrees both ways.
use Rattle.std.proofs.Common.{ℕ, refl, sym, ap, arith}
use Rattle.std.proofs.lemmas.Bool.{leb-true, le-leb}
use Rattle.kdb_base.specs.declared.keys.Etype.{Etype}
use Rattle.kdb_format.specs.EtypeLaws.{etype_field}
use Rattle.kdb_format.specs.Fields.{IsField}
use Rattle.kdb_format.specs.Laws.{same_field, first_field, last_field, big_field}
use Rattle.kdb_format.specs.Laws.{checked_field, counted_field, counted_list_field}
use Rattle.princ_keys.specs.declared.remembered.OldKey.{OldKey}
use Rattle.princ_keys.specs.declared.remembered.OldSet.{OldSet}
use Rattle.princ_keys.specs.Remembered.{old_key_at, old_key, IsOldKey, old_set_at, old_set}
use Rattle.princ_keys.specs.Remembered.{IsOldSet, are_few, old_sets_at, old_sets, AreOldSets}

pub old_key_field : IsField old_key_at old_key IsOldKey
unfolding old_key_at old_key
old_key_field = same_field
    (first_field etype_field (λ (k : OldKey). k.etype) (λ etype _.
    last_field counted_field (λ (k : OldKey). k.wrapped) (λ wrapped. record { etype = etype; wrapped = wrapped })
    (λ _ _. (refl, refl)) (λ k e. ap (λ (t : Etype). record { etype = t; wrapped = k.wrapped }) (sym e))))
    (λ k f. (refl, record { wrapped = f.1 }))
    (λ k f. (tt, f.wrapped))

pub old_set_field : IsField old_set_at old_set IsOldSet
unfolding old_set_at old_set
old_set_field = same_field
    (first_field (big_field 2) (λ (s : OldSet). s.kvno) (λ kvno _.
    last_field (counted_list_field 2 old_key_field) (λ (s : OldSet). s.keys) (λ keys. record {
      kvno = kvno;
      keys = keys;
    }) (λ _ _. (refl, refl)) (λ s e. ap (λ (n : ℕ). record { kvno = n; keys = s.keys }) (sym e))))
    (λ s f. (refl, record { kvno = f.0; count = f.1.0; keys = f.1.1 }))
    (λ s f. (f.kvno, (f.count, f.keys)))

pub old_sets_field : IsField old_sets_at old_sets AreOldSets
unfolding old_sets_at old_sets
old_sets_field = same_field (checked_field are_few (counted_list_field 2 old_set_field))
    (λ sets f. (refl, record { few = leb-true _ _ f.1; each = f.0.1 }))
    (λ sets f. let few = f.few in ((omega arith, f.each), le-leb _ _ f.few))
