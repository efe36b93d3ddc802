-- How many rows a change leaves.
use Rattle.std.proofs.Common.{◌≡◌, ℕ, zero, suc, ◌+◌, ◌<◌, Bool, true, List, [], ◌∷◌}
use Rattle.std.proofs.Common.{length, map, get_or, Some, refl, sym, ap, subst, ◌∙◌, arith}
use Rattle.std.specs.Prelude.{find}
use Rattle.std.specs.List.{All}
use Rattle.std.specs.Str.{bytes_eq}
use Rattle.std.proofs.lemmas.List.{length-set}
use Rattle.kdb_base.specs.Limits.{most_rows}
use Rattle.kdb_places.proofs.Judged.{may_from}
use Rattle.kdb_places.specs.Applying.{may_apply}
use Rattle.policy_rules.specs.Rules.{Rules}
use Rattle.princ_rows.specs.declared.entries.Op.TheVariants.{DropPolicy, DropPrinc, PutPolicy, PutPrinc}
use Rattle.princ_record.specs.declared.princs.Princ.{Princ}
use Rattle.princ_rows.proofs.Orders.{drop_short, put_short}
use Rattle.princ_rows.specs.Effects.{IsRoom, drop_policy, drop_princ, effect, put_by, put_policy, put_princ}
use Rattle.princ_rows.specs.Rows.{AreRows, IsAt, RowLists}
use Rattle.tagged_data.specs.KeyOrder.{AreInOrder}
use Rattle.kdb_plain.specs.States.{policy_named}
use Rattle.princ_rows.specs.EntryLaws.{same_bytes}
use Rattle.princ_rows.proofs.Edits.{set_is_put}
use Rattle.row_keys.proofs.Whole.{find_there}
use Rattle.row_keys.specs.Lookups.{record_named}

drop_room : (name : List ℕ) (rows : RowLists) → AreRows rows → IsRoom (effect (Some (DropPrinc name)) rows)
unfolding effect drop_princ
drop_room name rows f = let few = f.few in omega (arith, drop_short (λ (q : Princ). q.name) name rows.princs)

pub may_drop : (name : List ℕ) (rows : RowLists) → AreRows rows → may_apply (DropPrinc name) rows ≡ true
may_drop name rows f = may_from (DropPrinc name) rows (drop_room name rows f) tt

drop_policy_room : (name : List ℕ) (rows : RowLists) → AreRows rows → IsRoom (effect (Some (DropPolicy name)) rows)
unfolding effect drop_policy
drop_policy_room name rows f = let few = f.few in omega (arith, drop_short (λ (q : Rules). q.name) name rows.policies)

pub may_drop_policy : (name : List ℕ) (rows : RowLists) → AreRows rows → may_apply (DropPolicy name) rows ≡ true
may_drop_policy name rows f = may_from (DropPolicy name) rows (drop_policy_room name rows f) tt

add_policy_room : (p : Rules) (rows : RowLists) → length rows.princs + length rows.policies < most_rows
    → IsRoom (effect (Some (PutPolicy p)) rows)
unfolding effect put_policy
add_policy_room p rows lt = omega (arith, put_short (λ (q : Rules). q.name) p rows.policies)

pub may_add_policy : (p : Rules) (rows : RowLists) → length rows.princs + length rows.policies < most_rows
    → may_apply (PutPolicy p) rows ≡ true
may_add_policy p rows lt = may_from (PutPolicy p) rows (add_policy_room p rows lt) tt

-- ---- what is put in the place of another

pub any_default : {X : Type 0} (xs : List X) (i : ℕ) (c d : X) → i < length xs → get_or xs i c ≡ get_or xs i d
any_default [] i c d lt = absurd (omega arith)
any_default (x ∷ xs) zero c d lt = refl
any_default (x ∷ xs) (suc i) c d lt = any_default xs i c d (omega arith)

-- what is found is one of them
pub found_holds : {X : Type 0} (F : X → Type 0) (p : X → Bool) (xs : List X) (x : X) → find p xs ≡ Some x
    → All F xs → F x
found_holds F p xs x e all =
    let at = find_there p xs x e in
    subst F at.0.2 (all at.0.0 x at.0.1)

same_length : {X : Type 0} (key : X → List ℕ) (x y : X) (xs : List X) → AreInOrder (map key xs)
    → find (λ z. bytes_eq (key z) (key x)) xs ≡ Some y → length (put_by key x xs) ≡ length xs
same_length key x y xs order e =
    let at = find_there (λ z. bytes_eq (key z) (key x)) xs y e in
    let place : IsAt key xs (key x) at.0.0 = record {
      in_range = at.0.1;
      has_key = λ d. ap key (any_default xs at.0.0 d y at.0.1 ∙ at.0.2) ∙ same_bytes (key y) (key x) at.1;
    } in
    ap (λ zs. length zs) (sym (set_is_put key xs x at.0.0 order place)) ∙ length-set xs at.0.0 x

replace_policy_room : (p q : Rules) (rows : RowLists) → AreRows rows → policy_named p.name rows.policies ≡ Some q
    → IsRoom (effect (Some (PutPolicy p)) rows)
unfolding effect put_policy policy_named
replace_policy_room p q rows f e = let few =
    f.few in omega (arith, same_length (λ (x : Rules). x.name) p q rows.policies f.policy_order e)

pub may_replace_policy : (p q : Rules) (rows : RowLists) → AreRows rows → policy_named p.name rows.policies ≡ Some q
    → may_apply (PutPolicy p) rows ≡ true
may_replace_policy p q rows f e = may_from (PutPolicy p) rows (replace_policy_room p q rows f e) tt

replace_room : (p q : Princ) (rows : RowLists) → AreRows rows → record_named p.name rows.princs ≡ Some q
    → IsRoom (effect (Some (PutPrinc p)) rows)
unfolding effect put_princ record_named
replace_room p q rows f e = let few =
    f.few in omega (arith, same_length (λ (x : Princ). x.name) p q rows.princs f.princ_order e)

pub may_replace : (p q : Princ) (rows : RowLists) → AreRows rows → record_named p.name rows.princs ≡ Some q
    → may_apply (PutPrinc p) rows ≡ true
may_replace p q rows f e = may_from (PutPrinc p) rows (replace_room p q rows f e) tt
