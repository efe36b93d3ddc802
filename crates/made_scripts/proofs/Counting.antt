-- Keys counted from the left.
use Rattle.std.proofs.Common.{◌≡◌, ◌∙◌, ℕ, ◌+◌, ◌<◌, ◌≤◌, List, length, drop, get_or, ap, arith, sym}
use Rattle.std.proofs.lemmas.List.{drop_all, drop_more}
use Rattle.princ_record.specs.declared.princs.Princ.{Princ}
use Rattle.made_scripts.specs.Counts.{keys_in}

-- the keys of the principals from one on are its own and those of the others
keys_more : (princs : List Princ) (i : ℕ) (p : Princ) → i < length princs → p ≡ get_or princs i p
    → keys_in (drop i princs) ≡ length p.keys + keys_in (drop (i + 1) princs)
unfolding keys_in
keys_more princs i p lt is =
    ap keys_in (drop_more princs i p lt) ∙ ap (λ (x : Princ). length x.keys + keys_in (drop (i + 1) princs)) (sym is)

-- behind the last one there are none
keys_end : (princs : List Princ) (i : ℕ) → length princs ≤ i → keys_in (drop i princs) ≡ 0
unfolding keys_in
keys_end princs i le = ap keys_in (drop_all i princs le)

-- one principal more was counted
pub counted_more : (princs : List Princ) (i : ℕ) (p : Princ) (count keys : ℕ) → i < length princs
    → p ≡ get_or princs i p → keys ≡ length p.keys
    → count + keys_in (drop i princs) ≡ keys_in princs → count + keys + keys_in (drop (i + 1) princs) ≡ keys_in princs
counted_more princs i p count keys lt is own told = omega (arith, keys_more princs i p lt is, own, told)

-- all were counted
pub counted_all : (princs : List Princ) (i count : ℕ) → length princs ≤ i
    → count + keys_in (drop i princs) ≡ keys_in princs → count ≡ keys_in princs
counted_all princs i count le told = omega (arith, keys_end princs i le, told)
