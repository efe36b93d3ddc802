-- What a call that gives a unit answers.
use Rattle.std.proofs.Common.{◌≡◌, ℕ, ◌≤◌, List, Some, None}
use Rattle.std.specs.Prelude.{Result, Ok, Err, IfOk, Contains}
use Rattle.std.specs.List.{All}
use Rattle.std.proofs.lemmas.List.Elements.{All-contains}
use Rattle.kdb_cells.specs.Leads.{Units, IsLeastFree}
use Rattle.store_files.specs.Standing.{IsGivenFor}
use Rattle.store_opening.specs.Writes.{number_of}
use Rattle.store_opening.specs.declared.unit_writes.UnitWrite.{UnitWrite}

pub given_for : {E : Type 0} (r : Result ℕ E) (key : List ℕ) (u : Units) → IfOk r (λ i. 1 ≤ i)
    → IfOk r (λ i. i ≤ u.next)
    → ((j : ℕ) → u.of key ≡ Some j → IfOk r (λ i. i ≡ j)) → (u.of key ≡ None → IfOk r (λ i. IsLeastFree i u))
    → IfOk r (λ i. IsGivenFor key i u)
given_for (Ok i) key u low high own new = record { from = low; within = high; own = own; new = new }
given_for (Err e) key u low high own new = tt

-- what a row is named is not what no row is named
pub named_by_none : {X E : Type 0} {x : X} (name_of : X → List ℕ) (name : List ℕ) (rows : List X)
    (r : Result UnitWrite E)
    → Contains rows x → name_of x ≡ name → IfOk r (λ w. All (λ y. name_of y ≡ name → ⊥) rows → number_of w ≡ 0)
named_by_none {X} {E} {x} name_of name rows (Ok w) there named =
    λ none. absurd (All-contains (λ (y : X). name_of y ≡ name → ⊥) rows x none there named)
named_by_none {X} {E} {x} name_of name rows (Err e) there named = tt
