use Rattle.std.proofs.Common.{◌≡◌, ℕ, Bool, true, false, List, [], eqb, length}
use Rattle.std.proofs.Common.{take, drop, sym, ap, subst, ◌∙◌, inl, inr}
use Rattle.std.specs.Cmp.Lexicographic.{pointwise}
use Rattle.std.proofs.lemmas.Bool.{false≢true}
use Rattle.std.proofs.lemmas.Bool.Decides.{Decides-eqb}
use Rattle.std.proofs.lemmas.Slice.Eq.{starts_is}
use Rattle.kdb_format.specs.Spellings.{zeros}
use Rattle.stash_file.specs.Keytabs.{IsEnd, IsMark}
use Rattle.stash_file.proofs.pieces.is_end.Goals as goal

marked : (rest : List ℕ) (r : Bool) → r ≡ pointwise eqb (zeros 4) (take (length (zeros 4)) rest)
    → r ≡ true → IsMark rest
marked rest r e is =
    record { ignored = drop (length (zeros 4)) rest; is = (starts_is Decides-eqb rest (zeros 4) r e).0 is }

unmarked : (rest : List ℕ) (r : Bool) → r ≡ pointwise eqb (zeros 4) (take (length (zeros 4)) rest) → (rest ≡ [] → ⊥)
    → r ≡ false → IsEnd rest → ⊥
unmarked rest r e some not (inl none) = some none
unmarked rest r e some not (inr mark) =
    false≢true (sym not ∙ (starts_is Decides-eqb rest (zeros 4) r e).1 mark.ignored mark.is)

pub returns-else-is_empty-clause-ended : goal.returns-else-is_empty-clause-ended
unfolding zeros
returns-else-is_empty-clause-ended c = λ is. inr (subst IsMark c.rest-rest.ensures
    (marked c.rest-rest.result.now c.starts_with.result c.starts_with.ensures.value is))

pub returns-else-is_empty-clause-going_on : goal.returns-else-is_empty-clause-going_on
unfolding zeros
returns-else-is_empty-clause-going_on c = λ not end.
    let some : c.rest-rest.result.now ≡ [] → ⊥ =
    λ none. false≢true (sym c.if-is_empty.false ∙ c.is_empty.ensures ∙ ap (λ (xs : List ℕ). eqb (length xs) 0) none) in
    unmarked c.rest-rest.result.now c.starts_with.result c.starts_with.ensures.value some not
    (subst IsEnd (sym c.rest-rest.ensures) end)
