use Rattle.std.proofs.Common.{ℕ, List, take, Some, sym, ap, ◌∙◌}
use Rattle.tagged_data.specs.Modifiers.{ended_at, ended_is, not_ended}
use Rattle.tagged_data.proofs.modifiers.read_ended.Goals as goal

pub returns-in-Some : goal.returns-in-Some
returns-in-Some c =
    let rest = c.rest-rest.result.now in
    ap ended_at (sym c.rest-rest.ensures) ∙ ended_is rest c.in-Some.end (sym c.first_zero.ensures.value ∙ c.in-Some.is)
    ∙ ap (λ (r : List ℕ). let x : List ℕ × List ℕ = (take c.in-Some.end rest, r) in Some x) (sym c.new.ensures)

pub returns-in-None : goal.returns-in-None
returns-in-None c = ap ended_at (sym c.rest-rest.ensures)
    ∙ not_ended c.rest-rest.result.now (sym c.first_zero.ensures.value ∙ c.in-None.is)
