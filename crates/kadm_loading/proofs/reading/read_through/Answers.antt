use Rattle.std.proofs.Common.{ℕ, subst}
use Rattle.std.specs.Prelude.{IfOk, ◌≡◌, Result}
use Rattle.dump_text.specs.declared.dumps.Dump.{Dump}
use Rattle.kadm_loading.proofs.Fed.{fresh_judged}
use Rattle.kadm_loading.proofs.reading.read_through.Goals as goal

pub returns-in-Ok-clause-judged : goal.returns-in-Ok-clause-judged
returns-in-Ok-clause-judged g c = λ text is.
    subst (λ (j : Result Dump ℕ). IfOk c.read_with.result (λ read. read ≡ j))
    (fresh_judged c.in-Ok.reader text c.in-Ok.ensures) (c.read_with.ensures.judged text is)
