use Rattle.std.proofs.Common.{true, ◌≡◌, sym, subst, List, ℕ}
use Rattle.dump_text.specs.Lines.{lacks}
use Rattle.dump_text.proofs.Judging.{lacks-none}
use Rattle.dump_text.proofs.reader.DumpReader.new.Goals as goal

pub invariant_of-result : goal.invariant_of-result
invariant_of-result c = subst (λ (bytes : List ℕ). lacks 10 bytes ≡ true) (sym c.in_ok-held.ensures.items) lacks-none
